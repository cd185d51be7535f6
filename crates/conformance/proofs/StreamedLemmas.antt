-- The data of a text that comes in pieces.
use Rattle.std.proofs.Common.{refl, subst, Option, None, Some, Result, OnOk, ◌≡◌, ℕ, ◌+◌, ◌<◌, List, [], ◌∷◌, ◌++◌, flat_map, get_or, length, take, sym, ap, ◌∙◌, append-nil, append_assoc}
use Rattle.std.proofs.lemmas.Grind.{flat_map-append}
use Rattle.std.proofs.lemmas.List.{take_more}
use Rattle.data_encoding.specs.declared.error.DecodeError.{DecodeError}
use Rattle.data_encoding.specs.Base.{Base}
use Rattle.data_encoding.specs.Fault.{fault_of, sound_bytes}
use Rattle.encoding_stream.specs.Decoded.{DecodesAll}
use Rattle.encoding_stream.specs.Appending.{AppendsDecoded}
use Rattle.encoding_stream.specs.BufferDecoder.{verdict_of}
use Rattle.encoding_stream.specs.Watch.{from_to}

-- the pieces so far, joined, and the next
pub joined-more : {X : Type 0} (f : X → List ℕ) (xs : List X) (i : ℕ) (d : X) → i < length xs
    → flat_map f (take (i + 1) xs) ≡ flat_map f (take i xs) ++ f (get_or xs i d)
joined-more f xs i d h =
    ap (flat_map f) (take_more xs i d h)
    ∙ flat_map-append f (take i xs) (get_or xs i d ∷ [])
    ∙ ap (λ l. flat_map f (take i xs) ++ l) (append-nil (f (get_or xs i d)))

-- the bytes of a drained buffer follow the bytes that were decoded before
pub handed-on : (before old new buffer output : List ℕ) → AppendsDecoded old new [] buffer
    → output ≡ before ++ old → output ++ buffer ≡ before ++ new
handed-on before old new buffer output appends is =
    ap (λ l. l ++ buffer) is
    ∙ append_assoc before old buffer
    ∙ ap (λ l. before ++ (old ++ l)) appends.appended
    ∙ ap (λ l. before ++ l) (sym appends.decoded)

-- if the verdict is Ok, the text has no fault
pub no-fault-ok : (P : Type 0) (fault : Option DecodeError)
    (verdict : Result (Unit {0}) DecodeError)
    → verdict ≡ verdict_of fault → (fault ≡ None → P) → OnOk verdict P
no-fault-ok P None verdict is holds = subst (λ v. OnOk v P) (sym is) (holds refl)
no-fault-ok P (Some error) verdict is holds = subst (λ v. OnOk v P) (sym is) tt

-- a stream of known bytes returns their fault, and writes their sound bytes
pub all-decoded : (base : Base) (fault : Option DecodeError) (text rest output : List ℕ)
    → DecodesAll base fault (from_to (Some text) (Some rest)) (from_to (Some []) (Some output))
    → (fault_of base text ≡ fault) × (output ≡ sound_bytes base text)
all-decoded base fault text rest output all =
    let whole : all.text ≡ text =
    sym (all.read ∙ ap (λ r. all.text ++ r) all.at_end ∙ append-nil all.text) in (
      ap (fault_of base) (sym whole) ∙ all.fault_is,
      all.written ∙ ap (sound_bytes base) whole,
    )
