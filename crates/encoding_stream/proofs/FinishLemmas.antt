-- The end of a text that is decoded by pieces.
use Rattle.std.proofs.Common.{◌≡◌, ℕ, ◌<◌, ◌≤◌, ◌++◌, Bool, List, [], ◌∷◌, length, take, Option, None, Some, Result, Ok, Err, IfOk, IfErr, refl, sym, ap, ◌∙◌, subst, arith}
use Rattle.std.specs.Result.{result_unwrap_or}
use Rattle.data_encoding.specs.declared.error.DecodeError.{DecodeError}
use Rattle.data_encoding.specs.Base.{Base}
use Rattle.data_encoding.specs.Fault.{bytes_of_group, fault_after, fault_of, or_else}
use Rattle.data_encoding.specs.Fields.{IsSpecified}
use Rattle.data_encoding.specs.Grammar.{Positioned}
use Rattle.data_encoding.specs.Lengths.{decoded_len, length_fault, most_bytes, unless_fault}
use Rattle.data_encoding.specs.Pieces.{bytes_unless, held_fault, whole_bytes, HasRead, TellsBytes, TellsFault}
use Rattle.encoding_stream.specs.declared.buffer_decoder.Kept.{Kept}
use Rattle.encoding_stream.specs.BufferDecoder.{at_positions, held_group, verdict_of, Keeps, NoneIgnored}
use Rattle.encoding_stream.specs.Reading.{HasLastBytes}
use Rattle.encoding_stream.proofs.ReadByteLemmas.{positions-length, unfinished-kept}

-- the bytes held are judged as a group, if there are any
held_fault-some : (ended : Bool) (base : Base) (held : List Positioned) → 0 < length held
    → held_fault ended base held ≡ fault_after ended base held
held_fault-some ended base [] h = absurd (omega (arith, h))
held_fault-some ended base (k ∷ ks) h = refl

-- A last group that is held, after groups without a fault.
module _ (base : Base) (fault : Option DecodeError) (positions bytes : List ℕ) (count : ℕ)
    (ended : Bool) (none : fault ≡ None) where
  abbrev group : List Positioned
  group = at_positions count positions bytes

  first : or_else fault (held_fault ended base (at_positions count positions bytes))
      ≡ held_fault ended base (at_positions count positions bytes)
  first = ap (λ f. or_else f (held_fault ended base group)) none

  module _ (some : 0 < count) (h : count ≤ length positions) (k : count ≤ length bytes)
      (text : List ℕ) (len : ℕ)
      (read : HasRead base text len fault (at_positions count positions bytes) ended) where
    pub last-none_ignored : NoneIgnored base (at_positions count positions bytes)
    last-none_ignored = subst (NoneIgnored base) (sym (read.holds none)) (unfinished-kept base text)

    pub last-fault : (verdict : Option DecodeError)
        → fault_after ended base (at_positions count positions bytes) ≡ verdict
        → or_else fault (held_fault ended base (at_positions count positions bytes)) ≡ verdict
    last-fault verdict is =
        first
        ∙ held_fault-some ended base group
        (subst (λ n. 0 < n) (sym (positions-length count positions bytes h k)) some)
        ∙ is

-- The fault of the whole text.
module _ (base : Base) (is : IsSpecified base) (text : List ℕ) (len : ℕ)
    (fault : Option DecodeError) (held : List Positioned) (ended : Bool)
    (read : HasRead base text len fault held ended) where
  pub verdict-of_groups : TellsFault → (due : ℕ) → decoded_len base len ≡ Ok due
      → (verdict : Option DecodeError) → or_else fault (held_fault ended base held) ≡ verdict
      → verdict_of verdict ≡ verdict_of (fault_of base text)
  verdict-of_groups fault_law due valid verdict judged =
      sym (ap verdict_of (fault_law base is text len fault held ended read
      ∙ ap (λ o. or_else o (or_else fault (held_fault ended base held)))
      (no-fault (length_fault base len) (most_bytes base len) due valid) ∙ judged)) where
        no-fault : (o : Option DecodeError) (m n : ℕ) → unless_fault o m ≡ Ok n → o ≡ None
        no-fault None m n h = refl
        no-fault (Some e) m n h = absurd (cc h)

  -- a fault of the length is reported before that of a group
  pub verdict-of_length : TellsFault → (error : DecodeError) → decoded_len base len ≡ Err error
      → Err error ≡ verdict_of (fault_of base text)
  verdict-of_length fault_law error due =
      sym (ap verdict_of (fault_law base is text len fault held ended read
      ∙ ap (λ o. or_else o (or_else fault (held_fault ended base held)))
      (has-fault (length_fault base len) (most_bytes base len) due))) where
        has-fault : (o : Option DecodeError) (m : ℕ) → unless_fault o m ≡ Err error
            → o ≡ Some error
        has-fault None m h = absurd (cc h)
        has-fault (Some e) m h = cc h

-- The bytes of the whole text, with those of a last group if it has no fault.
pub last-bytes : (base : Base) → IsSpecified base → TellsBytes → (k : Kept)
    (judged : Result ℕ DecodeError) (output : List ℕ) (written : ℕ)
    → IfOk judged (λ count. (text : List ℕ) → Keeps base k text
    → (or_else k.fault (held_fault k.ended base (held_group k)) ≡ None)
    × (bytes_of_group base (held_group k) ≡ take count output))
    → IfErr judged (λ error. (text : List ℕ) → Keeps base k text
    → or_else k.fault (held_fault k.ended base (held_group k)) ≡ Some error)
    → written ≡ result_unwrap_or judged 0 → HasLastBytes base k (take written output)
last-bytes base is bytes_law k (Ok count) output written sound faulty same text keeps =
    bytes_law base is text k.len k.fault (held_group k) k.ended keeps
    ∙ ap (λ o. whole_bytes base text ++ bytes_unless o base (held_group k)) (sound text keeps).0
    ∙ ap (λ bs. whole_bytes base text ++ bs) (sound text keeps).1
    ∙ ap (λ n. whole_bytes base text ++ take n output) (sym same)
last-bytes base is bytes_law k (Err error) output written sound faulty same text keeps =
    bytes_law base is text k.len k.fault (held_group k) k.ended keeps
    ∙ ap (λ o. whole_bytes base text ++ bytes_unless o base (held_group k)) (faulty text keeps)
    ∙ ap (λ n. whole_bytes base text ++ take n output) (sym same)
