-- Worked rows of the laws of texts in pieces, and of what follows from what a decoder keeps.
use Rattle.std.proofs.Common.{◌≡◌, ℕ, ◌*◌, ◌%◌, ◌∙◌, Bool, true, false, List, [], ◌∷◌, ◌++◌, length, codes, Option, Some, None, Ok, refl, sym, arith, lit<, lit≤, inl, inr, ⊎_elim}
use Rattle.std.specs.List.{list_any}
use Rattle.std.proofs.lemmas.Bool.{false≢true}
use Rattle.std.proofs.lemmas.List.Elements.{All-from_recursion}
use Rattle.data_encoding_meaning.specs.declared.error.DecodeError.{DecodeError}
use Rattle.data_encoding_meaning.specs.declared.error.DecodeKind.{DecodeKind}
use Rattle.data_encoding_meaning.specs.declared.error.DecodeKind.TheVariants.{Length as LengthFault, Symbol}
use Rattle.data_encoding_meaning.specs.text.Base.{Base, is_ignored, meaning}
use Rattle.data_encoding_meaning.specs.text.Grammar.{Means, Positioned, groups, is_final, kept, positioned, positioned_from}
use Rattle.data_encoding_meaning.specs.text.Lengths.{decoded_len}
use Rattle.data_encoding_meaning.specs.decoding.Fault.{bytes_of_group, fault_after, fault_of, sound_bytes}
use Rattle.data_encoding_meaning.specs.decoding.Pieces.{AreWhole, CountsGroups, EndsNowhere, HasDecoded, HasRead, HoldsPiece, IsOfWholeGroup, JoinsUnpadded, JudgesGroup, KeepsBytes, KeepsEach, KeepsFault, MeansWhole, ReadsFaulty, ReadsGroup, ReadsNothing, ReadsSound, TellsBytes, TellsEnd, TellsFault, whole_bytes}
use Rattle.data_encoding_meaning.specs.specification.Fields.{IsSpecified}
use Rattle.data_encoding_meaning.specs.specification.Predefined.{base64_fields, base64_mime_fields, base64_nopad_fields, hexlower_fields}
use Rattle.data_encoding_meaning.proofs.vectors.Examples.{built, nopad_ignoring_lf_fields, single_fields}
use Rattle.data_encoding_meaning.proofs.vectors.Laws.{is_specified}

abbrev lines : Base
lines = built base64_mime_fields

abbrev at : DecodeKind → ℕ → Option DecodeError
at kind position = Some (record { position = position; kind = kind })

-- `bG` is held after eight bytes
abbrev HoldsTwo : List ℕ → Type 0
HoldsTwo text = HasRead lines text 8 None (positioned_from 4 (codes "bG")) false

-- nothing is held
abbrev HoldsNone : List ℕ → ℕ → Option DecodeError → Type 0
HoldsNone text len fault = HasRead lines text len fault [] false

nothing_read : ReadsNothing → HoldsNone [] 0 None × (whole_bytes lines [] ≡ [])
nothing_read law = law lines (is_specified base64_mime_fields refl)

abbrev eight_and_lf : List ℕ
eight_and_lf = 56 ∷ 10 ∷ []

-- with `8` and LF three bytes are held, and with `8=` the group is read
piece_held : HoldsPiece → (text : List ℕ) → HoldsTwo text
    → HasRead lines (text ++ eight_and_lf) 10 None
    (positioned_from 4 (codes "bG") ++ positioned_from 8 (codes "8")) false
    × (whole_bytes lines (text ++ eight_and_lf) ≡ whole_bytes lines text)
piece_held law text read =
    law lines (is_specified base64_mime_fields refl) text eight_and_lf 8
    (positioned_from 4 (codes "bG")) false read (lit< tt)

group_read : ReadsGroup → (text : List ℕ) → HoldsTwo text
    → HoldsNone (text ++ codes "8=") 10 None
    × (whole_bytes lines (text ++ codes "8=") ≡ whole_bytes lines text ++ codes "lo")
group_read law text read =
    law lines (is_specified base64_mime_fields refl) text (codes "8=") 8
    (positioned_from 4 (codes "bG"))
    (positioned_from 4 (codes "bG") ++ positioned_from 8 (codes "8=")) false read refl refl

-- after a fault, a piece of two bytes
fault_kept : KeepsFault → (text : List ℕ) → HoldsNone text 8 (at Symbol 5)
    → HoldsNone (text ++ codes "8=") 10 (at Symbol 5)
    × (whole_bytes lines (text ++ codes "8=") ≡ whole_bytes lines text)
fault_kept law text read =
    law lines (is_specified base64_mime_fields refl) text (codes "8=") 8
    (record { position = 5; kind = Symbol }) [] [] false false read

bytes_kept : KeepsBytes → (piece : List ℕ)
    → (more : List ℕ) × (whole_bytes lines (codes "SGVs" ++ piece) ≡ codes "Hel" ++ more)
bytes_kept law piece = law lines (is_specified base64_mime_fields refl) (codes "SGVs") piece

-- a text that ends there has a fault of its length; without padding its bytes are decoded
fault_of_held : TellsFault → (text : List ℕ) → HoldsTwo text
    → fault_of lines text ≡ at LengthFault 4
fault_of_held law text read =
    law lines (is_specified base64_mime_fields refl) text 8 None (positioned_from 4 (codes "bG"))
    false read

bytes_of_held : TellsBytes → (text : List ℕ)
    → HasRead (built base64_nopad_fields) text 6 None (positioned_from 4 (codes "bA")) false
    → sound_bytes (built base64_nopad_fields) text
    ≡ whole_bytes (built base64_nopad_fields) text ++ codes "l"
bytes_of_held law text read =
    law (built base64_nopad_fields) (is_specified base64_nopad_fields refl) text 6 None
    (positioned_from 4 (codes "bA")) false read

-- a group with a fault, and one without
groups_judged : JudgesGroup
    → (fault_after false lines (positioned_from 4 (codes "b!8=")) ≡ at Symbol 5)
    × (bytes_of_group lines (positioned_from 4 (codes "bG8=")) ≡ codes "lo")
groups_judged law =
    let kept_one = λ (k : Positioned). is_ignored (meaning lines k.byte) ≡ false in
    let is = is_specified base64_mime_fields refl in
    let faulty = positioned_from 4 (codes "b!8=") in
    let sound = positioned_from 4 (codes "bG8=") in (
      (law lines is faulty (All-from_recursion kept_one faulty (refl, (refl, (refl, (refl, tt)))))
          (lit< tt) (lit≤ tt)).0,
      (law lines is sound (All-from_recursion kept_one sound (refl, (refl, (refl, (refl, tt)))))
          (lit< tt) (lit≤ tt)).1 refl,
    )

-- a piece that means data, and one with a fault at its second group
sound_read : ReadsSound → (text bytes : List ℕ) → HoldsNone text 8 None
    → Means lines (codes "SGVs") bytes
    → HoldsNone (text ++ codes "SGVs") 12 None
    × (whole_bytes lines (text ++ codes "SGVs") ≡ whole_bytes lines text ++ bytes)
sound_read law text bytes read means =
    law lines (is_specified base64_mime_fields refl) text (codes "SGVs") bytes 8 read means refl

faulty_read : ReadsFaulty → (text bytes : List ℕ) → HoldsNone text 8 None
    → Means lines (codes "SGVs") bytes
    → HoldsNone (text ++ codes "SGVs!G8=") 16 (at Symbol 12)
    × (whole_bytes lines (text ++ codes "SGVs!G8=") ≡ whole_bytes lines text ++ bytes)
faulty_read law text bytes read means =
    law lines (is_specified base64_mime_fields refl) text (codes "SGVs!G8=") bytes 8
    (record { read = 4; written = 3; error = record { position = 4; kind = Symbol } })
    read refl (record { not_length = refl; joins = refl; whole = inr refl }) means

-- the kept bytes of a text are whole groups of `count` bytes
abbrev IsWhole : Base → List ℕ → ℕ → Type 0
IsWhole base text count = length (kept base text) % count ≡ 0

-- texts with padding, of four bits, or of four characters without padding are whole groups
texts_are_whole_groups : AreWhole
    → ((text bytes : List ℕ) → Means lines text bytes → IsWhole lines text 4)
    × ((text bytes : List ℕ) → Means (built hexlower_fields) text bytes
    → IsWhole (built hexlower_fields) text 2)
    × ((bytes : List ℕ) → Means (built base64_nopad_fields) (codes "SGVs") bytes
    → IsWhole (built base64_nopad_fields) (codes "SGVs") 4)
texts_are_whole_groups law = (
  λ text bytes means. law lines (is_specified base64_mime_fields refl) text bytes means (inl refl),
  λ text bytes means. law (built hexlower_fields)
      (is_specified hexlower_fields refl) text bytes means
      (inr (inl refl)),
  λ bytes means. law (built base64_nopad_fields) (is_specified base64_nopad_fields refl)
      (codes "SGVs") bytes means (inr (inr (refl, refl))),
)

groups_counted : CountsGroups → (count : ℕ)
    → decoded_len (built base64_fields) (count * 4) ≡ Ok (count * 3)
groups_counted law count = law (built base64_fields) (is_specified base64_fields refl) count

-- base64 ignores no byte
each_kept : KeepsEach
    → ((byte : ℕ) → is_ignored (meaning (built base64_fields) byte) ≡ false)
    × ((text : List ℕ) → kept (built base64_fields) text ≡ positioned text)
each_kept law = law (built base64_fields) refl

-- without padding texts may be concatenated, and in base64 no group is final
unpadded_joins : JoinsUnpadded → (base : Base) → IsSpecified base → base.padding ≡ None
    → base.concatenates ≡ false → ⊥
unpadded_joins law base is unpadded single =
    false≢true (sym single ∙ law base is unpadded)

none_final : EndsNowhere → (parts : List (List Positioned))
    → list_any (is_final (built base64_fields)) parts ≡ false
none_final law parts = law (built base64_fields) refl parts

-- Without concatenation the padded group of `A` is final, and `Hel` has no final group. With
-- concatenation no text has one.
abbrev HasFinal : Base → List ℕ → Bool → Type 0
HasFinal base text has = list_any (is_final base) (groups base text) ≡ has

padded_group_is_final : TellsEnd → (text : List ℕ)
    → (Means (built single_fields) text (codes "A") → HasFinal (built single_fields) text true)
    × (Means (built single_fields) text (codes "Hel") → HasFinal (built single_fields) text false)
    × (Means (built base64_fields) text (codes "A") → HasFinal (built base64_fields) text false)
padded_group_is_final law text =
    let base = built single_fields in
    let is = is_specified single_fields refl in (
      law base is text (codes "A"),
      law base is text (codes "Hel"),
      law (built base64_fields) (is_specified base64_fields refl) text (codes "A"),
    )

three_are_whole : MeansWhole → (text : List ℕ)
    → Means (built base64_nopad_fields) text (codes "Hel")
    → IsWhole (built base64_nopad_fields) text 4
three_are_whole law text means =
    law (built base64_nopad_fields) (is_specified base64_nopad_fields refl) text (codes "Hel") means
    refl

-- of `SGVsbG` CR LF the two bytes `bG` are held, without a fault
two_bytes_are_held : (len : ℕ) (fault : Option DecodeError) (held : List Positioned) (ended : Bool)
    → HasRead lines (codes "SGVsbG" ++ 13 ∷ 10 ∷ []) len fault held ended
    → (len ≡ 8) × (fault ≡ None) × (held ≡ positioned_from 4 (codes "bG")) × (ended ≡ false)
two_bytes_are_held len fault held ended read =
    (read.counted, read.first, read.holds read.first, read.ends read.first)

-- and the bytes of its whole group were appended
whole_group_appended : (before output : List ℕ)
    → HasDecoded lines before (codes "SGVsbG" ++ 13 ∷ 10 ∷ []) output
    → output ≡ before ++ codes "Hel"
whole_group_appended before output decoded = decoded.appended

-- no fault of a whole group is of a length, in a text that ends with padding, after six characters
-- without padding, or where a byte may be ignored and three symbols mean bytes
no_whole_group :
    (IsOfWholeGroup lines 8 LengthFault → ⊥) × (IsOfWholeGroup (built single_fields) 8 Symbol → ⊥)
    × (IsOfWholeGroup (built base64_nopad_fields) 6 Symbol → ⊥)
    × (IsOfWholeGroup (built nopad_ignoring_lf_fields) 8 Symbol → ⊥)
no_whole_group = (
  λ is. false≢true (sym is.not_length),
  λ is. false≢true is.joins,
  λ is. ⊎_elim (λ (whole : (false ≡ false) × (2 ≡ 0)). omega (arith, whole.1))
      (λ (none : 2 ≡ 0). omega (arith, none)) is.whole,
  λ is. ⊎_elim (λ (whole : (true ≡ false) × (0 ≡ 0)). false≢true (sym whole.0))
      (λ (none : 2 ≡ 0). omega (arith, none)) is.whole,
)
