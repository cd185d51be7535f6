-- Worked rows: what calls promise of an encoding, by value and by reference.
use Rattle.std.proofs.Common.{◌≡◌, ⊎_elim, ◌%◌, ℕ, List, [], ◌∷◌, ◌++◌, codes, take, Option, None, Some, Result, Ok, Err, refl, sym, ap, ◌<◌, ◌≤◌, length}
use Rattle.data_encoding_meaning.specs.declared.error.DecodeError.{DecodeError}
use Rattle.data_encoding_meaning.specs.declared.error.DecodeKind.TheVariants.{Length as LengthFault}
use Rattle.data_encoding_meaning.specs.declared.error.DecodePartial.{DecodePartial}
use Rattle.data_encoding_meaning.specs.specification.Predefined.{base32_fields, base64_fields, hexlower_fields}
use Rattle.std.specs.String.{string_bytes, string_capacity}
use Rattle.std.specs.declared.string.String.{String}
use Rattle.std.specs.declared.vec.Vec.{Vec}
use Rattle.data_encoding_meaning.specs.declared.error.DecodeFault.TheVariants.{Error}
use Rattle.data_encoding.specs.Calls.{IsBitWidth, IsGroupLen, IsGroupBytes, IsPieceLen, AppendsText, IsEncodeLen, IsDecodeLen, DecodesText, DecodesWhole}
use Rattle.data_encoding_meaning.proofs.vectors.Examples.{Has}
use Rattle.std.proofs.lemmas.Bool.{false≢true}
use Rattle.data_encoding_meaning.specs.text.Base.{Base}
use Rattle.data_encoding_meaning.specs.text.Grammar.{Means}
use Rattle.data_encoding_meaning.specs.text.Text.{text_of}
use Rattle.data_encoding_meaning.specs.decoding.Fault.{IsRefusal}
use Rattle.data_encoding_meaning.specs.specification.Fields.{IsSpecified}

group_counted :
    Has base32_fields (λ base. (bits bytes : ℕ) → IsBitWidth base bits → IsGroupBytes base bytes
    → (bits ≡ 5) × (bytes ≡ 5))
group_counted = λ bits bytes width group. (width.value, group.value)

-- five bytes of data are eight characters; no text has five characters
lengths_counted :
    Has base64_fields (λ base. (count : ℕ) (most : Result ℕ DecodeError) → IsEncodeLen base 5 count
    → IsDecodeLen base 5 most
    → (count ≡ 8) × (most ≡ Err (record { position = 4; kind = LengthFault })))
lengths_counted = λ count most text bytes. (sym (text.length (codes "hello") refl), bytes.value)

abbrev position_in : Option DecodePartial → ℕ
position_in None = 0
position_in (Some partial) = partial.error.position

-- `4f` decodes to a byte, and `4G` has a fault at 1
text_answered :
    Has hexlower_fields (λ base. (old new : List ℕ) → ((n : ℕ)
    → DecodesText base (codes "4f") old new (Ok n) → take n new ≡ 79 ∷ [])
    × ((partial : DecodePartial) → DecodesText base (codes "4G") old new (Err partial)
    → partial.error.position ≡ 1))
text_answered = λ old new. (
  (λ n answer. sym answer.sound.1),
  (λ partial answer. sym (ap position_in answer.fault)),
)

-- a symbol has one to six bits, and a group one to five bytes
width_and_group_bounded : (base : Base) (bits bytes : ℕ) → IsBitWidth base bits
    → IsGroupBytes base bytes
    → (0 < bits) × (bits ≤ 6) × IsSpecified base × (0 < bytes) × (bytes ≤ 5) × IsSpecified base
width_and_group_bounded base bits bytes width group =
    (width.width.some, width.width.few, width.base, group.some, group.few, group.base)

-- the length of a text is bounded, and the text of no data is empty
text_length_bounded : (base : Base) (count : ℕ)
    → (IsEncodeLen base 5 count → (count ≤ 1315) × IsSpecified base)
    × (IsEncodeLen base 0 count → count ≡ 0)
text_length_bounded base count = (λ len. (len.most, len.base), λ len. len.empty refl)

-- the fault of a length is inside the text, and a text means no more bytes than its length allows
decoded_length_bounded : (base : Base) (most : ℕ) (error : DecodeError) (bytes : List ℕ)
    → (IsDecodeLen base 5 (Err error) → (error.position < 5) × IsSpecified base)
    × (IsDecodeLen base 8 (Ok most) → Means base (codes "SGVsbG8=") bytes → length bytes ≤ most)
decoded_length_bounded base most error bytes = (
  λ len. (len.position, len.base),
  λ len means. len.most (codes "SGVsbG8=") bytes refl means,
)

-- the read part means the written bytes, and a text that means data is decoded
read_part_means_written :
    Has hexlower_fields (λ base. (old new : List ℕ)
    → ((n : ℕ) → DecodesText base (codes "4f") old new (Ok n)
    → (n ≤ length new) × Means base (codes "4f") (take n new) × (n ≡ length new)
    × (length new ≡ length old))
    × ((written : ℕ) (error : DecodeError) → DecodesText base (codes "4f4G") old new
    (Err (record { read = 2; written = written; error = error }))
    → Means base (codes "4f") (take written new) × (2 ≤ error.position) × (error.position < 4)
    × (written ≤ 1))
    × ((partial : DecodePartial) (bytes : List ℕ)
    → DecodesText base (codes "4f") old new (Err partial) → Means base (codes "4f") bytes → ⊥))
read_part_means_written = λ old new. (
  (λ n answer. (answer.decoded.0, answer.decoded.1, answer.full refl refl, answer.len)),
  (λ written error answer. (answer.partial, answer.bounds.0, answer.bounds.1, answer.most)),
  (λ partial bytes answer means. false≢true (answer.accepted bytes means)),
)

-- a group has eight symbols, and a piece is of whole groups, and its text fits
text_of_piece_fits :
    Has base32_fields (λ base. (count piece : ℕ) (bytes : List ℕ) → IsGroupLen base count
    → IsPieceLen base 600 piece → length bytes ≤ piece
    → (count ≡ 8) × (count ≡ 8) × (0 < piece) × (piece ≤ 600) × (piece % 5 ≡ 0)
    × (length (text_of base bytes) ≤ 600))
text_of_piece_fits = λ count piece bytes group is few.
    (group.value, group.value, is.some, is.few, is.whole, is.fits bytes few)

-- the text of `hi` is appended, or nothing has changed; no data always has its text
text_appended : {A E : Type 0} →
    Has hexlower_fields (λ base. (old new : String A) (error : E)
    → (AppendsText {E = E} base (codes "hi") old new (Ok tt)
    → string_bytes new ≡ string_bytes old ++ codes "6869")
    × (AppendsText base (codes "hi") old new (Err error)
    → (string_bytes new ≡ string_bytes old) × (string_capacity new ≡ string_capacity old))
    × (AppendsText base [] old new (Err error) → ⊥) × ((answer : Result (Unit {0}) E)
    → AppendsText base [] old new answer → IsSpecified base))
text_appended = λ old new error. (
  λ is. is.text,
  λ is. (is.unchanged, is.capacity),
  λ is. false≢true (is.empty refl),
  λ answer is. is.base,
)

-- `4f` decodes to a byte, and `4G` has a fault at 1
whole_answered : {A : Type 0} →
    Has hexlower_fields (λ base. (bytes : Vec ℕ A) (error : DecodeError)
    → (DecodesWhole base (codes "4f") (Ok bytes)
    → (bytes.items ≡ 79 ∷ []) × Means base (codes "4f") bytes.items)
    × (DecodesWhole {A = A} base (codes "4G") (Err (Error error))
    → (error.position < 2) × IsRefusal base (codes "4G") (Error error))
    × (DecodesWhole {A = A} base (codes "4f") (Err (Error error))
    → Means base (codes "4f") (79 ∷ [])
    → ⊥))
whole_answered = λ bytes error. (
  λ is. (sym is.sound.1, is.means),
  λ is. (is.position error refl, is.refusal),
  λ is means. ⊎_elim false≢true (λ same. cc) (is.accepted (79 ∷ []) means),
)
