-- The promises of calls that both `Encoding` and `EncodingRef` have.
use Rattle.std.specs.Prelude.{◌≡◌, ◌⊎◌, ℕ, ◌*◌, ◌%◌, ◌<◌, ◌≤◌, false, List, ◌++◌, length, take, None, Some, Result, Err, IfOk, IfErr, IsOk, IsOkAnd, OnErr, OnOk}
use Rattle.std.specs.String.{string_bytes, string_capacity}
use Rattle.std.specs.declared.string.String.{String}
use Rattle.std.specs.declared.vec.Vec.{Vec}
use Rattle.data_encoding_meaning.specs.declared.error.DecodeError.{DecodeError}
use Rattle.data_encoding_meaning.specs.declared.error.DecodeFault.{DecodeFault}
use Rattle.data_encoding_meaning.specs.declared.error.DecodeFault.TheVariants.{Error, OutOfMemory}
use Rattle.data_encoding_meaning.specs.declared.error.DecodePartial.{DecodePartial}
use Rattle.data_encoding_meaning.specs.text.Base.{Base, IsWidth, group_bytes, group_symbols, ignores_some}
use Rattle.data_encoding_meaning.specs.text.Grammar.{Means}
use Rattle.data_encoding_meaning.specs.text.Lengths.{alignment, decoded_len}
use Rattle.data_encoding_meaning.specs.text.Text.{text_of}
use Rattle.data_encoding_meaning.specs.decoding.Fault.{IsRefusal, fault_of, sound_bytes}
use Rattle.data_encoding_meaning.specs.decoding.Partial.{partial_of}
use Rattle.data_encoding_meaning.specs.specification.Fields.{IsSpecified}

-- `count` is the number of bits of a symbol.
pub record IsBitWidth (encoding : Base) (count : ℕ) : Type 0 where
  pub value : count ≡ encoding.width
  pub width : IsWidth count
  pub base : IsSpecified encoding

-- `count` is the number of symbols of a whole group.
pub record IsGroupLen (encoding : Base) (count : ℕ) : Type 0 where
  pub value : count ≡ group_symbols encoding.width
  pub width : IsWidth encoding.width
  pub base : IsSpecified encoding

-- `count` is the number of bytes of a whole group.
pub record IsGroupBytes (encoding : Base) (count : ℕ) : Type 0 where
  pub value : count ≡ group_bytes encoding.width
  pub some : 0 < count
  pub few : count ≤ 5
  pub base : IsSpecified encoding

-- `count` is the length of the text of `len` bytes.
pub record IsEncodeLen (encoding : Base) (len count : ℕ) : Type 0 where
  pub length : (bytes : List ℕ) → length bytes ≡ len → length (text_of encoding bytes) ≡ count
  pub most : count ≤ 263 * len
  pub empty : len ≡ 0 → count ≡ 0
  pub base : IsSpecified encoding

-- `count` bytes of data are whole groups or lines, and their text fits an output of `output_len`
-- bytes.
pub record IsPieceLen (encoding : Base) (output_len count : ℕ) : Type 0 where
  pub some : 0 < count
  pub few : count ≤ output_len
  pub whole : count % alignment encoding ≡ 0
  pub fits : (bytes : List ℕ) → length bytes ≤ count
      → length (text_of encoding bytes) ≤ output_len
  pub base : IsSpecified encoding

-- The text of the data was appended to the output, or memory ran out and nothing has changed.
pub record AppendsText {A E : Type 0} (encoding : Base) (input : List ℕ) (old new : String A)
    (answer : Result (Unit {0}) E) : Type 0 where
  pub text : OnOk answer (string_bytes new ≡ string_bytes old ++ text_of encoding input)
  pub unchanged : OnErr answer (string_bytes new ≡ string_bytes old)
  pub capacity : OnErr answer (string_capacity new ≡ string_capacity old)
  pub empty : length input ≡ 0 → IsOk answer
  pub base : IsSpecified encoding

-- `count` is the greatest number of bytes that a text of `len` bytes may mean, or the fault of the
-- length.
pub record IsDecodeLen (encoding : Base) (len : ℕ) (count : Result ℕ DecodeError) : Type 0 where
  pub value : count ≡ decoded_len encoding len
  pub position : IfErr count (λ error. error.position < len)
  pub most : (text bytes : List ℕ) → length text ≡ len → Means encoding text bytes
      → IsOkAnd count (λ most. length bytes ≤ most)
  pub base : IsSpecified encoding

-- The data of the text was written to the start of the output, which changed from `old` to `new`.
-- Or the text has a fault, and the bytes that were read mean the bytes that were written.
pub record DecodesText (base : Base) (text old new : List ℕ) (answer : Result ℕ DecodePartial)
    : Type 0 where
  pub decoded : IfOk answer (λ n. (n ≤ length new) × Means base text (take n new))
  pub sound : IfOk answer (λ n. (fault_of base text ≡ None) × (sound_bytes base text ≡ take n new))
  pub accepted : (bytes : List ℕ) → Means base text bytes → IsOk answer
  pub fault : IfErr answer (λ partial. partial_of base text ≡ Some partial)
  pub partial : IfErr answer (λ partial. Means base (take partial.read text)
      (take partial.written new))
  pub bounds : IfErr answer (λ partial. (partial.read ≤ partial.error.position)
      × (partial.error.position < length text))
  pub most : IfErr answer (λ partial. IsOkAnd (decoded_len base partial.read)
      (λ most. partial.written ≤ most))
  pub full : IfOk answer (λ n. base.padding ≡ None → ignores_some base ≡ false → n ≡ length new)
  pub len : length new ≡ length old

-- The data of the text is returned, or its fault, or memory ran out.
pub record DecodesWhole {A : Type 0} (base : Base) (text : List ℕ)
    (answer : Result (Vec ℕ A) DecodeFault) : Type 0 where
  pub means : IfOk answer (λ bytes. Means base text bytes.items)
  pub sound : IfOk answer (λ bytes. (fault_of base text ≡ None)
      × (sound_bytes base text ≡ bytes.items))
  pub refusal : IfErr answer (IsRefusal base text)
  pub accepted : (bytes : List ℕ) → Means base text bytes
      → IsOk answer ⊎ (answer ≡ Err OutOfMemory)
  pub position : (error : DecodeError) → answer ≡ Err (Error error)
      → error.position < length text
