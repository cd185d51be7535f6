-- The end of a text: its last symbols, the padding of their group, and ignored bytes.
use Rattle.std.specs.Prelude.{◌≡◌, ℕ, ◌+◌, ◌%◌, ◌<◌, ◌≤◌, Bool, true, false, List, [], length, take, drop, slice_index}
use Rattle.data_encoding.specs.declared.decode.Stop.{Stop}
use Rattle.data_encoding.specs.Progress.{HasReached}
use Rattle.data_encoding_kernel.specs.Fronts.{IsFront}
use Rattle.data_encoding_kernel.specs.Joins.{IsJoin}
use Rattle.data_encoding_kernel.specs.declared.simd.decode.last_symbols.Front.{Front}
use Rattle.data_encoding_kernel.specs.declared.simd.decode.last_symbols.Join.{Join}
use Rattle.data_encoding_kernel.specs.Tables.{HoldsValues}
use Rattle.data_encoding_meaning.specs.decoding.Decoding.{IsDecoded}
use Rattle.data_encoding_meaning.specs.text.Base.{Base, group_symbols, is_padded, is_padding, meaning}
use Rattle.data_encoding_meaning.specs.text.Grammar.{kept}
use Rattle.data_encoding_meaning.specs.text.Lengths.{is_valid_count}

-- `join` joins the symbols of the base.
pub record JoinsSymbols (base : Base) (join : Join) : Type 0 where
  pub is_join : IsJoin join
  pub width_is : join.width ≡ base.width
  pub order_is : join.order ≡ base.order

-- `look_up` finds the symbols of the base.
pub record FindsSymbols {L : Type 0} (holds : List ℕ → L → Type 0) (base : Base) (look_up : L)
    : Type 0 where
  pub values : List ℕ
  pub is_table : HoldsValues base values
  pub held : holds values look_up

-- `front` has the symbols at the start of `rest`, of the first sixteen bytes at most.
pub record IsFrontOf (base : Base) (rest : List ℕ) (front : Front) : Type 0 where
  pub few : front.symbols ≤ 16
  pub within : front.symbols ≤ length rest
  pub text : length rest ≤ 16 → take (length rest) front.text ≡ rest
  pub symbols : IsFront base rest front.symbols front.bytes

-- `count` bytes of padding follow the symbols, fewer than a group, and a group may end with them.
pub record IsPaddedBy (base : Base) (front : Front) (count : ℕ) : Type 0 where
  pub padded : is_padded base ≡ true
  pub few : count < group_symbols base.width
  pub valid : is_valid_count base.width front.symbols ≡ true
  pub are : (k : ℕ) → k < count
      → is_padding (meaning base (slice_index front.text (front.symbols + k))) ≡ true

-- After `count` symbols, `rest` has `padding` bytes of padding, which complete their last group,
-- and
-- then only ignored bytes.
pub record EndsAfter (base : Base) (rest : List ℕ) (count padding : ℕ) : Type 0 where
  pub within : count + padding ≤ length rest
  pub valid : is_valid_count base.width count ≡ true
  pub whole : is_padded base ≡ true → (count + padding) % group_symbols base.width ≡ 0
  pub plain : is_padded base ≡ false → padding ≡ 0
  pub few : padding < group_symbols base.width
  pub are : (k : ℕ) → k < padding
      → is_padding (meaning base (slice_index rest (count + k))) ≡ true
  pub ignored : kept base (drop (count + padding) rest) ≡ []

-- The first `read` bytes of the text are decoded to the first `written` bytes of the output.
abbrev pub HasReachedTo : Base → List ℕ → ℕ → ℕ → List ℕ → Type 0
HasReachedTo base text read written output =
    HasReached base text (record { read = read; written = written; ignored = 0 }) output

-- The text is decoded, or some whole groups at its start are.
abbrev pub HasBegun : Base → List ℕ → List ℕ → Stop → Bool → Type 0
HasBegun base text output stop true = IsDecoded base text stop.written output
HasBegun base text output stop false = HasReachedTo base text stop.read stop.written output
