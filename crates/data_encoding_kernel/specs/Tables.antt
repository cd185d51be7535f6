-- The look-up tables of a base.
use Rattle.std.specs.Prelude.{◌≡◌, ℕ, ◌%◌, ◌^◌, ◌<◌, ◌≤◌, ◌==◌, false, List, slice_index}
use Rattle.data_encoding_meaning.specs.declared.encoding.Character.TheVariants.{Symbol}
use Rattle.data_encoding_meaning.specs.declared.encoding.BitOrder.{BitOrder}
use Rattle.data_encoding_meaning.specs.text.Base.{Base, IsWidth, meaning, symbol, is_symbol, is_padding, is_ignored}
use Rattle.data_encoding_meaning.specs.text.Text.{plain_text}

-- The entry of each byte is the symbol with the value in the lowest bits of the byte.
pub record HoldsSymbols (base : Base) (symbols : List ℕ) : Type 0 where
  pub is_width : IsWidth base.width
  pub at_byte : (byte : ℕ) → byte < 256
      → symbol base (byte % 2 ^ base.width) ≡ slice_index symbols byte

-- The entry of each byte is its value, or 128 or more if it is not a symbol: 129 if it is ignored,
-- and 130 if it is padding.
pub record HoldsValues (base : Base) (values : List ℕ) : Type 0 where
  pub is_width : IsWidth base.width
  pub symbols : (byte : ℕ) → byte < 256 → slice_index values byte < 128
      → meaning base byte ≡ Symbol (slice_index values byte)
  pub below : (byte : ℕ) → byte < 256 → slice_index values byte < 128
      → slice_index values byte < 2 ^ base.width
  pub others : (byte : ℕ) → byte < 256 → 128 ≤ slice_index values byte
      → is_symbol (meaning base byte) ≡ false
  pub paddings : (byte : ℕ) → byte < 256
      → is_padding (meaning base byte) ≡ (slice_index values byte == 130)
  pub ignoreds : (byte : ℕ) → byte < 256
      → is_ignored (meaning base byte) ≡ (slice_index values byte == 129)

-- The base encodes with the given table, width and order.
pub record Writes (base : Base) (symbols : List ℕ) (width : ℕ) (order : BitOrder) : Type 0 where
  pub width_is : base.width ≡ width
  pub order_is : base.order ≡ order
  pub holds : HoldsSymbols base symbols

-- The base decodes with the given table, width and order.
pub record Reads (base : Base) (values : List ℕ) (width : ℕ) (order : BitOrder) : Type 0 where
  pub width_is : base.width ≡ width
  pub order_is : base.order ≡ order
  pub holds : HoldsValues base values

-- The output is the text of the input, without padding and lines, for each base that encodes with
-- the given table, width and order.
abbrev pub IsTextBy : List ℕ → ℕ → BitOrder → List ℕ → List ℕ → Type 0
IsTextBy symbols width order input output =
    (base : Base) → Writes base symbols width order → output ≡ plain_text base input
