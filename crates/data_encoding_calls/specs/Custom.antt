-- Encodings of the caller: the specification, and the result of building an encoding.
use Rattle.std.specs.Prelude.{◌≡◌, ℕ, Bool, List, Option, Some, None, if◌then◌else◌, Result, Ok, Err}
use Rattle.data_encoding.specs.declared.encoding.BitOrder.{BitOrder}
use Rattle.data_encoding.specs.declared.encoding.BitOrder.TheVariants.{MostSignificantFirst, LeastSignificantFirst}
use Rattle.data_encoding.specs.declared.specification.meanings.Refusal.{Refusal}
use Rattle.data_encoding.specs.Base.{Base}
use Rattle.data_encoding.specs.Fields.{Fields, IsSpecified}
use Rattle.data_encoding.specs.Layout.{layout}
use Rattle.data_encoding.specs.Plain.{base_of_plain}
use Rattle.data_encoding_calls.specs.declared.make.Form.{Form}
use Rattle.data_encoding_calls.specs.declared.make.Made.{Made}
use Rattle.data_encoding_calls.specs.Status.{ok, no_encoding, status_of_refusal, detail_of_refusal}

-- The order of bits that the caller's flag means.
abbrev pub order_asked : Bool → BitOrder
order_asked least = if least then LeastSignificantFirst else MostSignificantFirst

-- The padding that the caller's values mean.
abbrev pub padding_asked : Bool → ℕ → Option ℕ
padding_asked has byte = if has then Some byte else None

-- The specification that the caller's form and texts mean.
abbrev pub fields_asked : Form → List ℕ → List ℕ → List ℕ → List ℕ → List ℕ → Fields
fields_asked form symbols ignored separator from to = record {
  symbols = symbols;
  order = order_asked form.least_significant_first;
  checks_trailing_bits = form.check_trailing_bits;
  concatenates = form.concatenate;
  padding = padding_asked form.has_padding form.padding;
  ignored = ignored;
  column = form.wrap_width;
  separator = separator;
  from = from;
  to = to;
}

-- The result of building an encoding: its base, or the status of the refusal.
abbrev pub Makes : Result Base Refusal → Made → Type 0
Makes (Ok base) made = (made.status ≡ ok) × (base_of_plain made.held ≡ base)
Makes (Err refusal) made =
    (made.status ≡ status_of_refusal refusal) × (made.detail ≡ detail_of_refusal refusal)

-- The result of reading bytes as a layout: the encoding with this layout, or the status for bytes
-- that are not a layout.
pub record MakesOfLayout (bytes : List ℕ) (made : Made) : Type 0 where
  pub known : (base : Base) → IsSpecified base → layout base ≡ bytes
      → (made.status ≡ ok) × (base_of_plain made.held ≡ base)
  pub is_layout : made.status ≡ ok → layout (base_of_plain made.held) ≡ bytes
  pub status : (made.status ≡ ok → ⊥) → made.status ≡ no_encoding
