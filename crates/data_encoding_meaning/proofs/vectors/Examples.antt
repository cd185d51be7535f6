-- How worked rows are written, and the fields of encodings that they use.
use Rattle.std.proofs.Common.{◌≡◌, ℕ, false, List, [], ◌∷◌, map, codes, Option, Some, None, Result, Ok, Err}
use Rattle.data_encoding_meaning.specs.declared.refusal.Refusal.{Refusal}
use Rattle.data_encoding_meaning.specs.declared.encoding.BitOrder.TheVariants.{LeastSignificantFirst}
use Rattle.data_encoding_meaning.specs.declared.error.DecodeError.{DecodeError}
use Rattle.data_encoding_meaning.specs.declared.error.DecodeKind.{DecodeKind}
use Rattle.data_encoding_meaning.specs.text.Base.{Base}
use Rattle.data_encoding_meaning.specs.decoding.Fault.{fault_of, sound_bytes}
use Rattle.data_encoding_meaning.specs.specification.Fields.{Fields, base_of}
use Rattle.data_encoding_meaning.specs.specification.Predefined.{unpadded_fields, base64_fields, base64_nopad_fields}
use Rattle.data_encoding_meaning.specs.text.Text.{text_of}

-- The function has these values.
abbrev pub Hold : {A B : Type 0} → (A → B) → List (A × B) → Type 0
Hold f rows = map (λ row. f row.0) rows ≡ map (λ row. row.1) rows

abbrev pub by_base : {A : Type 0} → (Base → A) → Result Base Refusal → Option A
by_base f (Ok base) = Some (f base)
by_base f (Err refusal) = None

-- a function of the base of the fields, if they have one
abbrev pub by : {A : Type 0} → (Base → A) → Fields → Option A
by f fields = by_base f (base_of fields)

abbrev pub encoded : Fields → List ℕ → Option (List ℕ)
encoded fields bytes = by (λ base. text_of base bytes) fields

abbrev outcome : Base → List ℕ → Option DecodeError → Result (List ℕ) DecodeError
outcome base text None = Ok (sound_bytes base text)
outcome base text (Some error) = Err error

abbrev pub decoded : Fields → List ℕ → Option (Result (List ℕ) DecodeError)
decoded fields text = by (λ base. outcome base text (fault_of base text)) fields

abbrev pub bytes : List ℕ → Option (Result (List ℕ) DecodeError)
bytes expected = Some (Ok expected)

abbrev pub fault : DecodeKind → ℕ → Option (Result (List ℕ) DecodeError)
fault kind position = Some (Err (record { position = position; kind = kind }))

-- the fields of some more encodings
abbrev pub octal_fields : Fields
octal_fields = unpadded_fields (codes "01234567")

abbrev pub reversed : Fields → Fields
reversed fields = record fields { order = LeastSignificantFirst }

abbrev pub unchecked : Fields → Fields
unchecked fields = record fields { checks_trailing_bits = false }

abbrev pub ignoring : Fields → List ℕ → Fields
ignoring fields ignored = record fields { ignored = ignored }

abbrev pub wrapped : Fields → ℕ → List ℕ → Fields
wrapped fields column separator = record fields { column = column; separator = separator }

abbrev pub nopad_ignoring_lf_fields : Fields
nopad_ignoring_lf_fields = ignoring base64_nopad_fields (10 ∷ [])

abbrev pub lines_of_8_fields : Fields
lines_of_8_fields = wrapped base64_fields 8 (codes " ")

abbrev pub single_fields : Fields
single_fields = record base64_fields { concatenates = false }

-- The fields have a base, and it is so.
abbrev pub Holds : (Base → Type 0) → Result Base Refusal → Type 0
Holds P (Ok base) = P base
Holds P (Err refusal) = ⊥

abbrev pub Has : Fields → (Base → Type 0) → Type 0
Has fields P = Holds P (base_of fields)

abbrev built_or_none : Result Base Refusal → Base
built_or_none (Ok base) = base
built_or_none (Err refusal) = record {
  width = 0;
  order = LeastSignificantFirst;
  symbols = [];
  checks_trailing_bits = false;
  concatenates = false;
  padding = None;
  meanings = [];
  wrapping = None;
}

-- the base of the fields that have one
abbrev pub built : Fields → Base
built fields = built_or_none (base_of fields)
