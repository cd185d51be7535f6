-- The conclusions of callers about texts and their data.
use Rattle.std.specs.Prelude.{◌≡◌, ◌↔◌, ℕ, Bool, List, [], ◌∷◌, ◌++◌, flat_map, length, None, Some, Ok, IsTrue}
use Rattle.data_encoding.specs.declared.error.DecodeError.{DecodeError}
use Rattle.data_encoding.specs.declared.error.DecodeKind.{DecodeKind}
use Rattle.data_encoding.specs.Base.{Base}
use Rattle.data_encoding.specs.Bits.{runs}
use Rattle.data_encoding.specs.Fault.{fault_of, sound_bytes}
use Rattle.data_encoding.specs.Fields.{base_of}
use Rattle.data_encoding.specs.Grammar.{Means}
use Rattle.data_encoding.specs.Lengths.{length_fault}
use Rattle.data_encoding.specs.Order.{IsBefore}
use Rattle.data_encoding.specs.Predefined.{base64_fields, base64url_fields}

-- The text means data.
abbrev pub MeansSome : Base → List ℕ → Type 0
MeansSome base text = (bytes : List ℕ) × Means base text bytes

-- The text means `len` bytes.
abbrev pub MeansBytes : Base → List ℕ → ℕ → Type 0
MeansBytes base text len = (bytes : List ℕ) × Means base text bytes × (length bytes ≡ len)

-- The text means its sound bytes.
abbrev pub MeansSoundBytes : Base → List ℕ → Type 0
MeansSoundBytes base text = Means base text (sound_bytes base text)

-- The two texts mean the same data, or neither means any.
abbrev pub MeanAlike : Base → List ℕ → List ℕ → Type 0
MeanAlike base one other = (bytes : List ℕ) → Means base one bytes ↔ Means base other bytes

-- If the text means data, the answer is `true` if and only if the data has `len` bytes.
abbrev pub TellsLength : Base → List ℕ → ℕ → Bool → Type 0
TellsLength base text len answer =
    (bytes : List ℕ) → Means base text bytes → (IsTrue answer ↔ (length bytes ≡ len))

-- If the two texts mean data, the answer is `true` if and only if they mean the same data.
abbrev pub TellsSame : Base → List ℕ → List ℕ → Bool → Type 0
TellsSame base one other answer =
    (bytes others : List ℕ) → Means base one bytes → Means base other others
    → (IsTrue answer ↔ (bytes ≡ others))

-- If the two texts mean data, the answer is `true` if and only if the data of the first comes
-- before the data of the other.
abbrev pub TellsOrder : Base → List ℕ → List ℕ → Bool → Type 0
TellsOrder base one other answer =
    (bytes others : List ℕ) → Means base one bytes → Means base other others
    → (IsTrue answer ↔ IsBefore bytes others)

-- The text has a fault of the given kind and position.
abbrev pub HasFaultOfKind : Base → List ℕ → ℕ → DecodeKind → Type 0
HasFaultOfKind base text position kind =
    fault_of base text ≡ Some (record { position = position; kind = kind })

-- The text has a fault at the given position.
abbrev pub HasFaultAt : Base → List ℕ → ℕ → Type 0
HasFaultAt base text position = (kind : DecodeKind) × HasFaultOfKind base text position kind

-- Each text that begins with `front` has the fault `error`, unless the length of the text is a
-- fault.
abbrev pub IsFaultOfAll : Base → List ℕ → DecodeError → Type 0
IsFaultOfAll base front error =
    (after : List ℕ) → length_fault base (length (front ++ after)) ≡ None
    → fault_of base (front ++ after) ≡ Some error

-- The property holds for the bases of base64 and base64url.
abbrev pub OfBase64 : (Base → Base → Type 0) → Type 0
OfBase64 Holds =
    (base url : Base) → base_of base64_fields ≡ Ok base → base_of base64url_fields ≡ Ok url
    → Holds base url

-- The bytes in lines of `line` bytes, each followed by CR LF.
abbrev pub lines_of : ℕ → List ℕ → List ℕ
lines_of line bytes = flat_map (λ run. run ++ 13 ∷ 10 ∷ []) (runs line bytes)
