-- The fault of a text, from its bytes one by one.
use Rattle.std.specs.Prelude.{◌≡◌, ◌↔◌, ℕ, ◌+◌, ◌-◌, ◌%◌, ◌==◌, Bool, true, false, not, ◌&&◌, if◌then◌else◌, List, length, map, position, Option, Some, None}
use Rattle.std.specs.List.{list_any}
use Rattle.data_encoding_meaning.specs.declared.error.DecodeKind.TheVariants.{Symbol as SymbolFault, Trailing as TrailingFault}
use Rattle.data_encoding_meaning.specs.declared.error.DecodeError.{DecodeError}
use Rattle.data_encoding_meaning.specs.text.Base.{Base, meaning, is_symbol, ignores_some}
use Rattle.data_encoding_meaning.specs.decoding.Fault.{fault_of, trailing_bits}
use Rattle.data_encoding_meaning.specs.specification.Fields.{IsSpecified}
use Rattle.data_encoding_meaning.specs.text.Lengths.{length_fault}

-- `true` if `byte` is not a symbol.
abbrev pub is_other : Base → ℕ → Bool
is_other base byte = not (is_symbol (meaning base byte))

-- The index of the first byte that is not a symbol.
abbrev pub first_other : Base → List ℕ → Option ℕ
first_other base text = position (is_other base) text

-- `true` if the trailing bits are checked and not all zeros.
abbrev pub leaves_bits : Base → List ℕ → Bool
leaves_bits base text =
    base.checks_trailing_bits
    && list_any (λ bit. not (bit == 0)) (trailing_bits base (map (meaning base) text))

-- An invalid symbol at the given index, or else, if `leaves` is true, the trailing bits of the last
-- byte.
abbrev pub told_by : Option ℕ → Bool → ℕ → Option DecodeError
told_by (Some index) leaves len = Some (record { position = index; kind = SymbolFault })
told_by None leaves len =
    if leaves then Some (record { position = len - 1; kind = TrailingFault }) else None

-- The fault of a text without padding and ignored bytes, from its first byte that is not a symbol
-- and its trailing bits.
abbrev pub told_fault : Base → List ℕ → Option DecodeError
told_fault base text = told_by (first_other base text) (leaves_bits base text) (length text)

-- Without padding and ignored bytes, the fault of a text of a valid length follows from its bytes.
abbrev pub FaultTold : Type 0
FaultTold =
    (base : Base) → IsSpecified base → base.padding ≡ None → ignores_some base ≡ false
    → (text : List ℕ) → length_fault base (length text) ≡ None
    → fault_of base text ≡ told_fault base text

-- The fault is an invalid symbol at an index if and only if this is the index of the first byte
-- that is not a symbol.
abbrev pub SymbolTold : Type 0
SymbolTold =
    (base : Base) → IsSpecified base → base.padding ≡ None → ignores_some base ≡ false
    → (text : List ℕ) → length_fault base (length text) ≡ None → (index : ℕ)
    → (fault_of base text ≡ Some (record { position = index; kind = SymbolFault }))
    ↔ (first_other base text ≡ Some index)

-- The fault is trailing bits if and only if every byte is a symbol and the trailing bits are
-- checked and not all zeros. It is at the last byte.
abbrev pub TrailingTold : Type 0
TrailingTold =
    (base : Base) → IsSpecified base → base.padding ≡ None → ignores_some base ≡ false
    → (text : List ℕ) → length_fault base (length text) ≡ None → (index : ℕ)
    → (fault_of base text ≡ Some (record { position = index; kind = TrailingFault }))
    ↔ ((first_other base text ≡ None) × (leaves_bits base text ≡ true)
    × (index + 1 ≡ length text))

-- If eight bits are whole symbols, there are no trailing bits.
abbrev pub WholeTold : Type 0
WholeTold =
    (base : Base) → IsSpecified base → 8 % base.width ≡ 0 → ignores_some base ≡ false
    → (text : List ℕ) → length_fault base (length text) ≡ None
    → fault_of base text ≡ told_by (first_other base text) false 0
