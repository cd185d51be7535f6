-- Faults that do not depend on the rest of the text.
use Rattle.std.specs.Prelude.{◌≡◌, ℕ, ◌≤◌, ◌%◌, List, ◌++◌, length, Some, None}
use Rattle.data_encoding_meaning.specs.declared.error.DecodeError.{DecodeError}
use Rattle.data_encoding_meaning.specs.text.Base.{Base, group_symbols}
use Rattle.data_encoding_meaning.specs.decoding.Fault.{fault_of, first_fault}
use Rattle.data_encoding_meaning.specs.specification.Fields.{IsSpecified}
use Rattle.data_encoding_meaning.specs.text.Grammar.{kept}
use Rattle.data_encoding_meaning.specs.text.Lengths.{length_fault}
use Rattle.data_encoding_meaning.specs.decoding.Pieces.{whole_groups}

-- The first fault of the whole groups of a text is the fault of every longer text, unless the
-- length of that text is a fault.
abbrev pub GroupFaultStays : Type 0
GroupFaultStays =
    (base : Base) → IsSpecified base → (text after : List ℕ) (error : DecodeError)
    → first_fault base (whole_groups base text) ≡ Some error
    → length_fault base (length (text ++ after)) ≡ None
    → fault_of base (text ++ after) ≡ Some error

-- If the kept bytes of a text are whole groups, its fault is the fault of every longer text, unless
-- the length of that text is a fault.
abbrev pub FaultStays : Type 0
FaultStays =
    (base : Base) → IsSpecified base → (text after : List ℕ) (error : DecodeError)
    → length (kept base text) % group_symbols base.width ≡ 0
    → fault_of base text ≡ Some error → length_fault base (length (text ++ after)) ≡ None
    → fault_of base (text ++ after) ≡ Some error

-- If the kept bytes of a text without a fault are whole groups, no longer text has a fault before
-- the end of the text.
abbrev pub NoFaultBefore : Type 0
NoFaultBefore =
    (base : Base) → IsSpecified base → (text after : List ℕ) (error : DecodeError)
    → length (kept base text) % group_symbols base.width ≡ 0 → fault_of base text ≡ None
    → fault_of base (text ++ after) ≡ Some error → length text ≤ error.position
