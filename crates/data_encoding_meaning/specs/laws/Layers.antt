-- The two layers of decoding: runs in which no byte is ignored, and the symbols of a group.
use Rattle.std.specs.Prelude.{◌≡◌, ℕ, true, false, List, All, length, map, Option, Some, None}
use Rattle.data_encoding_meaning.specs.declared.error.DecodeKind.TheVariants.{Symbol as SymbolFault}
use Rattle.data_encoding_meaning.specs.text.Base.{Base, group_symbols, is_ignored, meaning}
use Rattle.data_encoding_meaning.specs.text.Bits.{runs}
use Rattle.data_encoding_meaning.specs.text.Grammar.{PlainMeans, positioned}
use Rattle.data_encoding_meaning.specs.text.Lengths.{is_valid_count, is_valid_length, length_fault}
use Rattle.data_encoding_meaning.specs.decoding.Fault.{fault_of, faulty_at, first_fault, or_else, sound_bytes, symbol_bytes, symbols_fault, trailing_fault}
use Rattle.data_encoding_meaning.specs.decoding.Partial.{ignoring_nothing, partial_of}
use Rattle.data_encoding_meaning.specs.specification.Fields.{IsSpecified}
use Rattle.data_encoding_meaning.specs.laws.Told.{first_other}

-- No byte of `run` is ignored.
abbrev pub IgnoresNone : Base → List ℕ → Type 0
IgnoresNone base run = All (λ byte. is_ignored (meaning base byte) ≡ false) run

-- If ignored bytes count as invalid, the fault of a run is the fault of its length, or else of its
-- first faulty group. The groups are consecutive bytes of the run.
abbrev pub RunFault : Type 0
RunFault =
    (base : Base) → IsSpecified base → (run : List ℕ)
    → fault_of (ignoring_nothing base) run
    ≡ or_else (length_fault (ignoring_nothing base) (length run))
    (first_fault base (runs (group_symbols base.width) (positioned run)))

-- A run of a valid length in which no byte is ignored has the same fault as if ignored bytes were
-- invalid. It is read and written as far, and has the same bytes before the fault.
abbrev pub RunTold : Type 0
RunTold =
    (base : Base) → IsSpecified base → (run : List ℕ) → IgnoresNone base run
    → is_valid_length base (length run) ≡ true
    → (fault_of base run ≡ fault_of (ignoring_nothing base) run)
    × (partial_of base run ≡ partial_of (ignoring_nothing base) run)
    × (sound_bytes base run ≡ sound_bytes (ignoring_nothing base) run)

-- The base without the check of trailing bits.
abbrev pub checking_none : Base → Base
checking_none base = record base { checks_trailing_bits = false }

-- If an index is given, the fault is an invalid symbol there. Otherwise each byte is a symbol, the
-- symbols mean bytes whatever the trailing bits are, and only the trailing bits may be a fault.
abbrev pub TellsSymbols : Base → List ℕ → Option ℕ → Type 0
TellsSymbols base symbols (Some index) =
    symbols_fault base (map (meaning base) symbols) ≡ faulty_at SymbolFault index
TellsSymbols base symbols None =
    PlainMeans (checking_none base) (map (meaning base) symbols)
    (symbol_bytes base (map (meaning base) symbols))
    × (symbols_fault base (map (meaning base) symbols)
    ≡ trailing_fault base (map (meaning base) symbols))

-- A valid number of bytes gives data, or the index of the first byte that is not a symbol.
abbrev pub SymbolsTold : Type 0
SymbolsTold =
    (base : Base) → IsSpecified base → (symbols : List ℕ)
    → is_valid_count base.width (length symbols) ≡ true
    → TellsSymbols base symbols (first_other base symbols)
