-- The ignored bytes of a text, in lanes, and the packing of the others.
use Rattle.std.specs.Prelude.{◌≡◌, ℕ, ◌/◌, ◌<◌, ◌==◌, Bool, true, false, not, List, [], ◌∷◌, length, take, bit_and}
use Rattle.data_encoding_meaning.specs.text.Base.{Base, meaning, is_ignored}
use Rattle.data_encoding_kernel.specs.declared.ignore.IgnoredBytes.{IgnoredBytes}
use Rattle.data_encoding_kernel.specs.Affine.{bits_of_rows}
use Rattle.data_encoding_kernel.specs.Values.{in_row}

-- The bit of the row of `byte` if `byte` is ignored, or else 0.
abbrev pub ignored_bit : IgnoredBytes → ℕ → ℕ
ignored_bit ignored byte =
    bit_and (in_row ignored.rows 0 byte) (in_row bits_of_rows 0 (byte / 16))

-- The set `ignored` has exactly the bytes that the base ignores.
pub record HoldsIgnored (base : Base) (ignored : IgnoredBytes) : Type 0 where
  pub at_byte : (byte : ℕ) → byte < 256
      → is_ignored (meaning base byte) ≡ not (ignored_bit ignored byte == 0)

-- The numbers with a flag that is true.
abbrev pub picked : List Bool → List ℕ → List ℕ
picked [] numbers = []
picked (flag ∷ flags) [] = []
picked (false ∷ flags) (number ∷ numbers) = picked flags numbers
picked (true ∷ flags) (number ∷ numbers) = number ∷ picked flags numbers

-- The `count` picked numbers are at the start of `room`.
pub record IsPacked (flags : List Bool) (numbers : List ℕ) (count : ℕ) (room : List ℕ)
    : Type 0 where
  pub number : count ≡ length (picked flags numbers)
  pub are : take count room ≡ picked flags numbers
