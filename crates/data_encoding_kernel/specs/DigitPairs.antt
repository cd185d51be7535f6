-- Lanes of sixteen bits with two digits each.
use Rattle.std.specs.Prelude.{ℕ, ◌*◌, ◌/◌, ◌%◌, ◌^◌, List, bit_and, bit_or}
use Rattle.std.specs.Simd.Lanes.{zip2}

-- The upper sixteen bits of the 32-bit product of `lane` and `factor`.
abbrev pub high_half : ℕ → ℕ → ℕ
high_half lane factor = lane * factor % 2 ^ 32 / 2 ^ 16

-- The lower sixteen bits of the product of `lane` and `factor`.
abbrev pub low_half : ℕ → ℕ → ℕ
low_half lane factor = lane * factor % 2 ^ 16

-- In each lane, the bits under its mask, moved down by its factor of `downs`. Beside them, its bits
-- moved up by its factor of `ups`, under its mask of `kept`.
abbrev pub split_lanes : List ℕ → List ℕ → List ℕ → List ℕ → List ℕ → List ℕ
split_lanes masks downs ups kept lanes =
    zip2 bit_or (zip2 high_half (zip2 bit_and lanes masks) downs)
    (zip2 bit_and (zip2 low_half lanes ups) kept)
