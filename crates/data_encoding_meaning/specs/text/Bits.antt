-- Bytes as bits, and bits as numbers.
use Rattle.std.specs.Prelude.{ℕ, zero, suc, ◌+◌, ◌-◌, ◌*◌, ◌/◌, ◌%◌, List, [], ◌∷◌, length, flat_map, reverse}
use Rattle.std.specs.Simd.{first_chunks}
use Rattle.data_encoding_meaning.specs.declared.encoding.BitOrder.{BitOrder}
use Rattle.data_encoding_meaning.specs.declared.encoding.BitOrder.TheVariants.{MostSignificantFirst, LeastSignificantFirst}

-- The `count` lowest bits of `number`, with the bit of weight 1 first.
abbrev pub low_bits : ℕ → ℕ → List ℕ
low_bits zero number = []
low_bits (suc count) number = number % 2 ∷ low_bits count (number / 2)

-- The number with the given bits, the bit of weight 1 first.
abbrev pub number_of_low_bits : List ℕ → ℕ
number_of_low_bits [] = 0
number_of_low_bits (bit ∷ bits) = bit + 2 * number_of_low_bits bits

-- The `count` lowest bits of `number`, in the given order.
abbrev pub bits_of : BitOrder → ℕ → ℕ → List ℕ
bits_of LeastSignificantFirst count number = low_bits count number
bits_of MostSignificantFirst count number = reverse (low_bits count number)

-- The number with the given bits, in the given order.
abbrev pub number_of : BitOrder → List ℕ → ℕ
number_of LeastSignificantFirst bits = number_of_low_bits bits
number_of MostSignificantFirst bits = number_of_low_bits (reverse bits)

-- The bits of `bytes`, byte after byte.
abbrev pub bits_of_bytes : BitOrder → List ℕ → List ℕ
bits_of_bytes order bytes = flat_map (bits_of order 8) bytes

-- The least number to add to `count` that makes it a multiple of `size`.
abbrev pub missing : ℕ → ℕ → ℕ
missing size count = (size - count % size) % size

-- The list cut into runs of `size` elements. The last run may be shorter, and none is empty.
abbrev pub runs : {X : Type 0} → ℕ → List X → List (List X)
runs size xs = first_chunks size ((length xs + (size - 1)) / size) xs
