-- Groups of digits, bytes or values as one number.
use Rattle.std.specs.Prelude.{ℕ, ◌-◌, ◌*◌, ◌/◌, ◌%◌, ◌^◌, List, ◌++◌, length, replicate, flat_map}
use Rattle.data_encoding_meaning.specs.declared.encoding.BitOrder.{BitOrder}
use Rattle.data_encoding_meaning.specs.declared.encoding.BitOrder.TheVariants.{MostSignificantFirst, LeastSignificantFirst}
use Rattle.data_encoding_meaning.specs.text.Bits.{bits_of, number_of}

-- The number of bits of a word below the digit at `index`, of `count` digits of `size` bits each.
abbrev pub weight : BitOrder → ℕ → ℕ → ℕ → ℕ
weight MostSignificantFirst size count index = size * (count - 1 - index)
weight LeastSignificantFirst size count index = size * index

-- The digit of `word` at `index`, of `count` digits of `size` bits each.
abbrev pub digit : BitOrder → ℕ → ℕ → ℕ → ℕ → ℕ
digit order size count word index = word / 2 ^ weight order size count index % 2 ^ size

-- The digit of `word` at `index`, with the bits above it, as eight bits.
abbrev pub low_byte : BitOrder → ℕ → ℕ → ℕ → ℕ → ℕ
low_byte order size count word index = word / 2 ^ weight order size count index % 2 ^ 8

-- The bits, followed by zeros up to the length `len`.
abbrev pub zeros_to : ℕ → List ℕ → List ℕ
zeros_to len bits = bits ++ replicate (len - length bits) 0

-- The word of `count` digits of `size` bits each. Zeros replace missing digits.
abbrev pub word_of : BitOrder → ℕ → ℕ → List ℕ → ℕ
word_of order size count digits =
    number_of order (zeros_to (size * count) (flat_map (bits_of order size) digits))
