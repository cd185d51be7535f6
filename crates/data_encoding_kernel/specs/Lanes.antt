-- Groups of bytes as words, their digits, and the results of lanes.
use Rattle.std.specs.Prelude.{ℕ, ◌*◌, ◌%◌, ◌^◌, List, map, take, drop, bit_and, bit_or}
use Rattle.std.specs.List.{range_with_len}
use Rattle.std.specs.Simd.Lanes.{number_l}
use Rattle.data_encoding_meaning.specs.declared.encoding.BitOrder.{BitOrder}
use Rattle.data_encoding_meaning.specs.declared.encoding.BitOrder.TheVariants.{LeastSignificantFirst}
use Rattle.data_encoding_kernel.specs.Words.{digit, word_of}

-- The word of the group with index `group`, of `size` bytes.
abbrev pub group_word : BitOrder → ℕ → List ℕ → ℕ → ℕ
group_word order size input group = word_of order 8 size (take size (drop (size * group) input))

-- The words of the first `count` groups of `size` bytes.
abbrev pub group_words : BitOrder → ℕ → ℕ → List ℕ → List ℕ
group_words order size count input = map (group_word order size input) (range_with_len 0 count)

-- The `count` digits of `word`, of `width` bits each.
abbrev pub digits_of : BitOrder → ℕ → ℕ → ℕ → List ℕ
digits_of order width count word = map (digit order width count word) (range_with_len 0 count)

-- The digits of `word` in a byte each, the least significant digit in the lowest byte.
abbrev pub spread_word : ℕ → ℕ → ℕ → ℕ
spread_word width count word = number_l 256 (digits_of LeastSignificantFirst width count word)

-- The bits of `lane` under the mask `low`, and its bits under the mask `high` moved up by `up`, in
-- a lane of `bits` bits.
abbrev pub halved_lane : ℕ → ℕ → ℕ → ℕ → ℕ → ℕ
halved_lane bits low high up lane =
    bit_or (bit_and lane low) (bit_and lane high * 2 ^ up % 2 ^ bits)
