-- Values joined to bytes: the bits of the values, one value after another.
use Rattle.std.specs.Prelude.{◌≡◌, ◌<◌, ◌≤◌, ◌==◌, if◌then◌else◌, not, length, take, drop, slice_index, ℕ, ◌+◌, ◌-◌, ◌*◌, ◌/◌, ◌%◌, ◌^◌, List, [], ◌∷◌, ◌++◌, map, flat_map, replicate}
use Rattle.std.specs.List.{list_any, range_with_len}
use Rattle.std.specs.Simd.{first_chunks}
use Rattle.data_encoding_meaning.specs.declared.encoding.BitOrder.{BitOrder}
use Rattle.data_encoding_meaning.specs.declared.encoding.BitOrder.TheVariants.{MostSignificantFirst, LeastSignificantFirst}
use Rattle.data_encoding_meaning.specs.text.Base.{group_bytes, group_symbols}
use Rattle.data_encoding_meaning.specs.text.Bits.{bits_of, number_of, runs}
use Rattle.data_encoding_kernel.specs.Words.{weight, zeros_to}
use Rattle.data_encoding_kernel.specs.declared.simd.decode.last_symbols.Join.{Join}

-- The first `count` bytes of the bits of the values. Zeros replace missing bits.
abbrev pub joined_bytes : BitOrder → ℕ → ℕ → List ℕ → List ℕ
joined_bytes order width count values =
    map (number_of order)
    (first_chunks 8 count (zeros_to (8 * count) (flat_map (bits_of order width) values)))

-- The index of each byte of `count` joined words of `size` bytes, in lanes of `lane` bytes. 128
-- gives
-- a zero.
abbrev pub places_of : BitOrder → ℕ → ℕ → ℕ → List ℕ
places_of MostSignificantFirst size lane count =
    map (λ k. k / size * lane + (size - 1 - k % size)) (range_with_len 0 (count * size))
    ++ replicate (16 - count * size) 128
places_of LeastSignificantFirst size lane count =
    map (λ k. k / size * lane + k % size) (range_with_len 0 (count * size))
    ++ replicate (16 - count * size) 128

-- The same for sixteen values of `width` bits: eight values are a word if the width is odd, or else
-- four values.
abbrev pub byte_places : BitOrder → ℕ → List ℕ
byte_places order width =
    if width % 2 == 1 then places_of order width 8 2 else places_of order (width / 2) 4 4

-- Four numbers, four times.
abbrev four_times : ℕ → ℕ → ℕ → ℕ → List ℕ
four_times a b c d =
    a ∷ b ∷ c ∷ d ∷ a ∷ b ∷ c ∷ d ∷ a ∷ b ∷ c ∷ d ∷ a ∷ b ∷ c ∷ d ∷ []

-- The weights of the values of the pair with the higher bits, of each four values.
abbrev pub higher_weights : BitOrder → ℕ → List ℕ
higher_weights MostSignificantFirst width = four_times (2 ^ width) 1 0 0
higher_weights LeastSignificantFirst width = four_times 0 0 1 (2 ^ width)

-- The weights of the values of the other pair.
abbrev pub lower_weights : BitOrder → ℕ → List ℕ
lower_weights MostSignificantFirst width = four_times 0 0 (2 ^ width) 1
lower_weights LeastSignificantFirst width = four_times 1 (2 ^ width) 0 0

-- The rows and numbers that join values of the width and the order of `join`.
pub record IsJoin (join : Join) : Type 0 where
  pub some : 0 < join.width
  pub few : join.width ≤ 6
  pub higher : join.higher ≡ higher_weights join.order join.width
  pub lower : join.lower ≡ lower_weights join.order join.width
  pub places : join.places ≡ byte_places join.order join.width
  pub pair : join.pair ≡ 2 * join.width
  pub first_up : join.first_up ≡ weight join.order (4 * join.width) 2 0
  pub second_up : join.second_up ≡ weight join.order (4 * join.width) 2 1
  pub group : join.group ≡ group_symbols join.width
  pub group_log : 2 ^ join.group_log ≡ group_symbols join.width
  pub few_log : join.group_log ≤ 3
  pub group_bytes : join.group_bytes ≡ group_bytes join.width

-- The bits of the values, one value after another.
abbrev pub value_bits : BitOrder → ℕ → List ℕ → List ℕ
value_bits order width values = flat_map (bits_of order width) values

-- `bytes` starts with the whole bytes of the bits of the values. The next byte is zero exactly if
-- the
-- bits after the last whole byte are zeros.
pub record AreJoined (order : BitOrder) (width : ℕ) (values bytes : List ℕ) : Type 0 where
  pub whole : take (width * length values / 8) bytes
      ≡ map (number_of order) (runs 8
      (take (length (value_bits order width values) / 8 * 8) (value_bits order width values)))
  pub next : list_any (λ bit. not (bit == 0))
      (drop (length (value_bits order width values) / 8 * 8) (value_bits order width values))
      ≡ not (slice_index bytes (width * length values / 8) == 0)
