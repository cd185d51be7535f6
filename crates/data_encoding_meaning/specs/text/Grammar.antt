-- Which texts mean which data (RFC 4648, sections 3.2 to 3.5).
use Rattle.std.specs.Prelude.{◌≡◌, ℕ, ◌<◌, Bool, true, false, ◌&&◌, List, [], ◌∷◌, ◌++◌, map, length, drop, flat_map, filter, replicate, All, not}
use Rattle.std.specs.List.{enumerate_from, list_any}
use Rattle.data_encoding_meaning.specs.declared.encoding.Character.{Character}
use Rattle.data_encoding_meaning.specs.declared.encoding.Character.TheVariants.{Symbol, Padding}
use Rattle.data_encoding_meaning.specs.text.Base.{Base, meaning, is_padded, is_padding, is_ignored, group_symbols}
use Rattle.data_encoding_meaning.specs.text.Bits.{bits_of_bytes, bits_of, runs}

-- A byte of a text, with its position in the text.
pub record Positioned : Type 0 where
  pub position : ℕ
  pub byte : ℕ

-- The bytes of `part`, with their positions in a text in which `part` starts at `position`.
abbrev pub positioned_from : ℕ → List ℕ → List Positioned
positioned_from position part =
    map (λ (p : ℕ × ℕ). record { position = p.0; byte = p.1 }) (enumerate_from position part)

-- The bytes of `text`, with their positions.
abbrev pub positioned : List ℕ → List Positioned
positioned text = positioned_from 0 text

-- The bytes of `part` that are not ignored, with their positions in a text in which `part` starts
-- at `start`.
abbrev pub kept_in : Base → ℕ → List ℕ → List Positioned
kept_in base start part =
    filter (λ k. not (is_ignored (meaning base k.byte))) (positioned_from start part)

-- The kept bytes of `text`: those that are not ignored, with their positions.
abbrev pub kept : Base → List ℕ → List Positioned
kept base text = kept_in base 0 text

-- The kept bytes of `text` from position `read` on.
abbrev pub kept_from : Base → ℕ → List ℕ → List Positioned
kept_from base read text = kept_in base read (drop read text)

-- The kept bytes of `text`, in groups of `group_symbols` bytes. The last group may have fewer.
abbrev pub groups : Base → List ℕ → List (List Positioned)
groups base text = runs (group_symbols base.width) (kept base text)

-- The bytes of `group`, without their positions.
abbrev pub bytes_in : List Positioned → List ℕ
bytes_in group = map (λ k. k.byte) group

-- The characters that the bytes of `group` mean.
abbrev pub meanings_in : Base → List Positioned → List Character
meanings_in base group = map (meaning base) (bytes_in group)

-- The characters are symbols with these values. The bits of the values are the bits of the bytes,
-- followed by `rest`, the trailing bits. There are fewer trailing bits than a symbol has bits. If
-- `checks_trailing_bits` is true, the trailing bits are all zeros.
pub record PlainMeans (base : Base) (characters : List Character) (bytes : List ℕ) : Type 0 where
  pub values : List ℕ
  pub rest : List ℕ
  pub are_symbols : characters ≡ map (λ value. Symbol value) values
  pub same_bits : flat_map (bits_of base.order base.width) values
      ≡ bits_of_bytes base.order bytes ++ rest
  pub rest_is_short : length rest < base.width
  pub rest_is_zero : base.checks_trailing_bits ≡ true → rest ≡ replicate (length rest) 0
  pub are_bytes : All (λ byte. byte < 256) bytes

-- The group is one or more symbols, followed by any number of padding characters. It means the
-- bytes that the symbols mean. If the base is padded, the group has `group_symbols` characters.
-- Otherwise the group has no padding, and may have fewer.
pub record GroupMeans (base : Base) (group : List Character) (bytes : List ℕ) : Type 0 where
  pub symbols : List Character
  pub padding : ℕ
  pub is_group : group ≡ symbols ++ replicate padding Padding
  pub is_whole : is_padded base ≡ true → length group ≡ group_symbols base.width
  pub is_plain : is_padded base ≡ false → padding ≡ 0
  pub is_begun : 0 < length symbols
  pub means : PlainMeans base symbols bytes

-- `true` if the group is final: it has padding, and the base does not allow concatenated texts.
abbrev pub ends_text : Base → List Character → Bool
ends_text base group = not base.concatenates && list_any is_padding group

-- `true` if the group, given by its bytes, is final.
abbrev pub is_final : Base → List Positioned → Bool
is_final base group = ends_text base (meanings_in base group)

-- The groups mean `bytes`: the bytes of each group, joined in order. No group follows a final
-- group.
abbrev pub GroupsMean : Base → List (List Character) → List ℕ → Type 0
GroupsMean base [] bytes = bytes ≡ []
GroupsMean base (group ∷ others) bytes =
    (piece more : List ℕ) × (bytes ≡ piece ++ more)
    × GroupMeans base group piece × (ends_text base group ≡ true → others ≡ [])
    × GroupsMean base others more

-- The text means `bytes`: the bytes of its groups, joined in order. Only the last group may have
-- fewer than `group_symbols` bytes, and only if the base is not padded.
abbrev pub Means : Base → List ℕ → List ℕ → Type 0
Means base text bytes = GroupsMean base (map (meanings_in base) (groups base text)) bytes
