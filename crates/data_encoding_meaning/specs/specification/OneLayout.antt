-- The bytes that are layouts, each of one base.
use Rattle.std.specs.Prelude.{◌≡◌, ◌≢◌, ◌⊎◌, ◌↔◌, ℕ, ◌+◌, ◌/◌, ◌%◌, ◌^◌, ◌<◌, ◌≤◌, List, length, slice_index}
use Rattle.data_encoding_meaning.specs.text.Base.{Base, IsWidth, group_symbols}
use Rattle.data_encoding_meaning.specs.specification.Fields.{IsSpecified}
use Rattle.data_encoding_meaning.specs.specification.Layout.{layout}

-- No two bases have the same layout.
abbrev pub OneLayout : Type 0
OneLayout = (a b : Base) → IsSpecified a → IsSpecified b → layout a ≡ layout b → a ≡ b

-- The entry of `byte` in a layout.
abbrev pub entry_in : List ℕ → ℕ → ℕ
entry_in bytes byte = slice_index bytes (256 + byte)

-- The layout has `byte` as an ignored byte.
abbrev pub IsIgnoredIn : List ℕ → ℕ → Type 0
IsIgnoredIn bytes byte = (byte < 128) × (entry_in bytes byte ≡ 129)

-- Byte 512 is 128 and no byte is padding. Or it is the padding character, and eight bits are not
-- whole symbols.
abbrev pub TellsPadding : ℕ → List ℕ → Type 0
TellsPadding width bytes =
    ((slice_index bytes 512 ≡ 128) × ((byte : ℕ) → byte < 128 → entry_in bytes byte ≢ 130))
    ⊎ ((slice_index bytes 512 < 128) × (entry_in bytes (slice_index bytes 512) ≡ 130)
    × (8 % width ≢ 0))

-- Byte 514 is the length of one or more whole groups, and 1 to 255 ignored bytes follow it.
pub record TellsLines (width : ℕ) (bytes : List ℕ) : Type 0 where
  pub some : 0 < slice_index bytes 514
  pub short : slice_index bytes 514 < 256
  pub whole : slice_index bytes 514 % group_symbols width ≡ 0
  pub ended : 515 < length bytes
  pub ends_short : length bytes ≤ 770
  pub ignored : (k : ℕ) → 515 ≤ k → k < length bytes → IsIgnoredIn bytes (slice_index bytes k)

-- No byte follows byte 513 if none is ignored. If one is ignored, a single 0 follows, or the lines.
abbrev pub TellsWrapping : ℕ → List ℕ → Type 0
TellsWrapping width bytes =
    ((length bytes ≡ 514) × ((byte : ℕ) → IsIgnoredIn bytes byte → ⊥))
    ⊎ ((length bytes ≡ 515) × (slice_index bytes 514 ≡ 0) × ((byte : ℕ) × IsIgnoredIn bytes byte))
    ⊎ TellsLines width bytes

-- The rules of a layout for symbols of `width` bits. Byte 513 is below 64. It has the bit 16 if
-- eight bits are whole symbols, and the bit 32 only with padding. The symbols are repeated up to
-- byte 255, are ASCII, and each has its own value as its entry. Any other entry is the value of a
-- symbol or 128 to 130, and those from byte 128 on are 128.
pub record IsLayoutOf (width : ℕ) (bytes : List ℕ) : Type 0 where
  pub is_width : IsWidth width
  pub flags : slice_index bytes 513 < 64
  pub checked : 8 % width ≡ 0 → slice_index bytes 513 / 16 % 2 ≡ 1
  pub single : slice_index bytes 513 / 32 % 2 ≡ 1 → slice_index bytes 512 < 128
  pub repeated : (k : ℕ) → k < 256 → slice_index bytes k ≡ slice_index bytes (k % 2 ^ width)
  pub own : (value : ℕ) → value < 2 ^ width
      → (slice_index bytes value < 128) × (entry_in bytes (slice_index bytes value) ≡ value)
  pub entries : (byte : ℕ) → byte < 128 → (entry_in bytes byte < 2 ^ width)
      ⊎ ((128 ≤ entry_in bytes byte) × (entry_in bytes byte ≤ 130))
  pub invalid_from_128 : (byte : ℕ) → 128 ≤ byte → byte < 256 → entry_in bytes byte ≡ 128
  pub padding : TellsPadding width bytes
  pub end : TellsWrapping width bytes

-- The bytes keep the rules of a layout, for the width in byte 513.
abbrev pub IsLayout : List ℕ → Type 0
IsLayout bytes = IsLayoutOf (slice_index bytes 513 % 8) bytes

-- Bytes are the layout of a base if and only if they keep the rules of a layout.
abbrev pub Layouts : Type 0
Layouts =
    (bytes : List ℕ)
    → ((base : Base) × IsSpecified base × (layout base ≡ bytes)) ↔ IsLayout bytes
