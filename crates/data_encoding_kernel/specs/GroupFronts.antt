-- The symbols at the start of a group.
use Rattle.std.specs.Prelude.{◌≡◌, ℕ, ◌<◌, ◌≤◌, List, length, slice_index}
use Rattle.std.specs.Int.{bit_at}
use Rattle.data_encoding_meaning.specs.text.Base.{Base}
use Rattle.data_encoding_kernel.specs.declared.simd.decode.last_symbols.Front.{Front}
use Rattle.data_encoding_kernel.specs.declared.simd.decode.last_symbols.Join.{Join}
use Rattle.data_encoding_kernel.specs.Fronts.{IsFront}
use Rattle.data_encoding_kernel.specs.Tables.{Reads}

-- The bit of each byte is clear if the byte is a symbol, and set if it is not.
abbrev pub HasOthers : List ℕ → List ℕ → ℕ → Type 0
HasOthers values group others =
    (k : ℕ) → k < length group
    → (bit_at others k ≡ 0 → slice_index values (slice_index group k) < 128)
    × (bit_at others k ≡ 1 → 128 ≤ slice_index values (slice_index group k))

-- `found` has the symbols at the start of the group, up to the first other byte.
pub record IsGroupFront (values : List ℕ) (join : Join) (group : List ℕ) (found : Front)
    : Type 0 where
  pub few : found.symbols ≤ length group
  pub stop : found.symbols < length group
      → 128 ≤ slice_index values (slice_index group found.symbols)
  pub others : HasOthers values group found.others
  pub front : (base : Base) → Reads base values join.width join.order
      → IsFront base group found.symbols found.bytes
