-- Consecutive whole groups, and the kept bytes of a part of a text.
use Rattle.std.specs.Prelude.{◌≡◌, ℕ, ◌+◌, ◌-◌, ◌*◌, ◌/◌, ◌%◌, ◌<◌, ◌≤◌, false, List, length, map, take, slice_index}
use Rattle.std.specs.List.{list_any}
use Rattle.data_encoding.specs.declared.decode.groups.Groups.{Groups}
use Rattle.data_encoding_meaning.specs.text.Base.{Base, group_bytes, group_symbols, is_ignored, meaning}
use Rattle.data_encoding_meaning.specs.text.Grammar.{kept}
use Rattle.data_encoding_meaning.specs.decoding.Decoding.{HasDecodedTo}

-- None of the bytes is ignored.
abbrev pub NoneIgnored : Base → List ℕ → Type 0
NoneIgnored base bytes = list_any is_ignored (map (meaning base) bytes) ≡ false

-- The first bytes of `part` are whole groups without a fault, and none of them is ignored. They
-- were decoded to the output, which has room for the other whole groups of `part`.
pub record HasReadGroups (base : Base) (part : List ℕ) (at : Groups) (output : List ℕ)
    : Type 0 where
  pub so_far : HasDecodedTo base part at.read at.written false output
  pub whole : at.read % group_symbols base.width ≡ 0
  pub plain : NoneIgnored base (take at.read part)
  pub room : at.written
      + (length part - at.read) / group_symbols base.width * group_bytes base.width
      ≤ length output

-- The first `span` bytes of `part` have all its kept bytes except the last `last`, and end with a
-- kept byte.
pub record EndsBefore (base : Base) (part : List ℕ) (last span : ℕ) : Type 0 where
  pub before : length (kept base (take span part)) + last ≡ length (kept base part)
  pub ends : 0 < span → is_ignored (meaning base (slice_index part (span - 1))) ≡ false
