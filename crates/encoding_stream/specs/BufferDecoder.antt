-- The state of a decoder of a text in pieces.
use Rattle.std.specs.Prelude.{◌≡◌, ℕ, ◌+◌, ◌*◌, ◌/◌, ◌≤◌, if◌then◌else◌, false, List, [], ◌∷◌, take, All, Option, Some, None, is_some, Result, Ok, Err}
use Rattle.data_encoding.specs.declared.error.DecodeError.{DecodeError}
use Rattle.data_encoding.specs.Base.{Base, group_bytes, group_symbols, is_ignored, meaning}
use Rattle.data_encoding.specs.Grammar.{Positioned}
use Rattle.data_encoding.specs.Lent.{base_of_lent}
use Rattle.data_encoding.specs.Pieces.{HasRead}
use Rattle.encoding_stream.specs.declared.buffer_decoder.Kept.{Kept}
use Rattle.encoding_stream.specs.declared.buffer_decoder.BufferDecoder.{BufferDecoder}

-- The encoding of a `BufferDecoder`.
abbrev pub base_of_pieces : BufferDecoder → Base
base_of_pieces pieces = base_of_lent pieces.encoding

-- The state of a `BufferDecoder`.
abbrev pub kept_by : BufferDecoder → Kept
kept_by pieces = pieces.kept

-- The bytes with their positions.
abbrev pub paired : List ℕ → List ℕ → List Positioned
paired [] bytes = []
paired (p ∷ ps) [] = []
paired (p ∷ ps) (b ∷ bs) = record { position = p; byte = b } ∷ paired ps bs

-- The first `count` bytes with their positions.
abbrev pub at_positions : ℕ → List ℕ → List ℕ → List Positioned
at_positions count positions bytes = paired (take count positions) (take count bytes)

-- The held bytes of the unfinished group.
abbrev pub held_group : Kept → List Positioned
held_group kept = at_positions kept.count kept.positions kept.bytes

-- None of the bytes is ignored.
abbrev pub NoneIgnored : Base → List Positioned → Type 0
NoneIgnored base group = All (λ k. is_ignored (meaning base k.byte) ≡ false) group

-- `kept` is the state of a decoder after `text`.
abbrev pub Keeps : Base → Kept → List ℕ → Type 0
Keeps base kept text = HasRead base text kept.len kept.fault (held_group kept) kept.ended

-- The decoder has the encoding `base` and the state `kept`.
pub record HasState (base : Base) (kept : Kept) (pieces : BufferDecoder) : Type 0 where
  pub base_is : base_of_pieces pieces ≡ base
  pub kept_is : kept_by pieces ≡ kept

-- The number of bytes of the whole groups in `len` symbols.
abbrev pub bytes_due : Base → ℕ → ℕ
bytes_due base len = len / group_symbols base.width * group_bytes base.width

-- The greatest number of bytes that `len` more bytes of the text may complete.
abbrev pub most_completed : Base → Kept → ℕ → ℕ
most_completed base kept len =
    if is_some kept.fault then 0 else bytes_due base (kept.count + len)

-- The `len` bytes of a piece, after the `old` held ones, fill groups and leave `new` bytes held. No
-- more bytes were written than the groups have.
pub record FillsGroups (base : Base) (old len new written : ℕ) : Type 0 where
  pub groups : ℕ
  pub symbols : groups * group_symbols base.width + new ≤ old + len
  pub bytes : written ≤ groups * group_bytes base.width

-- The verdict on a text with the given fault, or with none.
abbrev pub verdict_of : Option DecodeError → Result (Unit {0}) DecodeError
verdict_of None = Ok _
verdict_of (Some error) = Err error
