-- The validation of a group that is gathered byte by byte, and of the end of a text.
use Rattle.std.specs.Prelude.{◌≡◌, ℕ, List, Option, Some, None}
use Rattle.data_encoding.specs.declared.error.DecodeError.{DecodeError}
use Rattle.data_encoding.specs.Base.{Base}
use Rattle.data_encoding.specs.Fault.{bytes_of_group, fault_after, or_else}
use Rattle.data_encoding.specs.Grammar.{Positioned}
use Rattle.data_encoding.specs.Pieces.{held_fault}
use Rattle.encoding_stream.specs.declared.buffer_decoder.Kept.{Kept}
use Rattle.encoding_stream.specs.BufferDecoder.{at_positions, held_group, Keeps, NoneIgnored}

-- The first `count` held bytes, as the next group.
abbrev pub next_group : Kept → ℕ → List Positioned
next_group kept count = at_positions count kept.positions kept.bytes

-- If none of its bytes is ignored, the next group is sound and means `bytes`.
abbrev pub JudgesSound : Base → Kept → ℕ → List ℕ → Type 0
JudgesSound base kept count bytes =
    NoneIgnored base (next_group kept count)
    → (fault_after kept.ended base (next_group kept count) ≡ None)
    × (bytes_of_group base (next_group kept count) ≡ bytes)

-- If none of its bytes is ignored, the next group has the fault `error`.
abbrev pub JudgesFaulty : Base → Kept → ℕ → DecodeError → Type 0
JudgesFaulty base kept count error =
    NoneIgnored base (next_group kept count)
    → fault_after kept.ended base (next_group kept count) ≡ Some error

-- The first fault of the groups. The last group is the held bytes.
abbrev pub fault_with_held : Base → Kept → Option DecodeError
fault_with_held base kept = or_else kept.fault (held_fault kept.ended base (held_group kept))

-- If `kept` is the state after a text, no group of the text has a fault, and the held bytes mean
-- `bytes`.
abbrev pub EndsSound : Base → Kept → List ℕ → Type 0
EndsSound base kept bytes =
    (text : List ℕ) → Keeps base kept text
    → (fault_with_held base kept ≡ None) × (bytes_of_group base (held_group kept) ≡ bytes)

-- If `kept` is the state after a text, `error` is the first fault of its groups.
abbrev pub EndsFaulty : Base → Kept → DecodeError → Type 0
EndsFaulty base kept error =
    (text : List ℕ) → Keeps base kept text → fault_with_held base kept ≡ Some error
