-- The effect of a piece on a decoder.
use Rattle.std.specs.Prelude.{◌≡◌, ℕ, ◌+◌, ◌*◌, ◌/◌, ◌≤◌, ◌%◌, Bool, false, List, [], ◌++◌, length, take, Option, None, Result}
use Rattle.std.specs.List.{list_any}
use Rattle.data_encoding.specs.declared.error.DecodeError.{DecodeError}
use Rattle.data_encoding.specs.Base.{Base, group_symbols, ignores_some}
use Rattle.data_encoding.specs.Fault.{fault_of, sound_bytes}
use Rattle.data_encoding.specs.Grammar.{Means, groups, is_final, kept}
use Rattle.data_encoding.specs.Laws.{shifted}
use Rattle.data_encoding.specs.Pieces.{whole_bytes, HasRead}
use Rattle.encoding_stream.specs.declared.buffer_decoder.Kept.{Kept}
use Rattle.encoding_stream.specs.Appending.{AppendsDecoded}
use Rattle.encoding_stream.specs.BufferDecoder.{most_completed, verdict_of, Keeps}

-- If `old` is the state after a text, `new` is the state after the text followed by `piece`. The
-- groups that the piece completes have the bytes `bytes`, which leave room for the bytes of later
-- pieces.
pub record ReadsOn (base : Base) (old new : Kept) (piece bytes : List ℕ) : Type 0 where
  pub keeps : (text : List ℕ) → Keeps base old text → Keeps base new (text ++ piece)
  pub decodes : (text : List ℕ) → Keeps base old text
      → whole_bytes base (text ++ piece) ≡ whole_bytes base text ++ bytes
  pub counted : new.len ≡ old.len + length piece
  pub few : (more : ℕ) → length bytes + most_completed base new more
      ≤ most_completed base old (length piece + more)

-- The piece was read, and the bytes of the groups that it completed were appended.
pub record AppendsPiece (base : Base) (old new : Kept) (piece output_old output_new : List ℕ)
    : Type 0 where
  pub bytes : List ℕ
  pub reads : ReadsOn base old new piece bytes
  pub appended : output_new ≡ output_old ++ bytes

-- The text is whole groups, none of them final.
pub record AreWholeGroups (base : Base) (text : List ℕ) : Type 0 where
  pub whole : length (kept base text) % group_symbols base.width ≡ 0
  pub not_final : list_any (is_final base) (groups base text) ≡ false

-- The text is whole groups. One of them may be final.
abbrev pub HasOnlyWholeGroups : Base → List ℕ → Type 0
HasOnlyWholeGroups base text = length (kept base text) % group_symbols base.width ≡ 0

-- `true` if one of the groups of the text is final.
abbrev pub has_final : Base → List ℕ → Bool
has_final base text = list_any (is_final base) (groups base text)

-- After whole groups, none of them final or faulty, a piece of whole groups has the fault `fault`,
-- or none. The length of the text before is added to its position. The groups of the piece before
-- the fault append `bytes`.
abbrev pub ReadsRun : Base → List ℕ → List ℕ → Option DecodeError → Type 0
ReadsRun base piece bytes fault =
    (text : List ℕ) (len : ℕ) → HasRead base text len None [] false
    → HasRead base (text ++ piece) (len + length piece) (shifted len fault) [] false
    × (whole_bytes base (text ++ piece) ≡ whole_bytes base text ++ bytes)

-- Like `ReadsRun`, for a piece with a group that may be final. If the piece is valid, `ended` is
-- true if one is final.
abbrev pub ReadsRunTo : Base → List ℕ → List ℕ → Option DecodeError → Bool → Type 0
ReadsRunTo base piece bytes fault ended =
    (text : List ℕ) (len : ℕ) → HasRead base text len None [] false
    → HasRead base (text ++ piece) (len + length piece) (shifted len fault) [] ended
    × (whole_bytes base (text ++ piece) ≡ whole_bytes base text ++ bytes)

-- The length of the whole groups in `len` bytes.
abbrev pub whole_len : Base → ℕ → ℕ
whole_len base len = len / group_symbols base.width * group_symbols base.width

-- If nothing is ignored and the whole groups of the piece mean data, all of them were read.
abbrev pub ReadsAllGroups : Base → List ℕ → ℕ → Type 0
ReadsAllGroups base piece read =
    ignores_some base ≡ false → (bytes : List ℕ)
    → Means base (take (whole_len base (length piece)) piece) bytes
    → read ≡ whole_len base (length piece)

-- After the text, the piece decodes to no more bytes.
abbrev pub CompletesNothing : Base → List ℕ → List ℕ → Type 0
CompletesNothing base text piece =
    whole_bytes base (text ++ piece) ≡ whole_bytes base text

-- At its end, the text decodes to no more bytes.
abbrev pub HasNoLastBytes : Base → List ℕ → Type 0
HasNoLastBytes base text = sound_bytes base text ≡ whole_bytes base text

-- If `kept` is the state after a text, `bytes` are the bytes of its last group. There are none if a
-- group has a fault.
abbrev pub HasLastBytes : Base → Kept → List ℕ → Type 0
HasLastBytes base kept bytes =
    (text : List ℕ) → Keeps base kept text
    → sound_bytes base text ≡ whole_bytes base text ++ bytes

-- If `kept` is the state after a text, `verdict` is the verdict on the text.
abbrev pub HasVerdict : Base → Kept → Result (Unit {0}) DecodeError → Type 0
HasVerdict base kept verdict =
    (text : List ℕ) → Keeps base kept text → verdict ≡ verdict_of (fault_of base text)

-- If `kept` is the state after a text, the bytes of its last group were appended.
abbrev pub AppendsLast : Base → Kept → List ℕ → List ℕ → Type 0
AppendsLast base kept output_old output_new =
    (text : List ℕ) → Keeps base kept text
    → AppendsDecoded (whole_bytes base text) (sound_bytes base text) output_old output_new
