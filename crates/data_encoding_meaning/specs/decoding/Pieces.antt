-- Texts that are decoded piece by piece.
use Rattle.std.specs.Prelude.{◌≡◌, ℕ, ◌+◌, ◌-◌, ◌<◌, ◌*◌, ◌/◌, ◌%◌, ◌==◌, ◌&&◌, ◌⊎◌, Bool, true, false, not, if◌then◌else◌, ◌≤◌, List, [], ◌∷◌, ◌++◌, length, drop, take, filter, flat_map, All, Option, Some, None, is_some, Ok}
use Rattle.std.specs.List.{list_any}
use Rattle.std.specs.Simd.{first_chunks}
use Rattle.data_encoding_meaning.specs.declared.error.DecodeError.{DecodeError}
use Rattle.data_encoding_meaning.specs.declared.error.DecodeKind.{DecodeKind}
use Rattle.data_encoding_meaning.specs.declared.error.DecodePartial.{DecodePartial}
use Rattle.data_encoding_meaning.specs.text.Base.{Base, meaning, is_ignored, is_padded, ignores_some, group_bytes, group_symbols}
use Rattle.data_encoding_meaning.specs.decoding.Fault.{bytes_of_group, fault_after, fault_at, fault_of, first_fault, or_else, sound_bytes, sound_groups}
use Rattle.data_encoding_meaning.specs.specification.Fields.{IsSpecified}
use Rattle.data_encoding_meaning.specs.text.Grammar.{Means, Positioned, positioned, positioned_from, groups, kept, is_final, bytes_in}
use Rattle.data_encoding_meaning.specs.laws.Laws.{shifted}
use Rattle.data_encoding_meaning.specs.text.Lengths.{decoded_len, length_fault, most_bytes}
use Rattle.data_encoding_meaning.specs.decoding.Partial.{is_length_fault, partial_of}

-- The whole groups of `text`.
abbrev pub whole_groups : Base → List ℕ → List (List Positioned)
whole_groups base text =
    first_chunks (group_symbols base.width) (length (kept base text) / group_symbols base.width)
    (kept base text)

-- The kept bytes of `text` after its last whole group.
abbrev pub unfinished : Base → List ℕ → List Positioned
unfinished base text =
    drop (length (kept base text) / group_symbols base.width * group_symbols base.width)
    (kept base text)

-- The bytes of the whole groups before the first faulty one.
abbrev pub whole_bytes : Base → List ℕ → List ℕ
whole_bytes base text =
    flat_map (bytes_of_group base) (sound_groups base (whole_groups base text))

-- The fault of the bytes held at the end of a text. If there are any, they are its last group.
abbrev pub held_fault : Bool → Base → List Positioned → Option DecodeError
held_fault ended base [] = None
held_fault ended base (k ∷ ks) = fault_after ended base (k ∷ ks)

-- The state of a decoder after `text`: its length, and the first fault of its whole groups. If they
-- have none, `held` is the bytes after them with their positions, and `ended` is true if one of
-- them was final.
pub record HasRead (base : Base) (text : List ℕ) (len : ℕ) (fault : Option DecodeError)
    (held : List Positioned) (ended : Bool) : Type 0 where
  pub counted : len ≡ length text
  pub first : fault ≡ first_fault base (whole_groups base text)
  pub holds : fault ≡ None → held ≡ unfinished base text
  pub ends : fault ≡ None → ended ≡ list_any (is_final base) (whole_groups base text)

-- The bytes of the whole groups were appended to `before`.
pub record HasDecoded (base : Base) (before text output : List ℕ) : Type 0 where
  pub appended : output ≡ before ++ whole_bytes base text

-- The held bytes after a text of length `len`, followed by the bytes of `piece` that are not
-- ignored.
abbrev pub held_with : Base → ℕ → List Positioned → List ℕ → List Positioned
held_with base len held piece =
    held ++ filter (λ k. not (is_ignored (meaning base k.byte))) (positioned_from len piece)

-- The bytes of `group`, or none if there is a fault.
abbrev pub bytes_unless : Option DecodeError → Base → List Positioned → List ℕ
bytes_unless fault base group = if is_some fault then [] else bytes_of_group base group

-- Before the first byte, no byte is held and none is decoded.
abbrev pub ReadsNothing : Type 0
ReadsNothing =
    (base : Base) → IsSpecified base
    → HasRead base [] 0 None [] false × (whole_bytes base [] ≡ [])

-- A piece that completes no group is held, and no byte is decoded.
abbrev pub HoldsPiece : Type 0
HoldsPiece =
    (base : Base) → IsSpecified base → (text piece : List ℕ) (len : ℕ) (held : List Positioned)
    (ended : Bool) → HasRead base text len None held ended
    → length (held_with base len held piece) < group_symbols base.width
    → HasRead base (text ++ piece) (len + length piece) None (held_with base len held piece) ended
    × (whole_bytes base (text ++ piece) ≡ whole_bytes base text)

-- If a piece completes one group and leaves no byte after it, the group is checked, and decoded if
-- it is valid.
abbrev pub ReadsGroup : Type 0
ReadsGroup =
    (base : Base) → IsSpecified base → (text piece : List ℕ) (len : ℕ)
    (held group : List Positioned) (ended : Bool) → HasRead base text len None held ended
    → held_with base len held piece ≡ group → length group ≡ group_symbols base.width
    → HasRead base (text ++ piece) (len + length piece) (fault_after ended base group) []
    (is_final base group)
    × (whole_bytes base (text ++ piece)
    ≡ whole_bytes base text ++ bytes_unless (fault_after ended base group) base group)

-- After a fault only the length changes.
abbrev pub KeepsFault : Type 0
KeepsFault =
    (base : Base) → IsSpecified base → (text piece : List ℕ) (len : ℕ) (error : DecodeError)
    (held other : List Positioned) (ended end : Bool)
    → HasRead base text len (Some error) held ended
    → HasRead base (text ++ piece) (len + length piece) (Some error) other end
    × (whole_bytes base (text ++ piece) ≡ whole_bytes base text)

-- Decoded bytes stay. More may be appended.
abbrev pub KeepsBytes : Type 0
KeepsBytes =
    (base : Base) → IsSpecified base → (text piece : List ℕ)
    → (more : List ℕ) × (whole_bytes base (text ++ piece) ≡ whole_bytes base text ++ more)

-- The fault of a text is the fault of its length, or else of its whole groups, or else of the held
-- bytes.
abbrev pub TellsFault : Type 0
TellsFault =
    (base : Base) → IsSpecified base → (text : List ℕ) (len : ℕ) (fault : Option DecodeError)
    (held : List Positioned) (ended : Bool) → HasRead base text len fault held ended
    → fault_of base text
    ≡ or_else (length_fault base len) (or_else fault (held_fault ended base held))

-- The bytes of a text are the bytes of its whole groups, followed by the bytes of the held group
-- unless there is a fault.
abbrev pub TellsBytes : Type 0
TellsBytes =
    (base : Base) → IsSpecified base → (text : List ℕ) (len : ℕ) (fault : Option DecodeError)
    (held : List Positioned) (ended : Bool) → HasRead base text len fault held ended
    → sound_bytes base text
    ≡ whole_bytes base text ++ bytes_unless (or_else fault (held_fault ended base held)) base held

-- The fault of a group that is read as a text, at the position of the group's byte.
abbrev pub fault_in : List Positioned → Option DecodeError → Option DecodeError
fault_in group None = None
fault_in group (Some fault) = fault_at fault.kind group fault.position

-- A group in which no byte is ignored has the fault that its bytes have as a text. If it has none,
-- it has the bytes of that text.
abbrev pub JudgesGroup : Type 0
JudgesGroup =
    (base : Base) → IsSpecified base → (group : List Positioned)
    → All (λ k. is_ignored (meaning base k.byte) ≡ false) group
    → 0 < length group → length group ≤ group_symbols base.width
    → (fault_after false base group ≡ fault_in group (fault_of base (bytes_in group)))
    × (fault_of base (bytes_in group) ≡ None
    → bytes_of_group base group ≡ sound_bytes base (bytes_in group))

-- If whole groups, none of them final, are followed by a piece of whole groups that means data, the
-- data is appended.
abbrev pub ReadsSound : Type 0
ReadsSound =
    (base : Base) → IsSpecified base → (text piece bytes : List ℕ) (len : ℕ)
    → HasRead base text len None [] false → Means base piece bytes
    → length (kept base piece) % group_symbols base.width ≡ 0
    → HasRead base (text ++ piece) (len + length piece) None []
    (list_any (is_final base) (groups base piece))
    × (whole_bytes base (text ++ piece) ≡ whole_bytes base text ++ bytes)

-- A fault of this kind, in a piece of length `len`, belongs to a whole group. The fault is not
-- `Length`, and texts may be concatenated. Either nothing is ignored and the length is whole
-- groups, or fewer symbols than a group has mean no byte.
pub record IsOfWholeGroup (base : Base) (len : ℕ) (kind : DecodeKind) : Type 0 where
  pub not_length : is_length_fault kind ≡ false
  pub joins : base.concatenates ≡ true
  pub whole : ((ignores_some base ≡ false) × (len % group_symbols base.width ≡ 0))
      ⊎ (most_bytes base (group_symbols base.width - 1) ≡ 0)

-- If whole groups, none of them final, are followed by a piece with a fault of a whole group, the
-- fault is kept, with the length of the text before added to its position. The data before the
-- fault is appended.
abbrev pub ReadsFaulty : Type 0
ReadsFaulty =
    (base : Base) → IsSpecified base → (text piece bytes : List ℕ) (len : ℕ)
    (partial : DecodePartial) → HasRead base text len None [] false
    → partial_of base piece ≡ Some partial
    → IsOfWholeGroup base (length piece) partial.error.kind
    → Means base (take partial.read piece) bytes
    → HasRead base (text ++ piece) (len + length piece) (shifted len (Some partial.error)) [] false
    × (whole_bytes base (text ++ piece) ≡ whole_bytes base text ++ bytes)

-- A text that means data is whole groups if it is padded, if eight bits are whole symbols, or if
-- nothing is ignored and its length is a multiple of `group_symbols`.
abbrev pub AreWhole : Type 0
AreWhole =
    (base : Base) → IsSpecified base → (piece bytes : List ℕ) → Means base piece bytes
    → (is_padded base ≡ true) ⊎ (8 % base.width ≡ 0)
    ⊎ ((ignores_some base ≡ false) × (length piece % group_symbols base.width ≡ 0))
    → length (kept base piece) % group_symbols base.width ≡ 0

-- Texts without padding may always be concatenated.
abbrev pub JoinsUnpadded : Type 0
JoinsUnpadded =
    (base : Base) → IsSpecified base → base.padding ≡ None → base.concatenates ≡ true

-- If texts may be concatenated, no group is final.
abbrev pub EndsNowhere : Type 0
EndsNowhere =
    (base : Base) → base.concatenates ≡ true → (parts : List (List Positioned))
    → list_any (is_final base) parts ≡ false

-- A text that means data has a final group if and only if texts may not be concatenated and the
-- data is not whole groups of bytes.
abbrev pub TellsEnd : Type 0
TellsEnd =
    (base : Base) → IsSpecified base → (text bytes : List ℕ) → Means base text bytes
    → list_any (is_final base) (groups base text)
    ≡ (not base.concatenates && not (length bytes % group_bytes base.width == 0))

-- A text that means whole groups of bytes is whole groups.
abbrev pub MeansWhole : Type 0
MeansWhole =
    (base : Base) → IsSpecified base → (text bytes : List ℕ) → Means base text bytes
    → length bytes % group_bytes base.width ≡ 0
    → length (kept base text) % group_symbols base.width ≡ 0

-- For a text of `count` groups of symbols, `decoded_len` is `count` groups of bytes.
abbrev pub CountsGroups : Type 0
CountsGroups =
    (base : Base) → IsSpecified base → (count : ℕ)
    → decoded_len base (count * group_symbols base.width) ≡ Ok (count * group_bytes base.width)

-- A text means at most as many bytes as it has.
abbrev pub IsNoLonger : Type 0
IsNoLonger = (base : Base) → IsSpecified base → (len : ℕ) → most_bytes base len ≤ len

-- If nothing is ignored, each byte of a text is kept.
abbrev pub KeepsEach : Type 0
KeepsEach =
    (base : Base) → ignores_some base ≡ false
    → ((byte : ℕ) → is_ignored (meaning base byte) ≡ false)
    × ((text : List ℕ) → kept base text ≡ positioned text)
