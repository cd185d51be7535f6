-- The states that a decoder may have.
use Rattle.std.specs.Prelude.{◌≡◌, ℕ, ◌+◌, ◌<◌, ◌≤◌, Bool, true, false, List, [], ◌∷◌, length, take, All, None, IfSome, IsSome}
use Rattle.data_encoding.specs.declared.decode.TheConstants.{DECODE_LIMIT}
use Rattle.data_encoding.specs.declared.error.DecodeKind.{DecodeKind}
use Rattle.data_encoding.specs.declared.error.DecodeKind.TheVariants.{Length, Symbol, Trailing, Padding}
use Rattle.data_encoding.specs.Base.{Base, group_symbols, is_ignored, is_padded, meaning}
use Rattle.encoding_stream.specs.declared.buffer_decoder.Kept.{Kept}
use Rattle.encoding_stream.specs.BufferDecoder.{Keeps}

-- The positions ascend, are at least `start`, and are less than `end`.
abbrev pub Ascend : ℕ → ℕ → List ℕ → Type 0
Ascend start end [] = Unit {0}
Ascend start end (p ∷ ps) = (start ≤ p) × (p < end) × Ascend (p + 1) end ps

-- The positions of the held bytes.
abbrev pub held_positions : Kept → List ℕ
held_positions kept = take kept.count kept.positions

-- The held bytes, without their positions.
abbrev pub held_bytes : Kept → List ℕ
held_bytes kept = take kept.count kept.bytes

-- None of the held bytes is ignored.
abbrev pub HoldsNoIgnored : Base → Kept → Type 0
HoldsNoIgnored base kept = All (λ byte. is_ignored (meaning base byte) ≡ false) (held_bytes kept)

-- `true` if a whole group may have a fault of the given kind: never of its length, of trailing bits
-- only if they are checked, and of padding only if texts are padded.
abbrev pub is_of_group : Base → DecodeKind → Bool
is_of_group base Length = false
is_of_group base Symbol = true
is_of_group base Trailing = base.checks_trailing_bits
is_of_group base Padding = is_padded base

-- There is a fault in the text, and no byte is held. Or the fault is `None`, and a group was final
-- only if texts may not be concatenated.
pub record HasPossibleFault (base : Base) (kept : Kept) : Type 0 where
  pub clear : IsSome kept.fault → kept.count ≡ 0
  pub inside : IfSome kept.fault (λ error. error.position < kept.len)
  pub kind : IfSome kept.fault (λ error. is_of_group base error.kind ≡ true)
  pub ends : kept.fault ≡ None → kept.ended ≡ true → base.concatenates ≡ false

-- The state passes each check of a state that a caller passes back. Less than a group is held, at
-- ascending positions in the text. No held byte is ignored. The fault is possible.
pub record MayBeKept (base : Base) (kept : Kept) : Type 0 where
  pub limit : kept.len ≤ DECODE_LIMIT
  pub short : kept.count < group_symbols base.width
  pub in_order : Ascend 0 kept.len (held_positions kept)
  pub none_ignored : HoldsNoIgnored base kept
  pub fault : HasPossibleFault base kept

-- `kept` is the state after a text within the limit, and no byte is held after a fault.
pub record IsKept (base : Base) (kept : Kept) : Type 0 where
  pub text : List ℕ
  pub keeps : Keeps base kept text
  pub limit : length text ≤ DECODE_LIMIT
  pub clear : IsSome kept.fault → kept.count ≡ 0
