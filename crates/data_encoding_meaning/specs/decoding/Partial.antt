-- The progress of a decoding that stops at a fault.
use Rattle.std.specs.Prelude.{◌≡◌, ◌<◌, ◌≤◌, ℕ, ◌+◌, Bool, false, true, ◌&&◌, if◌then◌else◌, List, [], map, length, take, drop, reverse, Option, Some, None, is_none, ◌∷◌}
use Rattle.std.specs.List.{flat_map}
use Rattle.data_encoding_meaning.specs.declared.encoding.Character.TheVariants.{Invalid}
use Rattle.data_encoding_meaning.specs.declared.error.DecodeKind.{DecodeKind}
use Rattle.data_encoding_meaning.specs.declared.error.DecodeKind.TheVariants.{Length as LengthFault}
use Rattle.data_encoding_meaning.specs.declared.error.DecodeError.{DecodeError}
use Rattle.data_encoding_meaning.specs.declared.error.DecodePartial.{DecodePartial}
use Rattle.data_encoding_meaning.specs.text.Base.{Base, is_ignored}
use Rattle.data_encoding_meaning.specs.text.Grammar.{Positioned, Means, groups}
use Rattle.data_encoding_meaning.specs.text.Lengths.{greatest_valid_length}
use Rattle.data_encoding_meaning.specs.decoding.Fault.{fault_of, sound_groups, sound_bytes}

-- The position after the first of the bytes, or 0 if there are none.
abbrev pub position_after_first : List Positioned → ℕ
position_after_first [] = 0
position_after_first (k ∷ ks) = k.position + 1

-- The position after the last of the bytes, or 0 if there are none.
abbrev pub position_after : List Positioned → ℕ
position_after characters = position_after_first (reverse characters)

-- The position after the last group before the faulty one.
abbrev pub sound_len : Base → List ℕ → ℕ
sound_len base text =
    position_after (flat_map (λ group. group) (sound_groups base (groups base text)))

-- The base in which each ignored byte is invalid.
abbrev pub ignoring_nothing : Base → Base
ignoring_nothing base =
    record base { meanings = map (λ m. if is_ignored m then Invalid else m) base.meanings }

-- `true` if the longest prefix of valid length is valid, where ignored bytes count as invalid.
abbrev pub is_sound_run : Base → List ℕ → Bool
is_sound_run base bytes =
    is_none (fault_of (ignoring_nothing base)
    (take (greatest_valid_length base (length bytes)) bytes))

-- `true` if the fault is `Length`.
abbrev pub is_length_fault : DecodeKind → Bool
is_length_fault LengthFault = true
is_length_fault _ = false

-- The number of bytes read of a text with the given fault: those before the faulty group. After a
-- `Length` fault a last run without a fault is read too.
abbrev pub read_len : Base → List ℕ → DecodeError → ℕ
read_len base text error =
    if is_length_fault error.kind && is_sound_run base (drop (sound_len base text) text)
    then error.position else sound_len base text

-- The numbers of bytes read and written of a text with the given fault.
abbrev pub partial_at : Base → List ℕ → DecodeError → DecodePartial
partial_at base text error =
    record {
      read = read_len base text error;
      written = length (sound_bytes base (take (read_len base text error) text));
      error = error;
    }

-- The numbers of bytes read and written of a text, if it has a fault.
abbrev pub partial_by : Base → List ℕ → Option DecodeError → Option DecodePartial
partial_by base text None = None
partial_by base text (Some error) = Some (partial_at base text error)

-- The numbers of bytes read and written of `text`, if it has a fault.
abbrev pub partial_of : Base → List ℕ → Option DecodePartial
partial_of base text = partial_by base text (fault_of base text)

-- A decoding of `text` stopped as `partial` states. The bytes that were read mean the bytes that
-- were written.
pub record StopsAt (base : Base) (text output : List ℕ) (partial : DecodePartial) : Type 0 where
  pub is_partial : partial_of base text ≡ Some partial
  pub means : Means base (take partial.read text) (take partial.written output)
  pub read_before : partial.read ≤ partial.error.position
  pub within : partial.error.position < length text
