-- Texts in pieces: the state that a caller keeps, and the effect of calls on it.
use Rattle.std.specs.Prelude.{◌≡◌, ◌⊎◌, ℕ, ◌+◌, ◌<◌, ◌==◌, ◌≤◌, nat_lt, List, ◌++◌, length, take, drop, if◌then◌else◌, Option, Some, None, IsSome}
use Rattle.data_encoding.specs.declared.error.DecodeError.{DecodeError}
use Rattle.data_encoding.specs.declared.error.DecodeKind.{DecodeKind}
use Rattle.data_encoding.specs.declared.error.DecodeKind.TheVariants.{Length, Symbol, Trailing, Padding}
use Rattle.data_encoding.specs.Base.{Base}
use Rattle.data_encoding.specs.Fault.{fault_of, sound_bytes}
use Rattle.data_encoding.specs.Pieces.{whole_bytes}
use Rattle.encoding_stream.specs.declared.buffer_decoder.Kept.{Kept}
use Rattle.encoding_stream.specs.BufferDecoder.{most_completed, Keeps}
use Rattle.encoding_stream.specs.Resume.{MayBeKept}
use Rattle.data_encoding_calls.specs.declared.convert.Decoded.{Decoded}
use Rattle.data_encoding_calls.specs.declared.decoder_state.PlainKept.{PlainKept}
use Rattle.data_encoding_calls.specs.Status.{ok, too_long, short_buffer, no_decoder, status_of_fault}

-- The kind of fault with the given status, if there is one.
abbrev pub kind_told : ℕ → Option DecodeKind
kind_told status =
    if status == 6 then Some Length
    else if status == 7 then Some Symbol
    else if status == 8 then Some Trailing
    else if status == 9 then Some Padding
    else None

-- The fault of the given kind and position, if the kind is known.
abbrev pub fault_at_position : ℕ → Option DecodeKind → Option (Option DecodeError)
fault_at_position position None = None
fault_at_position position (Some kind) = Some (Some (record { position = position; kind = kind }))

-- The fault that a status and a position mean, or `Some None` for no fault. It is `None` if the
-- status is neither 0 nor the status of a fault.
abbrev pub fault_told : ℕ → ℕ → Option (Option DecodeError)
fault_told status position =
    if status == 0 then Some None else fault_at_position position (kind_told status)

-- The state that the plain numbers mean, with the given fault.
abbrev pub kept_with : PlainKept → Option (Option DecodeError) → Option Kept
kept_with plain None = None
kept_with plain (Some fault) = Some (record {
  len = plain.len;
  fault = fault;
  positions = plain.positions;
  bytes = plain.bytes;
  count = plain.count;
  ended = plain.ended == 1;
})

-- The state that the plain numbers mean, if their status is valid.
abbrev pub kept_told : PlainKept → Option Kept
kept_told plain = kept_with plain (fault_told plain.fault plain.fault_position)

-- The caller's numbers pass the checks of a state of a decoder.
pub record MayBeGiven (base : Base) (plain : PlainKept) : Type 0 where
  pub kept : Kept
  pub told : kept_told plain ≡ Some kept
  pub passes : MayBeKept base kept

-- The caller's decoder was given `text`.
pub record WasGiven (base : Base) (plain : PlainKept) (text : List ℕ) : Type 0 where
  pub kept : Kept
  pub told : kept_told plain ≡ Some kept
  pub keeps : Keeps base kept text
  pub limit : length text ≤ 2305843009213693951
  pub clear : IsSome kept.fault → kept.count ≡ 0

-- The status of `len` more bytes.
abbrev pub length_status : Kept → ℕ → ℕ
length_status kept len = if nat_lt 2305843009213693951 (kept.len + len) then too_long else ok

-- The status of a piece of `len` bytes, for an output of `room` bytes.
abbrev pub text_piece_status : Base → Kept → ℕ → ℕ → ℕ
text_piece_status base kept len room =
    if nat_lt 2305843009213693951 (kept.len + len) then too_long
    else if nat_lt room (most_completed base kept len) then short_buffer
    else ok

-- The call wrote the greatest number of bytes that `len` more bytes of the text may complete, or
-- failed and changed nothing.
pub record TellsRoom (base : Base) (plain : PlainKept) (len old new answer : ℕ) : Type 0 where
  pub status : (text : List ℕ) (stands : WasGiven base plain text)
      → answer ≡ length_status stands.kept len
  pub value : answer ≡ ok → (text : List ℕ) (stands : WasGiven base plain text)
      → new ≡ most_completed base stands.kept len
  pub refused : (answer ≡ ok → ⊥) → new ≡ old

-- The places that a call with a piece may change: the caller's decoder, the output, and the number
-- of bytes written.
pub record Places : Type 0 where
  pub decoder : PlainKept
  pub output : List ℕ
  pub written : ℕ

-- The call read a piece and wrote the bytes of the groups that it completed to the start of the
-- output, or failed and changed nothing.
pub record ReadsPiece (base : Base) (piece : List ℕ) (old new : Places) (answer : ℕ) : Type 0 where
  pub status : (text : List ℕ) (stands : WasGiven base old.decoder text)
      → answer ≡ text_piece_status base stands.kept (length piece) (length old.output)
  pub stands : answer ≡ ok → (text : List ℕ) → WasGiven base old.decoder text
      → WasGiven base new.decoder (text ++ piece)
  pub decodes : answer ≡ ok → (text : List ℕ) → WasGiven base old.decoder text
      → whole_bytes base (text ++ piece) ≡ whole_bytes base text ++ take new.written new.output
  pub within : answer ≡ ok → new.written ≤ length new.output
  pub after : answer ≡ ok → (text : List ℕ) (stands : WasGiven base old.decoder text)
      → drop (most_completed base stands.kept (length piece)) new.output
      ≡ drop (most_completed base stands.kept (length piece)) old.output
  pub len : length new.output ≡ length old.output
  pub refused : (answer ≡ ok → ⊥) → new ≡ old

-- The call wrote the bytes of the last group to the start of the output and returned the status of
-- the text, or failed and changed nothing.
pub record FinishesText (base : Base) (plain : PlainKept) (output_old output_new : List ℕ)
    (decoded_old decoded_new : Decoded) (answer : ℕ) : Type 0 where
  pub verdict : (answer ≡ short_buffer → ⊥) → (text : List ℕ) → WasGiven base plain text
      → answer ≡ status_of_fault (fault_of base text)
  pub bytes : (answer ≡ short_buffer → ⊥) → (text : List ℕ) → WasGiven base plain text
      → sound_bytes base text
      ≡ whole_bytes base text ++ take decoded_new.written output_new
  pub position : (answer ≡ short_buffer → ⊥) → (text : List ℕ) (error : DecodeError)
      → WasGiven base plain text → fault_of base text ≡ Some error
      → decoded_new.position ≡ error.position
  pub read : (answer ≡ short_buffer → ⊥) → (text : List ℕ) → WasGiven base plain text
      → decoded_new.read ≡ length text
  pub end : answer ≡ ok → decoded_new.position ≡ decoded_new.read
  pub given : (answer ≡ no_decoder → ⊥) → MayBeGiven base plain
  pub counted : (answer ≡ no_decoder → ⊥) → (answer ≡ short_buffer → ⊥)
      → decoded_new.read ≡ plain.len
  pub inside : (answer ≡ no_decoder → ⊥) → (answer ≡ short_buffer → ⊥) → (answer ≡ ok → ⊥)
      → decoded_new.position < decoded_new.read
  pub within : (answer ≡ short_buffer → ⊥) → (text : List ℕ) → WasGiven base plain text
      → decoded_new.written ≤ length output_new
  pub after : drop decoded_new.written output_new ≡ drop decoded_new.written output_old
  pub len : length output_new ≡ length output_old
  pub short : answer ≡ short_buffer → length output_old < 5
  pub refused : (answer ≡ no_decoder) ⊎ (answer ≡ short_buffer)
      → (output_new ≡ output_old) × (decoded_new ≡ decoded_old)
