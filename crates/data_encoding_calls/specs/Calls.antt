-- The results and the effects of calls.
use Rattle.std.specs.Prelude.{◌≡◌, ◌↔◌, ◌⊎◌, ℕ, ◌<◌, ◌≤◌, nat_lt, Bool, List, ◌++◌, length, take, drop, if◌then◌else◌, Option, Some, None, Result, Ok, Err, IsTrue}
use Rattle.data_encoding.specs.declared.error.DecodeError.{DecodeError}
use Rattle.data_encoding.specs.declared.error.DecodePartial.{DecodePartial}
use Rattle.data_encoding.specs.Base.{Base}
use Rattle.data_encoding.specs.Canonical.{IsCanonical}
use Rattle.data_encoding.specs.Fault.{fault_of, sound_bytes}
use Rattle.data_encoding.specs.Grammar.{Means}
use Rattle.data_encoding.specs.Lengths.{decoded_len}
use Rattle.data_encoding.specs.Named.{IsNumbered, fields_numbered}
use Rattle.data_encoding.specs.Partial.{partial_of}
use Rattle.data_encoding.specs.Text.{text_of}
use Rattle.data_encoding_calls.specs.declared.convert.Decoded.{Decoded}
use Rattle.data_encoding_calls.specs.Status.{ok, unknown_encoding, too_long, short_buffer, status_of_kind}

-- The output `old` with its start replaced by `bytes`.
abbrev pub over : List ℕ → List ℕ → List ℕ
over bytes old = bytes ++ drop (length bytes) old

-- The status of writing `bytes` to an output of `room` bytes.
abbrev pub front_status : List ℕ → ℕ → ℕ
front_status bytes room = if nat_lt room (length bytes) then short_buffer else ok

-- The status of `len` bytes of data.
abbrev pub encode_len_status : ℕ → ℕ
encode_len_status len = if nat_lt 36028797018963967 len then too_long else ok

-- The status of encoding to an output of `room` bytes.
abbrev pub encode_status : Base → List ℕ → ℕ → ℕ
encode_status base bytes room =
    if nat_lt 36028797018963967 (length bytes) then too_long
    else if nat_lt room (length (text_of base bytes)) then short_buffer
    else ok

-- The status of the length of a text: success, or the status of its fault.
abbrev pub status_of_len : Result ℕ DecodeError → ℕ
status_of_len (Ok most) = ok
status_of_len (Err error) = status_of_kind error.kind

-- The status of a text of `len` bytes, within the limit or not.
abbrev pub decode_len_status : Base → ℕ → ℕ
decode_len_status base len =
    if nat_lt 2305843009213693951 len then too_long else status_of_len (decoded_len base len)

-- The status of a text with the given fault or none, from the length of its data and the room for
-- it.
abbrev pub status_by_room : Option DecodeError → ℕ → ℕ → ℕ
status_by_room (Some error) len room = status_of_kind error.kind
status_by_room None len room = if nat_lt room len then short_buffer else ok

-- The status of decoding to an output of `room` bytes. The data of a valid text is its sound bytes.
abbrev pub decode_status : Base → List ℕ → ℕ → ℕ
decode_status base text room =
    if nat_lt 2305843009213693951 (length text) then too_long
    else status_by_room (fault_of base text) (length (sound_bytes base text)) room

-- The decoding stopped at a fault, and the bytes that were read mean the bytes that were written.
pub record StopsAtFault (base : Base) (text output : List ℕ) (partial : DecodePartial)
    (decoded : Decoded) : Type 0 where
  pub read : decoded.read ≡ partial.read
  pub written : decoded.written ≡ partial.written
  pub position : decoded.position ≡ partial.error.position
  pub means : Means base (take decoded.read text) (take decoded.written output)

-- The call wrote `bytes` to the start of the output, or failed and changed nothing.
pub record WritesFront (bytes output_old output_new : List ℕ)
    (written_old written_new answer : ℕ) : Type 0 where
  pub status : answer ≡ front_status bytes (length output_old)
  pub front : answer ≡ ok → output_new ≡ over bytes output_old
  pub written : answer ≡ ok → written_new ≡ length bytes
  pub refused : (answer ≡ ok → ⊥) → (output_new ≡ output_old) × (written_new ≡ written_old)

-- The call wrote the length of the text of `len` bytes, or failed and changed nothing.
pub record TellsTextLength (base : Base) (len old new answer : ℕ) : Type 0 where
  pub status : answer ≡ encode_len_status len
  pub text_length : answer ≡ ok → (bytes : List ℕ) → length bytes ≡ len
      → length (text_of base bytes) ≡ new
  pub refused : (answer ≡ ok → ⊥) → new ≡ old

-- The call wrote the text to the start of the output, or failed and changed nothing.
pub record Encodes (base : Base) (bytes output_old output_new : List ℕ)
    (written_old written_new answer : ℕ) : Type 0 where
  pub status : answer ≡ encode_status base bytes (length output_old)
  pub text : answer ≡ ok → output_new ≡ over (text_of base bytes) output_old
  pub written : answer ≡ ok → written_new ≡ length (text_of base bytes)
  pub refused : (answer ≡ ok → ⊥) → (output_new ≡ output_old) × (written_new ≡ written_old)

-- The call wrote the greatest number of bytes that a text of `len` bytes may mean, or the position
-- of the fault of that length, or failed and changed nothing.
pub record TellsMost (base : Base) (len old new answer : ℕ) : Type 0 where
  pub status : answer ≡ decode_len_status base len
  pub value : answer ≡ ok → decoded_len base len ≡ Ok new
  pub fault : (error : DecodeError) → decoded_len base len ≡ Err error
      → (answer ≡ too_long → ⊥) → new ≡ error.position
  pub refused : answer ≡ too_long → new ≡ old

-- The call wrote the data of the text to the start of the output, or stopped at the fault of the
-- text, or wrote the length of data that does not fit, or failed and changed nothing. If the output
-- has fewer bytes than a text of this length may mean, its bytes are unspecified after a fault.
pub record Decodes (base : Base) (text output_old output_new : List ℕ)
    (decoded_old decoded_new : Decoded) (answer : ℕ) : Type 0 where
  pub status : answer ≡ decode_status base text (length output_old)
  pub means : answer ≡ ok → Means base text (take decoded_new.written output_new)
  pub all : answer ≡ ok → decoded_new.read ≡ length text
  pub end : answer ≡ ok → decoded_new.position ≡ length text
  pub refused : answer ≡ too_long → (output_new ≡ output_old) × (decoded_new ≡ decoded_old)
  pub needed : answer ≡ short_buffer
      → decoded_new
      ≡ record { read = 0; written = length (sound_bytes base text); position = 0 }
  pub by_length : (error : DecodeError) → (answer ≡ too_long → ⊥)
      → decoded_len base (length text) ≡ Err error
      → (output_new ≡ output_old)
      × (decoded_new ≡ record { read = 0; written = 0; position = error.position })
  pub fault : (partial : DecodePartial) (most : ℕ) → (answer ≡ too_long → ⊥)
      → decoded_len base (length text) ≡ Ok most → most ≤ length output_old
      → partial_of base text ≡ Some partial
      → StopsAtFault base text output_new partial decoded_new
  pub short_fault : (error : DecodeError) (most : ℕ) → (answer ≡ too_long → ⊥)
      → decoded_len base (length text) ≡ Ok most → length output_old < most
      → fault_of base text ≡ Some error
      → decoded_new ≡ record { read = 0; written = 0; position = error.position }
  pub within : (answer ≡ short_buffer → ⊥)
      → (decoded_new ≡ decoded_old) ⊎ (decoded_new.written ≤ length output_new)
  pub after : (most : ℕ) → decoded_len base (length text) ≡ Ok most
      → drop most output_new ≡ drop most output_old

-- The call wrote `true` if the encoding is canonical, and `false` otherwise.
pub record TellsIfCanonical (base : Base) (canonical : Bool) (answer : ℕ) : Type 0 where
  pub status : answer ≡ ok
  pub is_canonical : IsTrue canonical ↔ IsCanonical base

-- The call does the same as a call with the encoding of the given number. If there is none, it
-- fails and changes nothing.
pub record ByNumber (number answer : ℕ) (Unchanged : Type 0) (Does : Base → Type 0) : Type 0 where
  pub known : (base : Base) → IsNumbered number base → Does base
  pub unknown : fields_numbered number ≡ None → (answer ≡ unknown_encoding) × Unchanged
