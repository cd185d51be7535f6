-- Data in pieces: the effect of calls on the state that a caller keeps.
use Rattle.std.specs.Prelude.{◌≡◌, ℕ, nat_lt, List, ◌++◌, length, if◌then◌else◌}
use Rattle.data_encoding.specs.Base.{Base}
use Rattle.data_encoding.specs.Lengths.{alignment}
use Rattle.data_encoding.specs.Text.{text_of}
use Rattle.data_encoding.specs.declared.encode.kept_data.KeptData.{KeptData}
use Rattle.data_encoding.specs.KeptData.{after_blocks, held_data, piece_text}
use Rattle.encoding_stream.specs.BufferEncoder.{EncodesOn, EndsBlocks}
use Rattle.data_encoding_calls.specs.Calls.{encode_len_status, front_status, over}
use Rattle.data_encoding_calls.specs.Status.{ok, too_long, no_encoder}

-- The text of the held bytes.
abbrev pub last_text : Base → KeptData → List ℕ
last_text base kept = text_of base (held_data kept)

-- The status `status` if less than a block is held, or else the status for numbers that are not a
-- state of an encoder.
abbrev pub if_kept : Base → KeptData → ℕ → ℕ
if_kept base kept status = if nat_lt kept.count (alignment base) then status else no_encoder

-- The status of a piece, for an output of `room` bytes.
abbrev pub data_piece_status : Base → KeptData → List ℕ → ℕ → ℕ
data_piece_status base kept piece room =
    if nat_lt 36028797018963967 (length piece) then too_long
    else front_status (piece_text base kept piece) room

-- The call wrote the length of the text that `len` more bytes complete, or failed and changed
-- nothing.
pub record TellsDue (base : Base) (kept : KeptData) (len old new answer : ℕ) : Type 0 where
  pub status : answer ≡ if_kept base kept (encode_len_status len)
  pub value : answer ≡ ok → (piece : List ℕ) → length piece ≡ len
      → length (piece_text base kept piece) ≡ new
  pub refused : (answer ≡ ok → ⊥) → new ≡ old

-- The places that a call with a piece of data may change: the caller's encoder, the output, and the
-- number of bytes written.
pub record DataPlaces : Type 0 where
  pub encoder : KeptData
  pub output : List ℕ
  pub written : ℕ

-- The call read a piece of data and wrote the text of the blocks that it completed to the start of
-- the output, or failed and changed nothing.
pub record EncodesPiece (base : Base) (piece : List ℕ) (old new : DataPlaces) (answer : ℕ)
    : Type 0 where
  pub status : answer
      ≡ if_kept base old.encoder (data_piece_status base old.encoder piece (length old.output))
  pub text : answer ≡ ok → new.output ≡ over (piece_text base old.encoder piece) old.output
  pub written : answer ≡ ok → new.written ≡ length (piece_text base old.encoder piece)
  pub held : answer ≡ ok
      → held_data new.encoder ≡ after_blocks base (held_data old.encoder ++ piece)
  pub encodes : answer ≡ ok
      → EncodesOn base old.encoder new.encoder piece (piece_text base old.encoder piece)
  pub refused : (answer ≡ ok → ⊥) → new ≡ old

-- The call wrote the text of the held bytes, which ends the text of the data, to the start of the
-- output, or failed and changed nothing.
pub record FinishesData (base : Base) (kept : KeptData) (output_old output_new : List ℕ)
    (written_old written_new answer : ℕ) : Type 0 where
  pub status : answer
      ≡ if_kept base kept (front_status (last_text base kept) (length output_old))
  pub text : answer ≡ ok → output_new ≡ over (last_text base kept) output_old
  pub written : answer ≡ ok → written_new ≡ length (last_text base kept)
  pub whole : answer ≡ ok → EndsBlocks base kept (last_text base kept)
  pub refused : (answer ≡ ok → ⊥) → (output_new ≡ output_old) × (written_new ≡ written_old)
