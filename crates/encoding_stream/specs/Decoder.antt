-- The view of a `Decoder` in contracts.
use Rattle.std.specs.Prelude.{◌≡◌, ℕ, List, ◌++◌, Result}
use Rattle.data_encoding.specs.declared.error.DecodeError.{DecodeError}
use Rattle.data_encoding.specs.Base.{Base}
use Rattle.data_encoding.specs.Fault.{sound_bytes}
use Rattle.data_encoding.specs.Pieces.{whole_bytes, HasDecoded}
use Rattle.encoding_stream.specs.declared.decoder.Decoder.{Decoder}
use Rattle.encoding_stream.specs.Appending.{AppendsDecoded}
use Rattle.encoding_stream.specs.BufferDecoder.{base_of_pieces, Keeps}
use Rattle.encoding_stream.specs.Reading.{HasVerdict}

-- The encoding of a decoder.
abbrev pub base_of_decoder : Decoder → Base
base_of_decoder decoder = base_of_pieces decoder.pieces

-- The number of bytes that were pushed.
abbrev pub decoder_len : Decoder → ℕ
decoder_len decoder = decoder.pieces.kept.len

-- The decoder was pushed `text`. It keeps the length of the text and the first fault of its whole
-- groups. If they have none, it keeps the bytes after them with their positions, and whether a
-- group was final.
abbrev pub HasConsumed : Decoder → List ℕ → Type 0
HasConsumed decoder text = Keeps (base_of_decoder decoder) decoder.pieces.kept text

-- If the decoder was pushed a text, `verdict` is the verdict on the text.
abbrev pub FinishesWith : Decoder → Result (Unit {0}) DecodeError → Type 0
FinishesWith decoder verdict = HasVerdict (base_of_decoder decoder) decoder.pieces.kept verdict

-- `piece` was pushed, and the bytes of the groups that it completed were appended to the output.
pub record AppendsPushed (decoder : Decoder) (piece output_old output_new : List ℕ) : Type 0 where
  -- For any output.
  pub bytes : (text : List ℕ) → HasConsumed decoder text
      → AppendsDecoded (whole_bytes (base_of_decoder decoder) text)
      (whole_bytes (base_of_decoder decoder) (text ++ piece)) output_old output_new
  -- For an output that ends with the bytes of the groups before.
  pub decoded : (before text : List ℕ) → HasConsumed decoder text
      → HasDecoded (base_of_decoder decoder) before text output_old
      → HasDecoded (base_of_decoder decoder) before (text ++ piece) output_new

-- The text was ended, and the bytes of its last group were appended to the output.
pub record AppendsFinished (decoder : Decoder) (output_old output_new : List ℕ) : Type 0 where
  -- For any output.
  pub bytes : (text : List ℕ) → HasConsumed decoder text
      → AppendsDecoded (whole_bytes (base_of_decoder decoder) text)
      (sound_bytes (base_of_decoder decoder) text) output_old output_new
  -- For an output that ends with the bytes of the groups before.
  pub decoded : (before text : List ℕ) → HasConsumed decoder text
      → HasDecoded (base_of_decoder decoder) before text output_old
      → output_new ≡ before ++ sound_bytes (base_of_decoder decoder) text
