-- Data that is encoded piece by piece into buffers.
use Rattle.std.specs.Prelude.{◌≡◌, ℕ, List, [], ◌++◌}
use Rattle.data_encoding.specs.Base.{Base}
use Rattle.data_encoding.specs.EncodedPieces.{HasEncoded}
use Rattle.data_encoding.specs.KeptData.{held_data}
use Rattle.data_encoding.specs.Lent.{base_of_lent}
use Rattle.data_encoding.specs.Text.{text_of}
use Rattle.data_encoding.specs.declared.encode.kept_data.KeptData.{KeptData}
use Rattle.encoding_stream.specs.declared.buffer_encoder.BufferEncoder.{BufferEncoder}

-- The encoding of an encoder.
abbrev pub base_of_blocks : BufferEncoder → Base
base_of_blocks encoder = base_of_lent encoder.encoding

-- The state of an encoder.
abbrev pub data_kept : BufferEncoder → KeptData
data_kept encoder = encoder.kept

-- `kept` is the state after `bytes`: the text of all bytes except the held ones was written, and is
-- `text`.
abbrev pub HasWritten : Base → KeptData → List ℕ → List ℕ → Type 0
HasWritten base kept bytes text = HasEncoded base [] bytes text (held_data kept)

-- If `old` is the state after some data, `new` is the state after the data followed by `piece`, and
-- `text` is the text that is written for `piece`.
abbrev pub EncodesOn : Base → KeptData → KeptData → List ℕ → List ℕ → Type 0
EncodesOn base old new piece text =
    (bytes before : List ℕ) → HasWritten base old bytes before
    → HasWritten base new (bytes ++ piece) (before ++ text)

-- If `kept` is the state after some data, `last` ends the text of the data.
abbrev pub EndsBlocks : Base → KeptData → List ℕ → Type 0
EndsBlocks base kept last =
    (bytes text : List ℕ) → HasWritten base kept bytes text
    → text_of base bytes ≡ text ++ last
