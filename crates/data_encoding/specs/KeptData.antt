-- Data that is encoded piece by piece: the state between pieces, and the text of whole blocks.
use Rattle.std.specs.Prelude.{◌≡◌, ℕ, ◌+◌, ◌-◌, ◌*◌, ◌/◌, ◌%◌, ◌<◌, ◌≤◌, List, ◌++◌, length, take, drop}
use Rattle.data_encoding.specs.declared.encode.kept_data.DueLen.{DueLen}
use Rattle.data_encoding.specs.declared.encode.kept_data.KeptData.{KeptData}
use Rattle.data_encoding_meaning.specs.specification.Fields.{IsSpecified}
use Rattle.data_encoding_meaning.specs.text.Base.{Base}
use Rattle.data_encoding_meaning.specs.text.Lengths.{alignment}
use Rattle.data_encoding_meaning.specs.text.Text.{text_of}

-- The held bytes of the unfinished block.
abbrev pub held_data : KeptData → List ℕ
held_data kept = take kept.count kept.bytes

-- The length of the whole blocks of `len` bytes.
abbrev pub blocks_len : Base → ℕ → ℕ
blocks_len base len = len / alignment base * alignment base

-- The text of the whole blocks of `bytes`.
abbrev pub text_of_blocks : Base → List ℕ → List ℕ
text_of_blocks base bytes = text_of base (take (blocks_len base (length bytes)) bytes)

-- The text that is written for `piece`, after the bytes that `kept` holds.
abbrev pub piece_text : Base → KeptData → List ℕ → List ℕ
piece_text base kept piece = text_of_blocks base (held_data kept ++ piece)

-- The bytes after the whole blocks of `bytes`.
abbrev pub after_blocks : Base → List ℕ → List ℕ
after_blocks base bytes = drop (blocks_len base (length bytes)) bytes

-- `due` has the lengths for `len` more bytes: of the text of all blocks that they complete, of the
-- text of one block, and of the blocks after the first. The latter two matter only if a block is
-- completed.
pub record IsDue (encoding : Base) (kept : KeptData) (len : ℕ) (due : DueLen) : Type 0 where
  pub total : (piece : List ℕ) → length piece ≡ len
      → length (piece_text encoding kept piece) ≡ due.total
  pub block : alignment encoding ≤ kept.count + len → (bytes : List ℕ)
      → length bytes ≡ alignment encoding → length (text_of encoding bytes) ≡ due.block
  pub whole : (rest : ℕ) → kept.count + len ≡ alignment encoding + rest
      → due.whole ≡ rest - rest % alignment encoding
  pub none : kept.count + len < alignment encoding → due.total ≡ 0
  pub base : IsSpecified encoding
