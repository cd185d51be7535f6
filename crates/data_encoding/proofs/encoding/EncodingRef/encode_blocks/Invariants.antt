use Rattle.data_encoding_meaning.specs.text.Text.{text_of}
use Rattle.data_encoding_meaning.proofs.lists.PieceLemmas.{WritesPieces}
use Rattle.data_encoding.proofs.encoding.EncodingRef.encode_blocks.Given as goal

abbrev pub invariant-loop-index : goal.invariant-loop-index
invariant-loop-index l =
    WritesPieces (text_of l.self) l.block_bytes l.block_len l.input l.output l.index
