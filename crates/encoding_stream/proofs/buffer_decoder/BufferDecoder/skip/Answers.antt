use Rattle.std.proofs.Common.{rules}
use Rattle.encoding_stream.specs.BufferDecoder.{base_of_pieces}
use Rattle.encoding_stream.proofs.ReadByteLemmas.{is-specified}
use Rattle.encoding_stream.proofs.ReadPieceLemmas.{reads-fault}
use Rattle.encoding_stream.proofs.buffer_decoder.BufferDecoder.skip.Goals as goal

pub returns-clause-reads : goal.returns-clause-reads
returns-clause-reads c =
    reads-fault (base_of_pieces c.args.self.now) c.args.self.now.width
    (is-specified c.args.self.now) c.args.self.now.laws.faulty
    c.args.self.now.kept (search rules) c.args.piece.now
