use Rattle.std.proofs.Common.{◌∙◌, sym, arith, length-take-le}
use Rattle.encoding_stream.specs.BufferDecoder.{base_of_pieces}
use Rattle.encoding_stream.proofs.ReadRunLemmas.{due-grows}
use Rattle.encoding_stream.proofs.buffer_decoder.BufferDecoder.run_len.Goals as goal

pub returns-clause-bytes : goal.returns-clause-bytes
returns-clause-bytes c =
    let base = base_of_pieces c.args.self.now in
    let all = c.completed_groups-len.ensures in
    let within = length-take-le c.completed_groups-len.result.0 c.args.piece.now all.few in
    let few = due-grows base c.args.self.now.width
    (omega (arith, c.whole_groups_len-len.ensures.within, within))
    (rw c.by_ref-encoding.ensures at (sym c.decode_len.ensures.value ∙ c.in-Ok.is)) all.due in
    omega (arith, few, all.bytes)

pub returns-clause-few : goal.returns-clause-few
returns-clause-few c =
    let all = c.completed_groups-len.ensures in
    omega (
      arith,
      c.whole_groups_len-len.ensures.within,
      length-take-le c.completed_groups-len.result.0 c.args.piece.now all.few,
      all.few,
    )
