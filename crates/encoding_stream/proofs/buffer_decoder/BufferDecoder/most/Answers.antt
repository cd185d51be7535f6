use Rattle.std.proofs.Common.{◌+◌, ◌∙◌, arith, sym}
use Rattle.encoding_stream.specs.BufferDecoder.{base_of_pieces}
use Rattle.encoding_stream.proofs.SizeLemmas.{most-few, symbols-few}
use Rattle.encoding_stream.proofs.buffer_decoder.BufferDecoder.most.Goals as goal

pub returns-clause-few : goal.returns-clause-few
returns-clause-few c =
    let s = c.args.self.now in
    omega (
      arith,
      c.completed_groups.ensures.bytes,
      most-few (base_of_pieces s).width s.width (s.kept.count + c.args.len),
      s.short,
      symbols-few (base_of_pieces s).width s.width,
    )

pub returns-clause-value : goal.returns-clause-value
returns-clause-value c =
    rw (sym c.is_some.ensures ∙ c.if-is_some.false) c.completed_groups.ensures.bytes
