use Rattle.std.proofs.Common.{ap, sym, ◌∙◌, ◌++◌}
use Rattle.data_encoding.specs.KeptData.{held_data}
use Rattle.encoding_stream.specs.BufferEncoder.{base_of_blocks}
use Rattle.encoding_stream.proofs.BlockLemmas.{built-again, encoded-last}
use Rattle.encoding_stream.proofs.buffer_encoder.BufferEncoder.finish.Goals as goal

pub returns-clause-whole : goal.returns-clause-whole
returns-clause-whole c = λ bytes text has.
    let encoder = c.args.self.now in
    encoded-last (base_of_blocks encoder) (built-again encoder.specified) c.join_encode.ensures.join
    (held_data encoder.kept) bytes text has
    ∙ ap (λ t. text ++ t) (sym c.write_front.ensures.text)
