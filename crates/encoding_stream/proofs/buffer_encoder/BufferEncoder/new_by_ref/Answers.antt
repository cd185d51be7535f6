use Rattle.std.proofs.Common.{◌<◌, sym, subst}
use Rattle.encoding_stream.specs.Specified.{IsBuiltAgain}
use Rattle.encoding_stream.proofs.BlockLemmas.{encoded-none}
use Rattle.encoding_stream.proofs.buffer_encoder.BufferEncoder.new_by_ref.Goals as goal

pub invariant_of-result-clause-specified : goal.invariant_of-result-clause-specified
invariant_of-result-clause-specified c =
    subst IsBuiltAgain (sym c.lend.ensures) (record {
      is_built = c.specification_again.ensures c.args.encoding.now c.encode_align.ensures.base;
    })

pub invariant_of-result-clause-block_len : goal.invariant_of-result-clause-block_len
invariant_of-result-clause-block_len c = rw c.lend.ensures c.encode_align.ensures.value

pub returns-clause-nothing : goal.returns-clause-nothing
returns-clause-nothing c =
    encoded-none c.args.encoding.now c.encode_align.ensures.base c.join_encode.ensures.join
    (subst (λ n. 0 < n) c.encode_align.ensures.value c.encode_align.ensures.some)

pub returns-clause-base : goal.returns-clause-base
returns-clause-base c = c.lend.ensures
