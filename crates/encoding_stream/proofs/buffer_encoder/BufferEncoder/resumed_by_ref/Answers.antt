use Rattle.std.proofs.Common.{refl, sym, subst}
use Rattle.encoding_stream.specs.Specified.{IsBuiltAgain}
use Rattle.encoding_stream.proofs.buffer_encoder.BufferEncoder.resumed_by_ref.Goals as goal

pub invariant_of-result-clause-specified : goal.invariant_of-result-clause-specified
invariant_of-result-clause-specified c =
    subst IsBuiltAgain (sym c.lend-lent.ensures) (record {
      is_built =
          c.specification_again.ensures c.args.encoding.now c.encode_align-block.ensures.base;
    })

pub invariant_of-result-clause-block_len : goal.invariant_of-result-clause-block_len
invariant_of-result-clause-block_len c =
    rw c.lend-lent.ensures c.encode_align-block.ensures.value

pub invariant_of-result-clause-short : goal.invariant_of-result-clause-short
invariant_of-result-clause-short c = c.if-kept-block.false

pub returns-clause-kept : goal.returns-clause-kept
returns-clause-kept c = refl
