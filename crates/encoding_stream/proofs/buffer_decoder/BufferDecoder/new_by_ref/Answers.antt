use Rattle.std.proofs.Common.{sym, subst}
use Rattle.encoding_stream.specs.Specified.{IsBuiltAgain}
use Rattle.encoding_stream.proofs.ReadByteLemmas.{keeps-front}
use Rattle.encoding_stream.proofs.SizeLemmas.{symbols-some}
use Rattle.encoding_stream.proofs.buffer_decoder.BufferDecoder.new_by_ref.Goals as goal

pub invariant_of-result-clause-laws : goal.invariant_of-result-clause-laws
invariant_of-result-clause-laws c =
    let pieces = c.pieces.ensures in
    let groups = c.whole_groups.ensures in
    record {
      held = pieces.held;
      group = pieces.group;
      faulty = pieces.faulty;
      front = keeps-front pieces.grows;
      verdict = pieces.verdict;
      bytes = pieces.bytes;
      alone = pieces.alone;
      sound = pieces.sound;
      stops = pieces.stops;
      whole = pieces.whole;
      due = groups.bytes;
      joins = groups.joins;
      ends_nowhere = groups.ends_nowhere;
      ends = groups.ends;
      by_bytes = groups.whole;
    }

pub invariant_of-result-clause-specified : goal.invariant_of-result-clause-specified
invariant_of-result-clause-specified c =
    subst IsBuiltAgain (sym c.lend.ensures) (record {
      is_built = c.specification_again.ensures c.args.encoding.now c.group_len.ensures.base;
    })

pub invariant_of-result-clause-width : goal.invariant_of-result-clause-width
invariant_of-result-clause-width c = rw c.lend.ensures c.group_len.ensures.width

pub invariant_of-result-clause-short : goal.invariant_of-result-clause-short
invariant_of-result-clause-short c =
    rw c.lend.ensures
    (symbols-some c.args.encoding.now.width c.group_len.ensures.width)

pub returns-clause-nothing : goal.returns-clause-nothing
returns-clause-nothing c =
    (c.pieces.ensures.nothing c.args.encoding.now c.group_len.ensures.base).0

pub returns-clause-no_bytes : goal.returns-clause-no_bytes
returns-clause-no_bytes c =
    (c.pieces.ensures.nothing c.args.encoding.now c.group_len.ensures.base).1

pub returns-clause-base : goal.returns-clause-base
returns-clause-base c = c.lend.ensures
