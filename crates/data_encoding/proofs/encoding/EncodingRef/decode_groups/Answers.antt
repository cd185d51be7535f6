use Rattle.std.proofs.Common.{length-take-le}
use Rattle.data_encoding.proofs.decoding.ReadGroupLemmas.{read-none}
use Rattle.data_encoding.proofs.encoding.EncodingRef.decode_groups.Goals as goal

pub loop-init : goal.loop-init
loop-init g c = record {
  so_far = read-none c.args.self.now c.requires.entries.reads.holds.is_width _
      (rw (length-take-le c.args.len c.args.part.now c.requires.few) c.requires.room);
}

pub decode_run_at-next-requires-clause-at : goal.decode_run_at-next-requires-clause-at
decode_run_at-next-requires-clause-at g c = c.loop.invariant.so_far

pub decode_padded_at-at-requires-clause-at : goal.decode_padded_at-at-requires-clause-at
decode_padded_at-at-requires-clause-at g c = c.decode_run_at-next.ensures.on

pub loop-preserved : goal.loop-preserved
loop-preserved g c = record { so_far = c.decode_padded_at-at.ensures.on }

pub returns-after-loop : goal.returns-after-loop
returns-after-loop g c = c.loop.invariant.so_far

pub returns-then-at-next : goal.returns-then-at-next
returns-then-at-next g c = c.decode_padded_at-at.ensures.on
