use Rattle.std.proofs.Common.{◌≤◌, length}
use Rattle.data_encoding_meaning.specs.text.Base.{Base}
use Rattle.data_encoding_kernel.specs.Ignore.{HoldsIgnored}
use Rattle.data_encoding_meaning.proofs.decoding.GatherLemmas.{HasGathered}
use Rattle.data_encoding.proofs.decode.next_group.gather.Given as goal

abbrev pub invariant-loop-count : goal.invariant-loop-count
invariant-loop-count l =
    (l.span ≤ length l.rest)
    × ((base : Base) → HoldsIgnored base l.ignored
    → HasGathered base l.rest l.span l.count l.span l.room)
