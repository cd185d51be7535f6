use Rattle.data_encoding_meaning.specs.text.Base.{Base}
use Rattle.data_encoding_kernel.specs.Ignore.{HoldsIgnored}
use Rattle.data_encoding_meaning.proofs.decoding.GatherLemmas.{HasGathered}
use Rattle.data_encoding.proofs.decode.next_group.starts_whole.Given as goal

abbrev pub invariant-loop-index : goal.invariant-loop-index
invariant-loop-index l =
    (base : Base) → HoldsIgnored base l.ignored
    → HasGathered base l.rest l.index l.index l.index l.rest
