use Rattle.std.proofs.Common.{◌≡◌, ◌≤◌, length, take}
use Rattle.data_encoding_meaning.specs.text.Base.{Base}
use Rattle.data_encoding_meaning.specs.text.Grammar.{kept}
use Rattle.data_encoding_kernel.specs.Ignore.{HoldsIgnored}
use Rattle.data_encoding.proofs.encoding.whole_groups.count_few.Given as goal

abbrev pub invariant-loop-index : goal.invariant-loop-index
invariant-loop-index l =
    (l.count ≤ l.index)
    × ((base : Base) → HoldsIgnored base l.ignored
    → l.count ≡ length (kept base (take l.index l.text)))
