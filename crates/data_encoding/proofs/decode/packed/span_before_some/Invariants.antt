use Rattle.std.proofs.Common.{◌≡◌, ◌+◌, ◌-◌, ◌≤◌, length, take}
use Rattle.data_encoding_meaning.specs.text.Base.{Base}
use Rattle.data_encoding_meaning.specs.text.Grammar.{kept}
use Rattle.data_encoding_kernel.specs.Ignore.{HoldsIgnored}
use Rattle.data_encoding.proofs.decode.packed.span_before_some.Given as goal

abbrev pub invariant-loop-index : goal.invariant-loop-index
invariant-loop-index l =
    (l.left ≤ l.last)
    × ((base : Base) → HoldsIgnored base l.ignored
    → length (kept base (take (length l.part - l.index) l.part)) + (l.last - l.left)
    ≡ length (kept base l.part))
