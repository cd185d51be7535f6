use Rattle.std.proofs.Common.{◌≡◌, ℕ, ◌*◌, ◌<◌, true, slice_index}
use Rattle.data_encoding_meaning.specs.text.Base.{Base, is_ignored, meaning}
use Rattle.data_encoding_kernel.specs.Ignore.{HoldsIgnored}
use Rattle.data_encoding_kernel.proofs.ignore.IgnoredBytes.front.Given as goal

abbrev pub invariant-loop-index : goal.invariant-loop-index
invariant-loop-index l =
    (base : Base) → HoldsIgnored base l.self → (k : ℕ) → k < 16 * l.index
    → is_ignored (meaning base (slice_index l.rest k)) ≡ true
