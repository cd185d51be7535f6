use Rattle.std.proofs.Common.{◌≡◌, ℕ, ◌<◌, true, slice_index}
use Rattle.data_encoding_meaning.specs.text.Base.{is_ignored, meaning}
use Rattle.data_encoding.proofs.encoding.EncodingRef.are_ignored.Given as goal

abbrev pub invariant-loop-index : goal.invariant-loop-index
invariant-loop-index l =
    (k : ℕ) → k < l.index → is_ignored (meaning l.fn.self (slice_index l.fn.rest k)) ≡ true
