use Rattle.std.proofs.Common.{◌≡◌, ℕ, ◌+◌, ◌<◌, ◌≤◌, length, slice_index}
use Rattle.data_encoding.proofs.decode.group.before_padding.Given as goal

abbrev pub invariant-loop-padding : goal.invariant-loop-padding
invariant-loop-padding l =
    (k : ℕ) → length l.group ≤ k + l.padding → k < length l.group
    → slice_index l.values (slice_index l.group k) ≡ 130
