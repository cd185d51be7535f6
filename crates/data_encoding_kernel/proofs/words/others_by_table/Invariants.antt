use Rattle.std.proofs.Common.{◌≡◌, ℕ, ◌<◌, ◌≤◌, length, slice_index}
use Rattle.std.specs.Int.{bit_at}
use Rattle.data_encoding_kernel.proofs.words.others_by_table.Given as goal

abbrev pub invariant-loop-index : goal.invariant-loop-index
invariant-loop-index l = record {
  end : bit_at l.others (length l.group) ≡ 1;
  clear : (k : ℕ) → l.index ≤ k → k < length l.group → bit_at l.others k ≡ 0;
  so_far : (k : ℕ) → k < l.index
      → (bit_at l.others k ≡ 0 → slice_index l.values (slice_index l.group k) < 128)
      × (bit_at l.others k ≡ 1 → 128 ≤ slice_index l.values (slice_index l.group k));
}
