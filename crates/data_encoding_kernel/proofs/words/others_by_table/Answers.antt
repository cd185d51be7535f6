use Rattle.std.proofs.Common.{◌≡◌, ℕ, ◌<◌, ◌≤◌, length, slice_index, w64, sym, ap, ◌∙◌, arith}
use Rattle.std.proofs.lemmas.Nat.{one_shl}
use Rattle.std.proofs.lemmas.Nat.Bits.{bit_at-pow_other, bit_at-pow_same, bit_at_set_other, bit_at_set_same}
use Rattle.std.specs.Int.{bit_at}
use borrow.Author.Count.{below_more}
use Rattle.data_encoding_kernel.proofs.words.others_by_table.Goals.{then-entry_of-ge128, else-entry_of-ge128}
use Rattle.data_encoding_kernel.proofs.words.others_by_table.Goals as goal

pub loop-index-init : goal.loop-index-init
loop-index-init c =
    let len = length c.args.group.now in
    let one = one_shl len 64 (omega (arith, c.requires.few)) in
    record {
      end = ap (λ m. bit_at m len) one ∙ bit_at-pow_same len;
      clear = λ k _ h.
          ap (λ m. bit_at m k) one ∙ bit_at-pow_other len k (λ same. omega (arith, h, same));
      so_far = λ k h. absurd (omega (arith, h));
    }

pub loop-index-preserved : goal.loop-index-preserved
loop-index-preserved c =
    let group = c.args.group.now in
    let index = c.loop-index.index in
    let old = c.loop-index.others in
    let new = c.if-entry_of-ge128.others in
    let before = c.loop-index.invariant in
    let inside : index < length group = omega (arith, c.loop-index-test.true) in
    let small : index < 64 = omega (arith, inside, c.requires.few) in
    let entry : ℕ → ℕ = λ k. slice_index c.args.values.now (slice_index group k) in
    let kept : (k : ℕ) → bit_at new k ≡ bit_at old k → k < index
    → (bit_at new k ≡ 0 → entry k < 128) × (bit_at new k ≡ 1 → 128 ≤ entry k) =
    λ k same h. (
      λ z. (before.so_far k h).0 (sym same ∙ z),
      λ one. (before.so_far k h).1 (sym same ∙ one),
    ) in
    elim c.if-entry_of-ge128.branch [
      | then-entry_of-ge128 w ↦
          let other : (k : ℕ) → (k ≡ index → ⊥) → bit_at new k ≡ bit_at old k =
          λ k apart. ap (λ m. bit_at m k) w.others-is ∙ bit_at_set_other w64 old index small k apart
          in
          let here : bit_at new index ≡ 1 =
          ap (λ m. bit_at m index) w.others-is ∙ bit_at_set_same w64 old index small in
          record {
            end = other (length group) (λ same. omega (arith, inside, same)) ∙ before.end;
            clear = λ k from h. other k (λ same. omega (arith, from, same))
                ∙ before.clear k (omega (arith, from)) h;
            so_far = below_more (λ k. (bit_at new k ≡ 0 → entry k < 128) ×
                (bit_at new k ≡ 1 → 128 ≤ entry k)) index
                (λ k h. kept k (other k (λ same. omega (arith, h, same))) h) (
                  λ z. absurd (omega (arith, z, here)),
                  λ _. omega (arith, w.if-entry_of-ge128.true, c.entry_of.ensures),
                );
          }
      | else-entry_of-ge128 w ↦
          let same : (k : ℕ) → bit_at new k ≡ bit_at old k =
          λ k. ap (λ m. bit_at m k) w.others-is in
          record {
            end = same (length group) ∙ before.end;
            clear = λ k from h. same k ∙ before.clear k (omega (arith, from)) h;
            so_far = below_more (λ k. (bit_at new k ≡ 0 → entry k < 128) ×
                (bit_at new k ≡ 1 → 128 ≤ entry k)) index
                (λ k h. kept k (same k) h) (
                  λ _. omega (arith, w.if-entry_of-ge128.false, c.entry_of.ensures),
                  λ one. absurd
                      (omega (arith, one, same index ∙ before.clear index (omega arith) inside)),
                );
          }
    ]
