use Rattle.std.proofs.Common.{◌≡◌, ℕ, ◌+◌, ◌-◌, ◌*◌, ◌<◌, ◌≤◌, inl, inr, List, true, false, length, take, drop, slice_index, sym, ap, ◌∙◌, subst, arith, length-take-le, length-drop}
use Rattle.std.proofs.lemmas.List.{get_or-drop, get_or-take, take_rest}
use Rattle.std.proofs.lemmas.Bool.{cases_lt}
use Rattle.data_encoding_meaning.specs.text.Base.{Base, is_ignored, meaning}
use Rattle.data_encoding_meaning.proofs.decoding.GroupJudgementLemmas.{part_bytes}
use Rattle.data_encoding_kernel.proofs.packing.FrontLemmas.{all-ignored, before-ignored, first-kept, first-within, none-kept}
use lib.Count.{count_trailing_zeros}
use Rattle.data_encoding_kernel.proofs.ignore.IgnoredBytes.front.Goals as goal
use Rattle.data_encoding_kernel.proofs.ignore.IgnoredBytes.front.Goals.{After-front_of_few, After-kept_mask-mask, then-has_simd, else-has_simd}

-- Sixteen bytes of a text.
module _ (rest : List ℕ) (start : ℕ) (within : start + 16 ≤ length rest) where
  abbrev part : List ℕ
  part = take 16 (take (start + 16 - start) (drop start rest))

  sixteen : length part ≡ 16
  sixteen =
      let inner : length (take (start + 16 - start) (drop start rest)) ≡ 16 =
      omega (
        arith,
        length-take-le (start + 16 - start) (drop start rest)
            (omega (arith, length-drop start rest, within)),
      ) in
      length-take-le 16 (take (start + 16 - start) (drop start rest)) (omega (arith, inner))

  byte-at : (k : ℕ) → k < 16 → slice_index part k ≡ slice_index rest (start + k)
  byte-at k below =
      get_or-take 16 (take (start + 16 - start) (drop start rest)) k 0 below
      ∙ get_or-take (start + 16 - start) (drop start rest) k 0 (omega (arith, below))
      ∙ get_or-drop start rest k 0

  part-fits : ((k : ℕ) → slice_index rest k < 256) → (k : ℕ) → slice_index part k < 256
  part-fits fits =
      part_bytes (take (start + 16 - start) (drop start rest))
      (part_bytes (drop start rest) (λ k. subst (λ byte. byte < 256)
      (sym (get_or-drop start rest k 0)) (fits (start + k))) (start + 16 - start)) 16

-- Ignored bytes, and more of them.
ignored-on : (base : Base) (rest : List ℕ) (start count : ℕ)
    → ((k : ℕ) → k < start → is_ignored (meaning base (slice_index rest k)) ≡ true)
    → ((k : ℕ) → k < count → is_ignored (meaning base (slice_index rest (start + k))) ≡ true)
    → (k : ℕ) → k < start + count → is_ignored (meaning base (slice_index rest k)) ≡ true
ignored-on base rest start count before after k below =
    elim (cases_lt k start) [
      | inl less ↦ before k less
      | inr more ↦ subst (λ n. is_ignored (meaning base (slice_index rest n)) ≡ true)
          (omega (arith, more)) (after (k - start) (omega (arith, more, below)))
    ]

whole : (c : After-kept_mask-mask) → 16 * c.loop-index.index + 16 ≤ length c.args.rest.now
whole c =
    elim c.if-has_simd.branch [
      | then-has_simd w ↦ omega (arith, w.count-is, c.loop-index-test.true)
      | else-has_simd w ↦ omega (arith, w.count-is, c.loop-index-test.true)
    ]

pub returns-then-mask-ne0-clause-within : goal.returns-then-mask-ne0-clause-within
returns-then-mask-ne0-clause-within c =
    let before = (goal.at.returns-then-mask-ne0-clause-within c).After-kept_mask-mask in
    let rest = c.args.rest.now in
    let start = 16 * c.loop-index.index in
    omega (
      arith,
      whole before,
      first-within c.args.self.now (part rest start (whole before))
          (sixteen rest start (whole before)) c.kept_mask-mask.result c.kept_mask-mask.ensures
          (omega (arith, c.if-mask-ne0.true)),
    )

pub returns-then-mask-ne0-clause-front : goal.returns-then-mask-ne0-clause-front
returns-then-mask-ne0-clause-front c = λ base held.
    let before = (goal.at.returns-then-mask-ne0-clause-front c).After-kept_mask-mask in
    let rest = c.args.rest.now in
    let start = 16 * c.loop-index.index in
    let some : 0 < c.kept_mask-mask.result = omega (arith, c.if-mask-ne0.true) in
    let is = c.kept_mask-mask.ensures in
    let len = sixteen rest start (whole before) in
    let bytes = part rest start (whole before) in
    let within = first-within c.args.self.now bytes len c.kept_mask-mask.result is some in
    let all : start + count_trailing_zeros 64 c.kept_mask-mask.result ≤ length rest =
    omega (arith, within, whole before) in
    record {
      within = all;
      none = none-kept base rest (start + count_trailing_zeros 64 c.kept_mask-mask.result) all
          (ignored-on base rest start (count_trailing_zeros 64 c.kept_mask-mask.result)
          (c.loop-index.invariant base held)
          (λ k below. subst (λ byte. is_ignored (meaning base byte) ≡ true)
          (byte-at rest start (whole before) k (omega (arith, below, within)))
          (before-ignored c.args.self.now bytes len c.kept_mask-mask.result is base held
          (part-fits rest start (whole before) (λ j. (c.type_inv.rest j).fits)) some k below)));
    }

pub returns-then-mask-ne0-clause-next : goal.returns-then-mask-ne0-clause-next
returns-then-mask-ne0-clause-next c = λ base held inside.
    let before = (goal.at.returns-then-mask-ne0-clause-next c).After-kept_mask-mask in
    let rest = c.args.rest.now in
    let start = 16 * c.loop-index.index in
    let some : 0 < c.kept_mask-mask.result = omega (arith, c.if-mask-ne0.true) in
    let is = c.kept_mask-mask.ensures in
    let len = sixteen rest start (whole before) in
    let bytes = part rest start (whole before) in
    let within = first-within c.args.self.now bytes len c.kept_mask-mask.result is some in
    subst (λ byte. is_ignored (meaning base byte) ≡ false)
    (byte-at rest start (whole before) (count_trailing_zeros 64 c.kept_mask-mask.result) within)
    (first-kept c.args.self.now bytes len c.kept_mask-mask.result is base held
    (part-fits rest start (whole before) (λ j. (c.type_inv.rest j).fits)) some)

pub loop-index-preserved : goal.loop-index-preserved
loop-index-preserved c = λ base held k below.
    let before = (goal.at.loop-index-preserved c).After-kept_mask-mask in
    let rest = c.args.rest.now in
    let start = 16 * c.loop-index.index in
    let bytes = part rest start (whole before) in
    ignored-on base rest start 16 (c.loop-index.invariant base held)
    (λ j less. subst (λ byte. is_ignored (meaning base byte) ≡ true)
    (byte-at rest start (whole before) j less)
    (all-ignored c.args.self.now bytes (sixteen rest start (whole before))
    c.kept_mask-mask.result c.kept_mask-mask.ensures base held
    (part-fits rest start (whole before) (λ i. (c.type_inv.rest i).fits))
    (omega (arith, c.if-mask-ne0.false)) j less)) k (omega (arith, below))

-- a byte of the rest after the sixteens
few-byte : (c : After-front_of_few) (k : ℕ)
    → slice_index (take (length c.args.rest.now - 16 * c.if-has_simd.count)
    (drop (16 * c.if-has_simd.count) c.args.rest.now)) k
    ≡ slice_index c.args.rest.now (16 * c.if-has_simd.count + k)
few-byte c k =
    let start = 16 * c.if-has_simd.count in
    ap (λ l. slice_index l k) (take_rest c.args.rest.now start)
    ∙ get_or-drop start c.args.rest.now k 0

pub returns-clause-front : goal.returns-clause-front
returns-clause-front c = λ base held.
    let before = (goal.at.returns-clause-front c).After-front_of_few in
    let rest = c.args.rest.now in
    let count = c.if-has_simd.count in
    let start = 16 * count in
    let end : c.loop-index.index ≡ count =
    omega (arith, c.loop-index-test.false, c.loop-index.auto.index-end) in
    let fits : start ≤ length rest =
    elim c.if-has_simd.branch [
      | then-has_simd w ↦ omega (arith, w.count-is)
      | else-has_simd w ↦ omega (arith, w.count-is)
    ] in
    let all : start + c.front_of_few.result ≤ length rest =
    omega (arith, c.front_of_few.ensures.within, length-drop start rest, fits) in
    record {
      within = all;
      none = none-kept base rest (start + c.front_of_few.result) all
          (ignored-on base rest start c.front_of_few.result
          (λ k below. c.loop-index.invariant base held k (omega (arith, below, end)))
          (λ k below. subst (λ byte. is_ignored (meaning base byte) ≡ true) (few-byte before k)
          (c.front_of_few.ensures.ignored base held k below)));
    }

pub returns-clause-next : goal.returns-clause-next
returns-clause-next c = λ base held inside.
    let before = (goal.at.returns-clause-next c).After-front_of_few in
    subst (λ byte. is_ignored (meaning base byte) ≡ false)
    (few-byte before c.front_of_few.result)
    (c.front_of_few.ensures.next base held
    (omega (arith, inside, length-drop (16 * c.if-has_simd.count) c.args.rest.now)))
