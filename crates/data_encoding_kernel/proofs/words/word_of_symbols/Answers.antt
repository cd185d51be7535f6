use Rattle.std.proofs.Common.{◌≡◌, ◌+◌, ◌*◌, ◌^◌, ◌<◌, ◌≤◌, ◌∷◌, [], ◌++◌, length, map, take, slice_index, sym, ap, ◌∙◌, subst, arith}
use Rattle.std.proofs.lemmas.List.{take_all, take_more, length-take-le, length-map, map-append}
use Rattle.std.proofs.lemmas.Nat.{le_or_l, le_or_r, or_lt}
use borrow.Author.Count.{below_more}
use Rattle.data_encoding_kernel.specs.Words.{word_of}
use Rattle.data_encoding_kernel.proofs.digits.WordLemmas.{word_of-nil, word_of-more, shifted-small, shifted-whole, few_digits}
use Rattle.data_encoding_kernel.proofs.words.word_of_symbols.Goals as goal

pub loop-index-init : goal.loop-index-init
loop-index-init c = record {
  so_far = λ h. sym (word_of-nil c.args.order c.args.width c.args.count);
  only = λ h k below. absurd (omega (arith, below));
  all = λ h. omega arith;
  within = omega arith;
  small = omega arith;
}

pub overflow_add-word : goal.overflow_add-word
overflow_add-word c =
    let small = shifted-small c.entry_of-entry.result c.weight_at.result c.entry_of-entry.type_inv
    (omega (arith, c.weight_at.ensures.inside, c.requires.fits)) in
    let few = few_digits c.args.width c.args.count 48 c.requires.some c.requires.fits in
    record { fits = omega (arith, small) }

pub loop-index-preserved : goal.loop-index-preserved
loop-index-preserved c =
    let index = c.loop-index.index in
    let input = c.args.input.now in
    let values = c.args.values.now in
    let entry = c.entry_of-entry.result in
    let inside : index < length input =
    omega (arith, c.loop-index.invariant.within, c.if-index-input.false) in
    let same : entry ≡ slice_index values (slice_index input index) = c.entry_of-entry.ensures in
    let fits : c.weight_at.result ≤ 48 =
    omega (arith, c.weight_at.ensures.inside, c.requires.fits) in
    let before = map (slice_index values) (take index input) in
    let digits : map (slice_index values) (take (index + 1) input) ≡ before ++ entry ∷ [] =
    ap (map (slice_index values)) (take_more input index 0 inside)
    ∙ map-append (slice_index values) (take index input) (slice_index input index ∷ [])
    ∙ ap (λ d. before ++ d ∷ []) (sym same) in
    let len : length before ≡ index = length-map (take index input) (slice_index values)
    ∙ length-take-le index input (omega arith) in
    record {
      so_far = λ h.
          (λ i. c.loop-index.invariant.so_far (λ k less. h k (omega arith)) i
          + shifted-whole entry c.weight_at.result c.entry_of-entry.type_inv fits i)
          ∙ ap (λ w. word_of c.args.order c.args.width c.args.count before + entry *
          2 ^ w)
          c.weight_at.ensures.weight
          ∙ sym (word_of-more c.args.order c.args.width c.args.count index before
          entry len
          (omega arith) (subst (λ d. d < 2 ^ c.args.width) (sym same)
          (h index (omega arith))))
          ∙ ap (word_of c.args.order c.args.width c.args.count) (sym digits);
      only = λ h. below_more (λ k. slice_index values (slice_index input k) < 128) index
          (c.loop-index.invariant.only (omega (arith, le_or_l c.loop-index.entries entry, h)))
          (omega (arith, le_or_r c.loop-index.entries entry, h, same));
      all = λ h. or_lt 7 c.loop-index.entries entry
          (c.loop-index.invariant.all (λ k less. h k (omega arith)))
          (omega (arith, h index (omega arith), same));
      within = omega (arith, inside);
      small = omega (
        arith,
        shifted-small entry c.weight_at.result c.entry_of-entry.type_inv fits,
      );
    }

pub bounds-input-index : goal.bounds-input-index
bounds-input-index c = omega (arith, c.loop-index.invariant.within, c.if-index-input.false)

pub weight_at-requires-clause-fits : goal.weight_at-requires-clause-fits
weight_at-requires-clause-fits c = omega (arith, c.requires.fits)

pub overflow_shl-word : goal.overflow_shl-word
overflow_shl-word c = omega (arith, c.requires.fits, c.weight_at.ensures.inside)

pub returns-then-index-input : goal.returns-then-index-input
returns-then-index-input c =
    let all = take_all c.loop-index.index c.args.input.now (omega (arith, c.if-index-input.true)) in
    record {
      word = λ h. rw all at (c.loop-index.invariant.so_far (λ k less. h k (omega arith)));
      entries = (
        λ low k less. c.loop-index.invariant.only low k (omega arith),
        λ h. c.loop-index.invariant.all (λ k less. h k (omega arith)),
      );
    }

pub returns-after-loop-index : goal.returns-after-loop-index
returns-after-loop-index c =
    let end : c.loop-index.index ≡ length c.args.input.now =
    omega (
      arith,
      c.loop-index-test.false,
      c.loop-index.invariant.within,
      c.requires.few,
    ) in
    let all = take_all c.loop-index.index c.args.input.now (omega (arith, end)) in
    record {
      word = λ h. rw all at (c.loop-index.invariant.so_far (λ k less. h k (omega arith)));
      entries = (
        λ low k less. c.loop-index.invariant.only low k (omega arith),
        λ h. c.loop-index.invariant.all (λ k less. h k (omega arith)),
      );
    }
