use Rattle.std.proofs.Common.{◌+◌, ◌*◌, ◌^◌, ◌<◌, ◌≤◌, length, take, slice_index, sym, ap, ◌∙◌, arith}
use Rattle.std.proofs.lemmas.List.{take_all, take_more, length-take-le}
use Rattle.data_encoding_kernel.specs.Words.{weight, word_of}
use Rattle.data_encoding_meaning.proofs.digits.SizeLemmas.{IsSmall-group}
use Rattle.data_encoding_kernel.proofs.digits.WordLemmas.{word_of-nil, word_of-more, shifted-small, shifted-whole}
use Rattle.data_encoding_kernel.proofs.words.word_of_bytes.Goals as goal

pub loop-index-init : goal.loop-index-init
loop-index-init g c = record {
  so_far = sym (word_of-nil c.args.order 8 g.G.GroupSize.BYTES);
  within = omega arith;
  small = omega arith;
}

pub overflow_add-word : goal.overflow_add-word
overflow_add-word g c =
    let byte = slice_index c.args.input.now c.loop-index.index in
    let below : byte < 256 = (c.type_inv.input c.loop-index.index).fits in
    let few = IsSmall-group g.G.GroupSize.is_group in
    let small = shifted-small byte c.weight_at.result below (omega (arith, few.few_bytes)) in
    record { fits = omega (arith, small, few.few_bytes) }

pub loop-index-preserved : goal.loop-index-preserved
loop-index-preserved g c =
    let index = c.loop-index.index in
    let input = c.args.input.now in
    let byte = slice_index input index in
    let below : byte < 256 = (c.type_inv.input index).fits in
    let inside : index < length input =
    omega (arith, c.loop-index.invariant.within, c.if-index-input.false) in
    let few = IsSmall-group g.G.GroupSize.is_group in
    let fits : c.weight_at.result ≤ 48 = omega (arith, few.few_bytes) in
    let weight_is = c.weight_at.ensures.weight
    ∙ ap (λ n. weight c.args.order 8 n index) c.BYTES-count.ensures in
    record {
      so_far = (λ i. c.loop-index.invariant.so_far i + shifted-whole byte c.weight_at.result below
          fits i)
          ∙ ap (λ w. word_of c.args.order 8 g.G.GroupSize.BYTES (take index input) + byte * 2 ^ w)
          weight_is
          ∙ sym (word_of-more c.args.order 8 g.G.GroupSize.BYTES index (take index input) byte
          (length-take-le index input (omega arith)) (omega arith) below)
          ∙ ap (word_of c.args.order 8 g.G.GroupSize.BYTES)
          (sym (take_more input index 0 inside));
      within = omega (arith, inside);
      small = omega (arith, shifted-small byte c.weight_at.result below fits);
    }

pub bounds-input-index : goal.bounds-input-index
bounds-input-index g c = omega (arith, c.loop-index.invariant.within, c.if-index-input.false)

pub returns-after-loop-index : goal.returns-after-loop-index
returns-after-loop-index g c =
    let index = c.loop-index.index in
    let input = c.args.input.now in
    let all : length input ≤ index =
    omega (arith, c.requires, c.loop-index-test.false, c.loop-index.invariant.within) in
    c.loop-index.invariant.so_far
    ∙ ap (word_of c.args.order 8 g.G.GroupSize.BYTES) (take_all index input all)
