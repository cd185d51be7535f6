use Rattle.std.proofs.Common.{◌≡◌, ◌∷◌, [], ◌++◌, ◌/◌, ◌%◌, ◌^◌, ◌<◌, length, map, slice_index, sym, ap, ◌∙◌, arith}
use Rattle.std.proofs.lemmas.List.{take_all, take_more_set, length-set}
use Rattle.std.proofs.lemmas.List.FromFn.{map-range_with_len_more}
use Rattle.std.specs.List.{range_with_len}
use Rattle.data_encoding_kernel.specs.Words.{weight, low_byte}
use Rattle.data_encoding_kernel.proofs.words.symbols_of_word.Goals as goal

pub loop-index-preserved : goal.loop-index-preserved
loop-index-preserved g c =
    let index = c.loop-index.index in
    let symbols = c.args.symbols.now in
    let inside : index < length c.loop-index.output =
    omega (arith, c.loop-index.invariant.within, c.if-index-output.false) in
    let here = c.byte_at.ensures
    ∙ ap (λ w. c.args.word / 2 ^ w % 2 ^ 8) c.weight_at-weight.ensures.weight
    ∙ (λ i. c.args.word / 2 ^ weight c.args.order (c.WIDTH-width.ensures i)
    (c.SYMBOLS-count.ensures i)
    index % 2 ^ 8) in
    record {
      so_far = take_more_set c.loop-index.output index _ inside
          ∙ (λ i. c.loop-index.invariant.so_far i ++ slice_index symbols (here i) ∷ [])
          ∙ sym (map-range_with_len_more
          (λ k. slice_index symbols (low_byte c.args.order g.G.GroupSize.WIDTH g.G.GroupSize.SYMBOLS
          c.args.word k))
          0 index index (omega arith));
      len = length-set c.loop-index.output index _ ∙ c.loop-index.invariant.len;
      within = omega (
        arith,
        inside,
        length-set c.loop-index.output index (slice_index symbols c.byte_at.result),
      );
    }

pub bounds-output-index : goal.bounds-output-index
bounds-output-index g c = omega (arith, c.loop-index.invariant.within, c.if-index-output.false)

pub returns-after-loop-index : goal.returns-after-loop-index
returns-after-loop-index g c =
    let index = c.loop-index.index in
    let output = c.loop-index.output in
    let all : index ≡ length c.args.output.now =
    omega (
      arith,
      c.requires,
      c.loop-index-test.false,
      c.loop-index.invariant.within,
      c.loop-index.invariant.len,
    ) in
    sym (take_all index output (omega (arith, all, c.loop-index.invariant.len)))
    ∙ c.loop-index.invariant.so_far
    ∙ ap (λ n. map (λ k. slice_index c.args.symbols.now (low_byte c.args.order g.G.GroupSize.WIDTH
    g.G.GroupSize.SYMBOLS c.args.word k)) (range_with_len 0 n)) all
