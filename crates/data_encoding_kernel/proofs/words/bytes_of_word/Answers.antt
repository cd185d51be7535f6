use Rattle.std.proofs.Common.{◌≡◌, ◌∷◌, [], ◌++◌, ◌/◌, ◌%◌, ◌^◌, ◌<◌, length, map, sym, ap, ◌∙◌, arith}
use Rattle.std.proofs.lemmas.List.{take_all, take_more_set, length-set}
use Rattle.std.proofs.lemmas.List.FromFn.{map-range_with_len_more}
use Rattle.std.specs.List.{range_with_len}
use Rattle.data_encoding_kernel.specs.Words.{digit}
use Rattle.data_encoding_kernel.proofs.words.bytes_of_word.Goals as goal

pub loop-index-preserved : goal.loop-index-preserved
loop-index-preserved c =
    let index = c.loop-index.index in
    let inside : index < length c.loop-index.output =
    omega (arith, c.loop-index.invariant.within, c.if-index-output.false) in
    let here = c.byte_at.ensures
    ∙ ap (λ w. c.args.word / 2 ^ w % 256) c.weight_at.ensures.weight in
    record {
      so_far = take_more_set c.loop-index.output index _ inside
          ∙ (λ i. c.loop-index.invariant.so_far i ++ here i ∷ [])
          ∙ sym (map-range_with_len_more (digit c.args.order 8 c.args.count c.args.word) 0
          index
          index
          (omega arith));
      len = length-set c.loop-index.output index _ ∙ c.loop-index.invariant.len;
      within = omega (arith, inside, length-set c.loop-index.output index (c.byte_at.result));
    }

pub bounds-output-index : goal.bounds-output-index
bounds-output-index c = omega (arith, c.loop-index.invariant.within, c.if-index-output.false)

pub returns-after-loop-index : goal.returns-after-loop-index
returns-after-loop-index c =
    let index = c.loop-index.index in
    let output = c.loop-index.output in
    let all : index ≡ length c.args.output.now =
    omega (
      arith,
      c.requires.few,
      c.loop-index-test.false,
      c.loop-index.invariant.within,
      c.loop-index.invariant.len,
    ) in
    sym (take_all index output (omega (arith, all, c.loop-index.invariant.len)))
    ∙ c.loop-index.invariant.so_far
    ∙ ap (λ n. map (digit c.args.order 8 c.args.count c.args.word) (range_with_len 0 n)) all
