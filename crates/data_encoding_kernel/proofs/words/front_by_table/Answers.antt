use Rattle.std.proofs.Common.{ℕ, ◌<◌, ◌++◌, ◌∙◌, length, length-take-le, map, take, replicate, slice_index, w64, sym, arith}
use Rattle.std.proofs.lemmas.List.{drop-replicate, get_or-take, length-map}
use Rattle.std.specs.Int.{trailing_zeros}
use Rattle.std.specs.List.{range_with_len}
use Rattle.data_encoding_meaning.proofs.decoding.GroupJudgementLemmas.{part_bytes}
use Rattle.data_encoding_kernel.specs.Words.{digit}
use Rattle.data_encoding_kernel.proofs.digits.GroupFrontLemmas.{joined-group, word-joined}
use Rattle.data_encoding_kernel.proofs.digits.KernelLemmas.{entries_below}
use Rattle.data_encoding_kernel.proofs.digits.OtherMaskLemmas.{before-end}
use Rattle.data_encoding_kernel.proofs.words.front_by_table.Goals as goal

pub slice_bounds-word_of_symbols-end : goal.slice_bounds-word_of_symbols-end
slice_bounds-word_of_symbols-end c =
    sym (length-take-le _ c.args.group.now
    (before-end c.others_by_table-others.result (length c.args.group.now)
    c.others_by_table-others.type_inv c.others_by_table-others.ensures.end).0)

pub returns-clause-front : goal.returns-clause-front
returns-clause-front c =
    let values = c.args.values.now in
    let group = c.args.group.now in
    let width = c.args.join.now.width in
    let order = c.args.join.now.order in
    let others = c.others_by_table-others.result in
    let marks = c.others_by_table-others.ensures in
    let within = before-end others (length group) c.others_by_table-others.type_inv marks.end in
    record {
      few = within.0;
      stop = λ inside. (marks.others _ inside).1 within.1;
      others = marks.others;
      front = λ base reads.
          let fits : (k : ℕ) → slice_index group k < 256 = λ k. (c.type_inv.group k).fits in
          let low : (k : ℕ) → k < trailing_zeros w64 others
          → slice_index values (slice_index group k) < 128 =
          λ k h. (marks.others k (omega (arith, h, within.0))).0 (within.2 k h) in
          joined-group base values width order reads group _ fits within.0
          (omega (arith, within.0, c.requires.few)) low _
          (let part = take _ group in
          let part_len = length-take-le _ group within.0 in
          let word = c.word_of_symbols-word.ensures.word
          (entries_below base width values part (part_bytes group fits _)
          (λ k h.
          let inside : k < trailing_zeros w64 others = omega (arith, h, part_len) in
          rw (get_or-take _ group k 0 inside) (low k inside))
          reads.width_is reads.holds) in
          (λ i. (c.bytes_of_word.ensures
          ∙ (λ j. map (digit order 8 width (word j))
          (range_with_len 0 (length-take-le {A = ℕ} width (replicate 16 0)
          (omega (arith, c.requires.join.few)) j)))) i
          ++ drop-replicate width 16 0 i)
          ∙ word-joined order width _ c.requires.join.few
          (omega (
            arith,
            length-map part (slice_index values),
            part_len,
            within.0,
            c.requires.few,
          )));
    }
