use Rattle.std.proofs.Common.{List, ℕ, ◌++◌, w64, sym, ap, ◌∙◌}
use Rattle.std.specs.List.{range_with_len}
use Rattle.std.specs.Simd.Lanes.{pick_l}
use Rattle.data_encoding_meaning.specs.declared.encoding.BitOrder.TheVariants.{MostSignificantFirst, LeastSignificantFirst}
use Rattle.data_encoding_kernel.proofs.digits.GatherStoreLemmas.{bytes_of_words, fives-picked, lanes-below, stored-tens}
use Rattle.data_encoding_kernel.proofs.simd.decode.store_five.Goals as goal
use Rattle.data_encoding_kernel.proofs.simd.decode.store_five.Goals.{in-MostSignificantFirst, in-LeastSignificantFirst}

-- ten bytes of each quarter
abbrev tens : List ℕ → List ℕ
tens parts =
    let picks = λ (start : ℕ). pick_l 0 (parts ++ parts) (range_with_len start 10) in
    picks 0 ++ picks 16 ++ picks 32 ++ picks 48

pub returns : goal.returns
returns c =
    let words = c.args.words in
    let fit = lanes-below w64 words c.fits-words.1 in
    stored-tens c.match-order.parts c.args.output.now c.requires.exact
    ∙ elim c.match-order.branch [
      | in-MostSignificantFirst w ↦ ap tens w.parts-is
          ∙ fives-picked MostSignificantFirst words c.fits-words.0 fit
          ∙ ap (λ order. bytes_of_words order 5 words) (sym w.in-MostSignificantFirst.is)
      | in-LeastSignificantFirst w ↦ ap tens w.parts-is
          ∙ fives-picked LeastSignificantFirst words c.fits-words.0 fit
          ∙ ap (λ order. bytes_of_words order 5 words) (sym w.in-LeastSignificantFirst.is)
    ]
