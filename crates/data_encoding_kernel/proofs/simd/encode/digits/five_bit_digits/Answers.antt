use Rattle.std.proofs.Common.{map, ap, sym, ◌∙◌, arith, refl}
use Rattle.std.specs.Prelude.{flat_map}
use Rattle.data_encoding_kernel.specs.Lanes.{digits_of, group_words, spread_word}
use Rattle.data_encoding_kernel.proofs.digits.GroupWordLemmas.{words-below}
use Rattle.data_encoding_kernel.proofs.digits.JoinLemmas.{digits-of_joined}
use Rattle.data_encoding_kernel.proofs.simd.encode.digits.five_bit_digits.Goals as goal
use Rattle.data_encoding_kernel.proofs.simd.encode.digits.five_bit_digits.Goals.{in-MostSignificantFirst, in-LeastSignificantFirst}

pub spread_five_bits-requires : goal.spread_five_bits-requires
spread_five_bits-requires c =
    rw c.eight_fives.ensures (words-below c.args.order 5 8 c.args.input.now)

pub returns : goal.returns
returns c =
    let order = c.args.order in
    let input = c.args.input.now in
    digits-of_joined order 5 8 5 input (λ ws. ws) (λ a b c d e f g h. refl)
    (elim c.match-order.branch [
      | in-MostSignificantFirst w ↦
          w.result-is ∙ w.five_bit_digits_of_eight.ensures
          ∙ ap (λ order. flat_map (digits_of order 5 8) (group_words order 5 8 input))
          (sym w.in-MostSignificantFirst.is)
      | in-LeastSignificantFirst w ↦
          w.result-is
          ∙ w.join_eights.ensures 5 (group_words order 5 8 input) (omega arith)
          (w.spread_five_bits.ensures ∙ ap (map (spread_word 5 8)) w.eight_fives.ensures)
    ])
