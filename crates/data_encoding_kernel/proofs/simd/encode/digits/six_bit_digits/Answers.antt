use Rattle.std.proofs.Common.{◌≡◌, ◌-◌, [], ◌∷◌, ◌++◌, length, take, drop, map, ap, sym, ◌∙◌, arith, refl}
use Rattle.std.specs.Prelude.{flat_map}
use Rattle.std.specs.Simd.Lanes.{pick_l}
use Rattle.data_encoding_meaning.specs.declared.encoding.BitOrder.TheVariants.{MostSignificantFirst}
use Rattle.data_encoding_kernel.specs.Lanes.{digits_of, group_word, group_words, spread_word}
use Rattle.data_encoding_kernel.proofs.digits.GroupWordLemmas.{word-later, words-below}
use Rattle.data_encoding_kernel.proofs.digits.JoinLemmas.{from_first, digits-of_joined}
use Rattle.data_encoding_kernel.proofs.simd.encode.digits.six_bit_digits.Goals as goal
use Rattle.data_encoding_kernel.proofs.simd.encode.digits.six_bit_digits.Goals.{in-MostSignificantFirst, in-LeastSignificantFirst}

pub spread_six_bits-requires : goal.spread_six_bits-requires
spread_six_bits-requires c =
    rw c.eight_threes.ensures (words-below c.args.order 3 8 c.args.input.now)

pub returns : goal.returns
returns c =
    let order = c.args.order in
    let input = c.args.input.now in
    let words = group_words order 3 8 input in
    let word = group_word MostSignificantFirst 3 input in
    let later = word-later MostSignificantFirst 3 12 input in
    let eight : group_words MostSignificantFirst 3 4 input
    ++ group_words MostSignificantFirst 3 4 (take (length input - 12) (drop 12 input))
    ≡ group_words MostSignificantFirst 3 8 input =
    λ i. word 0 ∷ word 1 ∷ word 2 ∷ word 3 ∷ later 0 4 refl i ∷ later 1 5 refl i
    ∷ later 2 6 refl i ∷ later 3 7 refl i ∷ [] in
    digits-of_joined order 6 4 3 input (λ ws. ws ++ ws) (λ a b c d e f g h. refl)
    (elim c.match-order.branch [
      | in-MostSignificantFirst w ↦
          w.result-is
          ∙ ap (λ l. pick_l 0 (l ++ l) (from_first 4)) w.six_bit_digits_of_fours.ensures
          ∙ (λ i. flat_map (digits_of MostSignificantFirst 6 4) (eight i ++ eight i))
          ∙ ap (λ order. flat_map (digits_of order 6 4)
          (group_words order 3 8 input ++ group_words order 3 8 input))
          (sym w.in-MostSignificantFirst.is)
      | in-LeastSignificantFirst w ↦
          w.result-is
          ∙ w.join_fours.ensures 6 words (omega arith)
          (w.spread_six_bits.ensures ∙ ap (map (spread_word 6 4)) w.eight_threes.ensures)
    ])
