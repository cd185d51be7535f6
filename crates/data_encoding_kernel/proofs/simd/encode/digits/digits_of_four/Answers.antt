use Rattle.std.proofs.Common.{◌≡◌, ℕ, List, [], ◌∷◌, ◌++◌, map, take, ap, sym, ◌∙◌, arith, refl}
use Rattle.std.specs.Prelude.{flat_map}
use Rattle.std.specs.Simd.Lanes.{pick_l}
use Rattle.data_encoding_meaning.specs.declared.encoding.BitOrder.{BitOrder}
use Rattle.data_encoding_kernel.specs.Lanes.{digits_of, group_word, group_words, spread_word}
use Rattle.data_encoding_kernel.proofs.digits.GroupWordLemmas.{word-below}
use Rattle.data_encoding_kernel.proofs.digits.JoinLemmas.{from_first, first_digits-of_joined}
use Rattle.data_encoding_kernel.proofs.simd.encode.digits.digits_of_four.Goals as goal
use Rattle.data_encoding_kernel.proofs.simd.encode.digits.digits_of_four.Goals.{in-MostSignificantFirst, in-LeastSignificantFirst}

-- the words, repeated to eight
abbrev eight : List ℕ → List ℕ
eight ws = ws ++ ws

repeated : (lanes : List ℕ) (order : BitOrder) (input : List ℕ)
    → lanes ≡ group_words order 3 4 input
    → pick_l 0 (lanes ++ lanes) (0 ∷ 1 ∷ 2 ∷ 3 ∷ 0 ∷ 1 ∷ 2 ∷ 3 ∷ [])
    ≡ eight (group_words order 3 4 input)
repeated lanes order input is = ap (λ l. pick_l 0 (l ++ l) (0 ∷ 1 ∷ 2 ∷ 3 ∷ 0 ∷ 1 ∷ 2 ∷ 3 ∷ [])) is

first : (order : BitOrder) (a b c d : ℕ)
    → (let ws = a ∷ b ∷ c ∷ d ∷ [] in
    take 16 (flat_map (digits_of order 6 4) (eight ws ++ eight ws))
    ≡ flat_map (digits_of order 6 4) ws)
first order a b c d = refl

pub spread_six_bits-requires : goal.spread_six_bits-requires
spread_six_bits-requires c =
    let b = word-below c.args.order 3 c.args.input.now in
    rw c.four_threes.ensures (b 0, (b 1, (b 2, (b 3, (b 0, (b 1, (b 2, (b 3, tt))))))))

pub returns : goal.returns
returns c =
    let order = c.args.order in
    let input = c.args.input.now in
    let word = group_word order 3 input in
    let words = group_words order 3 4 input in
    first_digits-of_joined order 6 4 4 3 input (eight words ++ eight words)
    (first order (word 0) (word 1) (word 2) (word 3))
    (elim c.match-order.branch [
      | in-MostSignificantFirst w ↦
          w.result-is
          ∙ ap (λ l. pick_l 0 (l ++ l) (from_first 4)) w.six_bit_digits_of_fours.ensures
          ∙ ap (λ order. flat_map (digits_of order 6 4)
          (eight (group_words order 3 4 input) ++ eight (group_words order 3 4 input)))
          (sym w.in-MostSignificantFirst.is)
      | in-LeastSignificantFirst w ↦
          w.result-is
          ∙ w.join_fours.ensures 6 (eight words) (omega arith)
          (w.spread_six_bits.ensures
          ∙ ap (map (spread_word 6 4)) (repeated _ order input w.four_threes.ensures))
    ])
