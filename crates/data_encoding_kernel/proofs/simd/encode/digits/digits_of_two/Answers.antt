use Rattle.std.proofs.Common.{◌≡◌, ℕ, List, [], ◌∷◌, ◌++◌, map, take, ap, sym, ◌∙◌, arith, refl}
use Rattle.std.specs.Prelude.{flat_map}
use Rattle.std.specs.Simd.Lanes.{pick_l}
use Rattle.data_encoding_meaning.specs.declared.encoding.BitOrder.{BitOrder}
use Rattle.data_encoding_kernel.specs.Lanes.{digits_of, group_word, group_words, spread_word}
use Rattle.data_encoding_kernel.proofs.digits.GroupWordLemmas.{word-below}
use Rattle.data_encoding_kernel.proofs.digits.JoinLemmas.{from_first, first_digits-of_joined}
use Rattle.data_encoding_kernel.proofs.simd.encode.digits.digits_of_two.Goals as goal
use Rattle.data_encoding_kernel.proofs.simd.encode.digits.digits_of_two.Goals.{in-MostSignificantFirst, in-LeastSignificantFirst}

-- the words, repeated to eight
abbrev eight : List ℕ → List ℕ
eight ws = ws ++ ws ++ ws ++ ws

repeated : (lanes : List ℕ) (order : BitOrder) (input : List ℕ)
    → lanes ≡ group_words order 5 2 input
    → pick_l 0 (lanes ++ lanes) (0 ∷ 1 ∷ 0 ∷ 1 ∷ 0 ∷ 1 ∷ 0 ∷ 1 ∷ [])
    ≡ eight (group_words order 5 2 input)
repeated lanes order input is = ap (λ l. pick_l 0 (l ++ l) (0 ∷ 1 ∷ 0 ∷ 1 ∷ 0 ∷ 1 ∷ 0 ∷ 1 ∷ [])) is

first : (order : BitOrder) (a b : ℕ)
    → (let ws = a ∷ b ∷ [] in
    take 16 (flat_map (digits_of order 5 8) (eight ws))
    ≡ flat_map (digits_of order 5 8) ws)
first order a b = refl

pub spread_five_bits-requires : goal.spread_five_bits-requires
spread_five_bits-requires c =
    let b = word-below c.args.order 5 c.args.input.now in
    rw c.two_fives.ensures (b 0, (b 1, (b 0, (b 1, (b 0, (b 1, (b 0, (b 1, tt))))))))

pub returns : goal.returns
returns c =
    let order = c.args.order in
    let input = c.args.input.now in
    let word = group_word order 5 input in
    let words = group_words order 5 2 input in
    first_digits-of_joined order 5 8 2 5 input (eight words) (first order (word 0) (word 1))
    (elim c.match-order.branch [
      | in-MostSignificantFirst w ↦
          w.result-is
          ∙ ap (λ l. pick_l 0 (l ++ l) (from_first 4)) w.five_bit_digits_of_twos.ensures
          ∙ ap (λ order. flat_map (digits_of order 5 8) (eight (group_words order 5 2 input)))
          (sym w.in-MostSignificantFirst.is)
      | in-LeastSignificantFirst w ↦
          w.result-is
          ∙ w.join_eights.ensures 5 (eight words) (omega arith)
          (w.spread_five_bits.ensures
          ∙ ap (map (spread_word 5 8)) (repeated _ order input w.two_fives.ensures))
    ])
