use Rattle.std.proofs.Common.{◌≡◌, ℕ, List, [], ◌∷◌, ◌++◌, map, take, ap, ◌∙◌, arith, refl}
use Rattle.std.specs.Prelude.{flat_map}
use Rattle.std.specs.Simd.Lanes.{pick_l}
use Rattle.data_encoding_meaning.specs.declared.encoding.BitOrder.{BitOrder}
use Rattle.data_encoding_kernel.specs.Lanes.{digits_of, group_word, group_words, spread_word}
use Rattle.data_encoding_kernel.proofs.digits.GroupWordLemmas.{word-below}
use Rattle.data_encoding_kernel.proofs.digits.JoinLemmas.{first_digits-of_joined}
use Rattle.data_encoding_kernel.proofs.simd.encode.digits.octal_digits_of_four.Goals as goal

-- the words, repeated to eight
abbrev eight : List ℕ → List ℕ
eight ws = ws ++ ws

repeated : (lanes : List ℕ) (order : BitOrder) (input : List ℕ)
    → lanes ≡ group_words order 3 4 input
    → pick_l 0 (lanes ++ lanes) (0 ∷ 1 ∷ 2 ∷ 3 ∷ 0 ∷ 1 ∷ 2 ∷ 3 ∷ [])
    ≡ eight (group_words order 3 4 input)
repeated lanes order input is = ap (λ l. pick_l 0 (l ++ l) (0 ∷ 1 ∷ 2 ∷ 3 ∷ 0 ∷ 1 ∷ 2 ∷ 3 ∷ [])) is

first : (order : BitOrder) (a b c d : ℕ)
    → (let ws = a ∷ b ∷ c ∷ d ∷ [] in
    take 32 (flat_map (digits_of order 3 8) (eight ws))
    ≡ flat_map (digits_of order 3 8) ws)
first order a b c d = refl

pub spread_three_bits-requires : goal.spread_three_bits-requires
spread_three_bits-requires c =
    let b = word-below c.args.order 3 c.args.input.now in
    rw c.four_threes.ensures (b 0, (b 1, (b 2, (b 3, (b 0, (b 1, (b 2, (b 3, tt))))))))

pub returns : goal.returns
returns c =
    let order = c.args.order in
    let input = c.args.input.now in
    let word = group_word order 3 input in
    let words = group_words order 3 4 input in
    first_digits-of_joined order 3 8 4 3 input (eight words)
    (first order (word 0) (word 1) (word 2) (word 3))
    (c.join_eights.ensures 3 (eight words) (omega arith)
    (c.spread_three_bits.ensures
    ∙ ap (map (spread_word 3 8)) (repeated _ order input c.four_threes.ensures)))
