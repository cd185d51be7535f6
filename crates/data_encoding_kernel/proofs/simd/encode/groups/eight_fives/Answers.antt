use Rattle.std.proofs.Common.{[], ◌∷◌, ◌++◌, refl, ◌∙◌}
use Rattle.std.specs.List.{range_with_len}
use Rattle.std.specs.Simd.Lanes.{pick_l}
use Rattle.data_encoding_kernel.specs.Lanes.{group_word}
use Rattle.data_encoding_kernel.proofs.digits.GroupWordLemmas.{word-later}
use Rattle.data_encoding_kernel.proofs.simd.encode.groups.eight_fives.Goals as goal

pub returns : goal.returns
returns c =
    let order = c.args.order in
    let input = c.args.input.now in
    let word = group_word order 5 input in
    let later = word-later order 5 in
    (λ i. pick_l 0
    (pick_l 0 (c.two_fives-first.ensures i ++ c.two_fives-second.ensures i) (range_with_len 0 4)
    ++ pick_l 0 (c.two_fives-third.ensures i ++ c.two_fives-fourth.ensures i) (range_with_len 0 4))
    (range_with_len 0 8))
    ∙ (λ i. word 0 ∷ word 1 ∷ later 10 input 0 2 refl i ∷ later 10 input 1 3 refl i
    ∷ later 20 input 0 4 refl i ∷ later 20 input 1 5 refl i ∷ later 30 input 0 6 refl i
    ∷ later 30 input 1 7 refl i ∷ [])
