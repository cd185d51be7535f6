use Rattle.std.proofs.Common.{[], ◌∷◌, ◌++◌, refl, ◌∙◌}
use Rattle.std.specs.List.{range_with_len}
use Rattle.std.specs.Simd.Lanes.{pick_l}
use Rattle.data_encoding_kernel.specs.Lanes.{group_word}
use Rattle.data_encoding_kernel.proofs.digits.GroupWordLemmas.{word-later}
use Rattle.data_encoding_kernel.proofs.simd.encode.groups.eight_threes.Goals as goal

pub returns : goal.returns
returns c =
    let order = c.args.order in
    let input = c.args.input.now in
    let word = group_word order 3 input in
    let later = word-later order 3 12 input in
    (λ i. pick_l 0 (c.four_threes-low.ensures i ++ c.four_threes-high.ensures i)
    (range_with_len 0 8))
    ∙ (λ i. word 0 ∷ word 1 ∷ word 2 ∷ word 3 ∷ later 0 4 refl i ∷ later 1 5 refl i
    ∷ later 2 6 refl i ∷ later 3 7 refl i ∷ [])
