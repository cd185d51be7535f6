use Rattle.std.proofs.Common.{[], ◌∷◌, ◌++◌, ◌∙◌, refl}
use Rattle.std.specs.Prelude.{flat_map}
use Rattle.std.specs.List.{range_with_len}
use Rattle.std.specs.Simd.Lanes.{pick_l}
use Rattle.data_encoding_meaning.specs.declared.encoding.BitOrder.TheVariants.{MostSignificantFirst}
use Rattle.data_encoding_kernel.specs.Lanes.{digits_of, group_word}
use Rattle.data_encoding_kernel.proofs.digits.GroupWordLemmas.{word-later}
use Rattle.data_encoding_kernel.proofs.simd.encode.digit_pairs.five_bit_digits_of_eight.Goals as goal

pub returns : goal.returns
returns c =
    let input = c.args.input.now in
    let word = group_word MostSignificantFirst 5 input in
    let later = word-later MostSignificantFirst 5 in
    (λ i. pick_l 0 (c.five_bit_digits_of_twos-low.ensures i
    ++ c.five_bit_digits_of_twos-high.ensures i) (range_with_len 0 64))
    ∙ (λ i. flat_map (digits_of MostSignificantFirst 5 8) (word 0 ∷ word 1
    ∷ later 10 input 0 2 refl i ∷ later 10 input 1 3 refl i ∷ later 20 input 0 4 refl i
    ∷ later 20 input 1 5 refl i ∷ later 30 input 0 6 refl i ∷ later 30 input 1 7 refl i ∷ []))
