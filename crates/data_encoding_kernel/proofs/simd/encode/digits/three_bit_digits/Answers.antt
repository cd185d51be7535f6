use Rattle.std.proofs.Common.{map, ap, ◌∙◌, arith, refl}
use Rattle.std.proofs.lemmas.List.{map-id}
use Rattle.data_encoding_kernel.specs.Lanes.{group_words, spread_word}
use Rattle.data_encoding_kernel.proofs.digits.GroupWordLemmas.{words-below}
use Rattle.data_encoding_kernel.proofs.digits.JoinLemmas.{digits-of_joined}
use Rattle.data_encoding_kernel.proofs.simd.encode.digits.three_bit_digits.Goals as goal

pub spread_three_bits-requires : goal.spread_three_bits-requires
spread_three_bits-requires c =
    rw (map-id, c.eight_threes.ensures) (words-below c.args.order 3 8 c.args.input.now)

pub returns : goal.returns
returns c =
    digits-of_joined c.args.order 3 8 3 c.args.input.now (λ ws. ws)
    (λ a b c d e f g h. refl)
    (c.join_eights.ensures 3 (group_words c.args.order 3 8 c.args.input.now) (omega arith)
    (c.spread_three_bits.ensures ∙ ap (map (spread_word 3 8))
    (map-id c.eight_threes.result ∙ c.eight_threes.ensures)))
