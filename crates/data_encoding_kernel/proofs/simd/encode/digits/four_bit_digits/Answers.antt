use Rattle.std.proofs.Common.{◌++◌, map, ap, ◌∙◌, arith, refl}
use Rattle.std.proofs.lemmas.List.{map-id}
use Rattle.data_encoding_kernel.specs.Lanes.{group_words, spread_word}
use Rattle.data_encoding_kernel.proofs.digits.GroupWordLemmas.{words-below}
use Rattle.data_encoding_kernel.proofs.digits.JoinLemmas.{digits-of_joined}
use Rattle.data_encoding_kernel.proofs.simd.encode.digits.four_bit_digits.Goals as goal

pub spread_four_bits-requires : goal.spread_four_bits-requires
spread_four_bits-requires c =
    rw (map-id, c.eight_ones.ensures c.args.order) (words-below c.args.order 1 8 c.args.input.now)

pub returns : goal.returns
returns c =
    digits-of_joined c.args.order 4 2 1 c.args.input.now (λ ws. ws ++ ws ++ ws ++ ws)
    (λ a b c d e f g h. refl)
    (c.join_twos.ensures 4 (group_words c.args.order 1 8 c.args.input.now) (omega arith)
    (c.spread_four_bits.ensures ∙ ap (map (spread_word 4 2))
    (map-id c.eight_ones.result ∙ c.eight_ones.ensures c.args.order)))
