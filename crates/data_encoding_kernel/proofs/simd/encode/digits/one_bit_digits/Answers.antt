use Rattle.std.proofs.Common.{map, ap, ◌∙◌, arith, refl}
use Rattle.std.proofs.lemmas.List.{map-id}
use Rattle.data_encoding_kernel.specs.Lanes.{group_words, spread_word}
use Rattle.data_encoding_kernel.proofs.digits.GroupWordLemmas.{words-below}
use Rattle.data_encoding_kernel.proofs.digits.JoinLemmas.{digits-of_joined}
use Rattle.data_encoding_kernel.proofs.simd.encode.digits.one_bit_digits.Goals as goal

pub spread_one_bit-requires : goal.spread_one_bit-requires
spread_one_bit-requires c =
    rw (map-id, c.eight_ones.ensures c.args.order) (words-below c.args.order 1 8 c.args.input.now)

pub returns : goal.returns
returns c =
    digits-of_joined c.args.order 1 8 1 c.args.input.now (λ ws. ws)
    (λ a b c d e f g h. refl)
    (c.join_eights.ensures 1 (group_words c.args.order 1 8 c.args.input.now) (omega arith)
    (c.spread_one_bit.ensures ∙ ap (map (spread_word 1 8))
    (map-id c.eight_ones.result ∙ c.eight_ones.ensures c.args.order)))
