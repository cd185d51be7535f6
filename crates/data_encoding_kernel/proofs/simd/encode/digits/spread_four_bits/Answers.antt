use Rattle.std.proofs.Common.{◌<◌, ◌^◌, ◌∙◌}
use Rattle.data_encoding_kernel.specs.Lanes.{spread_word}
use Rattle.data_encoding_kernel.proofs.digits.HalfLemmas.{spread-four}
use Rattle.data_encoding_kernel.proofs.digits.LaneLemmas.{map-same}
use Rattle.data_encoding_kernel.proofs.simd.encode.digits.spread_four_bits.Goals as goal

pub returns : goal.returns
returns c =
    c.halved_narrow.ensures
    ∙ map-same (λ word. word < 2 ^ 8) _ (spread_word 4 2) spread-four c.args.words c.requires
