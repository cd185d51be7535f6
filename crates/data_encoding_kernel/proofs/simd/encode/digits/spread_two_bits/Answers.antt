use Rattle.std.proofs.Common.{◌<◌, ◌^◌, ◌∙◌}
use Rattle.data_encoding_kernel.specs.Lanes.{spread_word}
use Rattle.data_encoding_kernel.proofs.digits.HalfLemmas.{spread-two}
use Rattle.data_encoding_kernel.proofs.digits.LaneLemmas.{map-same, mapped-twice}
use Rattle.data_encoding_kernel.proofs.simd.encode.digits.spread_two_bits.Goals as goal

pub returns : goal.returns
returns c =
    mapped-twice _ _ c.args.words c.halved-twos.ensures c.halved.ensures
    ∙ map-same (λ word. word < 2 ^ 8) _ (spread_word 2 4) spread-two c.args.words c.requires
