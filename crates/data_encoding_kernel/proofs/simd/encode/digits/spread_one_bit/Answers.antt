use Rattle.std.proofs.Common.{◌<◌, ◌^◌, ◌∙◌}
use Rattle.data_encoding_kernel.specs.Lanes.{spread_word}
use Rattle.data_encoding_kernel.proofs.digits.HalfLemmas.{spread-one}
use Rattle.data_encoding_kernel.proofs.digits.LaneLemmas.{map-same, mapped-twice}
use Rattle.data_encoding_kernel.proofs.simd.encode.digits.spread_one_bit.Goals as goal

pub returns : goal.returns
returns c =
    mapped-twice _ _ c.args.words
    (mapped-twice _ _ c.args.words c.halved_wide-fours.ensures c.halved_wide-twos.ensures)
    c.halved_wide.ensures
    ∙ map-same (λ word. word < 2 ^ 8) _ (spread_word 1 8) spread-one c.args.words c.requires
