use Rattle.std.proofs.Common.{◌+◌, ◌*◌, ◌^◌, ◌<◌, ◌≡◌, map, take, sym, ap, ◌∙◌, subst, arith}
use Rattle.std.proofs.lemmas.List.{map-id}
use Rattle.std.specs.List.{AllByRecursion}
use Rattle.std.specs.Simd.{first_chunks}
use Rattle.data_encoding_kernel.specs.Words.{word_of}
use Rattle.data_encoding_kernel.proofs.digits.FrontWordLemmas.{groups-front, pairs-front}
use Rattle.data_encoding_kernel.proofs.simd.decode.words_of_two.Goals as goal

pub returns : goal.returns
returns c = λ n few small.
    let order = c.args.order in
    let width = c.args.width in
    let values = c.args.values in
    let twice : n * 2 ≡ n + n = omega arith in
    let words = map (word_of order width 2) in
    ap (take n) (map-id c.halves_16.result ∙ c.halves_16.ensures)
    ∙ pairs-front order width c.requires n 8 values few (omega (arith, few, c.fits-values.0))
    (subst (λ size. AllByRecursion (λ value. value < 2 ^ width) (take size values)) twice small)
    ∙ ap (λ size. words (first_chunks 2 n (take size values))) (sym twice)
    ∙ ap words (groups-front 2 n values)
