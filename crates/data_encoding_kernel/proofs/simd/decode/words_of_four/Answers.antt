use Rattle.std.proofs.Common.{take, ap, ◌∙◌, arith}
use Rattle.std.proofs.lemmas.List.{map-id}
use Rattle.data_encoding_kernel.proofs.digits.FrontWordLemmas.{fours-front}
use Rattle.data_encoding_kernel.proofs.simd.decode.words_of_four.Goals as goal

pub returns : goal.returns
returns c = λ n few small.
    ap (take n) (map-id c.halves_32.result ∙ c.halves_32.ensures)
    ∙ fours-front c.args.order c.args.width c.requires n 8 c.args.values
    c.halves_16-pairs.result few (omega (arith, few, c.fits-values.0)) small
    c.halves_16-pairs.ensures
