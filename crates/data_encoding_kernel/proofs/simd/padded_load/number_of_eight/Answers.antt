use Rattle.std.proofs.Common.{◌%◌, ◌^◌, ◌<◌, length, ap, ◌∙◌, arith}
use Rattle.std.proofs.lemmas.List.{take_all}
use Rattle.std.proofs.Math.Nat.{mod-eq_of_lt}
use Rattle.std.specs.Simd.Lanes.{number_l}
use Rattle.data_encoding_kernel.proofs.digits.PaddedLemmas.{number-below}
use Rattle.data_encoding_kernel.proofs.simd.padded_load.number_of_eight.Goals as goal

pub returns : goal.returns
returns c =
    let input = c.args.input.now in
    let below : number_l 256 input < 256 ^ length input =
    number-below input (λ k. (c.type_inv.input k).fits) in
    ap (λ l. number_l 256 l % 18446744073709551616) (take_all 8 input (omega (arith, c.requires)))
    ∙ mod-eq_of_lt (omega (arith, below, ap (λ n. 256 ^ n) c.requires))
