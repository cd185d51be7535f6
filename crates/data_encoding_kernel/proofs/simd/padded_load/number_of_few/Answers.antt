use Rattle.std.proofs.Common.{◌≡◌, ◌+◌, ◌-◌, ◌*◌, ◌/◌, ◌%◌, ◌^◌, ◌≤◌, length, take, drop, sym, ap, ◌∙◌, arith}
use Rattle.std.proofs.Math.Nat.{div-le_self, mod-eq_of_lt, mul_comm}
use Rattle.std.specs.Simd.Lanes.{number_l}
use Rattle.std.proofs.lemmas.List.{length-drop, take_all}
use Rattle.data_encoding_kernel.proofs.digits.FrontWordLemmas.{power-power}
use Rattle.data_encoding_kernel.proofs.digits.PaddedLemmas.{number-joined}
use Rattle.data_encoding_kernel.proofs.simd.padded_load.number_of_few.Goals as goal

pub returns : goal.returns
returns c =
    let input = c.args.input.now in
    let n = length input in
    let last = drop (n - 4) input in
    let rest = c.number_of_four.result / 2 ^ (8 * (8 - n)) in
    let is : c.number_of_four.result ≡ number_l 256 last =
    c.number_of_four.ensures.number
    ∙ ap (number_l 256) (take_all (n - (n - 4)) last (omega (arith, length-drop (n - 4) input))) in
    let below : rest ≤ c.number_of_four.result =
    div-le_self c.number_of_four.result (2 ^ (8 * (8 - n))) in
    let whole : rest * 4294967296 % 18446744073709551616 ≡ rest * 4294967296 =
    mod-eq_of_lt (omega (arith, below, c.number_of_four.ensures.fits)) in
    let shifted : rest ≡ number_l 256 last / 256 ^ (8 - n) =
    (λ i. is i / sym (power-power 2 8 (8 - n)) i) in
    record {
      number = (λ i. c.number_of_four-low.ensures.number i + whole i)
          ∙ ap (λ m. number_l 256 (take 4 input) + m)
          (mul_comm rest 4294967296 ∙ ap (λ m. 4294967296 * m) shifted)
          ∙ number-joined 4 input (λ k. (c.type_inv.input k).fits) c.if-len-lt4.false
          (omega (arith, c.requires.few));
    }
