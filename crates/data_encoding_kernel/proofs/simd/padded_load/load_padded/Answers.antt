use Rattle.std.proofs.Common.{◌≡◌, ℕ, ◌+◌, ◌-◌, ◌*◌, ◌/◌, ◌^◌, ◌<◌, length, drop, slice_index, sym, ap, ◌∙◌, arith}
use Rattle.std.proofs.lemmas.List.{length-drop, take_all}
use Rattle.std.specs.Simd.Lanes.{number_l, digits_l}
use Rattle.data_encoding_kernel.proofs.digits.FrontWordLemmas.{power-power}
use Rattle.data_encoding_kernel.proofs.digits.PaddedLemmas.{digits-padded, number-joined}
use Rattle.data_encoding_kernel.proofs.simd.padded_load.load_padded.Goals as goal

pub returns-then-len-le8 : goal.returns-then-len-le8
returns-then-len-le8 c =
    let input = c.args.input.now in
    let n = length input in
    let all : 16 ≡ n + (16 - n) = omega (arith, c.requires.few) in
    let is : c.number_of_few.result + 0 ≡ number_l 256 input =
    omega (arith, c.number_of_few.ensures) in
    ap (digits_l 256 16) is
    ∙ ap (λ m. digits_l 256 m (number_l 256 input)) all
    ∙ digits-padded (16 - n) input (λ k. (c.type_inv.input k).fits)

pub returns : goal.returns
returns c =
    let input = c.args.input.now in
    let n = length input in
    let last = drop (n - 8) input in
    let small : (k : ℕ) → slice_index input k < 256 = λ k. (c.type_inv.input k).fits in
    let all : 16 ≡ n + (16 - n) = omega (arith, c.requires.few) in
    let is : c.number_of_eight.result ≡ number_l 256 last =
    c.number_of_eight.ensures
    ∙ ap (number_l 256) (take_all (n - (n - 8)) last (omega (arith, length-drop (n - 8) input))) in
    let shifted : c.number_of_eight.result / 2 ^ (8 * (16 - n))
    ≡ number_l 256 last / 256 ^ (16 - n) =
    (λ i. is i / sym (power-power 2 8 (16 - n)) i) in
    let whole : c.number_of_eight-low.result
    + 18446744073709551616 * (c.number_of_eight.result / 2 ^ (8 * (16 - n)) + 0)
    ≡ number_l 256 input =
    ap (λ m. c.number_of_eight-low.result + 18446744073709551616 * m) (omega arith)
    ∙ (λ i. c.number_of_eight-low.ensures i + 18446744073709551616 * shifted i)
    ∙ number-joined 8 input small (omega (arith, c.if-len-le8.false))
    (omega (arith, c.requires.few)) in
    ap (digits_l 256 16) whole
    ∙ ap (λ m. digits_l 256 m (number_l 256 input)) all
    ∙ digits-padded (16 - n) input small
