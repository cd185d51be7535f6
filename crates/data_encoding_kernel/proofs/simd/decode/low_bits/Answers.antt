use Rattle.std.proofs.Common.{◌≡◌, ℕ, ◌-◌, ◌*◌, ◌%◌, ◌^◌, ◌≤◌, bit_and, map, ap, ◌∙◌, arith}
use Rattle.std.proofs.Math.Pow.{pow_mono}
use Rattle.std.proofs.lemmas.Nat.{and_mask}
use Rattle.std.proofs.lemmas.Simd.{zip2_splat}
use Rattle.data_encoding_kernel.proofs.simd.decode.low_bits.Goals as goal

pub returns : goal.returns
returns g c =
    let count = c.args.count in
    let few : count ≤ 63 = omega (arith, c.requires) in
    let most : 2 ^ count ≤ 2 ^ 63 = pow_mono few in
    let mask : 1 * 2 ^ count % 2 ^ 64 - 1 ≡ 2 ^ count - 1 = omega (arith, most) in
    zip2_splat bit_and c.args.words g.row.N (1 * 2 ^ count % 2 ^ 64 - 1) c.fits-words.0
    ∙ ap (λ (f : ℕ → ℕ). map f c.args.words)
    (λ i word. (ap (bit_and word) mask ∙ and_mask word count) i)
