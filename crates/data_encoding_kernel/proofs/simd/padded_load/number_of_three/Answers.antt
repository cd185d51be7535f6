use Rattle.std.proofs.Common.{◌≡◌, suc, ◌+◌, ◌*◌, ◌%◌, ◌^◌, ◌<◌, ◌≤◌, length, take, slice_index, sym, ap, ◌∙◌, arith}
use Rattle.std.proofs.Math.Nat.{mul_comm, mul-le-mul_left, pow-succ'}
use Rattle.std.specs.Simd.Lanes.{number_l}
use Rattle.data_encoding_kernel.proofs.digits.FrontWordLemmas.{power-power}
use Rattle.data_encoding_kernel.proofs.digits.PaddedLemmas.{number-more}
use Rattle.data_encoding_kernel.proofs.digits.WordLemmas.{shifted-whole}
use Rattle.data_encoding_kernel.proofs.simd.padded_load.number_of_three.Goals as goal

pub loop-index-preserved : goal.loop-index-preserved
loop-index-preserved c =
    let index = c.loop-index.index in
    let input = c.args.input.now in
    let byte = slice_index input index in
    let below : byte < 256 = (c.type_inv.input index).fits in
    let inside : index < length input =
    omega (arith, c.loop-index.invariant.within, c.if-index-input.false) in
    let whole : byte * 2 ^ (8 * index) % 18446744073709551616 ≡ 256 ^ index * byte =
    shifted-whole byte (8 * index) below (omega arith)
    ∙ ap (λ p. byte * p) (sym (power-power 2 8 index))
    ∙ mul_comm byte (256 ^ index) in
    let more : 256 ^ index * byte ≤ 256 ^ index * 255 =
    mul-le-mul_left (256 ^ index) (omega arith) in
    let next : suc index ≡ index + 1 = omega arith in
    record {
      so_far = (λ i. c.loop-index.invariant.so_far i + whole i)
          ∙ sym (number-more index input inside)
          ∙ ap (λ n. number_l 256 (take n input)) next;
      within = omega (arith, inside);
      small = omega (
        arith,
        whole,
        more,
        c.loop-index.invariant.small,
        pow-succ' 256 index,
        ap (λ n. 256 ^ n) next,
      );
    }
