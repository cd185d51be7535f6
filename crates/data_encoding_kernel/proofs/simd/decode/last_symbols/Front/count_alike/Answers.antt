use Rattle.std.proofs.Common.{◌+◌, ◌<◌, ◌≤◌, subst, sym, arith}
use Rattle.data_encoding_kernel.proofs.digits.OtherMaskLemmas.{ones-from, ones-within}
use Rattle.data_encoding_kernel.proofs.simd.decode.last_symbols.Front.count_alike.Goals as goal

pub returns-clause-few : goal.returns-clause-few
returns-clause-few c =
    subst (λ count. c.args.self.now.symbols + count ≤ 16) (sym c.trailing_ones.ensures)
    (ones-within c.alike_bits.result c.args.self.now.symbols c.alike_bits.ensures.few
    c.requires.few)

pub returns-clause-alike : goal.returns-clause-alike
returns-clause-alike c = λ k h.
    c.alike_bits.ensures.alike (c.args.self.now.symbols + k)
    (omega (arith, h, returns-clause-few c))
    (ones-from c.alike_bits.result c.args.self.now.symbols c.alike_bits.ensures.few
    c.requires.few k (subst (λ count. k < count) c.trailing_ones.ensures h))
