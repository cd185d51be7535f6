use Rattle.std.proofs.Common.{arith, sym, subst, ◌<◌}
use Rattle.std.specs.List.{AllByRecursion}
use Rattle.data_encoding_kernel.proofs.digits.OffsetAlphabetLemmas.{holds-if_equal, range-below_64}
use Rattle.data_encoding_kernel.proofs.simd.encode.offset_alphabet.agrees.Goals as goal

pub offset_symbols_64-found-requires : goal.offset_symbols_64-found-requires
offset_symbols_64-found-requires c =
    subst (AllByRecursion (λ value. value < 64)) (sym c.each_value.ensures) range-below_64

pub returns : goal.returns
returns c = λ passes.
    holds-if_equal c.args.alphabet.now c.args.symbols.now c.each_value.result
    c.offset_symbols_64-found.result (omega arith) c.each_value.ensures
    c.offset_symbols_64-found.ensures (c.are_below.ensures.below passes)
