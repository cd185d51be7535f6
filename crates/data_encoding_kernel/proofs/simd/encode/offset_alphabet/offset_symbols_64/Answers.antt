use Rattle.std.proofs.Common.{sym, subst, ◌<◌}
use Rattle.std.specs.List.{AllByRecursion}
use Rattle.data_encoding_kernel.proofs.digits.OffsetAlphabetLemmas.{places-few, sums-are}
use Rattle.data_encoding_kernel.proofs.simd.encode.offset_alphabet.offset_symbols_64.Goals as goal

pub numbers_at-numbers-requires : goal.numbers_at-numbers-requires
numbers_at-numbers-requires c =
    subst (AllByRecursion (λ place. place < 16)) (sym c.places_of.ensures)
    (places-few c.args.values c.requires)

pub returns : goal.returns
returns c =
    sums-are c.args.alphabet.now c.args.values c.places_of.ensures c.numbers_at-numbers.ensures
    c.firsts.ensures
