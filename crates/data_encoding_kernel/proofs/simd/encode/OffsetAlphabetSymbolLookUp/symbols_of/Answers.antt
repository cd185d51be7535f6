use Rattle.std.proofs.Common.{◌^◌, ◌<◌, slice_index, sym, ◌∙◌, subst}
use Rattle.std.specs.List.{AllByRecursion}
use Rattle.data_encoding_kernel.specs.OffsetAlphabet.{offset_symbol}
use Rattle.data_encoding_kernel.proofs.digits.LaneLemmas.{map-same}
use Rattle.data_encoding_kernel.proofs.simd.encode.OffsetAlphabetSymbolLookUp.symbols_of.Goals as goal

pub offset_symbols_64-requires : goal.offset_symbols_64-requires
offset_symbols_64-requires g c =
    subst (λ w. AllByRecursion (λ value. value < 2 ^ w) c.args.values)
    (sym c.WIDTH.ensures ∙ c.if-WIDTH-eq6.true) c.requires.below

pub returns-then-WIDTH-eq6 : goal.returns-then-WIDTH-eq6
returns-then-WIDTH-eq6 g c =
    c.offset_symbols_64.ensures
    ∙ map-same (λ value. value < 64) (offset_symbol c.args.self.now)
    (slice_index c.args.symbols.now) c.requires.held.agrees c.args.values
    (subst (λ w. AllByRecursion (λ value. value < 2 ^ w) c.args.values)
    (sym c.WIDTH.ensures ∙ c.if-WIDTH-eq6.true) c.requires.below)
