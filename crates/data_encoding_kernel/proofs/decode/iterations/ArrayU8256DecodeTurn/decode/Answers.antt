use Rattle.std.proofs.Common.{sym, subst}
use Rattle.data_encoding_kernel.specs.Tables.{Reads}
use Rattle.data_encoding_kernel.proofs.decoding.SymbolRunLemmas.{zero-groups, run-none, groups-of_product}
use Rattle.data_encoding_meaning.proofs.lists.PartLemmas.{IsWhole-group}
use Rattle.data_encoding_kernel.proofs.decode.iterations.ArrayU8256DecodeTurn.decode.Goals as goal

pub returns-then-not-decode_four_groups-clause-run :
    goal.returns-then-not-decode_four_groups-clause-run
returns-then-not-decode_four_groups-clause-run g c = λ values held base reads.
    rw (zero-groups g.G.GroupSize.SYMBOLS)
    (run-none base reads.holds.is_width c.args.input.now c.args.output.now
    c.decode_four_groups.new.output)

pub returns-clause-run : goal.returns-clause-run
returns-clause-run g c = λ values held base reads.
    let whole = IsWhole-group g.G.GroupSize.WIDTH g.G.GroupSize.BYTES g.G.GroupSize.SYMBOLS
    g.G.GroupSize.is_group in
    rw (groups-of_product 4 c.SYMBOLS.result c.SYMBOLS.ensures whole.some_symbols)
    (c.decode_four_groups.ensures c.if-not-decode_four_groups.false base
    (subst (λ table. Reads base table g.G.GroupSize.WIDTH c.args.order) (sym held) reads))
