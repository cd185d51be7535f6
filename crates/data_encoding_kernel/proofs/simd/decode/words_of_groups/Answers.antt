use Rattle.std.proofs.Common.{sym, ◌∙◌, arith}
use Rattle.data_encoding_kernel.proofs.decoding.GroupRunLemmas.{words-found}
use Rattle.data_encoding_meaning.proofs.digits.SizeLemmas.{symbols-are}
use Rattle.data_encoding_meaning.proofs.lists.PartLemmas.{IsWhole-group}
use Rattle.data_encoding_kernel.proofs.simd.decode.words_of_groups.Goals as goal

pub returns-in-2 : goal.returns-in-2
returns-in-2 g c =
    let whole = IsWhole-group g.G.GroupSize.WIDTH g.G.GroupSize.BYTES g.G.GroupSize.SYMBOLS
    g.G.GroupSize.is_group in
    words-found 8 whole.some_symbols c.WIDTH-width.ensures
    (sym c.SYMBOLS.ensures ∙ c.in-2.is) (λ values. g.L.LookUp.holds values c.args.look_up.now)
    c.args.order c.args.input.now c.look_up_16-entries.result c.words_of_two.result
    c.count_below.result c.requires.symbols
    (λ j. (c.type_inv.input j).fits)
    c.count_below.ensures.lanes c.count_below.ensures.few
    c.count_below.ensures.below c.count_below.ensures.stop c.look_up_16-entries.ensures
    c.words_of_two.ensures

pub returns-in-4 : goal.returns-in-4
returns-in-4 g c =
    let whole = IsWhole-group g.G.GroupSize.WIDTH g.G.GroupSize.BYTES g.G.GroupSize.SYMBOLS
    g.G.GroupSize.is_group in
    words-found 8 whole.some_symbols c.WIDTH-width.ensures
    (sym c.SYMBOLS.ensures ∙ c.in-4.is) (λ values. g.L.LookUp.holds values c.args.look_up.now)
    c.args.order c.args.input.now c.look_up_32-entries.result c.words_of_four.result
    c.count_below-in-4.result c.requires.symbols
    (λ j. (c.type_inv.input j).fits)
    c.count_below-in-4.ensures.lanes c.count_below-in-4.ensures.few
    c.count_below-in-4.ensures.below c.count_below-in-4.ensures.stop c.look_up_32-entries.ensures
    c.words_of_four.ensures

pub returns-in_default : goal.returns-in_default
returns-in_default g c =
    let whole = IsWhole-group g.G.GroupSize.WIDTH g.G.GroupSize.BYTES g.G.GroupSize.SYMBOLS
    g.G.GroupSize.is_group in
    words-found 8 whole.some_symbols c.WIDTH-width.ensures
    (omega (arith, symbols-are g.G.GroupSize.is_group, c.in_default))
    (λ values. g.L.LookUp.holds values c.args.look_up.now)
    c.args.order c.args.input.now c.look_up_64-entries.result c.words_of_eight.result
    c.count_below-in_default.result c.requires.symbols
    (λ j. (c.type_inv.input j).fits)
    c.count_below-in_default.ensures.lanes c.count_below-in_default.ensures.few
    c.count_below-in_default.ensures.below c.count_below-in_default.ensures.stop
    c.look_up_64-entries.ensures c.words_of_eight.ensures

pub bounds-input-0-in_default : goal.bounds-input-0-in_default
bounds-input-0-in_default g c =
    omega (arith, symbols-are g.G.GroupSize.is_group, c.in_default)
