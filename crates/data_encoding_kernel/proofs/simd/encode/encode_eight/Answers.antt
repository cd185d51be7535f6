use Rattle.std.proofs.Common.{◌*◌, map, take, slice_index, ap, ◌∙◌, arith}
use Rattle.std.proofs.lemmas.List.{take-map}
use Rattle.data_encoding_kernel.proofs.text.GroupTextLemmas.{plain_text-groups}
use Rattle.data_encoding_kernel.proofs.simd.encode.encode_eight.Goals as goal

pub returns : goal.returns
returns g c base writes =
    let order = c.args.order in
    let input = c.args.input.now in
    let symbols = c.args.symbols.now in
    let group = g.G.GroupSize.is_group in
    let width = g.G.GroupSize.WIDTH in
    let show = map (slice_index symbols) in
    c.store.ensures
    ∙ (λ i. take (8 * g.G.GroupSize.SYMBOLS) (c.symbols_of.ensures i))
    ∙ take-map (slice_index symbols) (8 * g.G.GroupSize.SYMBOLS) c.digits_of_eight-values.result
    ∙ ap show c.digits_of_eight-values.ensures.digits
    ∙ plain_text-groups base order width g.G.GroupSize.BYTES g.G.GroupSize.SYMBOLS symbols group
    writes 8 input
    (omega (arith, c.requires.bytes))
