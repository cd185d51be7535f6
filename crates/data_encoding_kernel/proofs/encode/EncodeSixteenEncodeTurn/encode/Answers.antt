use Rattle.std.proofs.Common.{◌≡◌, ◌*◌, length, sym, ap, ◌∙◌, arith}
use Rattle.data_encoding_meaning.proofs.lists.RunLemmas.{run_count, run_count-whole}
use Rattle.data_encoding_kernel.proofs.decoding.GroupRunLemmas.{sixteen-symbols}
use Rattle.data_encoding_kernel.proofs.text.SixteenSymbolLemmas.{sixteen-bytes}
use Rattle.data_encoding_kernel.proofs.encode.EncodeSixteenEncodeTurn.encode.Goals as goal

pub encode_sixteen-requires-clause-few : goal.encode_sixteen-requires-clause-few
encode_sixteen-requires-clause-few g c =
    omega (arith, c.requires, sixteen-bytes g.G.GroupSize.is_group)

pub encode_sixteen-requires-clause-exact : goal.encode_sixteen-requires-clause-exact
encode_sixteen-requires-clause-exact g c =
    let group = g.G.GroupSize.is_group in
    let width = g.G.GroupSize.WIDTH in
    let whole : 16 * width ≡ 8 * length c.args.input.now =
    omega (arith, c.requires, sixteen-bytes group) in
    c.requires.exact
    ∙ sixteen-symbols group
    ∙ sym (run_count-whole width 16 group.is_width.some)
    ∙ ap (run_count width) whole
