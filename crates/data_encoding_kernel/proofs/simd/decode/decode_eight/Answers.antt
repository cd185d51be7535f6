use Rattle.std.proofs.Common.{◌∙◌}
use Rattle.data_encoding_kernel.proofs.decoding.GroupRunLemmas.{found-run}
use Rattle.data_encoding_kernel.proofs.simd.decode.decode_eight.Goals as goal

pub returns-clause-run : goal.returns-clause-run
returns-clause-run g c = λ values held base reads.
    let found = c.words_of_groups-count.ensures in
    found-run base values g.G.GroupSize.WIDTH g.G.GroupSize.BYTES g.G.GroupSize.SYMBOLS
    c.args.order g.G.GroupSize.is_group reads 8 c.args.input.now c.args.output.now
    c.store.new.output c.words_of_groups-count.result.0 c.words_of_groups-count.result.1
    c.requires.symbols (c.store.auto.output ∙ c.requires.exact)
    (λ j. (c.type_inv.input j).fits) found.few (found.symbols values held)
    (found.words values held (rw reads.width_is at reads.holds.below)) c.store.ensures
