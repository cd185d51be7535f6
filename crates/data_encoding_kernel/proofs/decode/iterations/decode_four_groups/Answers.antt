use Rattle.std.proofs.Common.{◌≡◌, ◌*◌, ◌<◌, length, refl, ◌∙◌, arith, ap, sym}
use Rattle.data_encoding_meaning.proofs.digits.SizeLemmas.{IsGroup-same}
use Rattle.std.proofs.lemmas.Bool.{ltb-true}
use Rattle.std.proofs.lemmas.Nat.{le_or_l, le_or_r}
use Rattle.data_encoding_kernel.proofs.decoding.SymbolRunLemmas.{run-none, group-next}
use Rattle.data_encoding_meaning.proofs.lists.PartLemmas.{length-part, part-of-four}
use Rattle.data_encoding_kernel.proofs.decode.iterations.decode_four_groups.Goals as goal

pub loop-index-init : goal.loop-index-init
loop-index-init g c = record {
  run = λ h base reads. run-none base reads.holds.is_width c.args.input.now _ _;
}

pub loop-index-preserved : goal.loop-index-preserved
loop-index-preserved g c =
    let group = IsGroup-same refl c.BYTES-bytes.ensures c.SYMBOLS-symbols.ensures
    g.G.GroupSize.is_group in
    let i = c.loop-index.index in
    let input = c.args.input.now in
    let output = c.loop-index.output in
    let enc = c.BYTES-bytes.result in
    let dec = c.SYMBOLS-symbols.result in
    let room = part-of-four (length output) enc i
    (c.loop-index.auto.output ∙ (c.requires.exact ∙ ap (λ n. 4 * n) (sym c.BYTES-bytes.ensures)))
    c.loop-index-test.true in
    let within = part-of-four (length input) dec i (c.requires.symbols ∙ ap (λ n. 4 * n)
    (sym c.SYMBOLS-symbols.ensures)) c.loop-index-test.true in
    let shown_len : length c.decode_entries-all.new.output ≡ enc =
    c.decode_entries-all.auto.output ∙ length-part (i * enc) enc output room in
    record {
      run = λ h base reads.
          let before : c.loop-index.all < 128 =
          omega (arith, h, le_or_l c.loop-index.all c.decode_entries-all.result) in
          let entries : c.decode_entries-all.result < 128 =
          omega (arith, h, le_or_r c.loop-index.all c.decode_entries-all.result) in
          group-next base reads.holds.is_width g.G.GroupSize.WIDTH enc dec group
          reads.width_is c.args.values.now
          input _ output c.decode_entries-all.new.output i _ _ refl within (omega (arith, room))
          shown_len reads.holds (c.loop-index.invariant.run before base reads)
          (λ j. (c.type_inv.input j).fits)
          (c.decode_entries-all.ensures.symbols.0 entries)
          (c.decode_entries-all.ensures.bytes base reads entries);
    }

pub slice_bounds-decode_entries-end : goal.slice_bounds-decode_entries-end
slice_bounds-decode_entries-end g c =
    part-of-four (length c.args.input.now) c.SYMBOLS-symbols.result c.loop-index.index
    (c.requires.symbols ∙ ap (λ n. 4 * n) (sym c.SYMBOLS-symbols.ensures))
    c.loop-index-test.true

pub overflow_mul-read : goal.overflow_mul-read
overflow_mul-read g c = omega (arith, slice_bounds-decode_entries-end g c)

pub overflow_mul-written : goal.overflow_mul-written
overflow_mul-written g c =
    omega (
      arith,
      part-of-four (length c.args.output.now) c.BYTES-bytes.result c.loop-index.index
          (c.requires.exact ∙ ap (λ n. 4 * n) (sym c.BYTES-bytes.ensures))
          c.loop-index-test.true,
    )

pub overflow_add-read : goal.overflow_add-read
overflow_add-read g c = omega (arith, slice_bounds-decode_entries-end g c)

pub slice_bounds-decode_entries-end-in-loop-index :
    goal.slice_bounds-decode_entries-end-in-loop-index
slice_bounds-decode_entries-end-in-loop-index g c =
    part-of-four (length c.loop-index.output) c.BYTES-bytes.result c.loop-index.index
    (c.loop-index.auto.output ∙ (c.requires.exact ∙ ap (λ n. 4 * n) (sym c.BYTES-bytes.ensures)))
    c.loop-index-test.true

pub overflow_add-written : goal.overflow_add-written
overflow_add-written g c = omega (arith, slice_bounds-decode_entries-end-in-loop-index g c)

pub returns : goal.returns
returns g c = λ all base reads.
    let end : c.loop-index.index ≡ 4 =
    omega (arith, c.loop-index-test.false, c.loop-index.auto.index-end) in
    rw end at (c.loop-index.invariant.run (ltb-true _ _ all) base reads)
