use Rattle.std.proofs.Common.{◌≡◌, ℕ, ◌+◌, ◌-◌, ◌*◌, ◌/◌, ◌++◌, length, map, take, replicate, slice_index, sym, ap, ◌∙◌, arith, append-nil, length-append}
use Rattle.std.proofs.lemmas.Bool.{eqb-true}
use Rattle.std.proofs.lemmas.List.{drop_all, length-replicate, nil_from_length, take-map}
use Rattle.data_encoding_meaning.specs.text.Text.{plain_text}
use Rattle.data_encoding_meaning.proofs.lists.RunLemmas.{run_count, run_count-few}
use Rattle.data_encoding_meaning.proofs.text.PlainTextLemmas.{plain_text-nil}
use Rattle.data_encoding_kernel.proofs.text.GroupTextLemmas.{plain_text-groups}
use Rattle.data_encoding_kernel.proofs.text.SixteenSymbolLemmas.{padded-front, sixteen-bytes, text-front}
use Rattle.data_encoding_kernel.proofs.simd.encode.encode_sixteen.Goals as goal

pub returns-then-is_empty : goal.returns-then-is_empty
returns-then-is_empty g c base writes =
    let input = c.args.input.now in
    let width = g.G.GroupSize.WIDTH in
    let none : length input ≡ 0 = eqb-true (length input) 0 (sym c.if-is_empty.ensures) in
    let few = run_count-few width (8 * length input) 0 g.G.GroupSize.is_group.is_width.some
    (omega arith) in
    nil_from_length c.args.output.now (omega (arith, c.requires.exact, few))
    ∙ sym (ap (plain_text base) (nil_from_length input none)
    ∙ plain_text-nil base writes.holds.is_width.some)

pub store_front-requires-clause-few : goal.store_front-requires-clause-few
store_front-requires-clause-few g c =
    omega (
      arith,
      c.requires.exact,
      run_count-few g.G.GroupSize.WIDTH (8 * length c.args.input.now) 16
          g.G.GroupSize.is_group.is_width.some c.requires.few,
    )

pub returns : goal.returns
returns g c base writes =
    let group = g.G.GroupSize.is_group in
    let width = g.G.GroupSize.WIDTH in
    let bytes = g.G.GroupSize.BYTES in
    let symbols = c.args.symbols.now in
    let input = c.args.input.now in
    let padded = c.load_padded.result in
    let values = c.digits_of_sixteen-values.result in
    let len = length c.args.output.now in
    let n = length input in
    let loaded : length padded ≡ 16 =
    ap length c.load_padded.ensures
    ∙ length-append input (replicate (16 - n) 0)
    ∙ omega (arith, length-replicate {A = ℕ} (16 - n) 0, c.requires.few, group.is_width.few) in
    let front : take (16 / g.G.GroupSize.SYMBOLS * bytes) padded
    ≡ input ++ replicate (2 * width - n) 0 =
    (λ i. take (sixteen-bytes group i) (c.load_padded.ensures i))
    ∙ padded-front input (2 * width) 16 (omega (arith, c.requires.few))
    (omega (arith, group.is_width.few)) in
    let whole : 8 * (n + (2 * width - n)) ≡ 16 * base.width =
    omega (arith, c.requires.few, writes.width_is) in
    c.store_front.ensures
    ∙ ap (λ l. take len c.first_sixteen.result ++ l) (drop_all len c.args.output.now (omega arith))
    ∙ append-nil (take len c.first_sixteen.result)
    ∙ ap (take len) (c.first_sixteen.ensures
    ∙ ap (take 16) c.symbols_of.ensures
    ∙ take-map (slice_index symbols) 16 values
    ∙ ap (map (slice_index symbols)) c.digits_of_sixteen-values.ensures.digits
    ∙ plain_text-groups base c.args.order width bytes g.G.GroupSize.SYMBOLS symbols group writes
    (16 / g.G.GroupSize.SYMBOLS) padded
    (omega (arith, sixteen-bytes group, loaded, group.is_width.few))
    ∙ ap (plain_text base) front)
    ∙ ap (λ k. take k (plain_text base (input ++ replicate (2 * width - n) 0)))
    (c.requires.exact ∙ ap (λ w. run_count w (8 * n)) (sym writes.width_is))
    ∙ text-front base input (2 * width - n) 16 writes.holds.is_width.some whole
