use Rattle.std.proofs.Common.{◌≡◌, ◌*◌, take, sym, ap, ◌∙◌, arith}
use Rattle.std.proofs.lemmas.List.{take_all}
use Rattle.std.proofs.lemmas.Simd.{put_chunk_whole}
use Rattle.data_encoding_meaning.proofs.digits.SizeLemmas.{symbols-are}
use Rattle.data_encoding_kernel.proofs.simd.encode.store.Goals as goal

pub returns-then-count-eq8 : goal.returns-then-count-eq8
returns-then-count-eq8 g c =
    let all : 8 * g.G.GroupSize.SYMBOLS ≡ 64 = ap (λ n. 8 * n)
    (sym c.SYMBOLS-count.ensures ∙ c.if-count-eq8.true) in
    let lanes = c.args.lanes in
    put_chunk_whole c.args.output.now lanes (c.requires.exact ∙ all ∙ sym c.fits-lanes.0)
    ∙ sym (take_all 64 lanes (omega (arith, c.fits-lanes.0)))
    ∙ ap (λ n. take n lanes) (sym all)

pub returns-then-count-eq4 : goal.returns-then-count-eq4
returns-then-count-eq4 g c =
    let all : 8 * g.G.GroupSize.SYMBOLS ≡ 32 = ap (λ n. 8 * n)
    (sym c.SYMBOLS-count.ensures ∙ c.if-count-eq4.true) in
    c.store_thirty_two.ensures ∙ ap (λ n. take n c.args.lanes) (sym all)

pub store_thirty_two-requires : goal.store_thirty_two-requires
store_thirty_two-requires g c = record {
  exact = c.requires.exact ∙ ap (λ n. 8 * n) (sym c.SYMBOLS-count.ensures ∙ c.if-count-eq4.true);
}

pub store_sixteen-requires : goal.store_sixteen-requires
store_sixteen-requires g c =
    let two : g.G.GroupSize.SYMBOLS ≡ 2 = omega (arith, symbols-are g.G.GroupSize.is_group) in
    record { exact = c.requires.exact ∙ ap (λ n. 8 * n) two }

pub returns-else-count-eq4 : goal.returns-else-count-eq4
returns-else-count-eq4 g c =
    let two : g.G.GroupSize.SYMBOLS ≡ 2 = omega (arith, symbols-are g.G.GroupSize.is_group) in
    c.store_sixteen.ensures ∙ ap (λ n. take (8 * n) c.args.lanes) (sym two)
