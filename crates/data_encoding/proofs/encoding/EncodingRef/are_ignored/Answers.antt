use Rattle.std.proofs.Common.{◌≡◌, ◌<◌, ◌≤◌, true, slice_index, refl, ◌∙◌, arith, subst, ⊎_elim}
use Rattle.std.proofs.lemmas.Bool.{cases_lt}
use Rattle.data_encoding_meaning.specs.text.Base.{is_ignored, meaning}
use Rattle.data_encoding.proofs.decoding.LastGroupLemmas.{none-kept}
use Rattle.data_encoding.proofs.tables.TableLemmas.{HoldsValues-seen}
use Rattle.data_encoding.proofs.encoding.EncodingRef.are_ignored.Goals as goal

pub loop-index-preserved : goal.loop-index-preserved
loop-index-preserved c =
    λ k less.
    let base = c.args.self.now in
    let rest = c.args.rest.now in
    let index = c.loop-index.index in
    let holds = HoldsValues-seen _ c.self.invariant base c.self.view_is in
    let here : is_ignored (meaning base (slice_index rest index)) ≡ true =
    holds.ignoreds (slice_index rest index) (c.type_inv.rest index).fits
    ∙ rw c.if-self-rest.false refl in
    ⊎_elim {C = is_ignored (meaning base (slice_index rest k)) ≡ true}
    (λ (before : k < index). c.loop-index.invariant k before)
    (λ (at : index ≤ k).
    let same : index ≡ k = omega (arith, at, less) in
    subst (λ j. is_ignored (meaning base (slice_index rest j)) ≡ true) same here)
    (cases_lt k index)

pub returns : goal.returns
returns c =
    λ h.
    none-kept c.args.self.now c.args.rest.now
    (λ k less.
    c.loop-index.invariant k
    (omega (arith, less, c.loop-index-test.false, c.loop-index.auto.index-end)))
