use Rattle.std.proofs.Common.{◌≡◌, IsTrue, subst, sym, true, rules, ◌∙◌}
use Rattle.std.proofs.lemmas.Slice.Eq.{bytes_eq-Decides}
use Rattle.data_encoding.specs.Grammar.{Means}
use Rattle.conformance.proofs.callers.is_one_text.Goals as goal

pub returns-clause-same : goal.returns-clause-same
returns-clause-same c =
    let base = c.args.encoding.now in
    let text = c.args.text.now in
    let other = c.args.other.now in
    let bytes = c.in_ok-bytes.bytes.items in
    let others = c.in_ok-others.others.items in
    let means = c.in_ok-bytes.ensures.means in
    let other_means = c.in_ok-others.ensures.means in
    let first = c.as_slice.ensures.value in
    let second = c.as_slice-2.ensures.value in
    let decides = bytes_eq-Decides c.as_slice.result.now c.as_slice-2.result.now in
    let is : c.is_canonical.result ≡ true = search rules in
    let canonical = c.is_canonical.ensures.canonical.0 is in
    let same_text : IsTrue c.eq.result → text ≡ other =
    λ equal.
    canonical text other bytes c.requires.limit c.requires.other_limit means
    (subst (Means base other) (sym (sym first ∙ decides.0 (sym c.eq.ensures ∙ equal) ∙ second))
    other_means) in
    let same_bytes : text ≡ other → bytes ≡ others =
    λ same.
    c.one_meaning.ensures base c.bit_width-width.ensures.base text bytes others means
    (subst (λ t. Means base t others) (sym same) other_means) in (
      λ equal. (canonical, same_text equal),
      λ one. c.eq.ensures ∙ decides.1 (first ∙ same_bytes one.1 ∙ sym second),
    )
