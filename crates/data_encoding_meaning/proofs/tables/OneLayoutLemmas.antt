-- No two bases have the same layout.
use Rattle.std.proofs.Common.{◌≡◌, ◌^◌, take, Option, Some, None, refl, sym, ap, ◌∙◌, subst, arith}
use Rattle.data_encoding_meaning.specs.text.Base.{Base, Wrapping}
use Rattle.data_encoding_meaning.specs.specification.Layout.{column_of, layout, separator_of}
use Rattle.data_encoding_meaning.proofs.judgement.RuleLemmas.{IsRuled, IsRuledWrapping}
use Rattle.data_encoding_meaning.proofs.tables.ReadingLemmas.{IsReadAs, is_read_as}

wrapping_same : (a b : Base) (o p : Option Wrapping) → IsRuledWrapping a o → IsRuledWrapping b p
    → column_of o ≡ column_of p → separator_of o ≡ separator_of p → o ≡ p
wrapping_same a b None None h k c s = refl
wrapping_same a b None (Some y) h k c s = absurd (omega (arith, k.some))
wrapping_same a b (Some x) None h k c s = absurd (omega (arith, h.some))
wrapping_same a b (Some x) (Some y) h k c s =
    λ i. Some (record { column = c i; separator = s i })

pub one_layout : (a b : Base) → IsRuled a → IsRuled b → layout a ≡ layout b → a ≡ b
one_layout a b ra rb e =
    let one = is_read_as a ra in
    let other : IsReadAs b (layout a) = subst (IsReadAs b) (sym e) (is_read_as b rb) in
    let width = sym one.has_flags.width_is ∙ other.has_flags.width_is in
    let order = sym one.has_flags.order_is ∙ other.has_flags.order_is in
    let checks = sym one.has_flags.checks_is ∙ other.has_flags.checks_is in
    let concatenates = sym one.has_flags.concatenates_is ∙ other.has_flags.concatenates_is in
    let symbols = sym one.symbols ∙ ap (λ w. take (2 ^ w) (layout a)) width ∙ other.symbols in
    let padding = sym one.padding ∙ other.padding in
    let meanings = sym one.meanings ∙ other.meanings in
    let wrapping = wrapping_same a b a.wrapping b.wrapping ra.wrapping rb.wrapping
    (sym one.column ∙ other.column) (sym one.separator ∙ other.separator) in
    λ i. record {
      width = width i;
      order = order i;
      symbols = symbols i;
      checks_trailing_bits = checks i;
      concatenates = concatenates i;
      padding = padding i;
      meanings = meanings i;
      wrapping = wrapping i;
    }
