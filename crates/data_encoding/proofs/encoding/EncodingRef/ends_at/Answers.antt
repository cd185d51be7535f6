use Rattle.std.proofs.Common.{◌≡◌, ◌⊎◌, ◌+◌, ◌-◌, length, true, false, refl, sym, ap, subst, ◌∙◌, arith, inl, inr, IsTrue}
use Rattle.std.proofs.lemmas.List.{take_rest}
use Rattle.data_encoding_meaning.specs.text.Base.{ignores_some}
use Rattle.data_encoding_meaning.specs.text.Lengths.{is_valid_length}
use Rattle.data_encoding.specs.Endings.{IsPaddedBy}
use Rattle.data_encoding.proofs.decoding.LastGroupLemmas.{ends-after, ends-full}
use Rattle.data_encoding.proofs.decoding.ShortLemmas.{joins-width}
use Rattle.data_encoding.proofs.encoding.EncodingRef.ends_at.Goals as goal
use Rattle.data_encoding.proofs.encoding.EncodingRef.ends_at.Goals.{then-is_valid_length+then-padding-eq0, then-is_valid_length+else-padding-eq0, else-is_valid_length}

pub returns-then-left-eq0 : goal.returns-then-left-eq0
returns-then-left-eq0 c =
    λ h.
    let none : ignores_some c.args.self.now ≡ false =
    ap ignores_some (sym c.self.view_is) ∙ sym c.self.invariant.ignores ∙ c.if-not-self.true in (
      0,
      ends-full (joins-width c.requires.join) c.requires.front c.requires.few 0
          (omega (arith, c.requires.front.within, c.if-left-eq0.true)) (c.requires.valid none)
          (inl refl),
    )

pub returns-else-left-eq0 : goal.returns-else-left-eq0
returns-else-left-eq0 c =
    λ h.
    let none : ignores_some c.args.self.now ≡ false =
    ap ignores_some (sym c.self.view_is) ∙ sym c.self.invariant.ignores ∙ c.if-not-self.true in (
      length c.args.rest.now - c.args.front.now.symbols,
      ends-full (joins-width c.requires.join) c.requires.front c.requires.few
          (length c.args.rest.now - c.args.front.now.symbols)
          (omega (arith, c.requires.front.within)) (c.requires.valid none)
          (inr (c.is_padded_by.ensures h)),
    )

pub returns-then-is_padded_by : goal.returns-then-is_padded_by
returns-then-is_padded_by c =
    λ h.
    let base = c.args.self.now in
    let rest = c.args.rest.now in
    let count = c.args.front.now.symbols in
    let padding = c.padding_after-padding.result in
    let valid : is_valid_length base (count + padding) ≡ true =
    elim c.if-is_valid_length.branch [
      | then-is_valid_length+then-padding-eq0 w ↦ sym c.is_valid_length.ensures
          ∙ w.if-is_valid_length.true
      | then-is_valid_length+else-padding-eq0 w ↦ sym c.is_valid_length.ensures
          ∙ w.if-is_valid_length.true
      | else-is_valid_length w ↦ cc (w.value-is, c.if-is_padded_by.true)
    ] in
    let how : (padding ≡ 0) ⊎ IsPaddedBy base c.args.front.now padding =
    elim c.if-is_valid_length.branch [
      | then-is_valid_length+then-padding-eq0 w ↦ inl w.if-padding-eq0.true
      | then-is_valid_length+else-padding-eq0 w ↦ inr (w.is_padded_by-else-padding-eq0.ensures
          (subst IsTrue (sym (sym w.value-is ∙ c.if-is_padded_by.true)) refl))
      | else-is_valid_length w ↦ cc (w.value-is, c.if-is_padded_by.true)
    ] in (
      padding,
      ends-after (joins-width c.requires.join) c.requires.front c.requires.few padding
          (omega (arith, c.requires.front.within, c.padding_after-padding.ensures.few)) valid how
          (rw (take_rest rest (count + padding)) at (c.are_ignored.ensures h)),
    )
