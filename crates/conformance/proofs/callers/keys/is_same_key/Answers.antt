use Rattle.std.proofs.Common.{Fits, w8, arith, ℕ, ◌<◌, List, get_or, sym, ap, ◌∙◌}
use Rattle.std.proofs.lemmas.List.Elements.{All-from_get_or}
use Rattle.std.proofs.lemmas.Slice.Eq.{bytes_eq-Decides}
use Rattle.data_encoding.specs.Text.{text_of}
use Rattle.conformance.proofs.callers.keys.is_same_key.Goals as goal

pub returns : goal.returns
returns c =
    let base = c.args.encoding.now in
    let one = c.args.one.now in
    let other = c.args.other.now in
    let decides = bytes_eq-Decides c.as_bytes.result.now c.as_bytes-2.result.now in
    let first = c.as_bytes.ensures.value ∙ c.in_ok-text.ensures.text in
    let second = c.as_bytes-2.ensures.value ∙ c.in_ok-other_text.ensures.text in
    let each = λ (l : List ℕ) (h : (i : ℕ) → Fits w8 (get_or l i 0)).
    All-from_get_or (λ byte. byte < 256) l 0 (λ i _. omega (arith, h i)) in (
      (λ same.
          c.injective.ensures.differ base c.bit_width-width.ensures.base one other
          (each one c.type_inv.one) (each other c.type_inv.other)
          (sym first ∙ decides.0 (sym c.eq.ensures ∙ same) ∙ second)),
      (λ same. c.eq.ensures ∙ decides.1 (first ∙ ap (text_of base) same ∙ sym second)),
    )
