use Rattle.std.proofs.Common.{Fits, w8, arith, ℕ, ◌<◌, List, get_or, lit<, sym, subst}
use Rattle.std.proofs.lemmas.List.Elements.{All-from_get_or}
use Rattle.std.specs.String.{string_bytes}
use Rattle.data_encoding.specs.Fields.{IsSpecified}
use Rattle.data_encoding.specs.Order.{IsBefore}
use Rattle.data_encoding.specs.Predefined.{base32hex_nopad_fields}
use Rattle.data_encoding.specs.Text.{text_of}
use Rattle.conformance.proofs.callers.keys.texts_in_order.Goals as goal

pub returns : goal.returns
returns c =
    let seen = c.base32hex_nopad-encoding.result in
    let is_built = c.base32hex_nopad-encoding.ensures in
    let is : IsSpecified seen = record { fields = base32hex_nopad_fields; is_built = is_built } in
    let has = c.eighteen.ensures.base32hex_nopad seen is_built in
    let ordered = c.order.ensures.sixteen.0 4 base32hex_nopad_fields (lit< tt) seen is_built in
    let each = λ (l : List ℕ) (h : (i : ℕ) → Fits w8 (get_or l i 0)).
    All-from_get_or (λ byte. byte < 256) l 0 (λ i _. omega (arith, h i)) in
    let keeps = (c.order.ensures.kept seen is has.wrapping).0 ordered c.args.one.now
    c.args.other.now (each _ c.type_inv.one) (each _ c.type_inv.other) c.requires.order in
    subst (λ text. IsBefore (string_bytes c.in_ok-text.text) text)
    (sym c.in_ok-other_text.ensures.text)
    (subst (λ text. IsBefore text (text_of seen c.args.other.now)) (sym c.in_ok-text.ensures.text)
    keeps)
