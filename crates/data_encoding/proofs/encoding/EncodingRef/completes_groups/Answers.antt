use Rattle.std.proofs.Common.{◌≡◌, ℕ, ◌-◌, ◌*◌, ◌/◌, ◌==◌, ◌||◌, Bool, true, false, if◌then◌else◌, refl, sym, ap, ◌∙◌}
use Rattle.data_encoding_meaning.specs.text.Base.{IsWidth, group_bytes, group_symbols, is_padded}
use Rattle.data_encoding_meaning.proofs.digits.WidthLemmas.{by_width}
use Rattle.data_encoding.proofs.tables.TableLemmas.{IsWidth-seen}
use Rattle.data_encoding.proofs.encoding.EncodingRef.completes_groups.Goals as goal

-- what a symbol less than a whole group may mean
short-group : (padded : Bool) (width : ℕ) → IsWidth width
    → (padded || group_bytes width == 1)
    ≡ ((if padded then (group_symbols width - 1) / group_symbols width * group_bytes width
    else width * (group_symbols width - 1) / 8) == 0)
short-group true =
    by_width (λ w. true
    ≡ ((group_symbols w - 1) / group_symbols w * group_bytes w == 0)) refl refl refl refl refl refl
short-group false =
    by_width (λ w. (group_bytes w == 1) ≡ (w * (group_symbols w - 1) / 8 == 0)) refl refl refl refl
    refl refl

pub returns-then-is_padded-clause-none : goal.returns-then-is_padded-clause-none
returns-then-is_padded-clause-none c =
    let seen = c.args.self.now in
    let padded : c.is_padded.result ≡ is_padded seen =
    c.is_padded.ensures ∙ ap is_padded c.self.view_is in
    c.if-is_padded.true
    ∙ ap (λ p. p || group_bytes seen.width == 1) (sym c.if-is_padded.true ∙ padded)
    ∙ short-group (is_padded seen) seen.width
    (IsWidth-seen _ c.self.invariant seen c.self.view_is)

pub returns-else-is_padded-clause-none : goal.returns-else-is_padded-clause-none
returns-else-is_padded-clause-none c =
    let seen = c.args.self.now in
    let padded : c.is_padded.result ≡ is_padded seen =
    c.is_padded.ensures ∙ ap is_padded c.self.view_is in
    ap (λ n. n == 1) c.group_bytes.ensures.value
    ∙ ap (λ p. p || group_bytes seen.width == 1) (sym c.if-is_padded.false ∙ padded)
    ∙ short-group (is_padded seen) seen.width
    (IsWidth-seen _ c.self.invariant seen c.self.view_is)
