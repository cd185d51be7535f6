use Rattle.std.proofs.Common.{◌≡◌, ◌≢◌, ℕ, zero, suc, ◌*◌, ◌/◌, ◌<◌, ◌≤◌, List, refl, sym, subst, arith}
use Rattle.data_encoding_meaning.specs.text.Base.{IsWidth, wrapping_by}
use Rattle.data_encoding.specs.Encoding.{KeepsWrapping}
use Rattle.data_encoding_meaning.specs.text.Lengths.{align_by}
use Rattle.data_encoding_meaning.proofs.digits.WidthLemmas.{group_bytes-pos}
use Rattle.data_encoding.proofs.tables.TableRuleLemmas.{is_base_of}
use Rattle.data_encoding_meaning.proofs.text.BlockLemmas.{few-columns}
use Rattle.data_encoding.proofs.text.LineTableLemmas.{IsRuled-seen, wrapping-seen}
use Rattle.data_encoding_meaning.proofs.text.LineLemmas.{alignment-some}
use Rattle.data_encoding.proofs.encoding.EncodingRef.encode_align.Goals as goal

by_column : (column width : ℕ) (separator : List ℕ) → column ≢ 0
    → column * width / 8 ≡ align_by (wrapping_by column separator) width
by_column zero width separator h = absurd (h refl)
by_column (suc n) width separator h = refl

few-lines : (column : ℕ) (separator : List ℕ) (width : ℕ) (values : List ℕ) → IsWidth width
    → KeepsWrapping column separator width values → column * width / 8 ≤ 189
few-lines zero separator width values is keeps = omega arith
few-lines (suc n) separator width values is keeps =
    (few-columns width is (suc n) keeps.0 keeps.1).1

pub returns-then-self-ne0-clause-value : goal.returns-then-self-ne0-clause-value
returns-then-self-ne0-clause-value c =
    rw (← c.self.view_is)
    (by_column c.self.inside.fields.now.column c.self.inside.fields.now.width _
    c.if-self-ne0.true)

pub returns-then-self-ne0-clause-some : goal.returns-then-self-ne0-clause-some
returns-then-self-ne0-clause-some c =
    let seen = c.args.self.now in
    let ruled = IsRuled-seen _ c.self.invariant seen c.self.view_is in
    let wrapping = wrapping-seen _ c.self.invariant seen c.self.view_is
    c.if-self-ne0.true in
    subst (λ n. 0 < n) (sym (returns-then-self-ne0-clause-value c))
    (alignment-some seen ruled _ wrapping)

pub returns-then-self-ne0-clause-most : goal.returns-then-self-ne0-clause-most
returns-then-self-ne0-clause-most c =
    few-lines c.self.inside.fields.now.column _ c.self.inside.fields.now.width
    c.self.inside.fields.now.values.entries c.self.invariant.is_width c.self.invariant.wrapping

pub returns-clause-some : goal.returns-clause-some
returns-clause-some c =
    subst (λ n. 0 < n) (sym c.group_bytes.ensures.value)
    (group_bytes-pos c.self.inside.fields.now.width c.self.invariant.is_width)

pub returns-then-self-ne0-clause-base : goal.returns-then-self-ne0-clause-base
returns-then-self-ne0-clause-base c =
    rw (← c.self.view_is) (is_base_of _ c.self.invariant)

pub returns-clause-base : goal.returns-clause-base
returns-clause-base c = rw (← c.self.view_is) (is_base_of _ c.self.invariant)
