-- Two encodings with one base have the same tables.
use Rattle.std.proofs.Common.{◌≡◌, ℕ, zero, suc, ◌/◌, ◌^◌, ◌==◌, Bool, ◌&&◌, List, map, take, replicate, Option, Some, None, refl, sym, ap, ◌∙◌, subst}
use Rattle.std.proofs.Math.Bool.{beq}
use Rattle.std.proofs.lemmas.Bool.Decides.{Decides-and, Decides-at, Decides-eqb, Decides-like}
use Rattle.std.proofs.lemmas.List.{take-take}
use Rattle.std.proofs.lemmas.Slice.Eq.{bytes_eq-Decides}
use Rattle.std.specs.Bool.{Decides}
use Rattle.std.specs.Cmp.{booleans_Decides}
use Rattle.std.specs.List.{concat}
use Rattle.std.specs.Option.{option_eq}
use Rattle.std.specs.Str.{bytes_eq}
use Rattle.data_encoding_meaning.specs.text.Base.{Base, Wrapping, wrapping_by}
use Rattle.data_encoding.specs.Encoding.{EncodingTables, KeepsRules, KeepsWrapping, base_of_tables}
use Rattle.data_encoding_meaning.specs.specification.Entries.{meaning_of_entry}
use Rattle.data_encoding_meaning.specs.specification.Layout.{code_of, layout}
use Rattle.data_encoding_meaning.proofs.digits.WidthLemmas.{symbols-few}
use Rattle.data_encoding_meaning.proofs.judgement.RuleLemmas.{IsRuled}
use Rattle.data_encoding_meaning.proofs.tables.LayoutLemmas.{codes-back}
use Rattle.data_encoding_meaning.proofs.tables.OneLayoutLemmas.{one_layout}
use Rattle.data_encoding.proofs.tables.TableRuleLemmas.{HoldsEntries-tables, IsRuled-tables}

-- in the order in which they are compared
abbrev AreSame : EncodingTables → EncodingTables → Type 0
AreSame e f =
    ((((((((e.width ≡ f.width) × (e.order ≡ f.order))
    × (e.checks_trailing_bits ≡ f.checks_trailing_bits)) × (e.concatenates ≡ f.concatenates))
    × (e.padding ≡ f.padding)) × (e.column ≡ f.column))
    × (take 64 e.symbols ≡ take 64 f.symbols)) × (take 128 e.values ≡ take 128 f.values))
    × (e.separator ≡ f.separator)

lines-same : (m n : ℕ) (xs ys : List ℕ) (v w : ℕ) (vs ws : List ℕ) → KeepsWrapping m xs v vs
    → KeepsWrapping n ys w ws → wrapping_by m xs ≡ wrapping_by n ys → (m ≡ n) × (xs ≡ ys)
lines-same zero zero xs ys v w vs ws h k e = (refl, h ∙ sym k)
lines-same (suc m) (suc n) xs ys v w vs ws h k e =
    let same : record { column = suc m; separator = xs } ≡ record { column = suc n; separator = ys }
    = cc in
    (ap (λ (l : Wrapping). l.column) same, ap (λ (l : Wrapping). l.separator) same)
lines-same _ _ xs ys v w vs ws h k e = cc

paddings-Decides : (o p : Option ℕ) → Decides (option_eq ◌==◌ o p) (o ≡ p)
paddings-Decides None None = (λ h. refl, λ h. refl)
paddings-Decides (Some x) (Some y) =
    Decides-like (x == y) (λ h. ap (λ n. Some n) h) (λ h. cc) (Decides-eqb x y)
paddings-Decides _ _ = (λ h. cc, λ h. cc)

-- the symbols are among the first 64 of their table
symbols-first : (e : EncodingTables) → KeepsRules e
    → take (2 ^ e.width) (take 64 e.symbols) ≡ take (2 ^ e.width) e.symbols
symbols-first e rules =
    take-take (2 ^ e.width) 64 e.symbols (symbols-few e.width rules.is_width)

module _ {e f : EncodingTables} (he : KeepsRules e) (hf : KeepsRules f) where
  base-same : AreSame e f → base_of_tables e ≡ base_of_tables f
  base-same same =
      let width = same.0.0.0.0.0.0.0.0 in
      let symbols : take (2 ^ e.width) e.symbols ≡ take (2 ^ f.width) f.symbols =
      sym (symbols-first e he) ∙ (λ i. take (2 ^ width i) (same.0.0.1 i)) ∙ symbols-first f hf in
      λ i. record {
        width = width i;
        order = same.0.0.0.0.0.0.0.1 i;
        symbols = symbols i;
        checks_trailing_bits = same.0.0.0.0.0.0.1 i;
        concatenates = same.0.0.0.0.0.1 i;
        padding = same.0.0.0.0.1 i;
        meanings = map meaning_of_entry (same.0.1 i);
        wrapping = wrapping_by (same.0.0.0.1 i) (same.1 i);
      }

  tables-same : base_of_tables e ≡ base_of_tables f → AreSame e f
  tables-same is =
      let symbols : take 64 e.symbols ≡ take 64 f.symbols =
      ap (take 64) (he.symbols_repeat
      ∙ ap (λ (base : Base). concat (replicate (256 / 2 ^ base.width) base.symbols)) is
      ∙ sym hf.symbols_repeat) in
      let values : take 128 e.values ≡ take 128 f.values =
      sym (codes-back (take 128 e.values) (HoldsEntries-tables e he).entries)
      ∙ ap (λ (base : Base). map code_of base.meanings) is
      ∙ codes-back (take 128 f.values) (HoldsEntries-tables f hf).entries in
      let lines = lines-same e.column f.column e.separator f.separator _ _ _ _
      he.wrapping hf.wrapping (ap (λ (base : Base). base.wrapping) is) in
      let width = ap (λ (base : Base). base.width) is in
      let order = ap (λ (base : Base). base.order) is in
      let checks = ap (λ (base : Base). base.checks_trailing_bits) is in
      let concatenates = ap (λ (base : Base). base.concatenates) is in
      let padding = ap (λ (base : Base). base.padding) is in
      ((((((((width, order), checks), concatenates), padding), lines.0), symbols), values), lines.1)

  -- what follows from the comparison of the tables, whatever compares the orders
  pub base-Decides : {result order : Bool} {a b : Base} → base_of_tables e ≡ a
      → base_of_tables f ≡ b → Decides order (e.order ≡ f.order)
      → result ≡ (((((((((e.width == f.width) && order)
      && beq e.checks_trailing_bits f.checks_trailing_bits)
      && beq e.concatenates f.concatenates)
      && option_eq ◌==◌ e.padding f.padding) && (e.column == f.column))
      && bytes_eq (take 64 e.symbols) (take 64 f.symbols))
      && bytes_eq (take 128 e.values) (take 128 f.values))
      && bytes_eq e.separator f.separator) → Decides result (a ≡ b)
  base-Decides {result} to_a to_b orders is =
      Decides-like result (λ same. sym to_a ∙ base-same same ∙ to_b)
      (λ same. tables-same (to_a ∙ same ∙ sym to_b))
      (Decides-at result _ is
      (Decides-and _ _ (Decides-and _ _ (Decides-and _ _ (Decides-and _ _ (Decides-and _ _
      (Decides-and _ _ (Decides-and _ _ (Decides-and _ _ (Decides-eqb e.width f.width) orders)
      (booleans_Decides e.checks_trailing_bits f.checks_trailing_bits))
      (booleans_Decides e.concatenates f.concatenates))
      (paddings-Decides e.padding f.padding)) (Decides-eqb e.column f.column))
      (bytes_eq-Decides (take 64 e.symbols) (take 64 f.symbols)))
      (bytes_eq-Decides (take 128 e.values) (take 128 f.values)))
      (bytes_eq-Decides e.separator f.separator)))

  pub layout-Decides : {result : Bool} {a b : Base} → base_of_tables e ≡ a → base_of_tables f ≡ b
      → Decides result (a ≡ b) → Decides result (layout a ≡ layout b)
  layout-Decides {result} {a} {b} to_a to_b =
      Decides-like result (λ same. ap layout same)
      (one_layout a b (subst IsRuled to_a (IsRuled-tables e he))
      (subst IsRuled to_b (IsRuled-tables f hf)))
