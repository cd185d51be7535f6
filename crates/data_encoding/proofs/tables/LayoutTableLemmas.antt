-- The layout of an encoding, from its tables.
use Rattle.std.proofs.Common.{◌≡◌, ◌≢◌, ℕ, zero, suc, ◌+◌, ◌/◌, ◌^◌, Bool, if◌then◌else◌, List, [], ◌∷◌, ◌++◌, map, take, drop, replicate, unwrap_or, refl, sym, ap, ◌∙◌, append_assoc, take-append-drop, arith, min}
use Rattle.std.proofs.lemmas.Bool.Decides.{nat_tests}
use Rattle.std.specs.List.{concat}
use Rattle.data_encoding_meaning.specs.text.Base.{ignores_some, wrapping_by}
use Rattle.data_encoding.specs.Encoding.{EncodingTables, KeepsRules, base_of_tables}
use Rattle.data_encoding.specs.PlainTables.{padding_by}
use Rattle.data_encoding_meaning.specs.specification.Entries.{meaning_of_entry}
use Rattle.data_encoding_meaning.specs.specification.Layout.{code_of, layout, order_flag, wrapping_bytes}
use Rattle.data_encoding.proofs.tables.TableRuleLemmas.{HoldsEntries-tables}
use Rattle.data_encoding_meaning.proofs.tables.LayoutLemmas.{codes-back}

-- the entry of padding, or of none
pub padding-entry : (entry : ℕ) → min entry 128 ≡ unwrap_or (padding_by entry) 128
padding-entry entry = grind (arith, nat_tests)

module _ (e : EncodingTables) (rules : KeepsRules e) where
  tables : concat (replicate (256 / 2 ^ e.width) (take (2 ^ e.width) e.symbols))
      ++ map code_of (map meaning_of_entry (take 128 e.values)) ++ replicate 128 128
      ≡ e.symbols ++ e.values
  tables =
      let back = codes-back (take 128 e.values) (HoldsEntries-tables e rules).entries in
      (λ i. sym rules.symbols_repeat i ++ back i ++ sym rules.invalid_from_128 i)
      ∙ append_assoc e.symbols (take 128 e.values) (drop 128 e.values)
      ∙ ap (λ l. e.symbols ++ l) (take-append-drop 128 e.values)

  abbrev flags : ℕ
  flags =
      e.width + order_flag e.order + (if e.checks_trailing_bits then 16 else 0)
      + (if e.concatenates then 0 else 32)

  -- the layout as it is put together
  pub layout-joined : (first second third fourth whole tail : List ℕ) → first ≡ []
      → second ≡ first ++ e.symbols → third ≡ second ++ e.values
      → fourth ≡ third ++ unwrap_or e.padding 128
      ∷ flags ∷ []
      → whole ≡ fourth ++ tail
      → wrapping_bytes (ignores_some (base_of_tables e)) (wrapping_by e.column e.separator)
      ≡ tail → whole ≡ layout (base_of_tables e)
  layout-joined first second third fourth whole tail e0 e1 e2 e3 e4 is =
      let entry = unwrap_or e.padding 128 in
      let both : third ≡ e.symbols ++ e.values =
      e2 ∙ ap (λ l. l ++ e.values) (e1 ∙ ap (λ l. l ++ e.symbols) e0) in
      e4 ∙ ap (λ l. l ++ tail) e3 ∙ append_assoc third (entry ∷ flags ∷ []) tail
      ∙ (λ i. (both ∙ sym (tables)) i ++ entry ∷ flags ∷ sym is i)

  pub lines-tail : e.column ≢ 0
      → wrapping_bytes (ignores_some (base_of_tables e)) (wrapping_by e.column e.separator)
      ≡ e.column ∷ e.separator
  lines-tail = by_number e.column where
    by_number : (n : ℕ) → n ≢ 0
        → wrapping_bytes (ignores_some (base_of_tables e)) (wrapping_by n e.separator)
        ≡ n ∷ e.separator
    by_number zero h = absurd (h refl)
    by_number (suc n) h = refl

  pub no_lines-tail : (b : Bool) → e.column ≡ 0 → ignores_some (base_of_tables e) ≡ b
      → wrapping_bytes (ignores_some (base_of_tables e)) (wrapping_by e.column e.separator)
      ≡ (if b then 0 ∷ [] else [])
  no_lines-tail b none is =
      λ i. wrapping_bytes (is i) (wrapping_by (none i) e.separator)
