-- What the tables of an encoding say about its lines.
use Rattle.std.proofs.Common.{◌≡◌, ◌≢◌, ℕ, zero, suc, ◌<◌, Some, None, IsSome, is_some, List, refl, sym, ap, ◌∙◌, arith}
use Rattle.std.proofs.lemmas.Bool.{false≢true}
use Rattle.std.specs.List.{AllByRecursion}
use Rattle.data_encoding_meaning.specs.text.Base.{Base, wrapping_by}
use Rattle.data_encoding.specs.Encoding.{EncodingTables, KeepsRules, KeepsWrapping, base_of_tables}
use Rattle.data_encoding_meaning.specs.text.Text.{text_of}
use Rattle.data_encoding_meaning.proofs.judgement.RuleLemmas.{IsRuled}
use Rattle.data_encoding.proofs.tables.TableLemmas.{padding-seen, symbols-seen}
use Rattle.data_encoding.proofs.tables.TableRuleLemmas.{IsRuled-tables}
use Rattle.data_encoding_meaning.proofs.text.PaddedTextLemmas.{ascii-padded_text}
use Rattle.data_encoding_meaning.proofs.text.LineLemmas.{ascii-text_of, separator_by}

-- what the tables of an encoding say about its lines
module _ (e : EncodingTables) (rules : KeepsRules e) (seen : Base)
    (is : base_of_tables e ≡ seen) where
  pub IsRuled-seen : IsRuled seen
  IsRuled-seen = rw is at (IsRuled-tables e rules)

  pub separator-seen : separator_by seen.wrapping ≡ e.separator
  separator-seen = rw (← is) (by e.column e.separator rules.wrapping) where
    by : (column : ℕ) (separator : List ℕ) → KeepsWrapping column separator e.width e.values
        → separator_by (wrapping_by column separator) ≡ separator
    by zero separator keeps = sym keeps
    by (suc n) separator keeps = refl

  pub wrapping-seen : e.column ≢ 0 → seen.wrapping
      ≡ Some (record { column = e.column; separator = e.separator })
  wrapping-seen h = rw (← is) (grind (arith, h))

  pub has-lines : e.column ≢ 0 → IsSome seen.wrapping
  has-lines h = ap is_some (wrapping-seen h)

  pub unwrapped-seen : e.column ≡ 0 → seen.wrapping ≡ None
  unwrapped-seen h = rw (← is, h)

  pub ascii-seen : (bytes : List ℕ) → AllByRecursion (λ byte. byte < 128) (text_of seen bytes)
  ascii-seen bytes =
      ascii-text_of seen IsRuled-seen bytes
      (ascii-padded_text seen bytes (symbols-seen e rules seen is) (padding-seen e rules seen is))

  pub column-some : IsSome seen.wrapping → e.column ≢ 0
  column-some h none = false≢true (sym (ap is_some (unwrapped-seen none)) ∙ h)
