-- What the builder makes from a specification.
use Rattle.std.proofs.Common.{◌≡◌, ℕ, zero, suc, ◌%◌, ◌/◌, ◌^◌, ◌<◌, ◌==◌, Bool, true, false, ◌||◌, cond, List, [], length, map, take, replicate, Option, Some, None, is_none, IfSome, Ok, refl, sym, ap, ◌∙◌, arith}
use Rattle.std.specs.List.{concat, list_any}
use Rattle.data_encoding_meaning.specs.declared.encoding.Character.{Character}
use Rattle.data_encoding_meaning.specs.text.Base.{IsWidth, is_ignored, wrapping_by}
use Rattle.std.specs.Bool.{IsTrue}
use Rattle.data_encoding_kernel.specs.Affine.{agrees}
use Rattle.data_encoding_kernel.specs.OffsetAlphabet.{has_sums}
use Rattle.data_encoding.specs.Encoding.{EncodingTables, KeepsRules, base_of_tables}
use Rattle.data_encoding_meaning.specs.specification.Entries.{HoldsEntries, meaning_of_entry}
use Rattle.data_encoding_meaning.specs.specification.Fields.{Fields, Judgement, base_of, base_with, ignored_judgements, judgements, meanings_of, padding_judgements, symbol_judgements, translation_judgements, width_of, wrapping_judgements, wraps}
use Rattle.data_encoding_meaning.specs.specification.MeaningTable.{meanings_after, no_meanings}
use Rattle.data_encoding_meaning.proofs.judgement.JudgementLemmas.{Judged, meanings_after-append}
use Rattle.data_encoding.proofs.tables.TableRuleLemmas.{KeepsRules-ruled}
use Rattle.data_encoding_meaning.proofs.lists.RepeatLemmas.{take-repeats}
use Rattle.data_encoding_meaning.proofs.judgement.RuleLemmas.{IsRuled, IsRuledPadding, IsRuledWrapping, IsRuled-from, IsRuled-built, base_from, base_of-width, judged-by-table}
use Rattle.data_encoding_meaning.proofs.digits.WidthLemmas.{times-pos}

-- the judgements up to each field
module _ (width : ℕ) (fields : Fields) where
  abbrev a : List Judgement
  a = symbol_judgements 0 fields.symbols

  abbrev b : List Judgement
  b = padding_judgements width fields.padding

  abbrev c : List Judgement
  c = ignored_judgements fields.ignored

  abbrev d : List Judgement
  d = wrapping_judgements width fields.column fields.separator

  abbrev e : List Judgement
  e = translation_judgements fields.from fields.to

  abbrev all : Judged
  all = meanings_of (judgements width fields)

  judged-parts : all
      ≡ meanings_after (meanings_after (meanings_after (meanings_after
      (meanings_after (Ok no_meanings) a) b) c) d) e
  judged-parts =
      judged-by-table width fields ∙ simp meanings_after-append

  module _ {none : List Character} (is : none ≡ no_meanings) where
    pub after-symbols : (r : Judged) → meanings_after (Ok none) a ≡ r
        → all ≡ meanings_after (meanings_after (meanings_after (meanings_after r b) c) d) e
    after-symbols r h =
        judged-parts
        ∙ ap (λ s. meanings_after (meanings_after (meanings_after (meanings_after s b) c) d) e)
        (ap (λ l. meanings_after (Ok l) a) (sym is) ∙ h)

    module _ {one : List Character} (h : meanings_after (Ok none) a ≡ Ok one) where
      pub after-padding : (r : Judged) → meanings_after (Ok one) b ≡ r
          → all ≡ meanings_after (meanings_after (meanings_after r c) d) e
      after-padding r k =
          after-symbols (Ok one) h
          ∙ ap (λ s. meanings_after (meanings_after (meanings_after s c) d) e) k

      module _ {two : List Character} (k : meanings_after (Ok one) b ≡ Ok two) where
        pub after-ignored : (r : Judged) → meanings_after (Ok two) c ≡ r
            → all ≡ meanings_after (meanings_after r d) e
        after-ignored r l =
            after-padding (Ok two) k ∙ ap (λ s. meanings_after (meanings_after s d) e) l

        module _ {three : List Character} (l : meanings_after (Ok two) c ≡ Ok three) where
          pub after-wrapping : (r : Judged) → meanings_after (Ok three) d ≡ r
              → all ≡ meanings_after r e
          after-wrapping r m = after-ignored (Ok three) l ∙ ap (λ s. meanings_after s e) m

          pub after-translation : {four : List Character} (r : Judged)
              → meanings_after (Ok three) d ≡ Ok four → meanings_after (Ok four) e ≡ r → all ≡ r
          after-translation {four} r m n = after-wrapping (Ok four) m ∙ n

-- the lines that the builder keeps
wrapping_by-kept : (column : ℕ) (separator : List ℕ)
    → wrapping_by (cond (wraps column separator) column 0)
    (cond (wraps column separator) separator [])
    ≡ cond (wraps column separator)
    (Some (record { column = column; separator = separator })) None
wrapping_by-kept column separator = by_test (wraps column separator) refl where
  by_number : (n : ℕ) → wraps n separator ≡ true
      → wrapping_by n separator ≡ Some (record { column = n; separator = separator })
  by_number zero h = cc
  by_number (suc n) h = refl

  by_test : (b : Bool) → wraps column separator ≡ b
      → wrapping_by (cond b column 0) (cond b separator [])
      ≡ cond b (Some (record { column = column; separator = separator })) None
  by_test true h = by_number column h
  by_test false h = refl

-- no lines have no separator
nothing-kept : (column : ℕ) (separator : List ℕ)
    → cond (wraps column separator) column 0 ≡ 0
    → cond (wraps column separator) separator [] ≡ []
nothing-kept column separator = by_test (wraps column separator) refl where
  by_number : (n : ℕ) → wraps n separator ≡ true → n ≡ 0 → separator ≡ []
  by_number zero h e = cc
  by_number (suc n) h e = absurd (omega (arith, e))

  by_test : (b : Bool) → wraps column separator ≡ b → cond b column 0 ≡ 0
      → cond b separator [] ≡ []
  by_test true h e = by_number column h e
  by_test false h e = refl

-- the padding and the lines of fields that are not refused
module _ (width : ℕ) (fields : Fields) (meanings : List Character)
    (sized : width_of (length fields.symbols) ≡ Some width) (some : 0 < width)
    (judged : meanings_of (judgements width fields) ≡ Ok meanings) where
  ruled : IsRuled (base_from width fields meanings)
  ruled =
      IsRuled-from width fields meanings sized some (sym (judged-by-table width fields) ∙ judged)

  pub padding-ascii : IfSome fields.padding (λ character. character < 128)
  padding-ascii = by fields.padding (ruled).padding where
    by : (o : Option ℕ) → IsRuledPadding (base_from width fields meanings) o
        → IfSome o (λ character. character < 128)
    by None rule = tt
    by (Some character) rule = rule.0

  pub lines-short : wraps fields.column fields.separator ≡ true
      → (fields.column < 256) × (length fields.separator < 256)
  lines-short = by (wraps fields.column fields.separator) (ruled).wrapping where
    by : (b : Bool)
        → IsRuledWrapping (base_from width fields meanings)
        (cond b (Some (record { column = fields.column; separator = fields.separator })) None)
        → b ≡ true → (fields.column < 256) × (length fields.separator < 256)
    by true rule h = (rule.short, rule.ends_short)
    by false rule h = cc

-- What the builder makes from a specification that is not refused.
pub record IsMadeOf (fields : Fields) (e : EncodingTables) (meanings : List Character)
    : Type 0 where
  pub width_is : width_of (length fields.symbols) ≡ Some e.width
  pub is_width : IsWidth e.width
  pub count : 2 ^ e.width ≡ length fields.symbols
  pub judged : meanings_of (judgements e.width fields) ≡ Ok meanings
  pub repeat : e.symbols ≡ concat (replicate (256 / 2 ^ e.width) fields.symbols)
  pub holds : HoldsEntries e.values
  pub values : map meaning_of_entry (take 128 e.values) ≡ meanings
  pub order : e.order ≡ fields.order
  pub checks : e.checks_trailing_bits ≡ (fields.checks_trailing_bits || (8 % e.width == 0))
  pub concatenates : e.concatenates ≡ (fields.concatenates || is_none fields.padding)
  pub padding : e.padding ≡ fields.padding
  pub ignores : e.ignores ≡ list_any is_ignored meanings
  pub column : e.column ≡ cond (wraps fields.column fields.separator) fields.column 0
  pub separator : e.separator
      ≡ cond (wraps fields.column fields.separator) fields.separator []
  pub form_agrees : IsTrue (agrees e.values e.form)
  pub offsets_agree : IsTrue (has_sums e.symbols e.offsets)

module _ (fields : Fields) (e : EncodingTables) (meanings : List Character)
    (made : IsMadeOf fields e meanings) where
  take-symbols : take (2 ^ e.width) e.symbols ≡ fields.symbols
  take-symbols =
      ap (take (2 ^ e.width)) made.repeat
      ∙ ap (λ n. take n (concat (replicate (256 / 2 ^ e.width) fields.symbols))) made.count
      ∙ take-repeats (256 / 2 ^ e.width) fields.symbols (times-pos e.width made.is_width)

  base-made : base_of_tables e ≡ base_from e.width fields meanings
  base-made =
      let symbols = take-symbols in
      let wrapping =
      (λ i. wrapping_by (made.column i) (made.separator i))
      ∙ wrapping_by-kept fields.column fields.separator in
      λ i. record {
        width = e.width;
        order = made.order i;
        symbols = symbols i;
        checks_trailing_bits = made.checks i;
        concatenates = made.concatenates i;
        padding = made.padding i;
        meanings = made.values i;
        wrapping = wrapping i;
      }

  pub is_built-made : base_of fields ≡ Ok (base_of_tables e)
  is_built-made =
      base_of-width fields e.width made.width_is made.is_width.some
      ∙ ap (base_with e.width fields) made.judged
      ∙ ap (λ b. Ok b) (sym (base-made))

  pub rules-made : KeepsRules e
  rules-made =
      KeepsRules-ruled e (IsRuled-built fields (base_of_tables e) (is_built-made)) made.holds
      (made.ignores ∙ ap (list_any is_ignored) (sym made.values))
      (made.repeat
      ∙ ap (λ l. concat (replicate (256 / 2 ^ e.width) l)) (sym (take-symbols)))
      (λ none. made.separator
      ∙ nothing-kept fields.column fields.separator (sym made.column ∙ none))
      made.form_agrees made.offsets_agree
