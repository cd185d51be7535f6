-- The rules on the tables of an encoding are those on its base.
use Rattle.std.proofs.Common.{◌≡◌, ◌↔◌, ℕ, zero, suc, ◌%◌, ◌/◌, ◌^◌, ◌<◌, ◌==◌, Bool, true, false, not, ◌||◌, nat_lt, List, [], ◌∷◌, length, map, take, get_or, replicate, Option, Some, None, is_none, is_some, refl, sym, ap, ◌∙◌, arith}
use Rattle.std.proofs.lemmas.Bool.{eqb-true, eq-eqb, lt-ltb, ltb-true}
use Rattle.std.proofs.lemmas.List.{ext_get_or, get_or-map, get_or_past, length-map}
use Rattle.std.proofs.lemmas.List.FromFn.{get_or-range_with_len, length-range_with_len}
use Rattle.std.specs.Cmp.{first_so, second_so}
use Rattle.std.specs.List.{AllByRecursion, concat, list_all, range_with_len}
use Rattle.data_encoding_meaning.specs.declared.encoding.Character.{Character}
use Rattle.data_encoding_meaning.specs.declared.encoding.Character.TheVariants.{Symbol, Padding, Ignored}
use Rattle.data_encoding_meaning.specs.text.Base.{meaning, ignores_some, wrapping_by}
use Rattle.std.specs.Bool.{IsTrue}
use Rattle.data_encoding_kernel.specs.Affine.{agrees}
use Rattle.data_encoding_kernel.specs.OffsetAlphabet.{has_sums}
use Rattle.data_encoding.specs.Encoding.{EncodingTables, KeepsPadding, KeepsRules, KeepsWrapping, base_of_tables}
use Rattle.data_encoding_meaning.specs.specification.Entries.{HoldsEntries, is_entry_of, meaning_of_entry}
use Rattle.data_encoding_meaning.specs.specification.Fields.{IsSpecified}
use Rattle.data_encoding_meaning.specs.specification.Layout.{code_of}
use Rattle.data_encoding_meaning.proofs.judgement.RoundTripLemmas.{IsSpecified-ruled}
use Rattle.data_encoding_meaning.proofs.tables.EntryLemmas.{entry_back, high_entry, is_entry-low, length-entries, length-low, meaning-low}
use Rattle.std.proofs.lemmas.List.Folds.{list_all-map}
use Rattle.data_encoding_meaning.proofs.lists.EachLemmas.{list_all-both, list_all-cons, list_all-places, passes_at}
use Rattle.data_encoding_meaning.proofs.judgement.RuleLemmas.{IsRuled, IsRuledPadding, IsRuledWrapping, is_no_padding, is_within}
use Rattle.data_encoding_meaning.proofs.digits.WidthLemmas.{symbols-few}
use Rattle.data_encoding_meaning.proofs.tables.EntryRuleLemmas.{entry-no_padding, entry-weaker, entry-within, no_padding-entry, value-symbol, within-entry}

all-weaker : {X : Type 0} (a b : X → Bool) → ((x : X) → a x ≡ true → b x ≡ true) → (xs : List X)
    → list_all a xs ≡ true → list_all b xs ≡ true
all-weaker a b step xs h = list_all-both a a b (λ x e f. step x e) xs h h

entry_code : (v : ℕ) (m : Character) → is_entry_of 64 v ≡ true → meaning_of_entry v ≡ m
    → v ≡ code_of m
entry_code v m h e = sym (entry_back v h) ∙ ap code_of e

checked-rule : (check whole : Bool)
    → ((check || not whole) ≡ true) ↔ ((check || whole) ≡ check)
checked-rule true whole = (λ h. refl, λ h. refl)
checked-rule false true = (λ h. cc, λ h. cc)
checked-rule false false = (λ h. refl, λ h. refl)

concatenated-rule : (concatenates : Bool) (padding : Option ℕ)
    → ((concatenates || is_some padding) ≡ true)
    ↔ ((concatenates || is_none padding) ≡ concatenates)
concatenated-rule true padding = (λ h. refl, λ h. refl)
concatenated-rule false (Some character) = (λ h. refl, λ h. refl)
concatenated-rule false None = (λ h. cc, λ h. cc)

-- from the tables to the base
module _ (e : EncodingTables) (rules : KeepsRules e) where
  pub HoldsEntries-tables : HoldsEntries e.values
  HoldsEntries-tables = record {
    entries =
        all-weaker (is_entry_of (2 ^ e.width)) (is_entry_of 64)
        (λ v. entry-weaker (2 ^ e.width) v (symbols-few e.width rules.is_width))
        (take 128 e.values)
        rules.entries;
    invalid_from_128 = rules.invalid_from_128;
  }

  abbrev symbols : List ℕ
  symbols = take (2 ^ e.width) e.symbols

  pub length-symbols : length (take (2 ^ e.width) e.symbols) ≡ 2 ^ e.width
  length-symbols =
      sym (length-map symbols (λ s. get_or e.values s 0)) ∙ ap length rules.own_values
      ∙ length-range_with_len 0 (2 ^ e.width)

  pub symbol-own_value : (i : ℕ) → i < 2 ^ e.width → get_or e.values (get_or symbols i 0) 0 ≡ i
  symbol-own_value i h =
      sym (get_or-map (λ s. get_or e.values s 0) symbols i 0 0 (omega (arith, h, length-symbols)))
      ∙ ap (λ l. get_or l i 0) rules.own_values
      ∙ get_or-range_with_len 0 (2 ^ e.width) i 0 h ∙ omega arith

  pub symbol-ascii : (i : ℕ) → i < 2 ^ e.width → get_or symbols i 0 < 128
  symbol-ascii i h =
      ltb-true (get_or symbols i 0) 128
      (passes_at (λ s. nat_lt s 128) symbols i 0 rules.symbols_are_ascii
      (omega (arith, h, length-symbols)))

  meaning-at : (byte : ℕ) → byte < 128
      → meaning (base_of_tables e) byte ≡ meaning_of_entry (get_or e.values byte 0)
  meaning-at byte low = meaning-low e.values (HoldsEntries-tables) byte low

  ruled-padding : (o : Option ℕ) → KeepsPadding o e.width e.values
      → IsRuledPadding (base_of_tables e) o
  ruled-padding None keeps =
      list_all-map is_no_padding meaning_of_entry (take 128 e.values)
      ∙ all-weaker (λ v. not (v == 130)) (λ v. is_no_padding (meaning_of_entry v)) entry-no_padding
      (take 128 e.values) keeps
  ruled-padding (Some character) keeps =
      (keeps.0, meaning-at character keeps.0 ∙ ap meaning_of_entry keeps.1, keeps.2)

  -- a byte whose entry is 129 is ASCII
  ignored-low : (byte : ℕ) → get_or e.values byte 0 ≡ 129 → byte < 128
  ignored-low byte h =
      grind (
        arith,
        h,
        high_entry e.values (HoldsEntries-tables) byte,
        get_or_past e.values byte 0,
        length-entries e.values (HoldsEntries-tables),
      )

  ruled-separator : (bytes : List ℕ) → list_all (λ byte. get_or e.values byte 0 == 129) bytes ≡ true
      → AllByRecursion (λ byte. (byte < 128) × (meaning (base_of_tables e) byte ≡ Ignored)) bytes
  ruled-separator [] h = tt
  ruled-separator (byte ∷ bytes) h =
      let is = eqb-true (get_or e.values byte 0) 129
      (first_so (get_or e.values byte 0 == 129)
      (list_all (λ b. get_or e.values b 0 == 129) bytes) h) in
      let low = ignored-low byte is in (
        (low, meaning-at byte low ∙ ap meaning_of_entry is),
        ruled-separator bytes (second_so (get_or e.values byte 0 == 129)
            (list_all (λ b. get_or e.values b 0 == 129) bytes) h),
      )

  ascii-bytes : (bytes : List ℕ) → list_all (λ byte. get_or e.values byte 0 == 129) bytes ≡ true
      → list_all (λ byte. nat_lt byte 128) bytes ≡ true
  ascii-bytes bytes h =
      all-weaker (λ byte. get_or e.values byte 0 == 129) (λ byte. nat_lt byte 128)
      (λ byte is. lt-ltb byte 128 (ignored-low byte (eqb-true (get_or e.values byte 0) 129 is)))
      bytes h

  separator-by : (column : ℕ) (separator : List ℕ)
      → KeepsWrapping column separator e.width e.values
      → list_all (λ byte. nat_lt byte 128) separator ≡ true
  separator-by zero separator keeps = ap (list_all (λ byte. nat_lt byte 128)) keeps
  separator-by (suc n) separator keeps = ascii-bytes separator keeps.4

  pub separator-ascii : list_all (λ byte. nat_lt byte 128) e.separator ≡ true
  separator-ascii = separator-by e.column e.separator rules.wrapping

  short-by : (column : ℕ) (separator : List ℕ)
      → KeepsWrapping column separator e.width e.values → length separator < 256
  short-by zero separator keeps = omega (arith, ap length keeps)
  short-by (suc n) separator keeps = keeps.3

  pub separator-short : length e.separator < 256
  separator-short = short-by e.column e.separator rules.wrapping

  ruled-wrapping : (column : ℕ) (separator : List ℕ)
      → KeepsWrapping column separator e.width e.values
      → IsRuledWrapping (base_of_tables e) (wrapping_by column separator)
  ruled-wrapping zero separator keeps = tt
  ruled-wrapping (suc n) separator keeps = record {
    some = omega arith;
    short = keeps.0;
    whole = keeps.1;
    ended = keeps.2;
    ends_short = keeps.3;
    ignored = ruled-separator separator keeps.4;
  }

  -- the base of tables that keep the rules keeps them
  pub IsRuled-tables : IsRuled (base_of_tables e)
  IsRuled-tables = record {
    is_width = rules.is_width;
    count = length-symbols;
    checked = (checked-rule e.checks_trailing_bits (8 % e.width == 0)).0 rules.whole_checked;
    concatenated = (concatenated-rule e.concatenates e.padding).0 rules.unpadded_concatenates;
    long =
        length-map (take 128 e.values) meaning_of_entry
        ∙ length-low e.values (HoldsEntries-tables);
    own = λ i h.
        let below : i < 2 ^ e.width = omega (arith, h, length-symbols) in
        let few : i < 64 = omega (arith, below, symbols-few e.width rules.is_width) in (
          symbol-ascii i below,
          meaning-at (get_or symbols i 0) (symbol-ascii i below)
              ∙ ap meaning_of_entry (symbol-own_value i below) ∙ value-symbol i few,
        );
    within =
        ap (λ n. list_all (is_within n) (map meaning_of_entry (take 128 e.values)))
        (length-symbols)
        ∙ list_all-map (is_within (2 ^ e.width)) meaning_of_entry (take 128 e.values)
        ∙ all-weaker (is_entry_of (2 ^ e.width))
        (λ v. is_within (2 ^ e.width) (meaning_of_entry v)) (entry-within (2 ^ e.width))
        (take 128 e.values) rules.entries;
    padding = ruled-padding e.padding rules.padding;
    wrapping = ruled-wrapping e.column e.separator rules.wrapping;
  }

  -- and so is a base that is built from a specification
  pub is_base_of : IsSpecified (base_of_tables e)
  is_base_of = IsSpecified-ruled (base_of_tables e) (IsRuled-tables)

-- from the base to the tables
module _ (e : EncodingTables) (ruled : IsRuled (base_of_tables e))
    (holds : HoldsEntries e.values) where
  own-entry : (i : ℕ) → i < length (take (2 ^ e.width) e.symbols)
      → get_or e.values (get_or (take (2 ^ e.width) e.symbols) i 0) 0 ≡ i
  own-entry i h =
      let own = ruled.own i h in
      let s = get_or (take (2 ^ e.width) e.symbols) i 0 in
      entry_code (get_or e.values s 0) (Symbol i) (is_entry-low e.values holds s own.0)
      (sym (meaning-low e.values holds s own.0) ∙ own.1)

  own-values : map (λ s. get_or e.values s 0) (take (2 ^ e.width) e.symbols)
      ≡ range_with_len 0 (2 ^ e.width)
  own-values =
      let symbols = take (2 ^ e.width) e.symbols in
      let long : length (map (λ s. get_or e.values s 0) symbols) ≡ length symbols =
      length-map symbols (λ s. get_or e.values s 0) in
      ext_get_or 0 (map (λ s. get_or e.values s 0) symbols) (range_with_len 0 (2 ^ e.width))
      (long ∙ ruled.count ∙ sym (length-range_with_len 0 (2 ^ e.width)))
      (λ i less.
      let within : i < length symbols = omega (arith, less, long) in
      let below : i < 2 ^ e.width = omega (arith, within, ruled.count) in
      get_or-map (λ s. get_or e.values s 0) symbols i 0 0 within ∙ own-entry i within
      ∙ sym (get_or-range_with_len 0 (2 ^ e.width) i 0 below ∙ omega arith))

  keeps-padding : (o : Option ℕ) → IsRuledPadding (base_of_tables e) o
      → KeepsPadding o e.width e.values
  keeps-padding None rule =
      all-weaker (λ v. is_no_padding (meaning_of_entry v)) (λ v. not (v == 130)) no_padding-entry
      (take 128 e.values)
      (sym (list_all-map is_no_padding meaning_of_entry (take 128 e.values)) ∙ rule)
  keeps-padding (Some character) rule = (
    rule.0,
    entry_code (get_or e.values character 0) Padding (is_entry-low e.values holds character rule.0)
        (sym (meaning-low e.values holds character rule.0) ∙ rule.1),
    rule.2,
  )

  keeps-separator : (bytes : List ℕ)
      → AllByRecursion (λ byte. (byte < 128) × (meaning (base_of_tables e) byte ≡ Ignored)) bytes
      → list_all (λ byte. get_or e.values byte 0 == 129) bytes ≡ true
  keeps-separator [] all = refl
  keeps-separator (byte ∷ bytes) all =
      list_all-cons (λ b. get_or e.values b 0 == 129) byte bytes
      (eq-eqb (get_or e.values byte 0) 129
      (entry_code (get_or e.values byte 0) Ignored (is_entry-low e.values holds byte all.0.0)
      (sym (meaning-low e.values holds byte all.0.0) ∙ all.0.1)))
      (keeps-separator bytes all.1)

  keeps-wrapping : (column : ℕ) (separator : List ℕ) → (column ≡ 0 → separator ≡ [])
      → IsRuledWrapping (base_of_tables e) (wrapping_by column separator)
      → KeepsWrapping column separator e.width e.values
  keeps-wrapping zero separator none rule = none refl
  keeps-wrapping (suc n) separator none rule =
      (rule.short, rule.whole, rule.ended, rule.ends_short, keeps-separator separator rule.ignored)

  pub KeepsRules-ruled : e.ignores ≡ ignores_some (base_of_tables e)
      → e.symbols
      ≡ concat (replicate (256 / 2 ^ e.width) (take (2 ^ e.width) e.symbols))
      → (e.column ≡ 0 → e.separator ≡ []) → IsTrue (agrees e.values e.form)
      → IsTrue (has_sums e.symbols e.offsets) → KeepsRules e
  KeepsRules-ruled ignores repeat none agreed summed = record {
    is_width = ruled.is_width;
    unpadded_concatenates = (concatenated-rule e.concatenates e.padding).1 ruled.concatenated;
    whole_checked = (checked-rule e.checks_trailing_bits (8 % e.width == 0)).1 ruled.checked;
    symbols_repeat = repeat;
    symbols_are_ascii =
        list_all-places (λ s. nat_lt s 128) (take (2 ^ e.width) e.symbols) 0
        (λ i h. lt-ltb (get_or (take (2 ^ e.width) e.symbols) i 0) 128 (ruled.own i h).0);
    own_values = own-values;
    entries =
        list_all-both (is_entry_of 64) (λ v. is_within (2 ^ e.width) (meaning_of_entry v))
        (is_entry_of (2 ^ e.width)) (within-entry (2 ^ e.width)) (take 128 e.values)
        holds.entries
        (sym (list_all-map (is_within (2 ^ e.width)) meaning_of_entry (take 128 e.values))
        ∙ sym (ap (λ n. list_all (is_within n) (map meaning_of_entry (take 128 e.values)))
        ruled.count)
        ∙ ruled.within);
    invalid_from_128 = holds.invalid_from_128;
    padding = keeps-padding e.padding ruled.padding;
    ignores = ignores;
    wrapping = keeps-wrapping e.column e.separator none ruled.wrapping;
    form_agrees = agreed;
    offsets_agree = summed;
  }
