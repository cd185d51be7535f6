-- What the tables of an encoding say about its base.
use Rattle.std.proofs.Common.{◌≡◌, ℕ, ◌*◌, ◌/◌, ◌%◌, ◌^◌, ◌<◌, ◌≤◌, ◌==◌, true, false, length, take, get_or, Option, Some, None, IfSome, refl, sym, ap, ◌∙◌, subst, arith, ⊎_elim}
use Rattle.std.proofs.lemmas.Bool.{cases_lt}
use Rattle.std.proofs.lemmas.Bool.Decides.{nat_tests}
use Rattle.std.proofs.lemmas.List.{get_or-take, get_or_past, length-map, length-take}
use Rattle.data_encoding_meaning.specs.declared.encoding.BitOrder.{BitOrder}
use Rattle.data_encoding_meaning.specs.text.Base.{Base, symbol, is_ignored, is_padding, is_symbol, IsWidth}
use Rattle.data_encoding.specs.Encoding.{EncodingTables, KeepsPadding, KeepsRules, base_of_tables}
use Rattle.data_encoding_meaning.specs.specification.Entries.{is_entry_of, meaning_of_entry}
use Rattle.data_encoding_kernel.specs.Tables.{HoldsSymbols, HoldsValues, Reads, Writes}
use Rattle.data_encoding_meaning.proofs.tables.EntryLemmas.{high_entry, ignored_entry, length-low, meaning-any}
use Rattle.data_encoding.proofs.tables.TableRuleLemmas.{HoldsEntries-tables, length-symbols, symbol-ascii}
use Rattle.data_encoding_meaning.proofs.tables.EntryRuleLemmas.{value-symbol}
use Rattle.data_encoding_meaning.proofs.lists.EachLemmas.{passes_at}
use Rattle.data_encoding_meaning.proofs.digits.WidthLemmas.{symbols-few, times_symbols}
use Rattle.data_encoding_meaning.proofs.lists.RepeatLemmas.{get_or-repeats}

small_entry : (v count : ℕ) → is_entry_of count v ≡ true → v < 128 → v < count
small_entry v count h k = grind (arith, nat_tests)

no_symbol : (v : ℕ) → 128 ≤ v → is_symbol (meaning_of_entry v) ≡ false
no_symbol v h = grind (arith, nat_tests)

padding_entry : (v : ℕ) → is_padding (meaning_of_entry v) ≡ (v == 130)
padding_entry v = grind (arith, nat_tests)

module _ (e : EncodingTables) (rules : KeepsRules e) where
  -- an entry that is a value is that of a symbol
  entry-below : (byte : ℕ) → byte < 256 → get_or e.values byte 0 < 128
      → get_or e.values byte 0 < 2 ^ e.width
  entry-below byte h small =
      let holds = HoldsEntries-tables e rules in
      ⊎_elim
      (λ (low : byte < 128).
      small_entry (get_or e.values byte 0) (2 ^ e.width)
      (subst (λ v. is_entry_of (2 ^ e.width) v ≡ true) (get_or-take 128 e.values byte 0 low)
      (passes_at (is_entry_of (2 ^ e.width)) (take 128 e.values) byte 0 rules.entries
      (omega (arith, low, length-low e.values holds))))
      small)
      (λ (high : 128 ≤ byte).
      absurd (omega (arith, small, high_entry e.values holds byte high h)))
      (cases_lt byte 128)

  HoldsValues-tables : HoldsValues (base_of_tables e) e.values
  HoldsValues-tables = record {
    is_width = rules.is_width;
    symbols = λ byte h small.
        meaning-any e.values (HoldsEntries-tables e rules) byte h
        ∙ value-symbol (get_or e.values byte 0)
        (omega (arith, entry-below byte h small, symbols-few e.width rules.is_width));
    below = entry-below;
    others = λ byte h large.
        ap is_symbol (meaning-any e.values (HoldsEntries-tables e rules) byte h)
        ∙ no_symbol (get_or e.values byte 0) large;
    paddings = λ byte h.
        ap is_padding (meaning-any e.values (HoldsEntries-tables e rules) byte h)
        ∙ padding_entry (get_or e.values byte 0);
    ignoreds = λ byte h.
        ap is_ignored (meaning-any e.values (HoldsEntries-tables e rules) byte h)
        ∙ ignored_entry (get_or e.values byte 0);
  }

  HoldsSymbols-tables : HoldsSymbols (base_of_tables e) e.symbols
  HoldsSymbols-tables = record {
    is_width = rules.is_width;
    at_byte = λ byte h.
        let front = take (2 ^ e.width) e.symbols in
        let times = 256 / 2 ^ e.width in
        let count = length-symbols e rules in
        let whole : times * length front ≡ 256 =
        ap (λ n. times * n) count ∙ times_symbols e.width rules.is_width in
        ap (λ n. get_or front (byte % n) 0) (sym count)
        ∙ sym (get_or-repeats times front byte (omega (arith, h, whole)))
        ∙ ap (λ l. get_or l byte 0) (sym rules.symbols_repeat);
  }

  -- padding is ASCII
  padding-ascii : IfSome e.padding (λ character. character < 128)
  padding-ascii = by_padding e.padding rules.padding where
    by_padding : (o : Option ℕ) → KeepsPadding o e.width e.values
        → IfSome o (λ character. character < 128)
    by_padding None keeps = tt
    by_padding (Some character) keeps = keeps.0

  -- each symbol is ASCII, and so is what is used for a value that no symbol has
  any_symbol-ascii : (value : ℕ) → symbol (base_of_tables e) value < 128
  any_symbol-ascii value =
      ⊎_elim
      (λ (inside : value < 2 ^ e.width). symbol-ascii e rules value inside)
      (λ (past : 2 ^ e.width ≤ value).
      let zero_there = get_or_past (take (2 ^ e.width) e.symbols) value 0
      (omega (arith, past, length-symbols e rules)) in
      omega (arith, zero_there))
      (cases_lt value (2 ^ e.width))

-- what a contract knows of the base that it sees
module _ (e : EncodingTables) (rules : KeepsRules e) (seen : Base)
    (is : base_of_tables e ≡ seen) where
  pub IsWidth-seen : IsWidth seen.width
  IsWidth-seen = subst (λ b. IsWidth b.width) is rules.is_width

  pub symbols-seen : (value : ℕ) → symbol seen value < 128
  symbols-seen value = subst (λ b. symbol b value < 128) is (any_symbol-ascii e rules value)

  pub padding-seen : IfSome seen.padding (λ character. character < 128)
  padding-seen =
      subst (λ b. IfSome b.padding (λ character. character < 128)) is (padding-ascii e rules)

  pub Writes-tables : (width : ℕ) → e.width ≡ width → Writes seen e.symbols width e.order
  Writes-tables width h =
      subst (λ b. Writes b e.symbols width e.order) is (record {
        width_is = h;
        order_is = refl;
        holds = HoldsSymbols-tables e rules;
      })

  pub HoldsValues-seen : HoldsValues seen e.values
  HoldsValues-seen = subst (λ b. HoldsValues b e.values) is (HoldsValues-tables e rules)

  pub Reads-seen : (width : ℕ) (order : BitOrder) → seen.width ≡ width → seen.order ≡ order
      → Reads seen e.values width order
  Reads-seen width order w o = record { width_is = w; order_is = o; holds = HoldsValues-seen }

  -- no byte from 128 on has a meaning
  pub ascii-seen : length seen.meanings ≤ 128
  ascii-seen =
      subst (λ (base : Base). length base.meanings ≤ 128) is
      (omega (arith, length-map (take 128 e.values) meaning_of_entry, length-take 128 e.values))
