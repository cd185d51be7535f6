-- Bytes are the layout of a base if and only if they keep the rules of layouts.
use Rattle.std.proofs.Common.{◌≡◌, ◌≢◌, ◌⊎◌, ℕ, zero, suc, ◌+◌, ◌-◌, ◌*◌, ◌/◌, ◌%◌, ◌^◌, ◌<◌, ◌≤◌, ◌==◌, Bool, true, false, ◌||◌, cond, nat_lt, List, [], ◌∷◌, ◌++◌, length, map, take, drop, replicate, get_or, Option, Some, None, is_none, unwrap_or, refl, sym, ap, ◌∙◌, subst, arith, inl, inr, ⊎_elim, drop-cons, drop_of_length-le, length-drop}
use Rattle.std.proofs.Math.Bool.{or-true}
use Rattle.std.proofs.Math.Nat.{mod-lt, mod-eq_of_lt}
use Rattle.std.proofs.Math.Seq.{take-add}
use Rattle.std.proofs.lemmas.Bool.{cases_Bool, false≢true, eq-eqb, eqb-true, lt-ltb, ltb-true}
use Rattle.std.proofs.lemmas.Bool.Decides.{nat_tests}
use Rattle.std.proofs.lemmas.Nat.{pow_pos}
use Rattle.std.proofs.lemmas.List.{ext_get_or, get_or-drop, get_or-map, get_or-replicate, get_or-take, get_or_past, length-map, length-replicate, length-take-le, take-append-drop}
use Rattle.std.proofs.lemmas.List.Folds.{list_any_at}
use Rattle.std.proofs.lemmas.List.Elements.{All-from_get_or, recursion_from_All}
use Rattle.std.proofs.lemmas.List.FromFn.{get_or-range_with_len}
use Rattle.std.specs.List.{list_all, list_any, range_with_len}
use Rattle.data_encoding_meaning.specs.declared.encoding.BitOrder.TheVariants.{MostSignificantFirst, LeastSignificantFirst}
use Rattle.data_encoding_meaning.specs.declared.encoding.Character.{Character}
use Rattle.data_encoding_meaning.specs.declared.encoding.Character.TheVariants.{Symbol, Ignored, Invalid}
use Rattle.data_encoding_meaning.specs.text.Base.{Base, Wrapping, group_symbols, ignores_some, is_ignored, meaning, wrapping_by}
use Rattle.data_encoding_meaning.specs.specification.Entries.{is_entry_of, meaning_of_entry}
use Rattle.data_encoding_meaning.specs.specification.Fields.{IsSpecified}
use Rattle.data_encoding_meaning.specs.specification.Layout.{code_of, column_of, layout, separator_of, wrapping_bytes}
use Rattle.data_encoding_meaning.specs.specification.OneLayout.{IsIgnoredIn, IsLayout, IsLayoutOf, Layouts, TellsWrapping, TellsPadding, entry_in}
use Rattle.data_encoding_meaning.proofs.digits.WidthLemmas.{symbols-few, times_symbols}
use Rattle.data_encoding_meaning.proofs.lists.EachLemmas.{all-at, list_all-places, none_passes, passes_at}
use Rattle.data_encoding_meaning.proofs.lists.RepeatLemmas.{get_or-repeats, length-repeats}
use Rattle.data_encoding_meaning.proofs.judgement.RoundTripLemmas.{IsSpecified-ruled}
use Rattle.data_encoding_meaning.proofs.judgement.RuleLemmas.{IsRuled, IsRuledPadding, IsRuledWrapping, IsRuled-built, is_no_padding, is_within}
use Rattle.data_encoding_meaning.proofs.tables.EntryLemmas.{apart_test, ignored-is, test_apart}
use Rattle.data_encoding_meaning.proofs.tables.LayoutLemmas.{codes-back}
use Rattle.data_encoding_meaning.proofs.tables.ReadingLemmas.{IsReadAs, character-back, code-read, end-read, ends, flags, high-read, is_read_as, long-layout, symbol-read, symbol_table}
use Rattle.data_encoding_meaning.proofs.tables.EntryRuleLemmas.{entry-no_padding, entry-weaker, entry-within, value-symbol}

-- some elements pass a test
some_passes : {X : Type 0} (test : X → Bool) (xs : List X) (d : X) → list_any test xs ≡ true
    → (i : ℕ) × (i < length xs) × (test (get_or xs i d) ≡ true)
some_passes test [] d h = cc
some_passes test (x ∷ xs) d h =
    ⊎_elim (λ (here : test x ≡ true). (0, omega arith, here))
    (λ (other : test x ≡ false).
    let rest = some_passes test xs d (sym (ap (λ b. b || list_any test xs) other) ∙ h) in
    (suc rest.0, omega (arith, rest.1), rest.2))
    (cases_Bool (test x))

code-few : (n : ℕ) (m : Character) → is_within n m ≡ true
    → (code_of m < n) ⊎ ((128 ≤ code_of m) × (code_of m ≤ 130))
code-few n (Symbol value) h = inl (ltb-true value n h)
code-few n _ h = inr (omega arith, omega arith)

-- a base, and its layout
module _ (base : Base) (ruled : IsRuled base) where
  abbrev count : ℕ
  count = 2 ^ base.width

  count-few : count ≤ 64
  count-few = symbols-few base.width ruled.is_width

  symbol-at : (k : ℕ) → k < 256 → get_or (layout base) k 0 ≡ get_or base.symbols (k % count) 0
  symbol-at k h =
      let all : 256 / count * length base.symbols ≡ 256 =
      ap (λ n. 256 / count * n) ruled.count ∙ times_symbols base.width ruled.is_width in
      symbol-read base ruled k h
      ∙ get_or-repeats (256 / count) base.symbols k (omega (arith, h, all))
      ∙ ap (λ n. get_or base.symbols (k % n) 0) ruled.count

  within-at : (byte : ℕ) → byte < 128 → is_within count (meaning base byte) ≡ true
  within-at byte low =
      sym (ap (λ n. is_within n (meaning base byte)) ruled.count)
      ∙ passes_at (is_within (length base.symbols)) base.meanings byte Invalid ruled.within
      (omega (arith, low, ruled.long))

  read : IsReadAs base (layout base)
  read = is_read_as base ruled

  checked-flag : 8 % base.width ≡ 0 → get_or (layout base) 513 0 / 16 % 2 ≡ 1
  checked-flag whole =
      eqb-true (get_or (layout base) 513 0 / 16 % 2) 1
      ((read).has_flags.checks_is
      ∙ sym ruled.checked
      ∙ ap (λ b. base.checks_trailing_bits || b) (eq-eqb (8 % base.width) 0 whole)
      ∙ or-true base.checks_trailing_bits)

  has-padding : (o : Option ℕ) → IsRuledPadding base o → is_none o ≡ false → unwrap_or o 128 < 128
  has-padding None rule h = cc
  has-padding (Some character) rule h = rule.0

  single-flag : get_or (layout base) 513 0 / 32 % 2 ≡ 1 → get_or (layout base) 512 0 < 128
  single-flag set =
      let single : base.concatenates ≡ false =
      sym (read).has_flags.concatenates_is ∙ ap (λ n. n == 0) set in
      subst (λ n. n < 128) (sym (end-read base ruled 0))
      (has-padding base.padding ruled.padding
      (sym (ap (λ b. b || is_none base.padding) single) ∙ ruled.concatenated ∙ single))

  symbol-own : (value : ℕ) → value < count
      → get_or (layout base) value 0 ≡ get_or base.symbols value 0
  symbol-own value h =
      symbol-at value (omega (arith, h, count-few))
      ∙ ap (λ n. get_or base.symbols n 0) (mod-eq_of_lt h)

  own-value : (value : ℕ) → value < count → (get_or (layout base) value 0 < 128)
      × (entry_in (layout base) (get_or (layout base) value 0) ≡ value)
  own-value value h =
      let own = ruled.own value (omega (arith, h, ruled.count)) in
      let same = symbol-own value h in (
        subst (λ n. n < 128) (sym same) own.0,
        ap (entry_in (layout base)) same ∙ code-read base ruled (get_or base.symbols value 0) own.0
            ∙ ap code_of own.1,
      )

  again : (k : ℕ) → k < 256 → get_or (layout base) k 0 ≡ get_or (layout base) (k % count) 0
  again k h =
      let some : 0 < count = omega (arith, mod-lt k {m = count} (pow_pos base.width)) in
      symbol-at k h ∙ sym (symbol-own (k % count) (mod-lt k some))

  meaning-read : (byte : ℕ) → byte < 128
      → meaning_of_entry (entry_in (layout base) byte) ≡ meaning base byte
  meaning-read byte low =
      ap meaning_of_entry (code-read base ruled byte low)
      ∙ character-back count (meaning base byte) count-few (within-at byte low)

  layout-padding : (o : Option ℕ) → IsRuledPadding base o
      → get_or (layout base) 512 0 ≡ unwrap_or o 128
      → TellsPadding base.width (layout base)
  layout-padding None rule is =
      inl (
        is,
        λ byte low e.
            false≢true (ap (λ v. is_no_padding (meaning_of_entry v)) (sym e)
            ∙ ap is_no_padding (meaning-read byte low)
            ∙ passes_at is_no_padding base.meanings byte Invalid rule
            (omega (arith, low, ruled.long))),
      )
  layout-padding (Some character) rule is =
      inr (
        subst (λ n. n < 128) (sym is) rule.0,
        ap (entry_in (layout base)) is ∙ code-read base ruled character rule.0 ∙ ap code_of rule.1,
        test_apart (8 % base.width) 0 rule.2,
      )

  -- if the layout says that a byte is ignored, it is
  ignored-meaning : (byte : ℕ) → IsIgnoredIn (layout base) byte → meaning base byte ≡ Ignored
  ignored-meaning byte is = sym (meaning-read byte is.0) ∙ ap meaning_of_entry is.1

  ignored-entry : (byte : ℕ) → byte < 128 → meaning base byte ≡ Ignored
      → IsIgnoredIn (layout base) byte
  ignored-entry byte low is = (low, code-read base ruled byte low ∙ ap code_of is)

  layout-end : (ignores : Bool) (o : Option Wrapping) → ignores_some base ≡ ignores
      → base.wrapping ≡ o → IsRuledWrapping base o → TellsWrapping base.width (layout base)
  layout-end false None none no_lines rule =
      let long = long-layout base ruled
      ∙ (λ i. 514 + length (wrapping_bytes (none i) (no_lines i))) in
      inl (
        omega (arith, long),
        λ byte is.
            let some : list_any is_ignored base.meanings ≡ true =
            list_any_at is_ignored base.meanings byte Invalid (omega (arith, is.0, ruled.long))
            (ap is_ignored (ignored-meaning byte is)) in
            cc,
      )
  layout-end true None some no_lines rule =
      let long = long-layout base ruled
      ∙ (λ i. 514 + length (wrapping_bytes (some i) (no_lines i))) in
      let found = some_passes is_ignored base.meanings Invalid some in
      let low : found.0 < 128 = omega (arith, found.1, ruled.long) in
      inr (inl (
        omega (arith, long),
        (read).column ∙ ap column_of no_lines,
        (found.0, ignored-entry found.0 low (ignored-is (meaning base found.0) found.2)),
      ))
  layout-end ignores (Some lines) is some rule =
      let long = long-layout base ruled
      ∙ ap (λ w. 514 + length (wrapping_bytes (ignores_some base) w)) some in
      let here : get_or (layout base) 514 0 ≡ lines.column = (read).column ∙ ap column_of some in
      inr (inr (record {
        some = omega (arith, here, rule.some);
        short = omega (arith, here, rule.short);
        whole = ap (λ n. n % group_symbols base.width) here ∙ rule.whole;
        ended = omega (arith, long, rule.ended);
        ends_short = omega (arith, long, rule.ends_short);
        ignored = λ k from less.
            let at : get_or (layout base) k 0 ≡ get_or lines.separator (k - 515) 0 =
            ap (λ n. get_or (layout base) n 0) (omega arith)
            ∙ sym (get_or-drop 515 (layout base) (k - 515) 0)
            ∙ ap (λ l. get_or l (k - 515) 0) ((read).separator ∙ ap separator_of some) in
            let ignored_here = all-at (λ byte. (byte < 128) × (meaning base byte ≡ Ignored))
            lines.separator rule.ignored (k - 515) (omega (arith, from, less, long)) in
            subst (IsIgnoredIn (layout base)) (sym at)
            (ignored-entry _ ignored_here.0 ignored_here.1);
      }))

  is_layout_of : IsLayoutOf base.width (layout base)
  is_layout_of = record {
    is_width = ruled.is_width;
    flags = (read).has_flags.few;
    checked = checked-flag;
    single = single-flag;
    repeated = again;
    own = own-value;
    entries = λ byte low.
        subst (λ n. (n < count) ⊎ ((128 ≤ n) × (n ≤ 130))) (sym (code-read base ruled byte low))
        (code-few count (meaning base byte) (within-at byte low));
    invalid_from_128 = high-read base ruled;
    padding = layout-padding base.padding ruled.padding (end-read base ruled 0);
    end = layout-end (ignores_some base) base.wrapping refl refl ruled.wrapping;
  }

  pub is_layout : IsLayout (layout base)
  is_layout =
      subst (λ width. IsLayoutOf width (layout base)) (sym (read).has_flags.width_is) is_layout_of

layout-rules : (base : Base) (bytes : List ℕ) → IsSpecified base → layout base ≡ bytes
    → IsLayout bytes
layout-rules base bytes is same =
    subst IsLayout same (is_layout base (IsRuled-built is.fields base is.is_built))

entry-is : (n v : ℕ) → (v < n) ⊎ ((128 ≤ v) × (v ≤ 130)) → is_entry_of n v ≡ true
entry-is n v (inl less) = grind (arith, nat_tests)
entry-is n v (inr between) = grind (arith, nat_tests, between.0, between.1)

entry-not_ignored : (v : ℕ) → v ≢ 129 → is_ignored (meaning_of_entry v) ≡ false
entry-not_ignored v h = grind (arith, nat_tests)

abbrev sum_of_flags : ℕ → ℕ
sum_of_flags sum =
    flags (sum % 8) (cond (sum / 8 % 2 == 1) MostSignificantFirst LeastSignificantFirst)
    (sum / 16 % 2 == 1) (sum / 32 % 2 == 0)

sum-is : (sum : ℕ) → sum < 64 → sum_of_flags sum ≡ sum
sum-is sum few =
    let test = λ (n : ℕ). sum_of_flags n == n in
    let place : 0 + sum ≡ sum = omega arith in
    eqb-true (sum_of_flags sum) sum (subst (λ n. test n ≡ true)
    (get_or-range_with_len 0 64 sum 0 few ∙ place)
    (passes_at test (range_with_len 0 64) sum 0 refl few))

checks-rule : (check whole : Bool) → (whole ≡ true → check ≡ true) → (check || whole) ≡ check
checks-rule false true h = sym (h refl)
checks-rule _ _ h = refl

concatenates-rule : (concatenates none : Bool) → (concatenates ≡ false → none ≡ false)
    → (concatenates || none) ≡ concatenates
concatenates-rule true none h = refl
concatenates-rule false none h = h refl

-- the padding that byte 512 says
abbrev padding_in : ℕ → Option ℕ
padding_in entry = cond (nat_lt entry 128) (Some entry) None

padding_in-some : (entry : ℕ) → entry < 128 → padding_in entry ≡ Some entry
padding_in-some entry h = ap (λ b. cond b (Some entry) None) (lt-ltb entry 128 h)

-- the base that bytes describe, which keeps the rules if they do
module _ (bytes : List ℕ) (width : ℕ) (width_is : get_or bytes 513 0 % 8 ≡ width)
    (rule : IsLayoutOf width bytes) where
  abbrev sum : ℕ
  sum = get_or bytes 513 0

  abbrev low : List ℕ
  low = take 128 (drop 256 bytes)

  abbrev size : ℕ
  size = 2 ^ width

  size-few : size ≤ 64
  size-few = symbols-few width rule.is_width

  abbrev described : Base
  described = record {
    width = width;
    order = cond (sum / 8 % 2 == 1) MostSignificantFirst LeastSignificantFirst;
    symbols = take size bytes;
    checks_trailing_bits = sum / 16 % 2 == 1;
    concatenates = sum / 32 % 2 == 0;
    padding = padding_in (get_or bytes 512 0);
    meanings = map meaning_of_entry low;
    wrapping = wrapping_by (get_or bytes 514 0) (drop 515 bytes);
  }

  long : 514 ≤ length bytes
  long = by_end rule.end where
    by_end : TellsWrapping width bytes → 514 ≤ length bytes
    by_end (inl none) = omega (arith, none.0)
    by_end (inr (inl some)) = omega (arith, some.0)
    by_end (inr (inr lines)) = omega (arith, lines.ended)

  long-low : length low ≡ 128
  long-low = length-take-le 128 (drop 256 bytes) (omega (arith, long, length-drop 256 bytes))

  low-at : (byte : ℕ) → byte < 128 → get_or low byte 0 ≡ entry_in bytes byte
  low-at byte h = get_or-take 128 (drop 256 bytes) byte 0 h ∙ get_or-drop 256 bytes byte 0

  meaning-at : (byte : ℕ) → byte < 128
      → meaning described byte ≡ meaning_of_entry (entry_in bytes byte)
  meaning-at byte h =
      get_or-map meaning_of_entry low byte 0 Invalid (omega (arith, h, long-low))
      ∙ ap meaning_of_entry (low-at byte h)

  long-symbols : length (take size bytes) ≡ size
  long-symbols = length-take-le size bytes (omega (arith, size-few, long))

  own : (i : ℕ) → i < length (take size bytes) → (get_or (take size bytes) i 0 < 128)
      × (meaning described (get_or (take size bytes) i 0) ≡ Symbol i)
  own i h =
      let below : i < size = omega (arith, h, long-symbols) in
      let same = get_or-take size bytes i 0 below in
      let at = rule.own i below in
      let few : i < 64 = omega (arith, below, size-few) in (
        subst (λ n. n < 128) (sym same) at.0,
        ap (meaning described) same ∙ meaning-at (get_or bytes i 0) at.0
            ∙ ap meaning_of_entry at.1 ∙ value-symbol i few,
      )

  within : list_all (is_within (length (take size bytes))) (map meaning_of_entry low) ≡ true
  within =
      ap (λ n. list_all (is_within n) (map meaning_of_entry low)) long-symbols
      ∙ list_all-places (is_within size) (map meaning_of_entry low) Invalid (λ i h.
      let few : i < 128 = omega (arith, h, length-map low meaning_of_entry, long-low) in
      ap (is_within size) (meaning-at i few)
      ∙ entry-within size (entry_in bytes i)
      (entry-is size (entry_in bytes i) (rule.entries i few)))

  ruled-padding : TellsPadding width bytes
      → IsRuledPadding described (padding_in (get_or bytes 512 0))
  ruled-padding (inl none) =
      subst (λ n. IsRuledPadding described (padding_in n)) (sym none.0)
      (list_all-places is_no_padding (map meaning_of_entry low) Invalid (λ i h.
      let few : i < 128 = omega (arith, h, length-map low meaning_of_entry, long-low) in
      ap is_no_padding (meaning-at i few)
      ∙ entry-no_padding (entry_in bytes i) (apart_test (entry_in bytes i) 130 (none.1 i few))))
  ruled-padding (inr some) =
      subst (IsRuledPadding described) (sym (padding_in-some (get_or bytes 512 0) some.0)) (
        some.0,
        meaning-at (get_or bytes 512 0) some.0 ∙ ap meaning_of_entry some.1,
        apart_test (8 % width) 0 some.2,
      )

  abbrev IsIgnored : ℕ → Type 0
  IsIgnored byte = (byte < 128) × (meaning described byte ≡ Ignored)

  ignored-at : (byte : ℕ) → IsIgnoredIn bytes byte → meaning described byte ≡ Ignored
  ignored-at byte is = meaning-at byte is.0 ∙ ap meaning_of_entry is.1

  wrapping-of : (column : ℕ) → 0 < column → wrapping_by column (drop 515 bytes)
      ≡ Some (record { column = column; separator = drop 515 bytes })
  wrapping-of zero h = absurd (omega (arith, h))
  wrapping-of (suc n) h = refl

  no_column : length bytes ≡ 514 → get_or bytes 514 0 ≡ 0
  no_column is = get_or_past bytes 514 0 (omega (arith, is))

  ruled-wrapping : TellsWrapping width bytes
      → IsRuledWrapping described (wrapping_by (get_or bytes 514 0) (drop 515 bytes))
  ruled-wrapping (inl none) =
      subst (λ n. IsRuledWrapping described (wrapping_by n (drop 515 bytes)))
      (sym (no_column none.0)) tt
  ruled-wrapping (inr (inl some)) =
      subst (λ n. IsRuledWrapping described (wrapping_by n (drop 515 bytes))) (sym some.1) tt
  ruled-wrapping (inr (inr lines)) =
      let rest = length-drop 515 bytes in
      subst (IsRuledWrapping described) (sym (wrapping-of (get_or bytes 514 0) lines.some))
      (record {
        some = lines.some;
        short = lines.short;
        whole = lines.whole;
        ended = omega (arith, rest, lines.ended);
        ends_short = omega (arith, rest, lines.ends_short);
        ignored =
            recursion_from_All IsIgnored (drop 515 bytes)
            (All-from_get_or IsIgnored (drop 515 bytes) 0 (λ i h.
            let is = lines.ignored (515 + i) (omega arith) (omega (arith, h, rest)) in
            subst IsIgnored (sym (get_or-drop 515 bytes i 0))
            (is.0, ignored-at (get_or bytes (515 + i) 0) is)));
      })

  padded-single : (sum / 32 % 2 == 0) ≡ false
      → is_none (padding_in (get_or bytes 512 0)) ≡ false
  padded-single h =
      let odd : sum / 32 % 2 ≡ 1 = odd-bit (sum / 32 % 2) (omega arith) h in
      ap is_none (padding_in-some (get_or bytes 512 0) (rule.single odd)) where
        odd-bit : (n : ℕ) → n < 2 → (n == 0) ≡ false → n ≡ 1
        odd-bit n h k = grind (arith, nat_tests)

  is_ruled : IsRuled described
  is_ruled = record {
    is_width = rule.is_width;
    count = long-symbols;
    checked =
        checks-rule (sum / 16 % 2 == 1) (8 % width == 0)
        (λ whole. eq-eqb (sum / 16 % 2) 1 (rule.checked (eqb-true (8 % width) 0 whole)));
    concatenated =
        concatenates-rule (sum / 32 % 2 == 0) (is_none (padding_in (get_or bytes 512 0)))
        padded-single;
    long = length-map low meaning_of_entry ∙ long-low;
    own = own;
    within = within;
    padding = ruled-padding rule.padding;
    wrapping = ruled-wrapping rule.end;
  }

  -- and its layout is the bytes
  table-is : symbol_table described ≡ take 256 bytes
  table-is =
      let all : 256 / size * length (take size bytes) ≡ 256 =
      ap (λ n. 256 / size * n) long-symbols ∙ times_symbols width rule.is_width in
      let count = length-repeats (256 / size) (take size bytes) in
      ext_get_or 0 (symbol_table described) (take 256 bytes)
      (count ∙ all ∙ sym (length-take-le 256 bytes (omega (arith, long))))
      (λ k h.
      let few : k < 256 = omega (arith, h, count, all) in
      get_or-repeats (256 / size) (take size bytes) k (omega (arith, few, all))
      ∙ ap (λ n. get_or (take size bytes) (k % n) 0) long-symbols
      ∙ get_or-take size bytes (k % size) 0 (mod-lt k (pow_pos width))
      ∙ sym (rule.repeated k few)
      ∙ sym (get_or-take 256 bytes k 0 few))

  codes-are : map code_of (map meaning_of_entry low) ≡ low
  codes-are =
      codes-back low (list_all-places (is_entry_of 64) low 0 (λ i h.
      let few : i < 128 = omega (arith, h, long-low) in
      ap (is_entry_of 64) (low-at i few)
      ∙ entry-weaker size (entry_in bytes i) size-few
      (entry-is size (entry_in bytes i) (rule.entries i few))))

  high-is : replicate 128 128 ≡ take 128 (drop 384 bytes)
  high-is =
      let few : length (take 128 (drop 384 bytes)) ≡ 128 =
      length-take-le 128 (drop 384 bytes) (omega (arith, long, length-drop 384 bytes)) in
      ext_get_or 0 (replicate 128 128) (take 128 (drop 384 bytes))
      (length-replicate {A = ℕ} 128 128 ∙ sym few)
      (λ k h.
      let less : k < 128 = omega (arith, h, length-replicate {A = ℕ} 128 128) in
      let place : 256 + (128 + k) ≡ 384 + k = omega arith in
      get_or-replicate 128 k 128 0 less
      ∙ sym (get_or-take 128 (drop 384 bytes) k 0 less ∙ get_or-drop 384 bytes k 0
      ∙ ap (λ n. get_or bytes n 0) (sym place)
      ∙ rule.invalid_from_128 (128 + k) (omega arith) (omega (arith, less))))

  padding-is : TellsPadding width bytes → unwrap_or (padding_in (get_or bytes 512 0)) 128
      ≡ get_or bytes 512 0
  padding-is (inl none) =
      subst (λ n. unwrap_or (padding_in n) 128 ≡ n) (sym none.0) refl
  padding-is (inr some) =
      ap (λ o. unwrap_or o 128) (padding_in-some (get_or bytes 512 0) some.0)

  flags-are : flags width (described).order (described).checks_trailing_bits
      (described).concatenates ≡ sum
  flags-are =
      ap (λ w. flags w (described).order (described).checks_trailing_bits (described).concatenates)
      (sym width_is)
      ∙ sum-is sum rule.flags

  wrapped : TellsWrapping width bytes
      → wrapping_bytes (ignores_some described) (wrapping_by (get_or bytes 514 0) (drop 515 bytes))
      ≡ drop 514 bytes
  wrapped (inl none) =
      let ignores : ignores_some described ≡ false =
      none_passes is_ignored (map meaning_of_entry low) Invalid (λ i h.
      let few : i < 128 = omega (arith, h, length-map low meaning_of_entry, long-low) in
      ap is_ignored (meaning-at i few)
      ∙ entry-not_ignored (entry_in bytes i) (λ e. none.1 i (few, e))) in
      (λ i. wrapping_bytes (ignores i) (wrapping_by (no_column none.0 i) (drop 515 bytes)))
      ∙ sym (drop_of_length-le bytes {i = 514} (omega (arith, none.0)))
  wrapped (inr (inl some)) =
      let ignored = some.2 in
      let ignores : ignores_some described ≡ true =
      list_any_at is_ignored (map meaning_of_entry low) ignored.0 Invalid
      (omega (arith, ignored.1.0, length-map low meaning_of_entry, long-low))
      (ap is_ignored (ignored-at ignored.0 ignored.1)) in
      (λ i. wrapping_bytes (ignores i) (wrapping_by (some.1 i) (drop 515 bytes)))
      ∙ sym (drop-cons bytes 514 0 (omega (arith, some.0))
      ∙ (λ i. some.1 i ∷ drop_of_length-le bytes {i = 515} (omega (arith, some.0)) i))
  wrapped (inr (inr lines)) =
      ap (wrapping_bytes (ignores_some described)) (wrapping-of (get_or bytes 514 0) lines.some)
      ∙ sym (drop-cons bytes 514 0 (omega (arith, lines.ended)))

  abbrev end : List ℕ
  end = get_or bytes 512 0 ∷ sum ∷ drop 514 bytes

  ends-are : ends described ≡ end
  ends-are =
      λ i. padding-is rule.padding i ∷ flags-are i ∷ wrapped rule.end i

  end-is : end ≡ drop 512 bytes
  end-is =
      sym (drop-cons bytes 512 0 (omega (arith, long))
      ∙ ap (λ l. get_or bytes 512 0 ∷ l) (drop-cons bytes 513 0 (omega (arith, long))))

  pub layout-described : layout described ≡ bytes
  layout-described =
      (λ i. table-is i ++ codes-are i ++ high-is i ++ (ends-are ∙ end-is) i)
      ∙ ap (λ l. l ++ take 128 (drop 384 bytes) ++ drop 512 bytes) (sym (take-add 256 128 bytes))
      ∙ ap (λ l. l ++ drop 512 bytes) (sym (take-add 384 128 bytes))
      ∙ take-append-drop 512 bytes

  pub specified-described : (base : Base) × IsSpecified base × (layout base ≡ bytes)
  specified-described = (described, IsSpecified-ruled described is_ruled, layout-described)

pub layouts : Layouts
layouts bytes = (
  λ has. layout-rules has.0 bytes has.1 has.2,
  λ rule. specified-described bytes (get_or bytes 513 0 % 8) refl rule,
)
