-- A base is built again from its own specification.
use Rattle.std.proofs.Common.{◌≡◌, ◌≢◌, ◌⊎◌, ◌↔◌, ℕ, suc, ◌+◌, ◌%◌, ◌<◌, ◌≤◌, ◌==◌, Bool, true, false, not, nat_le, nat_lt, cond, if◌then◌else◌, List, [], ◌∷◌, length, map, get_or, Option, Some, None, unwrap_or, Ok, Err, refl, sym, ap, ◌∙◌, subst, arith, inl, inr, ⊎_elim, get_or-set_same, get_or-set_other}
use Rattle.std.proofs.lemmas.Bool.{and_from, false≢true, cases_eq, cases_lt, eq-eqb, ltb-true, lt-ltb, lt-leb}
use Rattle.std.proofs.lemmas.List.{ext_get_or, get_or-replicate, get_or_past, length-map}
use Rattle.std.proofs.Math.ListN.{set}
use Rattle.std.specs.List.{AllByRecursion}
use Rattle.data_encoding_meaning.specs.declared.encoding.Character.{Character}
use Rattle.data_encoding_meaning.specs.declared.encoding.Character.TheVariants.{Symbol, Padding, Ignored, Invalid}
use Rattle.data_encoding_meaning.specs.declared.refusal.Refusal.TheVariants.{NotAscii, Undefined}
use Rattle.data_encoding_meaning.specs.text.Base.{Base, Wrapping, group_symbols, is_ignored, meaning, symbol}
use Rattle.data_encoding_meaning.specs.specification.Fields.{Judgement, base_of, base_with, ignored_judgements, is_same, judgements, padding_judgements, pair_judgements, symbol_judgements, translation_judgements, width_of, wrapping_judgements, wraps, Require, Define, Translate, IsSpecified}
use Rattle.data_encoding_meaning.specs.specification.MeaningTable.{defined, judged, meanings_after, no_meanings, translated}
use Rattle.data_encoding_meaning.specs.specification.Layout.{column_of, fields_of, is_translated, own_character, separator_of, translated_bytes}
use Rattle.data_encoding_meaning.proofs.tables.EntryLemmas.{apart_test, defined_by, false_or, ignored-is, is_same-self, same-is_same}
use Rattle.data_encoding_meaning.proofs.judgement.JudgementLemmas.{AreKept, AreKept-join, AreSteps, IsHeld, Judged, after-ok, judged-ok, meanings_after-append, meanings_after-ok, symbols-held}
use Rattle.data_encoding_meaning.proofs.lists.EachLemmas.{all_parts, all_in_range, at_in_range, passes_at}
use Rattle.data_encoding_meaning.proofs.judgement.RuleLemmas.{IsRuled, IsRuledPadding, IsRuledWrapping, base_of-width, first_judgements, from_parts, ignored-held, is_no_padding, is_within, IsRuled-built, judged-by-table, parts_of, width_of-power}

-- A judgement agrees with the meanings in the end, if what is translated to is known before.
abbrev Agrees : List Character → List Character → Judgement → Type 0
Agrees target known (Require holds refusal) = holds ≡ true
Agrees target known (Define byte m) = (byte < 128) × (get_or target byte Invalid ≡ m)
Agrees target known (Translate from to) =
    (from < 128) × (to < 128) × (get_or known to Invalid ≢ Invalid)
    × (get_or target from Invalid ≡ get_or target to Invalid)

-- each byte means nothing yet, or what it means in the end
abbrev IsBelow : List Character → List Character → Type 0
IsBelow before target =
    (byte : ℕ) → (get_or before byte Invalid ≡ Invalid)
    ⊎ (get_or before byte Invalid ≡ get_or target byte Invalid)

-- What comes next.
record GoesOn (r : Judged) (target : List Character) : Type 0 where
  after : List Character
  is : r ≡ Ok after
  below : IsBelow after target

set-below : (target before : List Character) (byte : ℕ) (m : Character) → length before ≡ 128
    → byte < 128 → get_or target byte Invalid ≡ m → IsBelow before target
    → IsBelow (set before byte m) target
set-below target before byte m long low is below other =
    ⊎_elim
    (λ (same : other ≡ byte).
    inr (ap (λ n. get_or (set before byte m) n Invalid) same
    ∙ get_or-set_same before byte m Invalid (omega (arith, low, long))
    ∙ sym is ∙ ap (λ n. get_or target n Invalid) (sym same)))
    (λ (apart : other ≢ byte).
    let kept = get_or-set_other before byte other m Invalid apart in
    ⊎_elim
    (λ (none : get_or before other Invalid ≡ Invalid). inl (kept ∙ none))
    (λ (there : get_or before other Invalid ≡ get_or target other Invalid). inr (kept ∙ there))
    (below other))
    (cases_eq other byte)

define-goes : (target before : List Character) (byte : ℕ) (m : Character) → length before ≡ 128
    → byte < 128 → get_or target byte Invalid ≡ m → IsBelow before target
    → GoesOn (defined before byte m) target
define-goes target before byte m long low is below =
    by_same (is_same (get_or before byte Invalid) m) refl where
      past : nat_le 128 byte ≡ false
      past = lt-leb 128 byte low

      by_same : (same : Bool) → is_same (get_or before byte Invalid) m ≡ same
          → GoesOn (defined before byte m) target
      by_same true s = record {
        after = before;
        is =
            λ i. defined_by (past i) (s i) (is_same (get_or before byte Invalid) Invalid)
            before byte m;
        below = below;
      }
      by_same false s = record {
        after = set before byte m;
        is =
            let none : get_or before byte Invalid ≡ Invalid = ⊎_elim
            (λ (none : get_or before byte Invalid ≡ Invalid). none)
            (λ (there : get_or before byte Invalid ≡ get_or target byte Invalid).
            let yes : is_same (get_or before byte Invalid) m ≡ true =
            ap (λ n. is_same n m) (there ∙ is) ∙ is_same-self m in
            absurd (false≢true (sym s ∙ yes)))
            (below byte) in
            (λ i. defined_by (past i) (s i) (is_same (none i) Invalid) before byte m);
        below = set-below target before byte m long low is below;
      }

translate-goes : (target known before : List Character) (from to : ℕ) → length before ≡ 128
    → Agrees target known (Translate from to) → AreKept known before → IsBelow before target
    → GoesOn (translated before from to) target
translate-goes target known before from to long agrees kept below =
    let m = get_or before to Invalid in
    let some : m ≢ Invalid = λ e. agrees.2 (sym (kept to agrees.2) ∙ e) in
    let there : m ≡ get_or target to Invalid = ⊎_elim
    (λ (none : m ≡ Invalid). absurd (some none))
    (λ (there : m ≡ get_or target to Invalid). there)
    (below to) in
    let past : nat_le 128 to ≡ false = lt-leb 128 to agrees.1 in
    let known_to : is_same m Invalid ≡ false =
    false_or (is_same m Invalid) (λ e. some (same-is_same m Invalid e)) in
    let next = define-goes target before from m long agrees.0 (agrees.3 ∙ sym there) below in
    record {
      after = next.after;
      is =
          (λ i. if past i then Err NotAscii
          else if known_to i then Err (Undefined to)
          else defined before from m)
          ∙ next.is;
      below = next.below;
    }

step-goes : (target known before : List Character) (j : Judgement) → length before ≡ 128
    → Agrees target known j → AreKept known before → IsBelow before target
    → GoesOn (judged before j) target
step-goes target known before (Require holds refusal) long agrees kept below = record {
  after = before;
  is = ap (λ b. if b then Ok before else Err refusal) agrees;
  below = below;
}
step-goes target known before (Define byte m) long agrees kept below =
    define-goes target before byte m long agrees.0 agrees.1 below
step-goes target known before (Translate from to) long agrees kept below =
    translate-goes target known before from to long agrees kept below

-- judgements that agree are not refused
all-go : (target known : List Character) (js : List Judgement) (before : List Character)
    → length before ≡ 128 → AllByRecursion (Agrees target known) js → AreKept known before
    → IsBelow before target → GoesOn (meanings_after (Ok before) js) target
all-go target known [] before long agree kept below =
    record { after = before; is = refl; below = below }
all-go target known (j ∷ js) before long agree kept below =
    let next = step-goes target known before j long agree.0 kept below in
    let step = judged-ok before next.after j next.is in
    let rest = all-go target known js next.after (step.long ∙ long) agree.1
    (AreKept-join known before next.after kept step.kept) next.below in
    record {
      after = rest.after;
      is = after-ok (judged before j) next.after js next.is ∙ rest.is;
      below = rest.below;
    }

nothing-below : (target : List Character) → IsBelow no_meanings target
nothing-below target byte =
    inl (⊎_elim
    (λ (low : byte < 128). get_or-replicate 128 byte Invalid Invalid low)
    (λ (high : 128 ≤ byte). get_or_past no_meanings byte Invalid high)
    (cases_lt byte 128))

symbols-agree : (target known : List Character) (n : ℕ) (symbols : List ℕ)
    → ((i : ℕ) → i < length symbols → (get_or symbols i 0 < 128)
    × (get_or target (get_or symbols i 0) Invalid ≡ Symbol (n + i)))
    → AllByRecursion (Agrees target known) (symbol_judgements n symbols)
symbols-agree target known n [] own = tt
symbols-agree target known n (s ∷ symbols) own =
    let first = own 0 (omega arith) in
    let here : n + 0 ≡ n = omega arith in (
      (first.0, first.1 ∙ ap (λ v. Symbol v) here),
      symbols-agree target known (n + 1) symbols (λ i h.
          let at = own (suc i) (omega (arith, h)) in
          (at.0, at.1 ∙ ap (λ v. Symbol v) (omega arith))),
    )

ignored-agree : (target known : List Character) (bytes : List ℕ)
    → AllByRecursion (λ byte. (byte < 128) × (get_or target byte Invalid ≡ Ignored)) bytes
    → AllByRecursion (Agrees target known) (ignored_judgements bytes)
ignored-agree target known [] all = tt
ignored-agree target known (byte ∷ bytes) all = (all.0, ignored-agree target known bytes all.1)

-- what holds of all pairs
pairs-hold : (P : Judgement → Type 0) (f : ℕ → ℕ) (bytes : List ℕ)
    → AllByRecursion P (pair_judgements bytes (map f bytes))
    ↔ AllByRecursion (λ byte. P (Translate byte (f byte))) bytes
pairs-hold P f [] = (λ h. tt, λ h. tt)
pairs-hold P f (byte ∷ bytes) =
    let rest = pairs-hold P f bytes in (λ h. (h.0, rest.0 h.1), λ h. (h.0, rest.1 h.1))

module _ (base : Base) (ruled : IsRuled base) where
  pub value-small : (byte value : ℕ) → byte < 128 → meaning base byte ≡ Symbol value
      → value < length base.symbols
  value-small byte value low is =
      let limit = length base.symbols in
      let passes : is_within limit (meaning base byte) ≡ true =
      passes_at (is_within limit) base.meanings byte Invalid ruled.within
      (omega (arith, low, ruled.long)) in
      ltb-true value limit (sym (ap (is_within limit) is) ∙ passes)

  padding-own : (byte : ℕ) → byte < 128 → meaning base byte ≡ Padding → (character : ℕ)
      × (base.padding ≡ Some character) × (character < 128)
      × (meaning base character ≡ Padding)
  padding-own byte low m = by base.padding refl ruled.padding where
    by : (o : Option ℕ) → base.padding ≡ o → IsRuledPadding base o → (character : ℕ)
        × (base.padding ≡ Some character) × (character < 128)
        × (meaning base character ≡ Padding)
    by None is rule =
        let passes = passes_at is_no_padding base.meanings byte Invalid rule
        (omega (arith, low, ruled.long)) in
        absurd (false≢true (sym (ap is_no_padding m) ∙ passes))
    by (Some character) is rule = (character, is, rule.0, rule.1)

  abbrev before_pairs : List Judgement
  before_pairs = first_judgements base.width (fields_of base)

  padding-agrees : (o : Option ℕ) → IsRuledPadding base o
      → AllByRecursion (Agrees base.meanings no_meanings) (padding_judgements base.width o)
  padding-agrees None rule = tt
  padding-agrees (Some character) rule =
      (rule.2, (lt-ltb character 128 rule.0, ((rule.0, rule.1), tt)))

  wrapping-agrees : (o : Option Wrapping) → IsRuledWrapping base o
      → AllByRecursion (Agrees base.meanings no_meanings)
      (wrapping_judgements base.width (column_of o) (separator_of o))
  wrapping-agrees None rule = tt
  wrapping-agrees (Some lines) rule =
      let column = lines.column in
      let separator = lines.separator in
      let on : wraps column separator ≡ true =
      and_from (not (column == 0)) (not (length separator == 0))
      (apart_test column 0 (λ e. omega (arith, e, rule.some)))
      (apart_test (length separator) 0 (λ e. omega (arith, e, rule.ended))) in
      rw on (
        and_from (nat_lt column 256) (nat_lt (length separator) 256)
            (lt-ltb column 256 rule.short) (lt-ltb (length separator) 256 rule.ends_short),
        (
          eq-eqb (column % group_symbols base.width) 0 rule.whole,
          ignored-agree base.meanings no_meanings separator rule.ignored,
        ),
      )

  before_pairs-agree : AllByRecursion (Agrees base.meanings no_meanings) before_pairs
  before_pairs-agree =
      from_parts (Agrees base.meanings no_meanings) base.width (fields_of base) (
        symbols-agree base.meanings no_meanings 0 base.symbols (λ i h.
            let own = ruled.own i h in
            (own.0, own.1 ∙ ap (λ v. Symbol v) (omega arith))),
        padding-agrees base.padding ruled.padding,
        ignored-agree base.meanings no_meanings (fields_of base).ignored
            (all_in_range (λ byte. (byte < 128) × (get_or base.meanings byte Invalid ≡ Ignored))
            (λ byte. is_ignored (meaning base byte)) 0 128
            (λ byte from low is. (omega arith, ignored-is (meaning base byte) is))),
        wrapping-agrees base.wrapping ruled.wrapping,
      )

  -- the meanings before the translations
  first : GoesOn (meanings_after (Ok no_meanings) before_pairs) base.meanings
  first =
      all-go base.meanings no_meanings before_pairs no_meanings refl before_pairs-agree
      (λ byte some. refl) (nothing-below base.meanings)

  abbrev halfway : List Character
  halfway = (first).after

  halfway-held : AllByRecursion (IsHeld halfway) before_pairs
  halfway-held =
      (meanings_after-ok before_pairs no_meanings halfway (first).is).held refl

  long-halfway : length halfway ≡ 128
  long-halfway = (meanings_after-ok before_pairs no_meanings halfway (first).is).long

  -- in any meanings that hold them, the symbols and the padding mean themselves
  symbol-there : (meanings : List Character) → AllByRecursion (IsHeld meanings) before_pairs
      → (i : ℕ) → i < length base.symbols
      → get_or meanings (get_or base.symbols i 0) Invalid ≡ Symbol i
  symbol-there meanings held i h =
      let all = parts_of (IsHeld meanings) base.width (fields_of base) held in
      (symbols-held meanings 0 base.symbols all.0 i h).1 ∙ ap (λ v. Symbol v) (omega arith)

  padding-there : (meanings : List Character) → AllByRecursion (IsHeld meanings) before_pairs
      → (character : ℕ) → base.padding ≡ Some character
      → get_or meanings character Invalid ≡ Padding
  padding-there meanings held character is =
      let all = parts_of (IsHeld meanings) base.width (fields_of base) held in
      let one = rw is at all.1 in
      one.1.1.0.1 (λ e. cc)

  ignored-there : (meanings : List Character) → AllByRecursion (IsHeld meanings) before_pairs
      → (byte : ℕ) → byte < 128 → meaning base byte ≡ Ignored
      → get_or meanings byte Invalid ≡ Ignored
  ignored-there meanings held byte low is =
      let all = parts_of (IsHeld meanings) base.width (fields_of base) held in
      (at_in_range (λ k. (k < 128) × (get_or meanings k Invalid ≡ Ignored))
      (λ k. is_ignored (meaning base k)) 0 128 byte
      (ignored-held meanings (fields_of base).ignored all.2) (omega arith) (omega arith)
      (ap is_ignored is)).1

  -- a translated byte agrees, once what it is translated to is known
  pair-agrees : (byte : ℕ) → byte < 128 → (m : Character) → meaning base byte ≡ m
      → is_translated base byte (own_character base m) ≡ true
      → Agrees base.meanings halfway (Translate byte (unwrap_or (own_character base m) 0))
  pair-agrees byte low (Symbol value) is t =
      let small = value-small byte value low is in
      let own = ruled.own value small in
      let there = symbol-there halfway halfway-held value small in
      (low, own.0, (λ e. let bad : Symbol value ≡ Invalid = sym there ∙ e in cc), is ∙ sym own.1)
  pair-agrees byte low Padding is t =
      let own = padding-own byte low is in
      subst (λ o. Agrees base.meanings halfway (Translate byte (unwrap_or o 0))) (sym own.1)
      (let there = padding-there halfway halfway-held own.0 own.1 in
      (low, own.2, (λ e. let bad : Padding ≡ Invalid = sym there ∙ e in cc), is ∙ sym own.3))
  pair-agrees byte low _ is t = cc

  abbrev from : List ℕ
  from = translated_bytes base

  abbrev own : ℕ → ℕ
  own byte = unwrap_or (own_character base (meaning base byte)) 0

  abbrev pairs : List Judgement
  pairs = translation_judgements (fields_of base).from (fields_of base).to

  pairs-all : AllByRecursion (Agrees base.meanings halfway) pairs
  pairs-all = (
    eq-eqb (length from) (length (map own from)) (sym (length-map from own)),
    (pairs-hold (Agrees base.meanings halfway) own from).1
        (all_in_range (λ byte. Agrees base.meanings halfway (Translate byte (own byte)))
        (λ byte. is_translated base byte (own_character base (meaning base byte))) 0 128
        (λ byte from low is. pair-agrees byte (omega arith) (meaning base byte) refl is)),
  )

  second : GoesOn (meanings_after (Ok halfway) pairs) base.meanings
  second =
      all-go base.meanings halfway pairs halfway long-halfway pairs-all (λ byte some. refl)
      (first).below

  abbrev last : List Character
  last = (second).after

  judged-all : meanings_after (Ok no_meanings) (judgements base.width (fields_of base)) ≡ Ok last
  judged-all =
      meanings_after-append (Ok no_meanings) before_pairs pairs
      ∙ after-ok (meanings_after (Ok no_meanings) before_pairs) halfway pairs (first).is
      ∙ (second).is

  last-steps : AreSteps no_meanings (judgements base.width (fields_of base)) last
  last-steps =
      meanings_after-ok (judgements base.width (fields_of base)) no_meanings last judged-all

  last-held : AllByRecursion (IsHeld last) before_pairs × AllByRecursion (IsHeld last) pairs
  last-held = all_parts (IsHeld last) before_pairs pairs ((last-steps).held refl)

  abbrev first-held : AllByRecursion (IsHeld last) before_pairs
  first-held = (last-held).0

  -- a translated byte means something in the end
  translated-there : (byte : ℕ) → byte < 128
      → is_translated base byte (own_character base (meaning base byte)) ≡ true
      → get_or last byte Invalid ≢ Invalid
  translated-there byte low is e =
      let at = at_in_range (λ k. IsHeld last (Translate k (own k)))
      (λ k. is_translated base k (own_character base (meaning base k))) 0 128 byte
      ((pairs-hold (IsHeld last) own from).0 (last-held).1.1) (omega arith) (omega arith) is in
      at.2 (sym at.3 ∙ e)

  -- a byte is translated, or is the character itself
  self-there : (byte character : ℕ) → byte < 128
      → own_character base (meaning base byte) ≡ Some character
      → (get_or last character Invalid ≢ Invalid) → get_or last byte Invalid ≢ Invalid
  self-there byte character low is there =
      ⊎_elim
      (λ (same : character ≡ byte). λ e. there (ap (λ n. get_or last n Invalid) same ∙ e))
      (λ (apart : character ≢ byte).
      let t : is_translated base byte (own_character base (meaning base byte)) ≡ true =
      ap (is_translated base byte) is ∙ apart_test character byte apart in
      translated-there byte low t)
      (cases_eq character byte)

  all-there : (byte : ℕ) → byte < 128 → (m : Character) → meaning base byte ≡ m
      → get_or last byte Invalid ≡ Invalid → m ≡ Invalid
  all-there byte low (Symbol value) is none =
      let there = symbol-there last first-held value (value-small byte value low is) in
      absurd (self-there byte (symbol base value) low (ap (own_character base) is)
      (λ e. let bad : Symbol value ≡ Invalid = sym there ∙ e in cc) none)
  all-there byte low Padding is none =
      let own_padding = padding-own byte low is in
      let there = padding-there last first-held own_padding.0 own_padding.1 in
      absurd (self-there byte own_padding.0 low (ap (own_character base) is ∙ own_padding.1)
      (λ e. let bad : Padding ≡ Invalid = sym there ∙ e in cc) none)
  all-there byte low Ignored is none =
      sym (ignored-there last first-held byte low is) ∙ none
  all-there byte low Invalid is none = refl

  last-is : last ≡ base.meanings
  last-is =
      ext_get_or Invalid last base.meanings ((last-steps).long ∙ sym ruled.long)
      (λ byte h.
      let low : byte < 128 = omega (arith, h, (last-steps).long) in
      ⊎_elim
      (λ (none : get_or last byte Invalid ≡ Invalid).
      none ∙ sym (all-there byte low (meaning base byte) refl none))
      (λ (there : get_or last byte Invalid ≡ meaning base byte). there)
      ((second).below byte))

  wrapping-again : (o : Option Wrapping) → IsRuledWrapping base o
      → cond (wraps (column_of o) (separator_of o))
      (Some (record { column = column_of o; separator = separator_of o })) None ≡ o
  wrapping-again None rule = refl
  wrapping-again (Some lines) rule =
      let on : wraps lines.column lines.separator ≡ true =
      and_from (not (lines.column == 0)) (not (length lines.separator == 0))
      (apart_test lines.column 0 (λ e. omega (arith, e, rule.some)))
      (apart_test (length lines.separator) 0 (λ e. omega (arith, e, rule.ended))) in
      ap (λ b. cond b (Some lines) None) on

  pub base_of-again : base_of (fields_of base) ≡ Ok base
  base_of-again =
      let wrapped = wrapping-again base.wrapping ruled.wrapping in
      base_of-width (fields_of base) base.width
      (ap width_of ruled.count ∙ width_of-power base.width ruled.is_width) ruled.is_width.some
      ∙ ap (base_with base.width (fields_of base))
      (judged-by-table base.width (fields_of base) ∙ judged-all ∙ ap (λ l. Ok l) last-is)
      ∙ (λ i. Ok (record {
        width = base.width;
        order = base.order;
        symbols = base.symbols;
        checks_trailing_bits = ruled.checked i;
        concatenates = ruled.concatenated i;
        padding = base.padding;
        meanings = base.meanings;
        wrapping = wrapped i;
      }))

pub specification-again : (base : Base) → IsSpecified base → base_of (fields_of base) ≡ Ok base
specification-again base is = base_of-again base (IsRuled-built is.fields base is.is_built)

-- what keeps the rules is a base
pub IsSpecified-ruled : (base : Base) → IsRuled base → IsSpecified base
IsSpecified-ruled base ruled =
    record { fields = fields_of base; is_built = base_of-again base ruled }
