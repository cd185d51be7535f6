-- The rules that a base keeps, and that each base built from a specification keeps them.
use Rattle.std.proofs.Common.{◌≡◌, ℕ, zero, suc, ◌%◌, ◌^◌, ◌<◌, ◌==◌, Bool, true, false, not, ◌&&◌, ◌||◌, nat_lt, cond, List, [], ◌∷◌, ◌++◌, length, map, get_or, Option, Some, None, is_none, Result, Ok, Err, refl, sym, ap, ◌∙◌, subst, arith}
use Rattle.std.proofs.lemmas.Bool.{and_parts, ltb-true, eqb-true, lt-ltb}
use Rattle.std.proofs.lemmas.Bool.Decides.{nat_tests}
use Rattle.std.proofs.lemmas.List.Quantifiers.{position-Some}
use Rattle.std.specs.List.{AllByRecursion, list_all, zip}
use Rattle.data_encoding_meaning.specs.declared.encoding.Character.{Character}
use Rattle.data_encoding_meaning.specs.declared.encoding.Character.TheVariants.{Symbol, Padding, Ignored, Invalid}
use Rattle.data_encoding_meaning.specs.declared.refusal.Refusal.{Refusal}
use Rattle.data_encoding_meaning.specs.declared.refusal.Refusal.TheVariants.{WrapLength, WrapWidth}
use Rattle.data_encoding_meaning.specs.text.Base.{Base, Wrapping, meaning, group_symbols, IsWidth}
use Rattle.data_encoding_meaning.specs.specification.Fields.{Fields, Judgement, base_of, base_by, base_with, ignored_judgements, judgements, meanings_of, padding_judgements, symbol_judgements, translation_judgements, width_of, wrapping_judgements, wraps, Require, Translate}
use Rattle.data_encoding_meaning.specs.specification.MeaningTable.{meanings_after, no_meanings}
use Rattle.data_encoding_meaning.proofs.judgement.JudgementLemmas.{AreSteps, Brings, IsHeld, meanings_after-ok, meanings_after-pass, symbols-bring, symbols-held}
use Rattle.data_encoding_meaning.proofs.judgement.MeaningTableLemmas.{is_some_meaning, meanings-by-table}
use Rattle.data_encoding_meaning.proofs.lists.EachLemmas.{all_parts, all_joined}
use Rattle.data_encoding_meaning.proofs.digits.WidthLemmas.{by_width}

-- a symbol's value is below the number of symbols
abbrev pub is_within : ℕ → Character → Bool
is_within limit (Symbol value) = nat_lt value limit
is_within limit _ = true

abbrev pub is_no_padding : Character → Bool
is_no_padding Padding = false
is_no_padding _ = true

-- no byte means padding; or this one does, and eight bits are not whole symbols
abbrev pub IsRuledPadding : Base → Option ℕ → Type 0
IsRuledPadding base None = list_all is_no_padding base.meanings ≡ true
IsRuledPadding base (Some character) =
    (character < 128) × (meaning base character ≡ Padding) × (not (8 % base.width == 0) ≡ true)

-- if eight bits are whole symbols there is no padding
pub whole-unpadded : (base : Base) (o : Option ℕ) → IsRuledPadding base o → 8 % base.width ≡ 0
    → o ≡ None
whole-unpadded base None is divides = refl
whole-unpadded base (Some character) is divides = absurd (grind (arith, nat_tests, is.2))

pub record AreLines (base : Base) (lines : Wrapping) : Type 0 where
  pub some : 0 < lines.column
  pub short : lines.column < 256
  pub whole : lines.column % group_symbols base.width ≡ 0
  pub ended : 0 < length lines.separator
  pub ends_short : length lines.separator < 256
  pub ignored : AllByRecursion (λ byte. (byte < 128) × (meaning base byte ≡ Ignored))
      lines.separator

abbrev pub IsRuledWrapping : Base → Option Wrapping → Type 0
IsRuledWrapping base None = Unit {0}
IsRuledWrapping base (Some lines) = AreLines base lines

pub record IsRuled (base : Base) : Type 0 where
  pub is_width : IsWidth base.width
  pub count : length base.symbols ≡ 2 ^ base.width
  pub checked : (base.checks_trailing_bits || (8 % base.width == 0)) ≡ base.checks_trailing_bits
  pub concatenated : (base.concatenates || is_none base.padding) ≡ base.concatenates
  pub long : length base.meanings ≡ 128
  pub own : (i : ℕ) → i < length base.symbols → (get_or base.symbols i 0 < 128)
      × (meaning base (get_or base.symbols i 0) ≡ Symbol i)
  pub within : list_all (is_within (length base.symbols)) base.meanings ≡ true
  pub padding : IsRuledPadding base base.padding
  pub wrapping : IsRuledWrapping base base.wrapping

-- the number of symbols is a power of two
abbrev sizes : List ℕ
sizes = 1 ∷ 2 ∷ 4 ∷ 8 ∷ 16 ∷ 32 ∷ 64 ∷ []

width_of-some : (count width : ℕ) → width_of count ≡ Some width → 0 < width
    → IsWidth width × (count ≡ 2 ^ width)
width_of-some count width h some =
    let at = position-Some (λ n. n == count) sizes width 0 h in
    let is : IsWidth width = record { some = some; few = omega (arith, at.0) } in (
      is,
      by_width (λ w. (get_or sizes w 0 == count) ≡ true → count ≡ 2 ^ w)
          (λ e. sym (eqb-true 2 count e)) (λ e. sym (eqb-true 4 count e))
          (λ e. sym (eqb-true 8 count e))
          (λ e. sym (eqb-true 16 count e)) (λ e. sym (eqb-true 32 count e))
          (λ e. sym (eqb-true 64 count e)) width is at.1,
    )

pub width_of-power : (width : ℕ) → IsWidth width → width_of (2 ^ width) ≡ Some width
width_of-power = by_width (λ w. width_of (2 ^ w) ≡ Some w) refl refl refl refl refl refl

-- the base of these fields, if the bytes mean this
abbrev pub base_from : ℕ → Fields → List Character → Base
base_from width fields meanings = record {
  width = width;
  order = fields.order;
  symbols = fields.symbols;
  checks_trailing_bits = fields.checks_trailing_bits || (8 % width == 0);
  concatenates = fields.concatenates || is_none fields.padding;
  padding = fields.padding;
  meanings = meanings;
  wrapping =
      cond (wraps fields.column fields.separator)
      (Some (record { column = fields.column; separator = fields.separator })) None;
}

-- the judgements before the translations
abbrev pub first_judgements : ℕ → Fields → List Judgement
first_judgements width fields =
    symbol_judgements 0 fields.symbols ++ padding_judgements width fields.padding
    ++ ignored_judgements fields.ignored
    ++ wrapping_judgements width fields.column fields.separator

-- the judgements, list by list
abbrev AllParts : (Judgement → Type 0) → ℕ → Fields → Type 0
AllParts P width fields =
    AllByRecursion P (symbol_judgements 0 fields.symbols)
    × AllByRecursion P (padding_judgements width fields.padding)
    × AllByRecursion P (ignored_judgements fields.ignored)
    × AllByRecursion P (wrapping_judgements width fields.column fields.separator)

module _ (P : Judgement → Type 0) (width : ℕ) (fields : Fields) where
  abbrev one : List Judgement
  one = symbol_judgements 0 fields.symbols

  abbrev two : List Judgement
  two = one ++ padding_judgements width fields.padding

  abbrev three : List Judgement
  three = two ++ ignored_judgements fields.ignored

  abbrev lines : List Judgement
  lines = wrapping_judgements width fields.column fields.separator

  pub parts_of : AllByRecursion P (first_judgements width fields) → AllParts P width fields
  parts_of all =
      let fourth = all_parts P three lines all in
      let third = all_parts P two (ignored_judgements fields.ignored) fourth.0 in
      let second = all_parts P one (padding_judgements width fields.padding) third.0 in
      (second.0, second.1, third.1, fourth.1)

  pub from_parts : AllParts P width fields → AllByRecursion P (first_judgements width fields)
  from_parts parts =
      all_joined P three lines
      (all_joined P two (ignored_judgements fields.ignored)
      (all_joined P one (padding_judgements width fields.padding) parts.0 parts.1) parts.2) parts.3

-- what the judgements bring in
ignored-bring : (test : Character → Bool) (bytes : List ℕ) → test Ignored ≡ true
    → AllByRecursion (Brings test) (ignored_judgements bytes)
ignored-bring test [] h = tt
ignored-bring test (byte ∷ bytes) h = (h, ignored-bring test bytes h)

wrapping-bring : (test : Character → Bool) (width column : ℕ) (separator : List ℕ)
    → test Ignored ≡ true
    → AllByRecursion (Brings test) (wrapping_judgements width column separator)
wrapping-bring test width column separator h = by_test (wraps column separator) where
  by_test : (b : Bool) → AllByRecursion (Brings test) (cond b
      (Require (nat_lt column 256 && nat_lt (length separator) 256) WrapLength
      ∷ Require (column % group_symbols width == 0) (WrapWidth (group_symbols width))
      ∷ ignored_judgements separator) [])
  by_test true = (tt, (tt, ignored-bring test separator h))
  by_test false = tt

pairs-bring : (test : Character → Bool) (pairs : List (ℕ × ℕ))
    → AllByRecursion (Brings test) (map (λ (p : ℕ × ℕ). Translate p.0 p.1) pairs)
pairs-bring test [] = tt
pairs-bring test (pair ∷ pairs) = (tt, pairs-bring test pairs)

judgements-bring : (test : Character → Bool) (width : ℕ) (fields : Fields)
    → ((v : ℕ) → v < length fields.symbols → test (Symbol v) ≡ true) → test Ignored ≡ true
    → AllByRecursion (Brings test) (padding_judgements width fields.padding)
    → AllByRecursion (Brings test) (judgements width fields)
judgements-bring test width fields symbols ignored padding =
    all_joined (Brings test) (first_judgements width fields)
    (translation_judgements fields.from fields.to)
    (from_parts (Brings test) width fields (
      symbols-bring test 0 fields.symbols (λ v h. symbols v (omega (arith, h))),
      padding,
      ignored-bring test fields.ignored ignored,
      wrapping-bring test width fields.column fields.separator ignored,
    ))
    (tt, pairs-bring test (zip fields.from fields.to))

padding-within : (width limit : ℕ) (padding : Option ℕ)
    → AllByRecursion (Brings (is_within limit)) (padding_judgements width padding)
padding-within width limit None = tt
padding-within width limit (Some character) = (tt, (tt, (refl, tt)))

padding-some : (width : ℕ) (padding : Option ℕ)
    → AllByRecursion (Brings is_some_meaning) (padding_judgements width padding)
padding-some width None = tt
padding-some width (Some character) = (tt, (tt, (refl, tt)))

-- the pairs of a specification say what the table says
pub judged-by-table : (width : ℕ) (fields : Fields)
    → meanings_of (judgements width fields)
    ≡ meanings_after (Ok no_meanings) (judgements width fields)
judged-by-table width fields =
    meanings-by-table (judgements width fields)
    (judgements-bring is_some_meaning width fields (λ v h. refl) refl
    (padding-some width fields.padding))

pub base_of-width : (fields : Fields) (width : ℕ) → width_of (length fields.symbols) ≡ Some width
    → 0 < width
    → base_of fields ≡ base_with width fields (meanings_of (judgements width fields))
base_of-width fields zero h some = absurd (omega (arith, some))
base_of-width fields (suc n) h some = ap (λ o. base_by o fields) h

-- What a base is built from.
record HasBuilt (fields : Fields) (base : Base) : Type 0 where
  pub width : ℕ
  pub meanings : List Character
  pub width_is : width_of (length fields.symbols) ≡ Some width
  pub some : 0 < width
  pub judged : meanings_after (Ok no_meanings) (judgements width fields) ≡ Ok meanings
  pub is_base : base ≡ base_from width fields meanings

with-ok : (width : ℕ) (fields : Fields) (r : Result (List Character) Refusal) (base : Base)
    → base_with width fields r ≡ Ok base
    → (meanings : List Character) × (r ≡ Ok meanings) × (base ≡ base_from width fields meanings)
with-ok width fields (Ok meanings) base h =
    let same : base_from width fields meanings ≡ base = cc in (meanings, refl, sym same)
with-ok width fields (Err refusal) base h = cc

by-ok : (o : Option ℕ) (fields : Fields) (base : Base) → width_of (length fields.symbols) ≡ o
    → base_by o fields ≡ Ok base → HasBuilt fields base
by-ok (Some (suc n)) fields base w h =
    let is = with-ok (suc n) fields (meanings_of (judgements (suc n) fields)) base h in
    record {
      width = suc n;
      meanings = is.0;
      width_is = w;
      some = omega arith;
      judged = sym (judged-by-table (suc n) fields) ∙ is.1;
      is_base = is.2;
    }
by-ok _ fields base w h = cc

pub ignored-held : (meanings : List Character) (bytes : List ℕ)
    → AllByRecursion (IsHeld meanings) (ignored_judgements bytes)
    → AllByRecursion (λ byte. (byte < 128) × (get_or meanings byte Invalid ≡ Ignored)) bytes
ignored-held meanings [] held = tt
ignored-held meanings (byte ∷ bytes) held =
    ((held.0.0, held.0.1 (λ e. cc)), ignored-held meanings bytes held.1)

not_zero : (n : ℕ) → not (n == 0) ≡ true → 0 < n
not_zero n h = grind (arith, nat_tests)

module _ (width : ℕ) (fields : Fields) (meanings : List Character)
    (width_is : width_of (length fields.symbols) ≡ Some width) (some : 0 < width)
    (judged : meanings_after (Ok no_meanings) (judgements width fields) ≡ Ok meanings) where
  steps : AreSteps no_meanings (judgements width fields) meanings
  steps = meanings_after-ok (judgements width fields) no_meanings meanings judged

  held : AllParts (IsHeld meanings) width fields
  held =
      parts_of (IsHeld meanings) width fields
      (all_parts (IsHeld meanings) (first_judgements width fields)
      (translation_judgements fields.from fields.to) ((steps).held refl)).0

  passes : (test : Character → Bool) → test Invalid ≡ true
      → ((v : ℕ) → v < length fields.symbols → test (Symbol v) ≡ true) → test Ignored ≡ true
      → AllByRecursion (Brings test) (padding_judgements width fields.padding)
      → list_all test no_meanings ≡ true → list_all test meanings ≡ true
  passes test none symbols ignored padding first =
      meanings_after-pass test (judgements width fields) no_meanings meanings none
      (judgements-bring test width fields symbols ignored padding) first judged

  ruled-padding : (padding : Option ℕ) → fields.padding ≡ padding
      → AllByRecursion (IsHeld meanings) (padding_judgements width padding)
      → IsRuledPadding (base_from width fields meanings) padding
  ruled-padding None is all =
      passes is_no_padding refl (λ v h. refl) refl
      (subst (λ o. AllByRecursion (Brings is_no_padding) (padding_judgements width o)) (sym is) tt)
      refl
  ruled-padding (Some character) is all = (all.1.1.0.0, all.1.1.0.1 (λ e. cc), all.0)

  ruled-wrapping : (b : Bool) → wraps fields.column fields.separator ≡ b
      → AllByRecursion (IsHeld meanings) (cond b
      (Require (nat_lt fields.column 256 && nat_lt (length fields.separator) 256) WrapLength
      ∷ Require (fields.column % group_symbols width == 0) (WrapWidth (group_symbols width))
      ∷ ignored_judgements fields.separator) [])
      → IsRuledWrapping (base_from width fields meanings)
      (cond b (Some (record { column = fields.column; separator = fields.separator })) None)
  ruled-wrapping true is all =
      let both = and_parts (not (fields.column == 0)) (not (length fields.separator == 0)) is in
      let short = and_parts (nat_lt fields.column 256) (nat_lt (length fields.separator) 256)
      all.0 in
      record {
        some = not_zero fields.column both.0;
        short = ltb-true fields.column 256 short.0;
        whole = eqb-true (fields.column % group_symbols width) 0 all.1.0;
        ended = not_zero (length fields.separator) both.1;
        ends_short = ltb-true (length fields.separator) 256 short.1;
        ignored = ignored-held meanings fields.separator all.1.1;
      }
  ruled-wrapping false is all = tt

  or_again : (a b : Bool) → ((a || b) || b) ≡ (a || b)
  or_again false true = refl
  or_again _ _ = refl

  pub IsRuled-from : IsRuled (base_from width fields meanings)
  IsRuled-from =
      let size = width_of-some (length fields.symbols) width width_is some in
      record {
        is_width = size.0;
        count = size.1;
        checked = or_again fields.checks_trailing_bits (8 % width == 0);
        concatenated = or_again fields.concatenates (is_none fields.padding);
        long = (steps).long;
        own = λ i h.
            let is = symbols-held meanings 0 fields.symbols (held).0 i h in
            (is.0, is.1 ∙ ap (λ v. Symbol v) (omega arith));
        within =
            passes (is_within (length fields.symbols)) refl
            (λ v h. lt-ltb v (length fields.symbols) h) refl
            (padding-within width (length fields.symbols) fields.padding) refl;
        padding = ruled-padding fields.padding refl (held).1;
        wrapping = ruled-wrapping (wraps fields.column fields.separator) refl (held).3;
      }

-- each base that is built keeps the rules
pub IsRuled-built : (fields : Fields) (base : Base) → base_of fields ≡ Ok base → IsRuled base
IsRuled-built fields base h =
    let is = by-ok (width_of (length fields.symbols)) fields base refl h in
    subst IsRuled (sym is.is_base)
    (IsRuled-from is.width fields is.meanings is.width_is is.some is.judged)
