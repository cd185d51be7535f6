-- Texts that were received, in two encodings that differ in their symbols only.
use Rattle.std.proofs.Common.{◌≡◌, ℕ, ◌^◌, ◌<◌, Bool, true, false, not, cond, List, [], ◌∷◌, map, replicate, Option, Some, None, is_some, unwrap_or, refl, sym, ap, ◌∙◌, subst, arith}
use Rattle.std.proofs.lemmas.List.Elements.{All-from_get_or, recursion_from_All}
use Rattle.std.proofs.lemmas.List.Folds.{list_any_none}
use Rattle.std.specs.List.{AllByRecursion, filter, list_all}
use Rattle.std.specs.Prelude.{flat_map}
use Rattle.data_encoding_meaning.specs.declared.encoding.Character.{Character}
use Rattle.data_encoding_meaning.specs.declared.encoding.Character.TheVariants.{Symbol, Padding, Ignored, Invalid}
use Rattle.data_encoding_meaning.specs.text.Base.{Base, IsWidth, meaning, is_ignored, is_invalid, ignores_some, group_symbols}
use Rattle.data_encoding_meaning.specs.text.Grammar.{GroupsMean, Means, kept, groups, meanings_in}
use Rattle.data_encoding_meaning.specs.decoding.Fault.{fault_of}
use Rattle.data_encoding_meaning.specs.laws.SameMeaning.{DifferInSymbols, DifferInSymbolsAlone, IsInvalidInBoth, exchanged, exchanged_text}
use Rattle.data_encoding_meaning.specs.specification.Layout.{ignored_bytes, own_character}
use Rattle.data_encoding_meaning.proofs.canonicity.OwnTextLemmas.{ascii, value_below}
use Rattle.data_encoding_meaning.proofs.digits.WidthLemmas.{group_symbols-pos}
use Rattle.data_encoding_meaning.proofs.grammar.PositionLemmas.{never_ignored, runs-meanings}
use Rattle.data_encoding_meaning.proofs.grammar.SameBytesLemmas.{bytes-kept_in}
use Rattle.data_encoding_meaning.proofs.grammar.SameMeaningLemmas.{Means-alike_in, fault_of-alike}
use Rattle.data_encoding_meaning.proofs.judgement.RuleLemmas.{IsRuled, IsRuledPadding, is_no_padding}
use Rattle.data_encoding_meaning.proofs.lists.EachLemmas.{all_in_range, all_joined, all_replicate, all_weaker, at_in_range, passes_at}
use Rattle.data_encoding_meaning.proofs.lists.ListLemmas.{AllFail}
use Rattle.data_encoding_meaning.proofs.lists.RunLemmas.{flat_map-runs}

abbrev ignores : Base → ℕ → Bool
ignores base byte = is_ignored (meaning base byte)

-- a byte that the one ignores the other ignores
ignored-too : (base other : Base) → IsRuled base → ignored_bytes base ≡ ignored_bytes other
    → (byte : ℕ) → ignores base byte ≡ true → ignores other byte ≡ true
ignored-too base other ruled same byte is =
    let low : byte < 128 = ascii base ruled byte (λ invalid. cc) in
    at_in_range (λ k. ignores other k ≡ true) (ignores base) 0 128 byte
    (subst (AllByRecursion (λ k. ignores other k ≡ true)) (sym same)
    (all_in_range (λ k. ignores other k ≡ true) (ignores other) 0 128 (λ k from below h. h)))
    (omega arith) (omega (arith, low)) is

-- so if the one ignores nothing, nor does the other
ignores-none : (base other : Base) → IsRuled other → ignored_bytes other ≡ ignored_bytes base
    → ignores_some base ≡ false → ignores_some other ≡ false
ignores-none base other ruled same none =
    list_any_none is_ignored other.meanings
    (All-from_get_or (λ m. is_ignored m ≡ false) other.meanings Invalid
    (λ byte within. by byte (ignores other byte) refl)) where
      by : (byte : ℕ) (b : Bool) → ignores other byte ≡ b → b ≡ false
      by byte true is =
          sym (ignored-too other base ruled same byte is) ∙ never_ignored base none byte
      by byte false is = refl

-- what a text that means something holds is not invalid
none_invalid : (base : Base) (gs : List (List Character)) (bytes : List ℕ)
    → GroupsMean base gs bytes → AllFail is_invalid (flat_map (λ group. group) gs)
none_invalid base [] bytes none = tt
none_invalid base (group ∷ gs) bytes means =
    let here = means.3 in
    all_joined (λ m. is_invalid m ≡ false) group (flat_map (λ g. g) gs)
    (subst (AllFail is_invalid) (sym here.is_group)
    (all_joined (λ m. is_invalid m ≡ false) here.symbols (replicate here.padding Padding)
    (subst (AllFail is_invalid) (sym here.means.are_symbols) (symbols here.means.values))
    (all_replicate (λ m. is_invalid m ≡ false) here.padding Padding refl)))
    (none_invalid base gs means.1 means.5) where
      symbols : (values : List ℕ) → AllFail is_invalid (map (λ value. Symbol value) values)
      symbols [] = tt
      symbols (value ∷ values) = (refl, symbols values)

-- what is ignored is valid
valid : (m : Character) → is_ignored m ≡ true → is_invalid m ≡ false
valid Ignored h = refl
valid Padding h = cc
valid (Symbol value) h = cc
valid Invalid h = cc

module _ (base : Base) (width : IsWidth base.width) where
  abbrev are_valid : List ℕ → Type 0
  are_valid text = AllByRecursion (λ byte. is_invalid (meaning base byte) ≡ false) text

  kept-valid : (text : List ℕ)
      → AllFail is_invalid (map (meaning base) (filter (λ byte. not (ignores base byte)) text))
      → are_valid text
  kept-valid [] h = tt
  kept-valid (byte ∷ text) h =
      let both = by (ignores base byte) (filter (λ b. not (ignores base b)) text) refl h in
      (both.0, kept-valid text both.1) where
        by : (b : Bool) (rest : List ℕ) → ignores base byte ≡ b
            → AllFail is_invalid (map (meaning base) (cond (not b) (byte ∷ rest) rest))
            → (is_invalid (meaning base byte) ≡ false)
            × AllFail is_invalid (map (meaning base) rest)
        by true rest is h = (valid (meaning base byte) is, h)
        by false rest is h = (h.0, h.1)

  Means-valid : (text bytes : List ℕ) → Means base text bytes → are_valid text
  Means-valid text bytes means =
      let size = group_symbols base.width in
      let some = group_symbols-pos base.width width in
      let ks = kept base text in
      let joined : flat_map (λ group. group) (map (meanings_in base) (groups base text))
      ≡ map (meaning base) (filter (λ byte. not (ignores base byte)) text) =
      ap (flat_map (λ group. group)) (sym (runs-meanings base size ks some))
      ∙ flat_map-runs size (meanings_in base ks) some
      ∙ ap (map (meaning base)) (bytes-kept_in base 0 text) in
      kept-valid text (subst (AllFail is_invalid) joined
      (none_invalid base (map (meanings_in base) (groups base text)) bytes means))

module _ (base other : Base) (ruled : IsRuled base) (ruled_other : IsRuled other)
    (differ : DifferInSymbolsAlone base other) where
  in_symbols : DifferInSymbols base other
  in_symbols = differ.in_symbols

  -- if a byte means padding there is a padding character, and the other has one too
  padding-some : (byte : ℕ) (o : Option ℕ) → base.padding ≡ o → meaning base byte ≡ Padding
      → is_some o ≡ true
  padding-some byte None none is =
      let low : byte < 128 = ascii base ruled byte (λ invalid. cc) in
      let no : list_all is_no_padding base.meanings ≡ true =
      subst (λ o. IsRuledPadding base o) none ruled.padding in
      absurd (cc (
        passes_at is_no_padding base.meanings byte Invalid no (omega (arith, low, ruled.long)),
        is,
      ))
  padding-some byte (Some character) some is = refl

  padding-other : (byte : ℕ) (o : Option ℕ) → other.padding ≡ o → is_some o ≡ true
      → meaning other (unwrap_or o byte) ≡ Padding
  padding-other byte None none some = cc
  padding-other byte (Some character) is some =
      (subst (λ o. IsRuledPadding other o) is ruled_other.padding).1

  -- the exchanged byte means the same
  means_same : (byte : ℕ)
      → (is_invalid (meaning base byte) ≡ true → is_invalid (meaning other byte) ≡ true)
      → meaning base byte ≡ meaning other (exchanged base other byte)
  means_same byte invalid = by (meaning base byte) refl where
    ignored-is : (m : Character) → is_ignored m ≡ true → m ≡ Ignored
    ignored-is Ignored h = refl
    ignored-is (Symbol value) h = cc
    ignored-is Padding h = cc
    ignored-is Invalid h = cc

    invalid-is : (m : Character) → is_invalid m ≡ true → m ≡ Invalid
    invalid-is Invalid h = refl
    invalid-is (Symbol value) h = cc
    invalid-is Padding h = cc
    invalid-is Ignored h = cc

    by : (m : Character) → meaning base byte ≡ m
        → m ≡ meaning other (unwrap_or (own_character other m) byte)
    by (Symbol value) is =
        let below : value < 2 ^ base.width = value_below base ruled byte value is in
        sym (ruled_other.own value
        (omega (arith, below, ruled_other.count, ap (λ w. 2 ^ w) in_symbols.width))).1
    by Padding is =
        sym (padding-other byte other.padding refl
        (sym in_symbols.padded ∙ padding-some byte base.padding refl is))
    by Ignored is =
        sym (ignored-is (meaning other byte)
        (ignored-too base other ruled differ.ignored byte (ap is_ignored is)))
    by Invalid is = sym (invalid-is (meaning other byte) (invalid (ap is_invalid is)))

  exchanged-same : (text : List ℕ)
      → AllByRecursion (λ byte. is_invalid (meaning base byte) ≡ true
      → is_invalid (meaning other byte) ≡ true) text
      → map (meaning base) text ≡ map (meaning other) (exchanged_text base other text)
  exchanged-same [] h = refl
  exchanged-same (byte ∷ text) h =
      (λ i. means_same byte h.0 i ∷ exchanged-same text h.1 i)

  -- the other with the fields that are equal
  moves : record other {
    width = base.width;
    order = base.order;
    checks_trailing_bits = base.checks_trailing_bits;
    concatenates = base.concatenates;
  } ≡ other
  moves = λ i. record other {
    width = in_symbols.width i;
    order = in_symbols.order i;
    checks_trailing_bits = differ.checks i;
    concatenates = differ.concatenates i;
  }

  ignores-same : ignores_some base ≡ ignores_some other
  ignores-same =
      by (ignores_some base) (ignores_some other)
      (ignores-none base other ruled_other (sym differ.ignored))
      (ignores-none other base ruled differ.ignored) where
        by : (b c : Bool) → (b ≡ false → c ≡ false) → (c ≡ false → b ≡ false) → b ≡ c
        by true true h k = refl
        by true false h k = k refl
        by false c h k = sym (h refl)

  module _ (text another : List ℕ)
      (same : map (meaning base) text ≡ map (meaning other) another) where
    pub fault_of-both : fault_of base text ≡ fault_of other another
    fault_of-both =
        fault_of-alike base other in_symbols.padded ruled.is_width text another same ignores-same
        ∙ (λ i. fault_of (moves i) another)

    pub Means-both : (bytes : List ℕ) → Means base text bytes → Means other another bytes
    Means-both bytes means =
        subst (λ b. Means b another bytes) moves
        (Means-alike_in base other in_symbols.padded ruled.is_width text another same bytes means)

  pub Means-exchanged : (text bytes : List ℕ) → Means base text bytes
      → Means other (exchanged_text base other text) bytes
  Means-exchanged text bytes means =
      Means-both text (exchanged_text base other text)
      (exchanged-same text (all_weaker (λ byte. is_invalid (meaning base byte) ≡ false)
      (λ byte. is_invalid (meaning base byte) ≡ true → is_invalid (meaning other byte) ≡ true)
      (λ byte h k. cc) text (Means-valid base ruled.is_width text bytes means)))
      bytes means

  pub fault_of-exchanged : (text : List ℕ) → IsInvalidInBoth base other text
      → fault_of base text ≡ fault_of other (exchanged_text base other text)
  fault_of-exchanged text all =
      fault_of-both text (exchanged_text base other text)
      (exchanged-same text (recursion_from_All (λ byte. is_invalid (meaning base byte) ≡ true
      → is_invalid (meaning other byte) ≡ true) text all))

-- the other way
pub reversed : (base other : Base) → DifferInSymbolsAlone base other
    → DifferInSymbolsAlone other base
reversed base other differ = record {
  in_symbols = record {
    width = sym differ.in_symbols.width;
    order = sym differ.in_symbols.order;
    padded = sym differ.in_symbols.padded;
    wrapping = sym differ.in_symbols.wrapping;
  };
  checks = sym differ.checks;
  concatenates = sym differ.concatenates;
  ignored = sym differ.ignored;
}
