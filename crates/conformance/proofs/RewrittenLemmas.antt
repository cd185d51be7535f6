-- Computed facts about three of the encodings, and texts with the same meaning.
use Rattle.std.proofs.Common.{◌≡◌, ◌↔◌, ℕ, zero, suc, ◌+◌, ◌<◌, ◌≤◌, ◌==◌, Bool, true, false, ◌||◌, not, IsTrue, List, [], ◌∷◌, ◌++◌, length, map, is_some, take, drop, get_or, set, unwrap_or, Result, Ok, Err, refl, sym, ap, ◌∙◌, subst, arith, zero-add, ⊎_elim}
use Rattle.std.proofs.lemmas.List.{append-nil, drop_all, get_or-map, get_or_past, length-map, map_more, take_all}
use Rattle.std.proofs.lemmas.Bool.{cases_lt}
use Rattle.std.proofs.lemmas.Bool.Decides.{nat_tests}
use Rattle.std.proofs.lemmas.List.Elements.{All-get_or}
use Rattle.std.proofs.lemmas.List.FromFn.{get_or-range_with_len, length-range_with_len}
use Rattle.std.proofs.lemmas.List.Sums.{AllPass-from_list_all}
use Rattle.std.specs.List.{list_all, range_with_len}
use Rattle.data_encoding.specs.declared.encoding.Character.TheVariants.{Invalid}
use Rattle.data_encoding.specs.declared.specification.meanings.Refusal.{Refusal}
use Rattle.data_encoding.specs.Layout.{own_character}
use Rattle.data_encoding.specs.Base.{Base, is_invalid, meaning}
use Rattle.data_encoding.specs.Fields.{Fields, IsSpecified, base_of}
use Rattle.data_encoding.specs.Grammar.{Means}
use Rattle.data_encoding.specs.Laws.{OneMeaning}
use Rattle.data_encoding.specs.Predefined.{base32_dnssec_fields, base64_fields, base64url_fields}
use Rattle.data_encoding.specs.Rules.{EighteenRules}
use Rattle.data_encoding.specs.SameMeaning.{DifferInSymbolsAlone, OwnForm, OwnForms, Translated, exchanged, has_one_own_form}
use Rattle.conformance.proofs.BuiltLemmas.{same_built}

-- the value of a function for the base of some fields is computed
abbrev pub value_or : {X : Type 0} → (Base → X) → X → Result Base Refusal → X
value_or f otherwise (Ok base) = f base
value_or f otherwise (Err refusal) = otherwise

pub value-of : {X : Type 0} (f : Base → X) (otherwise : X) (fields : Fields) (base : Base)
    → base_of fields ≡ Ok base → f base ≡ value_or f otherwise (base_of fields)
value-of f otherwise fields base is = sym (ap (value_or f otherwise) is)

pub specified_by : (fields : Fields) (base : Base) → base_of fields ≡ Ok base → IsSpecified base
specified_by fields base is = record { fields = fields; is_built = is }

-- a test that is computed for each byte below 128
pub each_byte : (test : ℕ → Bool) → list_all test (range_with_len 0 128) ≡ true → (byte : ℕ)
    → byte < 128 → test byte ≡ true
each_byte test all byte low =
    let each = All-get_or (λ n. test n ≡ true) (range_with_len 0 128) byte 0
    (omega (arith, low, length-range_with_len 0 128))
    (AllPass-from_list_all test (range_with_len 0 128) all) in
    sym (ap test (get_or-range_with_len 0 128 byte 0 low ∙ zero-add byte)) ∙ each

-- Two names of DNSSEC.
module _ (base : Base) (is : base_of base32_dnssec_fields ≡ Ok base)
    (one_meaning : OneMeaning) (same : Translated) (own : OwnForm) (own_forms : OwnForms) where
  one_own_form : has_one_own_form base ≡ true
  one_own_form = value-of has_one_own_form false base32_dnssec_fields base is

  -- they mean the same data if and only if their bytes mean the same
  same_data : (one other bytes others : List ℕ) → Means base one bytes
      → Means base other others
      → (map (meaning base) one ≡ map (meaning base) other) ↔ (bytes ≡ others)
  same_data one other bytes others means more =
      let specified = specified_by base32_dnssec_fields base is in (
        (λ alike.
            one_meaning base specified other bytes others
            ((same base specified one other alike).1 bytes means) more),
        (λ equal.
            own base specified one
            ∙ ap (map (meaning base))
            ((own_forms base specified one_own_form one other bytes others means more).0 equal)
            ∙ sym (own base specified other)),
      )

  module _ (encoding : Base) (is_built : base_of base32_dnssec_fields ≡ Ok encoding)
      (one other : List ℕ) where
    -- the result decides if they mean the same data
    pub same_name : (result : Bool)
        → IsTrue result ↔ (map (meaning encoding) one ≡ map (meaning encoding) other)
        → (bytes others : List ℕ) → Means base one bytes → Means base other others
        → IsTrue result ↔ (bytes ≡ others)
    same_name result decides bytes others means more =
        let equal = same_built (base_of base32_dnssec_fields) encoding base is_built is in
        let decided = subst
        (λ b. IsTrue result ↔ (map (meaning b) one ≡ map (meaning b) other)) equal decides in
        let data_same = same_data one other bytes others means more in
        ((λ h. data_same.0 (decided.0 h)), (λ h. decided.1 (data_same.1 h)))

-- Bytes of two lists that mean the same, up to an index.
module _ (base : Base) (one other : List ℕ) where
  pub lengths_alike : map (meaning base) one ≡ map (meaning base) other
      → length one ≡ length other
  lengths_alike same =
      sym (length-map one (meaning base)) ∙ ap length same ∙ length-map other (meaning base)

  pub one_alike : (index : ℕ) → index < length one → length one ≡ length other
      → map (meaning base) one ≡ map (meaning base) other
      → meaning base (get_or one index 0) ≡ meaning base (get_or other index 0)
  one_alike index inside len same =
      sym (get_or-map (meaning base) one index 0 Invalid inside)
      ∙ ap (λ l. get_or l index Invalid) same
      ∙ get_or-map (meaning base) other index 0 Invalid (omega (arith, inside, len))

  pub more_alike : (index : ℕ) → index < length one → length one ≡ length other
      → map (meaning base) (take index one) ≡ map (meaning base) (take index other)
      → meaning base (get_or one index 0) ≡ meaning base (get_or other index 0)
      → map (meaning base) (take (index + 1) one) ≡ map (meaning base) (take (index + 1) other)
  more_alike index inside len same here =
      map_more (meaning base) one index 0 inside ∙ (λ i. same i ++ here i ∷ [])
      ∙ sym (map_more (meaning base) other index 0 (omega (arith, inside, len)))

  pub all_alike : (index : ℕ) → length one ≤ index → length one ≡ length other
      → map (meaning base) (take index one) ≡ map (meaning base) (take index other)
      → map (meaning base) one ≡ map (meaning base) other
  all_alike index past len same =
      ap (map (meaning base)) (sym (take_all index one past)) ∙ same
      ∙ ap (map (meaning base)) (take_all index other (omega (arith, past, len)))

-- Base64 and base64url.
module _ (base url : Base) (is : base_of base64_fields ≡ Ok base)
    (also : base_of base64url_fields ≡ Ok url) where
  -- by the rules of both
  pub differ-in-symbols : EighteenRules → DifferInSymbolsAlone base url
  differ-in-symbols rules =
      let one = rules.base64 base is in
      let other = rules.base64url url also in
      record {
        in_symbols = record {
          width = one.width ∙ sym other.width;
          order = one.order ∙ sym other.order;
          padded = ap is_some (one.padding ∙ sym other.padding);
          wrapping = one.wrapping ∙ sym other.wrapping;
        };
        checks = one.checks ∙ sym other.checks;
        concatenates = one.concatenates ∙ sym other.concatenates;
        ignored = one.ignored ∙ sym other.ignored;
      }

  -- `true` if a byte is one of the two that differ, or the same in both
  abbrev is_kept : Base → Base → ℕ → Bool
  is_kept b u byte = byte == 43 || byte == 47 || exchanged b u byte == byte

  abbrev are_kept : Base → Base → Bool
  are_kept b u = list_all (is_kept b u) (range_with_len 0 128)

  are_kept-computed : are_kept base url ≡ true
  are_kept-computed =
      value-of (λ b. are_kept b url) false base64_fields base is
      ∙ value-of (λ u. value_or (λ b. are_kept b u) false (base_of base64_fields)) false
      base64url_fields url also

  meanings-length : length base.meanings ≡ 128
  meanings-length = value-of (λ b. length b.meanings) 0 base64_fields base is

  url-meanings-length : length url.meanings ≡ 128
  url-meanings-length = value-of (λ b. length b.meanings) 0 base64url_fields url also

  kept-is-same : (byte : ℕ) → (byte ≡ 43 → ⊥) → (byte ≡ 47 → ⊥) → is_kept base url byte ≡ true
      → byte ≡ exchanged base url byte
  kept-is-same byte plus slash h = grind (arith, nat_tests)

  pub other-byte-same : (byte : ℕ) → (byte ≡ 43 → ⊥) → (byte ≡ 47 → ⊥)
      → byte ≡ exchanged base url byte
  other-byte-same byte plus slash =
      ⊎_elim {C = byte ≡ exchanged base url byte}
      (λ (low : byte < 128).
      kept-is-same byte plus slash (each_byte (is_kept base url) are_kept-computed byte low))
      (λ (high : 128 ≤ byte).
      let none = get_or_past base.meanings byte Invalid (omega (arith, high, meanings-length)) in
      sym (ap (λ m. unwrap_or (own_character url m) byte) none))
      (cases_lt byte 128)

  -- `true` if a byte is only in base64url, means something in base64, or is invalid in base64url
  abbrev stays_invalid : Base → Base → ℕ → Bool
  stays_invalid b u byte =
      byte == 45 || byte == 95 || not (is_invalid (meaning b byte)) || is_invalid (meaning u byte)

  abbrev stay_invalid : Base → Base → Bool
  stay_invalid b u = list_all (stays_invalid b u) (range_with_len 0 128)

  stay_invalid-computed : stay_invalid base url ≡ true
  stay_invalid-computed =
      value-of (λ b. stay_invalid b url) false base64_fields base is
      ∙ value-of (λ u. value_or (λ b. stay_invalid b u) false (base_of base64_fields)) false
      base64url_fields url also

  -- any other byte that is invalid in base64 is invalid in base64url
  pub invalid-in-both : (byte : ℕ) → (byte ≡ 45 → ⊥) × (byte ≡ 95 → ⊥)
      → is_invalid (meaning base byte) ≡ true → is_invalid (meaning url byte) ≡ true
  invalid-in-both byte apart invalid =
      ⊎_elim {C = is_invalid (meaning url byte) ≡ true}
      (λ (low : byte < 128).
      let here = each_byte (stays_invalid base url) stay_invalid-computed byte low in
      grind (arith, nat_tests, apart.0, apart.1))
      (λ (high : 128 ≤ byte).
      ap is_invalid
      (get_or_past url.meanings byte Invalid (omega (arith, high, url-meanings-length))))
      (cases_lt byte 128)

-- a list with its first `index` members exchanged
module _ (f : ℕ → ℕ) where
  abbrev pub exchanged_to : ℕ → List ℕ → List ℕ
  exchanged_to index xs = map f (take index xs) ++ drop index xs

  one_more : (index : ℕ) (xs : List ℕ) → index < length xs
      → set (exchanged_to index xs) index (f (get_or (exchanged_to index xs) index 0))
      ≡ exchanged_to (suc index) xs
  one_more index [] h = absurd (omega (arith, h))
  one_more zero (x ∷ xs) h = refl
  one_more (suc index) (x ∷ xs) h = ap (λ l. f x ∷ l) (one_more index xs (omega (arith, h)))

  pub exchanged-more : (now xs : List ℕ) (index byte : ℕ) → now ≡ exchanged_to index xs
      → index < length xs → byte ≡ f (get_or now index 0)
      → set now index byte ≡ exchanged_to (index + 1) xs
  exchanged-more now xs index byte same inside is =
      let next : suc index ≡ index + 1 = omega arith in
      (λ i. set (same i) index ((is ∙ ap (λ l. f (get_or l index 0)) same) i))
      ∙ one_more index xs inside
      ∙ ap (λ n. exchanged_to n xs) next

  pub exchanged-all : (index : ℕ) (xs : List ℕ) → length xs ≤ index
      → exchanged_to index xs ≡ map f xs
  exchanged-all index xs past =
      (λ i. map f (take_all index xs past i) ++ drop_all index xs past i) ∙ append-nil (map f xs)
