-- Worked rows of what texts mean.
use Rattle.std.proofs.Common.{◌≡◌, ℕ, ◌<◌, false, List, [], ◌∷◌, ◌++◌, length, codes, Some, None, Result, Ok, Err, refl, ap, lit<, arith, lit≤, ◌≤◌, sym, inl, inr, subst, ◌∙◌, ⊎_elim, ◌+◌, zero, suc, map}
use Rattle.std.proofs.lemmas.Bool.{false≢true}
use Rattle.std.proofs.lemmas.List.Elements.{All-from_recursion}
use Rattle.data_encoding_meaning.specs.declared.encoding.Character.TheVariants.{Symbol as SymbolCharacter}
use Rattle.data_encoding_meaning.specs.declared.encoding.BitOrder.TheVariants.{LeastSignificantFirst, MostSignificantFirst}
use Rattle.data_encoding_meaning.specs.declared.error.DecodeKind.TheVariants.{Length as LengthFault, Symbol}
use Rattle.data_encoding_meaning.specs.declared.refusal.Refusal.{Refusal}
use Rattle.data_encoding_meaning.specs.specification.Fields.{Fields, base_of}
use Rattle.data_encoding_meaning.specs.text.Base.{Base, is_padding, IsWidth, meaning}
use Rattle.data_encoding_meaning.specs.decoding.Fault.{fault_of, sound_bytes}
use Rattle.data_encoding_meaning.specs.text.Grammar.{Means, positioned_from, groups, PlainMeans, GroupMeans, GroupsMean, meanings_in}
use Rattle.data_encoding_meaning.specs.specification.Predefined.{unpadded_fields, translated_fields, hexlower_fields, hexlower_permissive_fields, base64_fields, base64_nopad_fields, base64_mime_fields, base64_mime_permissive_fields}
use Rattle.data_encoding_meaning.specs.decoding.Pieces.{HasRead, HasDecoded, IsOfWholeGroup}
use Rattle.data_encoding_meaning.specs.laws.Laws.{MayBeFollowed, Resumes}
use Rattle.std.proofs.lemmas.List.Kept.{AllPairs-from_increasing}
use Rattle.data_encoding_meaning.specs.laws.Canonical.{IsCanonical, AreTwoTexts, last_bit, trailing_text, text_ending_in, IgnoredIsSecond, TrailingIsSecond, ConcatenatedIsSecond, SymbolIsSecond, PaddingIsSecond}
use Rattle.data_encoding_meaning.specs.laws.Order.{IsBefore, KeepsOrder, IsOrdered, BreaksOrder}
use Rattle.data_encoding_meaning.proofs.canonicity.OneTextLemmas.{Means-text_of_only}
use Rattle.data_encoding_meaning.proofs.decoding.ResumeLemmas.{resumed}
use Rattle.data_encoding_meaning.proofs.grammar.MeaningLemmas.{Means-no_fault, faulty-Means}
use Rattle.data_encoding_meaning.proofs.grammar.UnpaddedGrammarLemmas.{unpadded-Means}
use Rattle.data_encoding_meaning.proofs.order.OrderPairLemmas.{IsBroken-ruled}
use Rattle.data_encoding_meaning.proofs.order.TextOrderLemmas.{KeepsOrder-ordered}
use Rattle.data_encoding_meaning.proofs.judgement.RuleLemmas.{IsRuled-built}
use Rattle.data_encoding_meaning.proofs.canonicity.ConcatenatedTextLemmas.{concatenated-second}
use Rattle.data_encoding_meaning.proofs.canonicity.IgnoredTextLemmas.{ignored-second}
use Rattle.data_encoding_meaning.proofs.canonicity.TrailingTextLemmas.{trailing-second}
use Rattle.data_encoding_meaning.proofs.canonicity.TranslatedTextLemmas.{padding-second, symbol-second}
use Rattle.std.specs.Prelude.{slice_index_or, slice_index}
use Rattle.data_encoding_meaning.proofs.vectors.Examples.{built, by, by_base, Has, Holds, unchecked, single_fields}

-- symbols, a group with padding, and the next one
plain_symbols :
    Has base64_fields (λ base. PlainMeans base (map (meaning base) (codes "AA")) (0 ∷ []))
plain_symbols = record {
  values = 0 ∷ 0 ∷ [];
  rest = 0 ∷ 0 ∷ 0 ∷ 0 ∷ [];
  are_symbols = refl;
  same_bits = refl;
  rest_is_short = lit< tt;
  rest_is_zero = λ h. refl;
  are_bytes = All-from_recursion (λ byte. byte < 256) (0 ∷ []) (lit< tt, tt);
}

padded_group :
    Has base64_fields (λ base. GroupMeans base (map (meaning base) (codes "AA==")) (0 ∷ []))
padded_group = record {
  symbols = SymbolCharacter 0 ∷ SymbolCharacter 0 ∷ [];
  padding = 2;
  is_group = refl;
  is_whole = λ h. refl;
  is_plain = λ h. absurd (false≢true (sym h));
  is_begun = lit< tt;
  means = plain_symbols;
}

next_group :
    Has base64_fields (λ base. GroupMeans base (map (meaning base) (codes "AAA=")) (0 ∷ 0 ∷ []))
next_group = record {
  symbols = SymbolCharacter 0 ∷ SymbolCharacter 0 ∷ SymbolCharacter 0 ∷ [];
  padding = 1;
  is_group = refl;
  is_whole = λ h. refl;
  is_plain = λ h. absurd (false≢true (sym h));
  is_begun = lit< tt;
  means = record {
    values = 0 ∷ 0 ∷ 0 ∷ [];
    rest = 0 ∷ 0 ∷ [];
    are_symbols = refl;
    same_bits = refl;
    rest_is_short = lit< tt;
    rest_is_zero = λ h. refl;
    are_bytes =
        All-from_recursion (λ byte. byte < 256) (0 ∷ 0 ∷ []) (lit< tt, (lit< tt, tt));
  };
}

groups_mean :
    Has base64_fields (λ base.
    GroupsMean base (map (meanings_in base) (groups base (codes "AA==AAA="))) (0 ∷ 0 ∷ 0 ∷ []))
groups_mean = (
  0 ∷ [],
  0 ∷ 0 ∷ [],
  refl,
  padded_group,
  λ h. absurd (false≢true h),
  (0 ∷ 0 ∷ [], [], refl, next_group, λ h. refl, refl),
)

-- padded texts may be joined
joined_means :
    Has base64_fields (λ base.
    Means base (codes "AA==AAA=") (0 ∷ 0 ∷ 0 ∷ []))
joined_means = groups_mean

abbrev four_bits : IsWidth 4
four_bits = record { some = lit< tt; few = lit≤ tt }

-- the symbols of `48656c6c6f`, one after another
hello_symbols :
    Has hexlower_fields
    (λ base. PlainMeans base (map (meaning base) (codes "48656c6c6f")) (codes "Hello"))
hello_symbols = record {
  values = 4 ∷ 8 ∷ 6 ∷ 5 ∷ 6 ∷ 12 ∷ 6 ∷ 12 ∷ 6 ∷ 15 ∷ [];
  rest = [];
  are_symbols = refl;
  same_bits = refl;
  rest_is_short = lit< tt;
  rest_is_zero = λ h. refl;
  are_bytes = All-from_recursion (λ byte. byte < 256) (codes "Hello")
      (lit< tt, (lit< tt, (lit< tt, (lit< tt, (lit< tt, tt)))));
}

-- hexadecimal `48656c6c6f` means `Hello`, and `4G` means nothing
hello_means : Has hexlower_fields (λ base. Means base (codes "48656c6c6f") (codes "Hello"))
hello_means =
    (unpadded-Means (built hexlower_fields) four_bits refl (codes "48656c6c6f") (codes "Hello")).1
    hello_symbols

abbrev six_bits : IsWidth 6
six_bits = record { some = lit< tt; few = lit≤ tt }

means_nothing :
    Has hexlower_fields (λ base. (bytes : List ℕ) → Means base (codes "4G") bytes → ⊥)
means_nothing = λ bytes means.
    faulty-Means (built hexlower_fields) four_bits (codes "4G") bytes means
    (record { position = 1; kind = Symbol }) refl

-- the text means what its groups have, if it has no fault
means_sound : (base : Base) → IsWidth base.width → (text found : List ℕ)
    → fault_of base text ≡ None → sound_bytes base text ≡ found → Means base text found
means_sound base width text found sound is =
    subst (λ those. Means base text those) is (Means-no_fault base width text sound)

differ_at : (index : ℕ) (one other : List ℕ)
    → slice_index_or one index 0 < slice_index_or other index 0 → one ≡ other → ⊥
differ_at index one other less same =
    let e = ap (λ text. slice_index_or text index 0) same in omega (arith, less, e)

two_texts : (fields : Fields) (made : Result Base Refusal) → base_of fields ≡ made → (index : ℕ)
    (one other found : List ℕ) → slice_index_or one index 0 < slice_index_or other index 0
    → length one ≤ 16 → length other ≤ 16
    → by_base (λ base. fault_of base one) made ≡ Some None
    → by_base (λ base. fault_of base other) made ≡ Some None
    → by_base (λ base. sound_bytes base one) made ≡ Some found
    → by_base (λ base. sound_bytes base other) made ≡ Some found
    → Holds (λ base. AreTwoTexts base one other found) made
two_texts fields (Ok base) e index one other found less short few sound none is are =
    let width = (IsRuled-built fields base e).is_width in
    let sound_one : fault_of base one ≡ None = cc in
    let sound_other : fault_of base other ≡ None = cc in
    let one_is : sound_bytes base one ≡ found = cc in
    let other_is : sound_bytes base other ≡ found = cc in record {
      differ = differ_at index one other less;
      one_is_short = short;
      other_is_short = few;
      one_means = means_sound base width one found sound_one one_is;
      other_means = means_sound base width other found sound_other other_is;
    }
two_texts fields (Err refusal) e index one other found less short few sound none is are = cc

-- of each cause a pair: a trailing bit, padding in the middle, an ignored byte, a translated byte
pairs_of_texts :
    Has (unchecked base64_nopad_fields)
    (λ base. AreTwoTexts base (codes "AA") (codes "AB") (0 ∷ []))
    × Has base64_fields
    (λ base. AreTwoTexts base (codes "AA==AA==") (codes "AAA=") (0 ∷ 0 ∷ []))
    × Has base64_mime_fields (λ base. AreTwoTexts base [] (10 ∷ []) [])
    × Has hexlower_permissive_fields
    (λ base. AreTwoTexts base (codes "AA") (codes "aa") (170 ∷ []))
    × Has (translated_fields single_fields (codes "~") (codes "="))
    (λ base. AreTwoTexts base (codes "AA==") (codes "AA=~") (0 ∷ []))
pairs_of_texts = (
  two_texts (unchecked base64_nopad_fields) _ refl 1 _ _ _ (lit< tt) (lit≤ tt) (lit≤ tt) refl refl
      refl refl,
  two_texts base64_fields _ refl 2 _ _ _ (lit< tt) (lit≤ tt) (lit≤ tt) refl refl refl refl,
  two_texts base64_mime_fields _ refl 0 _ _ _ (lit< tt) (lit≤ tt) (lit≤ tt) refl refl refl refl,
  two_texts hexlower_permissive_fields _ refl 0 _ _ _ (lit< tt) (lit≤ tt) (lit≤ tt) refl refl refl
      refl,
  two_texts (translated_fields single_fields (codes "~") (codes "=")) _ refl 3 _ _ _ (lit< tt)
      (lit≤ tt) (lit≤ tt) refl refl refl refl,
)

-- that each possible cause gives such a pair
causes_of_texts :
    Has base64_mime_permissive_fields (λ base.
    IgnoredIsSecond base × TrailingIsSecond base × ConcatenatedIsSecond base)
    × Has hexlower_permissive_fields SymbolIsSecond
    × Has (translated_fields single_fields (codes "~") (codes "=")) PaddingIsSecond
causes_of_texts =
    let lines : Base = built base64_mime_permissive_fields in
    let ruled = IsRuled-built base64_mime_permissive_fields lines refl in
    let letters : Base = built hexlower_permissive_fields in
    let translates = translated_fields single_fields (codes "~") (codes "=") in
    let tilde : Base = built translates in (
      (ignored-second lines ruled, trailing-second lines ruled, concatenated-second lines ruled),
      symbol-second letters (IsRuled-built hexlower_permissive_fields letters refl),
      padding-second tilde (IsRuled-built translates tilde refl),
    )

-- how the texts of such pairs are made
texts_made :
    (last_bit MostSignificantFirst 6 ≡ 1) × (last_bit LeastSignificantFirst 6 ≡ 32)
    × (by trailing_text base64_nopad_fields ≡ Some (codes "AB"))
    × (by (λ base. text_ending_in base 126) base64_fields ≡ Some (codes "AA=~"))
texts_made = (refl, refl, refl, refl)

-- hexadecimal is canonical, and base64 is not
canonical_or_not :
    Has hexlower_fields IsCanonical × Has base64_fields (λ base. IsCanonical base → ⊥)
canonical_or_not = (
  λ text other found short other_is_short means other_means.
      let ruled = IsRuled-built hexlower_fields _ refl in
      Means-text_of_only _ ruled refl text found means
      ∙ sym (Means-text_of_only _ ruled refl other found other_means),
  λ canonical.
      let pair : AreTwoTexts (built base64_fields) (codes "AA==AA==") (codes "AAA=") (0 ∷ 0 ∷ []) =
      pairs_of_texts.1 in
      pair.differ (canonical _ _ _ (lit≤ tt) (lit≤ tt) pair.one_means pair.other_means),
)

-- after padded texts, after a group without padding, after whole symbols of a byte
followed_texts :
    Has base64_fields (λ base. MayBeFollowed base (codes "AAA="))
    × Has single_fields (λ base. MayBeFollowed base (codes "A"))
    × Has hexlower_fields (λ base. MayBeFollowed base (codes "48"))
    × Has base64_nopad_fields (λ base. MayBeFollowed base (codes "AAAA") → ⊥)
followed_texts = (
  inl (refl, inl refl),
  inl (
    refl,
    inr (All-from_recursion
        (λ byte. is_padding (meaning (built single_fields) byte) ≡ false) (codes "A") (refl, tt)),
  ),
  inr refl,
  λ h. ⊎_elim (λ padded. false≢true padded.0) (λ whole. let e = whole in cc) h,
)

-- a decoding that stopped continues with what it did not read
resumed_text :
    Has base64_mime_fields (λ base.
    Resumes base (codes "SGVs" ++ 13 ∷ 10 ∷ codes "bG") (codes "8=" ++ 13 ∷ 10 ∷ []) 4
    (codes "Hel"))
resumed_text =
    resumed _ (IsRuled-built base64_mime_fields _ refl) _ _ _ refl refl (inl (refl, inl refl))

-- lists in order, by their first difference or as a proper prefix
lists_in_order :
    IsBefore (codes "az") (codes "b") × IsBefore (codes "a") (codes "az")
    × (IsBefore (codes "a") (codes "a") → ⊥)
lists_in_order = (
  inl (lit< tt),
  inr (refl, tt),
  λ h. ⊎_elim (λ less. absurd (omega (arith, less))) (λ same. same.1) h,
)

zero_before_one : (k : ℕ) → k + 1 < 2
    → slice_index (codes "01") k < slice_index (codes "01") (k + 1)
zero_before_one zero h = lit< tt
zero_before_one (suc k) h = absurd (omega (arith, h))

-- the symbols `0` and `1` keep the order of data
order_kept : Has (unpadded_fields (codes "01")) (λ base. IsOrdered base × KeepsOrder base)
order_kept =
    let ordered : IsOrdered (built (unpadded_fields (codes "01"))) = record {
      most_significant_first = refl;
      ascending = AllPairs-from_increasing (codes "01") zero_before_one;
      padding_first = λ character h. let e = h in cc;
    } in (
      ordered,
      KeepsOrder-ordered (built (unpadded_fields (codes "01")))
          (IsRuled-built (unpadded_fields (codes "01")) _ refl) refl ordered,
    )

-- base64 does not: the text of 204 is `zA==`, and that of 208 is `0A==`
order_broken : Has base64_fields (λ base. BreaksOrder base (204 ∷ []) (208 ∷ []))
order_broken =
    (IsBroken-ruled (built base64_fields) (IsRuled-built base64_fields _ refl) refl).descending
    refl 51 (lit< tt) (lit< tt)

-- what is kept of `SGVsbG` CR LF, of which `Hel` was decoded
read_so_far :
    Has base64_mime_fields (λ base.
    HasRead base (codes "SGVsbG" ++ 13 ∷ 10 ∷ []) 8 None (positioned_from 4 (codes "bG")) false
    × HasDecoded base (codes "> ") (codes "SGVsbG" ++ 13 ∷ 10 ∷ []) (codes "> Hel"))
read_so_far = (
  record { counted = refl; first = refl; holds = λ h. refl; ends = λ h. refl },
  record { appended = refl },
)

-- a fault of a symbol, whatever the length, but none of a length
of_whole_groups :
    Has base64_mime_fields (λ base. IsOfWholeGroup base 7 Symbol
    × (IsOfWholeGroup base 8 LengthFault → ⊥))
of_whole_groups = (
  record { not_length = refl; joins = refl; whole = inr refl },
  λ is. false≢true (sym is.not_length),
)
