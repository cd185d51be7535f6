-- Data that is compared by its texts.
use Rattle.std.proofs.Common.{◌≡◌, ℕ, ◌<◌, ◌≤◌, List, [], ◌∷◌, All, None, refl, sym, ap, ◌∙◌, subst, arith, inl, inr, ◌⊎◌, ⊎_elim}
use Rattle.std.proofs.lemmas.Bool.{cases_lt}
use Rattle.data_encoding_meaning.specs.text.Base.{Base}
use Rattle.data_encoding_meaning.specs.laws.Compared.{CompareAlike}
use Rattle.data_encoding_meaning.specs.text.Grammar.{Means}
use Rattle.data_encoding_meaning.specs.laws.Order.{IsBefore, IsOrdered, KeepsOrder}
use Rattle.data_encoding_meaning.specs.text.Text.{text_of}
use Rattle.data_encoding_meaning.proofs.grammar.MeaningLemmas.{sound_bytes-Means}
use Rattle.data_encoding_meaning.proofs.order.TextOrderLemmas.{KeepsOrder-ordered}
use Rattle.data_encoding_meaning.proofs.judgement.RuleLemmas.{IsRuled}
use Rattle.data_encoding_meaning.proofs.text.TextMeaningLemmas.{Means-text_of}

never_both : (xs ys : List ℕ) → IsBefore xs ys → IsBefore ys xs → ⊥
never_both xs [] h k = h
never_both [] (y ∷ ys) h k = k
never_both (x ∷ xs) (y ∷ ys) h k = grind (arith, never_both xs ys)

-- one of two lists comes before the other, or they are equal
one_of_three : (xs ys : List ℕ) → IsBefore xs ys ⊎ ((xs ≡ ys) ⊎ IsBefore ys xs)
one_of_three [] [] = inr (inl refl)
one_of_three [] (y ∷ ys) = inl tt
one_of_three (x ∷ xs) [] = inr (inr tt)
one_of_three (x ∷ xs) (y ∷ ys) =
    ⊎_elim (λ (less : x < y). inl (inl less))
    (λ (more : y ≤ x).
    ⊎_elim (λ (less : y < x). inr (inr (inl less)))
    (λ (least : x ≤ y). by (omega (arith, more, least)) (one_of_three xs ys))
    (cases_lt y x))
    (cases_lt x y) where
      by : x ≡ y → IsBefore xs ys ⊎ ((xs ≡ ys) ⊎ IsBefore ys xs)
          → IsBefore (x ∷ xs) (y ∷ ys)
          ⊎ (((x ∷ xs) ≡ (y ∷ ys)) ⊎ IsBefore (y ∷ ys) (x ∷ xs))
      by same (inl before) = inl (inr (same, before))
      by same (inr (inl equal)) = inr (inl (λ i. same i ∷ equal i))
      by same (inr (inr later)) = inr (inr (inr (sym same, later)))

-- if lists in order have others in order, and equal ones equal others
alike : (one other first second : List ℕ) → (IsBefore one other → IsBefore first second)
    → (IsBefore other one → IsBefore second first) → (one ≡ other → first ≡ second)
    → CompareAlike one other first second
alike one other first second before later equal = record {
  order = (before, λ h. is_before h (one_of_three one other));
  equality = (equal, λ h. is_equal h (one_of_three one other));
} where
  is_before : IsBefore first second → IsBefore one other ⊎ ((one ≡ other) ⊎ IsBefore other one)
      → IsBefore one other
  is_before h (inl is) = is
  is_before h (inr (inl same)) =
      let k = subst (λ l. IsBefore l second) (equal same) h in
      absurd (never_both second second k k)
  is_before h (inr (inr is)) = absurd (never_both first second h (later is))

  is_equal : first ≡ second → IsBefore one other ⊎ ((one ≡ other) ⊎ IsBefore other one)
      → one ≡ other
  is_equal h (inl is) =
      let k = subst (λ l. IsBefore l second) h (before is) in
      absurd (never_both second second k k)
  is_equal h (inr (inl same)) = same
  is_equal h (inr (inr is)) =
      let k = subst (IsBefore second) h (later is) in
      absurd (never_both second second k k)

module _ (base : Base) (ruled : IsRuled base) where
  -- a text means the data that it is the text of
  pub injective : (bytes others : List ℕ) → All (λ byte. byte < 256) bytes
      → All (λ byte. byte < 256) others → text_of base bytes ≡ text_of base others
      → bytes ≡ others
  injective bytes others all all_others same =
      let means = subst (λ l. Means base l bytes) same (Means-text_of base ruled bytes all) in
      let text = text_of base others in
      sym (sound_bytes-Means base ruled.is_width text bytes means)
      ∙ sound_bytes-Means base ruled.is_width text others
      (Means-text_of base ruled others all_others)

  pub data-alike : base.wrapping ≡ None → IsOrdered base → (bytes others : List ℕ)
      → All (λ byte. byte < 256) bytes → All (λ byte. byte < 256) others
      → CompareAlike bytes others (text_of base bytes) (text_of base others)
  data-alike unwrapped ordered bytes others all all_others =
      let keeps : KeepsOrder base = KeepsOrder-ordered base ruled unwrapped ordered in
      alike bytes others (text_of base bytes) (text_of base others)
      (keeps bytes others all all_others) (keeps others bytes all_others all)
      (ap (text_of base))
