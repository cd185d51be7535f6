-- Padding gives a second text if texts may be concatenated.
use Rattle.std.proofs.Common.{◌≡◌, ℕ, ◌*◌, ◌%◌, ◌<◌, ◌==◌, true, not, [], ◌∷◌, length, Option, Some, None, is_some, inl, refl, sym, ap, ◌∙◌, arith, length-append, All}
use Rattle.std.proofs.lemmas.Bool.{false≢true}
use Rattle.std.proofs.lemmas.List.Elements.{All-from_recursion}
use Rattle.data_encoding_meaning.specs.text.Base.{Base, IsWidth, group_bytes, group_symbols, is_padded}
use Rattle.data_encoding_meaning.specs.laws.Canonical.{ConcatenatedIsSecond}
use Rattle.data_encoding_meaning.specs.text.Text.{padded_text}
use Rattle.data_encoding_meaning.proofs.canonicity.OneGroupLemmas.{Means-padded_text, length-zero}
use Rattle.data_encoding_meaning.proofs.digits.WidthLemmas.{by_width, group_symbols-few, group_symbols-pos}
use Rattle.data_encoding_meaning.proofs.grammar.JoinLemmas.{Means-join}
use Rattle.data_encoding_meaning.proofs.lists.RunLemmas.{run_count}
use Rattle.data_encoding_meaning.proofs.judgement.RuleLemmas.{IsRuled, IsRuledPadding}
use Rattle.data_encoding_meaning.proofs.text.PaddedTextLemmas.{length-padded}

-- there is padding only if eight bits are not whole symbols
pub padded-partly : (base : Base) → IsRuled base → is_padded base ≡ true → 8 % base.width ≡ 0 → ⊥
padded-partly base ruled padded whole = by base.padding padded ruled.padding where
  by : (o : Option ℕ) → is_some o ≡ true → IsRuledPadding base o → ⊥
  by None is h = cc
  by (Some character) is h = false≢true (sym (ap (λ n. not (n == 0)) whole) ∙ h.2)

-- what holds for 3, 5 and 6
pub partly : (P : ℕ → Type 0) → P 3 → P 5 → P 6 → (width : ℕ) → IsWidth width
    → (8 % width ≡ 0 → ⊥) → P width
partly P three five six =
    by_width (λ w. (8 % w ≡ 0 → ⊥) → P w) (λ h. absurd (h refl)) (λ h. absurd (h refl))
    (λ h. three) (λ h. absurd (h refl)) (λ h. five) (λ h. six)

-- one byte is then one group, and two are
one_group : (width : ℕ) → IsWidth width → (8 % width ≡ 0 → ⊥)
    → (run_count (group_bytes width) 1 ≡ 1) × (run_count (group_bytes width) 2 ≡ 1)
one_group =
    partly (λ w. (run_count (group_bytes w) 1 ≡ 1) × (run_count (group_bytes w) 2 ≡ 1))
    (refl, refl) (refl, refl) (refl, refl)

pub zero_byte : All (λ byte. byte < 256) (0 ∷ [])
zero_byte = All-from_recursion (λ byte. byte < 256) (0 ∷ []) (omega arith, tt)

two_bytes : All (λ byte. byte < 256) (0 ∷ 0 ∷ [])
two_bytes =
    All-from_recursion (λ byte. byte < 256) (0 ∷ 0 ∷ []) (omega arith, (omega arith, tt))

module _ (base : Base) (ruled : IsRuled base) where
  pub concatenated-second : ConcatenatedIsSecond base
  concatenated-second padded joins =
      let first = padded_text base (0 ∷ []) in
      let means = Means-padded_text base ruled (0 ∷ []) zero_byte in
      let width = ruled.is_width in
      let groups = one_group base.width width (padded-partly base ruled padded) in
      let one : length first ≡ 1 * group_symbols base.width =
      length-padded base (0 ∷ []) width padded ∙ ap (λ n. n * group_symbols base.width) groups.0 in
      let two : length (padded_text base (0 ∷ 0 ∷ [])) ≡ 1 * group_symbols base.width =
      length-padded base (0 ∷ 0 ∷ []) width padded
      ∙ ap (λ n. n * group_symbols base.width) groups.1 in
      let pos = group_symbols-pos base.width width in
      record {
        differ = λ same.
            omega (arith, one, two, sym (length-append first first) ∙ ap length same, pos);
        one_is_short = omega (arith, length-append first first, length-zero base ruled);
        other_is_short = omega (arith, two, group_symbols-few base.width width);
        one_means =
            Means-join base ruled first first (0 ∷ []) (0 ∷ []) (inl (padded, inl joins)) means
            means;
        other_means = Means-padded_text base ruled (0 ∷ 0 ∷ []) two_bytes;
      }
