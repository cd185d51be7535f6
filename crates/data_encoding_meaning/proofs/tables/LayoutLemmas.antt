-- The layout of an encoding, from its tables.
use Rattle.std.proofs.Common.{◌≡◌, ◌≢◌, ℕ, ◌≤◌, ◌==◌, true, ◌||◌, List, [], ◌∷◌, map, refl, sym, ap, arith}
use Rattle.std.proofs.lemmas.Bool.Decides.{nat_tests}
use Rattle.std.specs.Cmp.{first_so, second_so}
use Rattle.std.specs.List.{list_all, list_any}
use Rattle.data_encoding_meaning.specs.declared.encoding.Character.TheVariants.{Padding, Ignored, Invalid}
use Rattle.data_encoding_meaning.specs.text.Base.{is_ignored}
use Rattle.data_encoding_meaning.specs.specification.Entries.{is_entry_of, meaning_of_entry}
use Rattle.data_encoding_meaning.specs.specification.Layout.{code_of}
use Rattle.data_encoding_meaning.proofs.tables.EntryLemmas.{entry_back, ignored_entry}

pub meaning-ignored : (v : ℕ) → v ≡ 129 → Ignored ≡ meaning_of_entry v
meaning-ignored v h = ap meaning_of_entry (sym h)

pub meaning-padding : (v : ℕ) → v ≡ 130 → Padding ≡ meaning_of_entry v
meaning-padding v h = ap meaning_of_entry (sym h)

pub meaning-invalid : (v : ℕ) → 64 ≤ v → v ≢ 129 → v ≢ 130 → Invalid ≡ meaning_of_entry v
meaning-invalid v h k l = grind (arith, nat_tests)

-- whether some byte is ignored, by its entry
pub any-ignored : (values : List ℕ)
    → list_any (λ v. v == 129) values ≡ list_any is_ignored (map meaning_of_entry values)
any-ignored [] = refl
any-ignored (v ∷ values) = λ i. sym (ignored_entry v) i || any-ignored values i

pub codes-back : (values : List ℕ) → list_all (is_entry_of 64) values ≡ true
    → map code_of (map meaning_of_entry values) ≡ values
codes-back [] h = refl
codes-back (v ∷ values) h =
    let here = entry_back v (first_so (is_entry_of 64 v) (list_all (is_entry_of 64) values) h) in
    let rest = codes-back values
    (second_so (is_entry_of 64 v) (list_all (is_entry_of 64) values) h) in
    λ i. here i ∷ rest i
