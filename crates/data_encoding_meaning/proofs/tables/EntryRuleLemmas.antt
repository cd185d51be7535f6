-- The rules on an entry are those on its meaning.
use Rattle.std.proofs.Common.{◌≡◌, ℕ, ◌<◌, ◌≤◌, ◌==◌, true, not, arith}
use Rattle.std.proofs.lemmas.Bool.Decides.{nat_tests}
use Rattle.data_encoding_meaning.specs.declared.encoding.Character.TheVariants.{Symbol}
use Rattle.data_encoding_meaning.specs.specification.Entries.{is_entry_of, meaning_of_entry}
use Rattle.data_encoding_meaning.proofs.judgement.RuleLemmas.{is_no_padding, is_within}

-- one entry, and its meaning
pub entry-weaker : (count v : ℕ) → count ≤ 64 → is_entry_of count v ≡ true → is_entry_of 64 v ≡ true
entry-weaker count v few h = grind (arith, nat_tests)

pub entry-within : (count v : ℕ) → is_entry_of count v ≡ true
    → is_within count (meaning_of_entry v) ≡ true
entry-within count v h = grind (arith, nat_tests)

pub within-entry : (count v : ℕ) → is_entry_of 64 v ≡ true
    → is_within count (meaning_of_entry v) ≡ true → is_entry_of count v ≡ true
within-entry count v h k = grind (arith, nat_tests)

pub entry-no_padding : (v : ℕ) → not (v == 130) ≡ true → is_no_padding (meaning_of_entry v) ≡ true
entry-no_padding v h = grind (arith, nat_tests)

pub no_padding-entry : (v : ℕ) → is_no_padding (meaning_of_entry v) ≡ true → not (v == 130) ≡ true
no_padding-entry v h = grind (arith, nat_tests)

pub value-symbol : (v : ℕ) → v < 64 → meaning_of_entry v ≡ Symbol v
value-symbol v h = grind (arith, nat_tests)
