-- The table of values, and what its entries mean.
use Rattle.std.proofs.Common.{◌≡◌, ◌≢◌, ℕ, ◌+◌, ◌-◌, ◌<◌, ◌≤◌, ◌==◌, Bool, true, false, not, nat_le, if◌then◌else◌, List, length, map, take, get_or, Result, Ok, Err, refl, sym, ap, ◌∙◌, subst, arith, ⊎_elim}
use Rattle.std.proofs.lemmas.Bool.Decides.{nat_tests}
use Rattle.std.proofs.lemmas.Bool.{cases_lt, eq-eqb, eqb-true}
use Rattle.std.proofs.lemmas.List.{get_or-drop, get_or-replicate, get_or_past, length-map, get_or-map, get_or-take, length-take-le, length-drop, length-replicate, drop-set-lt, map-set}
use Rattle.std.proofs.Math.ListN.{set}
use Rattle.std.specs.List.{list_all}
use Rattle.data_encoding_meaning.specs.declared.encoding.Character.{Character}
use Rattle.data_encoding_meaning.specs.declared.encoding.Character.TheVariants.{Symbol, Padding, Ignored, Invalid}
use Rattle.data_encoding_meaning.specs.declared.refusal.Refusal.{Refusal}
use Rattle.data_encoding_meaning.specs.declared.refusal.Refusal.TheVariants.{NotAscii, Duplicate}
use Rattle.data_encoding_meaning.specs.text.Base.{is_ignored}
use Rattle.data_encoding_meaning.specs.specification.Entries.{meaning_of_entry, is_entry_of, HoldsEntries}
use Rattle.data_encoding_meaning.specs.specification.Fields.{is_same}
use Rattle.data_encoding_meaning.specs.specification.MeaningTable.{defined}
use Rattle.data_encoding_meaning.specs.specification.Layout.{code_of}
use Rattle.std.proofs.Math.Seq.{take-set-lt}
use Rattle.data_encoding_meaning.proofs.lists.EachLemmas.{passes_at, list_all-set}

pub entry_back : (v : ℕ) → is_entry_of 64 v ≡ true → code_of (meaning_of_entry v) ≡ v
entry_back v h = grind (arith, nat_tests)

pub apart_test : (a b : ℕ) → a ≢ b → not (a == b) ≡ true
apart_test a b h = grind (arith, nat_tests)

pub test_apart : (a b : ℕ) → not (a == b) ≡ true → a ≢ b
test_apart a b h same = grind (arith, nat_tests)

pub is_same-self : (m : Character) → is_same m m ≡ true
is_same-self (Symbol value) = eq-eqb value value refl
is_same-self _ = refl

pub same-is_same : (m n : Character) → is_same m n ≡ true → m ≡ n
same-is_same (Symbol a) (Symbol b) h = ap (λ v. Symbol v) (eqb-true a b h)
same-is_same Padding Padding h = refl
same-is_same Ignored Ignored h = refl
same-is_same Invalid Invalid h = refl
same-is_same _ _ h = cc

pub ignored-is : (m : Character) → is_ignored m ≡ true → m ≡ Ignored
ignored-is Ignored h = refl
ignored-is _ h = cc

pub ignored_entry : (v : ℕ) → is_ignored (meaning_of_entry v) ≡ (v == 129)
ignored_entry v = grind (arith, nat_tests)

pub false_or : (b : Bool) → (b ≡ true → ⊥) → b ≡ false
false_or true h = absurd (h refl)
false_or false h = refl

-- entries mean the same if and only if they are equal
same_meanings : (a b : ℕ) → a ≡ b → is_same (meaning_of_entry a) (meaning_of_entry b) ≡ true
same_meanings a b e =
    ap (λ n. is_same (meaning_of_entry a) (meaning_of_entry n)) (sym e)
    ∙ is_same-self (meaning_of_entry a)

other_meanings : (a b : ℕ) → is_entry_of 64 a ≡ true → is_entry_of 64 b ≡ true → a ≢ b
    → is_same (meaning_of_entry a) (meaning_of_entry b) ≡ false
other_meanings a b h k ne =
    false_or (is_same (meaning_of_entry a) (meaning_of_entry b))
    (λ e. ne (sym (entry_back a h)
    ∙ ap code_of (same-is_same (meaning_of_entry a) (meaning_of_entry b) e) ∙ entry_back b k))

-- the cases of a definition
abbrev pub defined_by : Bool → Bool → Bool → List Character → ℕ → Character
    → Result (List Character) Refusal
defined_by past same free meanings byte m =
    if past then Err NotAscii
    else if same then Ok meanings
    else if free then Ok (set meanings byte m)
    else Err (Duplicate byte)

module _ (values : List ℕ) (holds : HoldsEntries values) where
  pub length-entries : length values ≡ 256
  length-entries =
      let half = ap length holds.invalid_from_128 ∙ length-replicate {A = ℕ} 128 128 in
      omega (arith, length-drop 128 values, half)

  pub length-low : length (take 128 values) ≡ 128
  length-low = length-take-le 128 values (omega (arith, length-entries))

  pub meaning-low : (byte : ℕ) → byte < 128
      → get_or (map meaning_of_entry (take 128 values)) byte Invalid
      ≡ meaning_of_entry (get_or values byte 0)
  meaning-low byte h =
      get_or-map meaning_of_entry (take 128 values) byte 0 Invalid (omega (arith, length-low))
      ∙ ap meaning_of_entry (get_or-take 128 values byte 0 h)

  pub is_entry-low : (byte : ℕ) → byte < 128 → is_entry_of 64 (get_or values byte 0) ≡ true
  is_entry-low byte h =
      subst (λ v. is_entry_of 64 v ≡ true) (get_or-take 128 values byte 0 h)
      (passes_at (is_entry_of 64) (take 128 values) byte 0 holds.entries
      (omega (arith, length-low)))

  pub high_entry : (byte : ℕ) → 128 ≤ byte → byte < 256 → get_or values byte 0 ≡ 128
  high_entry byte low high =
      let place : 128 + (byte - 128) ≡ byte = omega arith in
      ap (λ n. get_or values n 0) (sym place)
      ∙ sym (get_or-drop 128 values (byte - 128) 0)
      ∙ ap (λ l. get_or l (byte - 128) 0) holds.invalid_from_128
      ∙ get_or-replicate 128 (byte - 128) 128 0 (omega arith)

  -- a byte means what its entry says, even if it is not ASCII
  pub meaning-any : (byte : ℕ) → byte < 256
      → get_or (map meaning_of_entry (take 128 values)) byte Invalid
      ≡ meaning_of_entry (get_or values byte 0)
  meaning-any byte h =
      ⊎_elim (λ (low : byte < 128). meaning-low byte low)
      (λ (high : 128 ≤ byte).
      get_or_past (map meaning_of_entry (take 128 values)) byte Invalid
      (omega (arith, length-map (take 128 values) meaning_of_entry, length-low, high))
      ∙ ap meaning_of_entry (sym (high_entry byte high h)))
      (cases_lt byte 128)

  pub is_entry-any : (byte : ℕ) → byte < 256 → is_entry_of 64 (get_or values byte 0) ≡ true
  is_entry-any byte h =
      ⊎_elim (λ (low : byte < 128). is_entry-low byte low)
      (λ (high : 128 ≤ byte). ap (is_entry_of 64) (high_entry byte high h))
      (cases_lt byte 128)

  module _ (byte entry : ℕ) (low : byte < 128) where
    abbrev ms : List Character
    ms = map meaning_of_entry (take 128 values)

    abbrev had : ℕ
    had = get_or values byte 0

    defined-cases : (same free : Bool)
        → is_same (meaning_of_entry had) (meaning_of_entry entry) ≡ same
        → is_same (meaning_of_entry had) Invalid ≡ free
        → defined ms byte (meaning_of_entry entry)
        ≡ defined_by false same free ms byte (meaning_of_entry entry)
    defined-cases same free s f =
        let past : nat_le 128 byte ≡ false = grind (arith, nat_tests) in
        let at = meaning-low byte low in
        (λ i. defined_by (past i) (is_same (at i) (meaning_of_entry entry)) (is_same (at i) Invalid)
        ms byte (meaning_of_entry entry))
        ∙ (λ i. defined_by false (s i) (f i) ms byte (meaning_of_entry entry))

    pub defined-same : get_or values byte 0 ≡ entry
        → defined ms byte (meaning_of_entry entry)
        ≡ Ok ms
    defined-same e = defined-cases true _ (same_meanings had entry e) refl

    pub defined-other : is_entry_of 64 entry ≡ true → get_or values byte 0 ≢ entry
        → get_or values byte 0 ≢ 128
        → defined ms byte (meaning_of_entry entry)
        ≡ Err (Duplicate byte)
    defined-other k ne taken =
        defined-cases false false (other_meanings had entry (is_entry-low byte low) k ne)
        (other_meanings had 128 (is_entry-low byte low) refl taken)

    pub defined-free : is_entry_of 64 entry ≡ true → get_or values byte 0 ≢ entry
        → get_or values byte 0 ≡ 128
        → defined ms byte (meaning_of_entry entry)
        ≡ Ok (map meaning_of_entry (take 128 (set values byte entry)))
    defined-free k ne free =
        defined-cases false true (other_meanings had entry (is_entry-low byte low) k ne)
        (same_meanings had 128 free)
        ∙ ap (λ l. Ok l) (sym (map-set meaning_of_entry (take 128 values) byte entry)
        ∙ ap (map meaning_of_entry) (sym (take-set-lt 128 values byte entry low)))

    pub HoldsEntries-set : is_entry_of 64 entry ≡ true → HoldsEntries (set values byte entry)
    HoldsEntries-set k = record {
      entries =
          ap (list_all (is_entry_of 64)) (take-set-lt 128 values byte entry low)
          ∙ list_all-set (is_entry_of 64) (take 128 values) byte entry k holds.entries;
      invalid_from_128 = drop-set-lt 128 values byte entry low ∙ holds.invalid_from_128;
    }
