-- The table of meanings agrees with the pairs of the judgements.
use Rattle.std.proofs.Common.{◌≡◌, ◌≢◌, ℕ, ◌<◌, ◌==◌, Bool, true, false, not, ◌&&◌, nat_le, cond, if◌then◌else◌, List, [], ◌∷◌, ◌++◌, length, get_or, Option, Some, None, Result, Ok, Err, refl, sym, ap, ◌∙◌, arith, ⊎_elim, get_or-set_same, get_or-set_other}
use Rattle.std.proofs.lemmas.Bool.{cases_eq, eq-eqb}
use Rattle.std.proofs.lemmas.Bool.Decides.{nat_tests}
use Rattle.std.proofs.lemmas.List.{append-nil, length-set}
use Rattle.std.proofs.lemmas.List.FromFn.{fill_by_all, get_or-map-range_with_len, length-map-range_with_len}
use Rattle.std.proofs.Math.ListN.{set}
use Rattle.std.specs.List.{AllByRecursion}
use Rattle.std.specs.Option.{option_or}
use Rattle.data_encoding_meaning.specs.declared.encoding.Character.{Character}
use Rattle.data_encoding_meaning.specs.declared.encoding.Character.TheVariants.{Symbol, Padding, Ignored, Invalid}
use Rattle.data_encoding_meaning.specs.declared.refusal.Refusal.{Refusal}
use Rattle.data_encoding_meaning.specs.declared.refusal.Refusal.TheVariants.{NotAscii, Duplicate, Undefined}
use Rattle.data_encoding_meaning.specs.text.Base.{is_invalid}
use Rattle.data_encoding_meaning.specs.specification.Fields.{Judgement, Require, Define, Translate, first_refusal, given, is_same, judgement_refusal, meanings_by, meanings_of, meanings_unless, pair_refusal, pairs_after, pairs_of, translation_refusal}
use Rattle.data_encoding_meaning.specs.specification.MeaningTable.{defined, judged, meanings_after, no_meanings, translated}
use Rattle.data_encoding_meaning.proofs.judgement.JudgementLemmas.{Brings}
use Rattle.data_encoding_meaning.proofs.tables.EntryLemmas.{defined_by, same-is_same}

abbrev Pairs : Type 0
Pairs = List (ℕ × Character)

-- the character means something
abbrev pub is_some_meaning : Character → Bool
is_some_meaning m = not (is_invalid m)

-- each pair gives its byte a meaning
abbrev GiveSome : Pairs → Type 0
GiveSome pairs = AllByRecursion (λ (p : ℕ × Character). is_invalid p.1 ≡ false) pairs

not_true : (b : Bool) → not b ≡ true → b ≡ false
not_true false h = refl
not_true true h = cc

invalid-is_same : (m : Character) → is_same m Invalid ≡ is_invalid m
invalid-is_same (Symbol value) = refl
invalid-is_same Padding = refl
invalid-is_same Ignored = refl
invalid-is_same Invalid = refl

invalid-is : (m : Character) → is_invalid m ≡ true → m ≡ Invalid
invalid-is Invalid h = refl
invalid-is _ h = cc

-- the first pair of a byte is among the earlier pairs, if they have one
given-append : (ps qs : Pairs) (byte : ℕ) → GiveSome ps
    → given (ps ++ qs) byte ≡ cond (is_invalid (given ps byte)) (given qs byte) (given ps byte)
given-append [] qs byte some = refl
given-append (p ∷ ps) qs byte some =
    by_test (given-append ps qs byte some.1) (p.0 == byte) refl
  where
    by_test : given (ps ++ qs) byte
        ≡ cond (is_invalid (given ps byte)) (given qs byte) (given ps byte)
        → (b : Bool) → (p.0 == byte) ≡ b
        → given (p ∷ ps ++ qs) byte
        ≡ cond (is_invalid (given (p ∷ ps) byte)) (given qs byte) (given (p ∷ ps) byte)
    by_test rest true e =
        let here : given (p ∷ ps ++ qs) byte ≡ p.1 =
        ap (λ b. cond b p.1 (given (ps ++ qs) byte)) e in
        let there : given (p ∷ ps) byte ≡ p.1 = ap (λ b. cond b p.1 (given ps byte)) e in
        here ∙ ap (λ b. cond b (given qs byte) p.1) (sym some.0)
        ∙ ap (λ m. cond (is_invalid m) (given qs byte) m) (sym there)
    by_test rest false e =
        let here : given (p ∷ ps ++ qs) byte ≡ given (ps ++ qs) byte =
        ap (λ b. cond b p.1 (given (ps ++ qs) byte)) e in
        let there : given (p ∷ ps) byte ≡ given ps byte = ap (λ b. cond b p.1 (given ps byte)) e in
        here ∙ rest
        ∙ ap (λ m. cond (is_invalid m) (given qs byte) m) (sym there)

GiveSome-append : (ps qs : Pairs) → GiveSome ps → GiveSome qs → GiveSome (ps ++ qs)
GiveSome-append [] qs some others = others
GiveSome-append (p ∷ ps) qs some others = (some.0, GiveSome-append ps qs some.1 others)

at_byte : (ps : Pairs) (byte : ℕ) → byte < 128
    → get_or (meanings_by ps) byte Invalid ≡ given ps byte
at_byte ps byte low =
    get_or-map-range_with_len (given ps) 0 128 byte byte Invalid low (omega arith)

long_by : (ps : Pairs) → length (meanings_by ps) ≡ 128
long_by ps = length-map-range_with_len (given ps) 0 128

-- one pair more
module _ (ps : Pairs) (some : GiveSome ps) (byte : ℕ) (m : Character) where
  abbrev more : Pairs
  more = ps ++ (byte, m) ∷ []

  given-same : is_invalid (given ps byte) ≡ true → given more byte ≡ m
  given-same free =
      given-append ps ((byte, m) ∷ []) byte some
      ∙ ap (λ b. cond b (given ((byte, m) ∷ []) byte) (given ps byte)) free
      ∙ ap (λ b. cond b m Invalid) (eq-eqb byte byte refl)

  given-taken : (other : ℕ) → is_invalid (given ps other) ≡ false
      → given more other ≡ given ps other
  given-taken other taken =
      given-append ps ((byte, m) ∷ []) other some
      ∙ ap (λ b. cond b (given ((byte, m) ∷ []) other) (given ps other)) taken

  given-other : (other : ℕ) → other ≢ byte → given more other ≡ given ps other
  given-other other apart = by_test (is_invalid (given ps other)) refl where
    test : (byte == other) ≡ false
    test = grind (arith, nat_tests)

    by_test : (b : Bool) → is_invalid (given ps other) ≡ b → given more other ≡ given ps other
    by_test true free =
        given-append ps ((byte, m) ∷ []) other some
        ∙ ap (λ b. cond b (given ((byte, m) ∷ []) other) (given ps other)) free
        ∙ ap (λ b. cond b m Invalid) test
        ∙ sym (invalid-is (given ps other) free)
    by_test false taken = given-taken other taken

  -- a pair that says what an earlier one says
  by-same : is_invalid m ≡ false → given ps byte ≡ m → meanings_by more ≡ meanings_by ps
  by-same means is =
      sym (fill_by_all (given more) (meanings_by ps) 128 Invalid (long_by ps)
      (λ other low. at_byte ps other low ∙ sym (at other)))
    where
      at : (other : ℕ) → given more other ≡ given ps other
      at other =
          ⊎_elim
          (λ (same : other ≡ byte).
          given-taken other (ap (λ n. is_invalid (given ps n)) same ∙ ap is_invalid is ∙ means))
          (λ (apart : other ≢ byte). given-other other apart)
          (cases_eq other byte)

  -- a pair of a byte that had none
  by-first : byte < 128 → is_invalid (given ps byte) ≡ true
      → set (meanings_by ps) byte m ≡ meanings_by more
  by-first low free =
      fill_by_all (given more) (set (meanings_by ps) byte m) 128 Invalid
      (length-set (meanings_by ps) byte m ∙ long_by ps) at
    where
      at : (other : ℕ) → other < 128
          → get_or (set (meanings_by ps) byte m) other Invalid ≡ given more other
      at other below =
          ⊎_elim
          (λ (same : other ≡ byte).
          ap (λ n. get_or (set (meanings_by ps) byte m) n Invalid) same
          ∙ get_or-set_same (meanings_by ps) byte m Invalid (omega (arith, low, long_by ps))
          ∙ sym (given-same free) ∙ ap (given more) (sym same))
          (λ (apart : other ≢ byte).
          get_or-set_other (meanings_by ps) byte other m Invalid apart
          ∙ at_byte ps other below ∙ sym (given-other other apart))
          (cases_eq other byte)

  -- the cases of a pair
  abbrev refused_by : Bool → Bool → Bool → Option Refusal
  refused_by past same free =
      if past then Some NotAscii else if not free && not same then Some (Duplicate byte) else None

  pair-cases : is_invalid m ≡ false → (past same free : Bool) → nat_le 128 byte ≡ past
      → is_same (given ps byte) m ≡ same → is_invalid (given ps byte) ≡ free
      → defined_by past same free (meanings_by ps) byte m
      ≡ meanings_unless (refused_by past same free) more
  pair-cases means true same free p s f = refl
  pair-cases means false true free p s f =
      ap (λ l. Ok l) (sym (by-same means (same-is_same (given ps byte) m s)))
      ∙ (by_free free)
    where
      by_free : (b : Bool) → Ok (meanings_by more)
          ≡ meanings_unless (refused_by false true b) more
      by_free true = refl
      by_free false = refl
  pair-cases means false false true p s f =
      let low : byte < 128 = grind (arith, nat_tests) in ap (λ l. Ok l) (by-first low f)
  pair-cases means false false false p s f = refl

  pair-agrees : is_invalid m ≡ false
      → defined (meanings_by ps) byte m ≡ meanings_unless (pair_refusal ps byte m) more
  pair-agrees means = by_past (nat_le 128 byte) refl where
    by_past : (past : Bool) → nat_le 128 byte ≡ past
        → defined (meanings_by ps) byte m ≡ meanings_unless (pair_refusal ps byte m) more
    by_past true p =
        (λ i. defined_by (p i) (is_same (get_or (meanings_by ps) byte Invalid) m)
        (is_same (get_or (meanings_by ps) byte Invalid) Invalid) (meanings_by ps) byte m)
        ∙ (λ i. meanings_unless
        (refused_by (sym p i) (is_same (given ps byte) m) (is_invalid (given ps byte))) more)
    by_past false p =
        let low : byte < 128 = grind (arith, nat_tests) in
        let at = at_byte ps byte low in
        (λ i. defined_by (nat_le 128 byte) (is_same (at i) m) (is_same (at i) Invalid)
        (meanings_by ps) byte m)
        ∙ (λ i. defined_by (nat_le 128 byte) (is_same (given ps byte) m)
        (invalid-is_same (given ps byte) i) (meanings_by ps) byte m)
        ∙ pair-cases means (nat_le 128 byte) (is_same (given ps byte) m)
        (is_invalid (given ps byte)) refl refl refl

-- What a judgement does to the table it does to the pairs.
record Follows (ps : Pairs) (j : Judgement) : Type 0 where
  agrees : judged (meanings_by ps) j
      ≡ meanings_unless (judgement_refusal ps j) (ps ++ pairs_of ps j)
  some : judgement_refusal ps j ≡ None → GiveSome (pairs_of ps j)

required-follows : (ps : Pairs) (holds : Bool) (refusal : Refusal)
    → Follows ps (Require holds refusal)
required-follows ps true refusal = record {
  agrees = ap (λ l. Ok (meanings_by l)) (sym (append-nil ps));
  some = λ h. tt;
}
required-follows ps false refusal = record { agrees = refl; some = λ h. tt }

-- the cases of a translation
abbrev translated_by : Bool → Bool → ℕ → Result (List Character) Refusal
    → Result (List Character) Refusal
translated_by past none to r =
    if past then Err NotAscii else if none then Err (Undefined to) else r

abbrev untranslated_by : Bool → Bool → ℕ → Option Refusal → Option Refusal
untranslated_by past none to r =
    if past then Some NotAscii else if none then Some (Undefined to) else r

module _ (ps : Pairs) (some : GiveSome ps) (from to : ℕ) where
  abbrev had : Character
  had = get_or (meanings_by ps) to Invalid

  abbrev m : Character
  m = given ps to

  abbrev next : Pairs
  next = ps ++ (from, m) ∷ []

  past-follows : nat_le 128 to ≡ true → Follows ps (Translate from to)
  past-follows p = record {
    agrees =
        (λ i. translated_by (p i) (is_same had Invalid) to (defined (meanings_by ps) from had))
        ∙ (λ i. meanings_unless
        (untranslated_by (sym p i) (is_invalid m) to (pair_refusal ps from m)) next);
    some = λ h.
        let refused : translation_refusal ps from to ≡ Some NotAscii =
        (λ i. untranslated_by (p i) (is_invalid m) to (pair_refusal ps from m)) in
        cc;
  }

  -- what the table makes of a translation
  in_table : nat_le 128 to ≡ false → translated (meanings_by ps) from to
      ≡ translated_by (nat_le 128 to) (is_invalid m) to (defined (meanings_by ps) from m)
  in_table p =
      let low : to < 128 = grind (arith, nat_tests) in
      let at = at_byte ps to low in
      (λ i. translated_by (nat_le 128 to) (is_same (at i) Invalid) to
      (defined (meanings_by ps) from (at i)))
      ∙ (λ i. translated_by (nat_le 128 to) (invalid-is_same m i) to
      (defined (meanings_by ps) from m))

  low-follows : nat_le 128 to ≡ false → (none : Bool) → is_invalid m ≡ none
      → Follows ps (Translate from to)
  low-follows p true n = record {
    agrees =
        in_table p
        ∙ (λ i. translated_by (p i) (n i) to (defined (meanings_by ps) from m))
        ∙ (λ i. meanings_unless
        (untranslated_by (sym p i) (sym n i) to (pair_refusal ps from m)) next);
    some = λ h.
        let refused : translation_refusal ps from to ≡ Some (Undefined to) =
        (λ i. untranslated_by (p i) (n i) to (pair_refusal ps from m)) in
        cc;
  }
  low-follows p false n = record {
    agrees =
        in_table p
        ∙ (λ i. translated_by (p i) (n i) to (defined (meanings_by ps) from m))
        ∙ pair-agrees ps some from m n
        ∙ (λ i. meanings_unless
        (untranslated_by (sym p i) (sym n i) to (pair_refusal ps from m)) next);
    some = λ h. (n, tt);
  }

  translate-follows : Follows ps (Translate from to)
  translate-follows = by_past (nat_le 128 to) refl where
    by_past : (past : Bool) → nat_le 128 to ≡ past → Follows ps (Translate from to)
    by_past true p = past-follows p
    by_past false p = low-follows p (is_invalid m) refl

step-follows : (ps : Pairs) → GiveSome ps → (j : Judgement) → Brings is_some_meaning j
    → Follows ps j
step-follows ps some (Require holds refusal) brings = required-follows ps holds refusal
step-follows ps some (Define byte m) brings =
    let means = not_true (is_invalid m) brings in
    record { agrees = pair-agrees ps some byte m means; some = λ h. (means, tt) }
step-follows ps some (Translate from to) brings = translate-follows ps some from to

-- the table after all judgements
table-agrees : (js : List Judgement) (ps : Pairs) → GiveSome ps
    → AllByRecursion (Brings is_some_meaning) js
    → meanings_after (Ok (meanings_by ps)) js
    ≡ meanings_unless (first_refusal ps js) (pairs_after ps js)
table-agrees [] ps some brings = refl
table-agrees (j ∷ js) ps some brings =
    let is = step-follows ps some j brings.0 in
    ap (λ r. meanings_after r js) is.agrees
    ∙ by_refusal
    (λ none. table-agrees js (ps ++ pairs_of ps j)
    (GiveSome-append ps (pairs_of ps j) some (is.some none)) brings.1)
    (judgement_refusal ps j) refl
  where
    by_refusal : (judgement_refusal ps j ≡ None
        → meanings_after (Ok (meanings_by (ps ++ pairs_of ps j))) js
        ≡ meanings_unless (first_refusal (ps ++ pairs_of ps j) js)
        (pairs_after (ps ++ pairs_of ps j) js))
        → (o : Option Refusal) → judgement_refusal ps j ≡ o
        → meanings_after (meanings_unless (judgement_refusal ps j) (ps ++ pairs_of ps j)) js
        ≡ meanings_unless (first_refusal ps (j ∷ js)) (pairs_after ps (j ∷ js))
    by_refusal rest None none =
        ap (λ o. meanings_after (meanings_unless o (ps ++ pairs_of ps j)) js) none
        ∙ rest none
        ∙ ap (λ o. meanings_unless (option_or o (first_refusal (ps ++ pairs_of ps j) js))
        (pairs_after (ps ++ pairs_of ps j) js)) (sym none)
    by_refusal rest (Some refusal) fails =
        ap (λ o. meanings_after (meanings_unless o (ps ++ pairs_of ps j)) js) fails
        ∙ ap (λ o. meanings_unless (option_or o (first_refusal (ps ++ pairs_of ps j) js))
        (pairs_after (ps ++ pairs_of ps j) js)) (sym fails)

-- the pairs say what the table says, whatever is judged
pub meanings-by-table : (js : List Judgement) → AllByRecursion (Brings is_some_meaning) js
    → meanings_of js ≡ meanings_after (Ok no_meanings) js
meanings-by-table js brings = sym (table-agrees js [] tt brings)
