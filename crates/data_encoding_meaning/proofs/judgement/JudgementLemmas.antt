-- Judgements in turn: what they keep, and what they define.
use Rattle.std.proofs.Common.{◌≡◌, ◌≢◌, ℕ, zero, suc, ◌+◌, ◌<◌, ◌≤◌, Bool, true, false, nat_le, if◌then◌else◌, List, [], ◌∷◌, ◌++◌, length, get_or, Result, Ok, Err, refl, sym, ap, ◌∙◌, arith, inl, inr, ⊎_elim, ◌⊎◌, get_or-set_same, get_or-set_other}
use Rattle.std.proofs.lemmas.Bool.{cases_lt, false≢true}
use Rattle.std.proofs.lemmas.Bool.Decides.{nat_tests}
use Rattle.std.proofs.lemmas.List.{length-set, get_or_past}
use Rattle.std.proofs.Math.ListN.{set}
use Rattle.std.specs.List.{AllByRecursion, list_all}
use Rattle.data_encoding_meaning.specs.declared.encoding.Character.{Character}
use Rattle.data_encoding_meaning.specs.declared.encoding.Character.TheVariants.{Symbol, Invalid}
use Rattle.data_encoding_meaning.specs.declared.refusal.Refusal.{Refusal}
use Rattle.data_encoding_meaning.specs.declared.refusal.Refusal.TheVariants.{NotAscii, Undefined}
use Rattle.data_encoding_meaning.specs.specification.Fields.{Judgement, is_same, symbol_judgements, Require, Define, Translate}
use Rattle.data_encoding_meaning.specs.specification.MeaningTable.{defined, translated, judged, meanings_after}
use Rattle.data_encoding_meaning.proofs.tables.EntryLemmas.{defined_by, same-is_same}
use Rattle.data_encoding_meaning.proofs.lists.EachLemmas.{list_all-set, passes_at}

abbrev pub Judged : Type 0
Judged = Result (List Character) Refusal

-- the first judgements, and then the others
pub meanings_after-append : (r : Judged) (js ks : List Judgement)
    → meanings_after r (js ++ ks) ≡ meanings_after (meanings_after r js) ks
meanings_after-append (Ok meanings) (j ∷ js) ks =
    meanings_after-append (judged meanings j) js ks
meanings_after-append _ _ ks = refl

pub after-ok : (r : Judged) (meanings : List Character) (js : List Judgement) → r ≡ Ok meanings
    → meanings_after r js ≡ meanings_after (Ok meanings) js
after-ok r meanings js h = ap (λ s. meanings_after s js) h

-- the meaning was there, or is written if there was none
abbrev IsWritten : List Character → ℕ → Character → List Character → Type 0
IsWritten before byte m after =
    ((get_or before byte Invalid ≡ m) × (after ≡ before))
    ⊎ ((get_or before byte Invalid ≡ Invalid) × (after ≡ set before byte m))

-- What a definition that is not refused does.
record IsDefined (before : List Character) (byte : ℕ) (m : Character) (after : List Character)
    : Type 0 where
  pub ascii : byte < 128
  pub written : IsWritten before byte m after

defined_by-ok : (past same free : Bool) (before after : List Character) (byte : ℕ) (m : Character)
    → defined_by past same free before byte m ≡ Ok after
    → (past ≡ false)
    × (((same ≡ true) × (after ≡ before)) ⊎ ((free ≡ true) × (after ≡ set before byte m)))
defined_by-ok false true free before after byte m h =
    let same : before ≡ after = cc in (refl, inl (refl, sym same))
defined_by-ok false false true before after byte m h =
    let same : set before byte m ≡ after = cc in (refl, inr (refl, sym same))
defined_by-ok _ _ _ before after byte m h = cc

defined-ok : (before after : List Character) (byte : ℕ) (m : Character)
    → defined before byte m ≡ Ok after → IsDefined before byte m after
defined-ok before after byte m h =
    let had = get_or before byte Invalid in
    let cases = defined_by-ok (nat_le 128 byte) (is_same had m) (is_same had Invalid)
    before after byte m h in
    let low : nat_le 128 byte ≡ false = cases.0 in
    record {
      ascii = grind (arith, nat_tests);
      written = ⊎_elim
          (λ (same : (is_same had m ≡ true) × (after ≡ before)).
          inl (same-is_same had m same.0, same.1))
          (λ (free : (is_same had Invalid ≡ true) × (after ≡ set before byte m)).
          inr (same-is_same had Invalid free.0, free.1))
          cases.1;
    }

-- what a judgement says of the meanings in the end
abbrev pub IsHeld : List Character → Judgement → Type 0
IsHeld meanings (Require holds refusal) = holds ≡ true
IsHeld meanings (Define byte m) =
    (byte < 128) × (m ≢ Invalid → get_or meanings byte Invalid ≡ m)
IsHeld meanings (Translate from to) =
    (to < 128) × (from < 128) × (get_or meanings to Invalid ≢ Invalid)
    × (get_or meanings from Invalid ≡ get_or meanings to Invalid)

-- the meanings that there are stay
abbrev pub AreKept : List Character → List Character → Type 0
AreKept before after =
    (byte : ℕ) → get_or before byte Invalid ≢ Invalid
    → get_or after byte Invalid ≡ get_or before byte Invalid

ok-same : (before after : List Character) → (let r : Judged = Ok before in r ≡ Ok after)
    → after ≡ before
ok-same before after h = let e : before ≡ after = cc in sym e

required-ok : (holds : Bool) (refusal : Refusal) (before after : List Character)
    → judged before (Require holds refusal) ≡ Ok after → (holds ≡ true) × (after ≡ before)
required-ok true refusal before after h = (refl, ok-same before after h)
required-ok false refusal before after h = cc

written-kept : (before after : List Character) (byte : ℕ) (m : Character)
    → IsWritten before byte m after → AreKept before after
written-kept before after byte m (inl same) other some = ap (λ l. get_or l other Invalid) same.1
written-kept before after byte m (inr free) other some =
    let apart : other ≢ byte = λ e. some (ap (λ n. get_or before n Invalid) e ∙ free.0) in
    ap (λ l. get_or l other Invalid) free.1 ∙ get_or-set_other before byte other m Invalid apart

written-length : (before after : List Character) (byte : ℕ) (m : Character)
    → IsWritten before byte m after → length after ≡ length before
written-length before after byte m (inl same) = ap length same.1
written-length before after byte m (inr free) = ap length free.1 ∙ length-set before byte m

written-there : (before after : List Character) (byte : ℕ) (m : Character)
    → byte < length before → IsWritten before byte m after → get_or after byte Invalid ≡ m
written-there before after byte m low (inl same) =
    ap (λ l. get_or l byte Invalid) same.1 ∙ same.0
written-there before after byte m low (inr free) =
    ap (λ l. get_or l byte Invalid) free.1 ∙ get_or-set_same before byte m Invalid low

written-passes : (test : Character → Bool) (before after : List Character) (byte : ℕ)
    (m : Character) → test m ≡ true → list_all test before ≡ true
    → IsWritten before byte m after → list_all test after ≡ true
written-passes test before after byte m passes all (inl same) = ap (list_all test) same.1 ∙ all
written-passes test before after byte m passes all (inr free) =
    ap (list_all test) free.1 ∙ list_all-set test before byte m passes all

-- What a translation that is not refused does.
record IsTranslated (before : List Character) (from to : ℕ) (after : List Character)
    : Type 0 where
  pub ascii : to < 128
  pub means : get_or before to Invalid ≢ Invalid
  pub is_defined : IsDefined before from (get_or before to Invalid) after

translated_by-ok : (past none : Bool) (r : Judged) (to : ℕ) (after : List Character)
    → (if past then Err NotAscii else if none then Err (Undefined to) else r) ≡ Ok after
    → (past ≡ false) × (none ≡ false) × (r ≡ Ok after)
translated_by-ok false false r to after h = (refl, refl, h)
translated_by-ok _ _ r to after h = cc

translated-ok : (before after : List Character) (from to : ℕ)
    → translated before from to ≡ Ok after → IsTranslated before from to after
translated-ok before after from to h =
    let had = get_or before to Invalid in
    let cases = translated_by-ok (nat_le 128 to) (is_same had Invalid) (defined before from had) to
    after h in
    let low : nat_le 128 to ≡ false = cases.0 in
    record {
      ascii = grind (arith, nat_tests);
      means = λ e. false≢true (sym cases.1 ∙ ap (λ m. is_same m Invalid) e);
      is_defined = defined-ok before after from had cases.2;
    }

-- What a judgement that is not refused does.
pub record IsStep (before : List Character) (j : Judgement) (after : List Character) : Type 0 where
  pub kept : AreKept before after
  pub long : length after ≡ length before
  pub held : length before ≡ 128 → IsHeld after j

pub judged-ok : (before after : List Character) (j : Judgement) → judged before j ≡ Ok after
    → IsStep before j after
judged-ok before after (Require holds refusal) h =
    let is = required-ok holds refusal before after h in
    record {
      kept = λ byte some. ap (λ l. get_or l byte Invalid) is.1;
      long = ap length is.1;
      held = λ long. is.0;
    }
judged-ok before after (Define byte m) h =
    let is = defined-ok before after byte m h in
    record {
      kept = written-kept before after byte m is.written;
      long = written-length before after byte m is.written;
      held = λ long. (
        is.ascii,
        λ some. written-there before after byte m (omega (arith, is.ascii, long)) is.written,
      );
    }
judged-ok before after (Translate from to) h =
    let is = translated-ok before after from to h in
    let m = get_or before to Invalid in
    let written = is.is_defined.written in
    let stays = written-kept before after from m written to is.means in
    record {
      kept = written-kept before after from m written;
      long = written-length before after from m written;
      held = λ long. (
        is.ascii,
        is.is_defined.ascii,
        (λ e. is.means (sym stays ∙ e)),
        written-there before after from m (omega (arith, is.is_defined.ascii, long)) written
            ∙ sym stays,
      );
    }

first-ok : (r : Judged) (js : List Judgement) (after : List Character)
    → meanings_after r js ≡ Ok after
    → (mid : List Character) × (r ≡ Ok mid) × (meanings_after (Ok mid) js ≡ Ok after)
first-ok (Ok mid) js after h = (mid, refl, h)
first-ok (Err refusal) js after h = cc

pub AreKept-join : (before mid after : List Character) → AreKept before mid → AreKept mid after
    → AreKept before after
AreKept-join before mid after first second byte some =
    let same = first byte some in
    second byte (λ e. some (sym same ∙ e)) ∙ same

IsHeld-kept : (mid after : List Character) (j : Judgement) → AreKept mid after → IsHeld mid j
    → IsHeld after j
IsHeld-kept mid after (Require holds refusal) kept h = h
IsHeld-kept mid after (Define byte m) kept h =
    (h.0, λ some. kept byte (λ e. some (sym (h.1 some) ∙ e)) ∙ h.1 some)
IsHeld-kept mid after (Translate from to) kept h =
    let same_to = kept to h.2 in
    let same_from = kept from (λ e. h.2 (sym h.3 ∙ e)) in
    (h.0, h.1, (λ e. h.2 (sym same_to ∙ e)), same_from ∙ h.3 ∙ sym same_to)

-- What judgements that are not refused do.
pub record AreSteps (before : List Character) (js : List Judgement) (after : List Character)
    : Type 0 where
  pub kept : AreKept before after
  pub long : length after ≡ length before
  pub held : length before ≡ 128 → AllByRecursion (IsHeld after) js

pub meanings_after-ok : (js : List Judgement) (before after : List Character)
    → meanings_after (Ok before) js ≡ Ok after → AreSteps before js after
meanings_after-ok [] before after h =
    let same = ok-same before after h in
    record {
      kept = λ byte some. ap (λ l. get_or l byte Invalid) same;
      long = ap length same;
      held = λ long. tt;
    }
meanings_after-ok (j ∷ js) before after h =
    let rest = first-ok (judged before j) js after h in
    let mid = rest.0 in
    let step = judged-ok before mid j rest.1 in
    let steps = meanings_after-ok js mid after rest.2 in
    record {
      kept = AreKept-join before mid after step.kept steps.kept;
      long = steps.long ∙ step.long;
      held = λ long.
          (IsHeld-kept mid after j steps.kept (step.held long), steps.held (step.long ∙ long));
    }

-- a judgement brings in only meanings that pass the test
abbrev pub Brings : (Character → Bool) → Judgement → Type 0
Brings test (Require holds refusal) = Unit {0}
Brings test (Define byte m) = test m ≡ true
Brings test (Translate from to) = Unit {0}

passes_or : (test : Character → Bool) (xs : List Character) (i : ℕ) → test Invalid ≡ true
    → list_all test xs ≡ true → test (get_or xs i Invalid) ≡ true
passes_or test xs i none all =
    ⊎_elim
    (λ (within : i < length xs). passes_at test xs i Invalid all within)
    (λ (past : length xs ≤ i). ap test (get_or_past xs i Invalid past) ∙ none)
    (cases_lt i (length xs))

judged-passes : (test : Character → Bool) (before after : List Character) (j : Judgement)
    → test Invalid ≡ true → Brings test j → list_all test before ≡ true
    → judged before j ≡ Ok after → list_all test after ≡ true
judged-passes test before after (Require holds refusal) none brings all h =
    ap (list_all test) (required-ok holds refusal before after h).1 ∙ all
judged-passes test before after (Define byte m) none brings all h =
    written-passes test before after byte m brings all (defined-ok before after byte m h).written
judged-passes test before after (Translate from to) none brings all h =
    let is = translated-ok before after from to h in
    written-passes test before after from (get_or before to Invalid)
    (passes_or test before to none all) all is.is_defined.written

pub meanings_after-pass : (test : Character → Bool) (js : List Judgement)
    (before after : List Character) → test Invalid ≡ true → AllByRecursion (Brings test) js
    → list_all test before ≡ true → meanings_after (Ok before) js ≡ Ok after
    → list_all test after ≡ true
meanings_after-pass test [] before after none brings all h =
    ap (list_all test) (ok-same before after h) ∙ all
meanings_after-pass test (j ∷ js) before after none brings all h =
    let rest = first-ok (judged before j) js after h in
    meanings_after-pass test js rest.0 after none brings.1
    (judged-passes test before rest.0 j none brings.0 all rest.1) rest.2

-- the symbols, in order of value
pub symbols-held : (meanings : List Character) (n : ℕ) (symbols : List ℕ)
    → AllByRecursion (IsHeld meanings) (symbol_judgements n symbols) → (i : ℕ)
    → i < length symbols
    → (get_or symbols i 0 < 128)
    × (get_or meanings (get_or symbols i 0) Invalid ≡ Symbol (n + i))
symbols-held meanings n [] held i h = absurd (omega (arith, h))
symbols-held meanings n (s ∷ symbols) held zero h =
    let is_some : Symbol n ≢ Invalid = λ e. cc in
    (held.0.0, held.0.1 is_some ∙ ap (λ v. Symbol v) (omega arith))
symbols-held meanings n (s ∷ symbols) held (suc i) h =
    let rest = symbols-held meanings (n + 1) symbols held.1 i (omega (arith, h)) in
    (rest.0, rest.1 ∙ ap (λ v. Symbol v) (omega arith))

pub symbols-bring : (test : Character → Bool) (n : ℕ) (symbols : List ℕ)
    → ((v : ℕ) → v < n + length symbols → test (Symbol v) ≡ true)
    → AllByRecursion (Brings test) (symbol_judgements n symbols)
symbols-bring test n [] h = tt
symbols-bring test n (s ∷ symbols) h = (
  h n (omega arith),
  symbols-bring test (n + 1) symbols (λ v less. h v (omega (arith, less))),
)
