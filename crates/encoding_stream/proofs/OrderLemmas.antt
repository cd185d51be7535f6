-- Positions in a text: they ascend, and faults have one of them.
use Rattle.std.proofs.Common.{◌≡◌, ℕ, zero, suc, ◌+◌, ◌<◌, ◌≤◌, Bool, true, false, cond, not, List, [], ◌∷◌, length, map, take, drop, All, Option, None, Some, IfSome, slice_index, get_or, set, refl, sym, subst, ◌∙◌, arith, length-take-le}
use Rattle.std.proofs.lemmas.List.{take_more_set}
use Rattle.std.proofs.lemmas.List.Elements.{All-cons, All-drop, All-filter, All-head, All-nil, All-push, All-same, All-tail, All-take, All-weaker, Contains-get_or}
use Rattle.std.proofs.Math.Nat.{div-eq_of_lt}
use Rattle.std.specs.List.{filter, Contains}
use Rattle.std.specs.Simd.{first_chunks}
use Rattle.data_encoding.specs.declared.error.DecodeError.{DecodeError}
use Rattle.data_encoding.specs.Base.{Base, IsWidth, group_symbols, is_ignored, meaning}
use Rattle.data_encoding.specs.Fault.{fault_after, first_after, first_fault, group_fault, located, or_else, position_of}
use Rattle.data_encoding.specs.Grammar.{Positioned, bytes_in, is_final, kept, positioned_from}
use Rattle.data_encoding.specs.Pieces.{unfinished, whole_groups}
use Rattle.encoding_stream.specs.Resume.{Ascend}
use Rattle.encoding_stream.proofs.SizeLemmas.{symbols-some}

-- Positions that ascend.

ascend-weaker : (start next end : ℕ) (ps : List ℕ) → start ≤ next → Ascend next end ps
    → Ascend start end ps
ascend-weaker start next end [] few h = tt
ascend-weaker start next end (p ∷ ps) few h = (omega (arith, few, h.0), h.1, h.2)

pub ascend-below : (start end : ℕ) (ps : List ℕ) → Ascend start end ps → All (λ p. p < end) ps
ascend-below start end [] h = All-nil _
ascend-below start end (p ∷ ps) h =
    All-cons (λ (q : ℕ). q < end) p ps h.1 (ascend-below (p + 1) end ps h.2)

-- The positions of what is kept of a text ascend.

drop-ascends : (n start end : ℕ) (ks : List Positioned)
    → Ascend start end (map (λ k. k.position) ks)
    → Ascend start end (map (λ k. k.position) (drop n ks))
drop-ascends zero start end ks h = h
drop-ascends (suc n) start end [] h = tt
drop-ascends (suc n) start end (k ∷ ks) h =
    ascend-weaker start (k.position + 1) end _ (omega (arith, h.0))
    (drop-ascends n (k.position + 1) end ks h.2)

pick-ascends : (pass : Bool) (p byte end : ℕ) (ks : List Positioned) → p < end
    → Ascend (p + 1) end (map (λ k. k.position) ks)
    → Ascend p end
    (map (λ k. k.position) (cond pass (record { position = p; byte = byte } ∷ ks) ks))
pick-ascends true p byte end ks inside h = (omega arith, inside, h)
pick-ascends false p byte end ks inside h = ascend-weaker p (p + 1) end _ (omega arith) h

filter-ascends : (passes : Positioned → Bool) (start end : ℕ) (text : List ℕ)
    → start + length text ≤ end
    → Ascend start end (map (λ k. k.position) (filter passes (positioned_from start text)))
filter-ascends passes start end [] few = tt
filter-ascends passes start end (byte ∷ text) few =
    pick-ascends (passes (record { position = start; byte = byte })) start byte end
    (filter passes (positioned_from (start + 1) text)) (omega (arith, few))
    (filter-ascends passes (start + 1) end text (omega (arith, few)))

pub unfinished-ascends : (base : Base) (text : List ℕ)
    → Ascend 0 (length text) (map (λ k. k.position) (unfinished base text))
unfinished-ascends base text =
    drop-ascends _ 0 (length text) (kept base text)
    (filter-ascends _ 0 (length text) text (omega arith))

-- A fault of a whole group is in the text.

abbrev IsBelow : ℕ → Positioned → Type 0
IsBelow end k = k.position < end

positioned-below : (start end : ℕ) (text : List ℕ) → start + length text ≤ end
    → All (IsBelow end) (positioned_from start text)
positioned-below start end [] few = All-nil _
positioned-below start end (byte ∷ text) few =
    All-cons (IsBelow end) (record { position = start; byte = byte })
    (positioned_from (start + 1) text) (omega (arith, few))
    (positioned-below (start + 1) end text (omega (arith, few)))

position-below : (end : ℕ) (group : List Positioned) (index : ℕ) → 0 < end
    → All (IsBelow end) group → position_of group index < end
position-below end [] index some below = some
position-below end (k ∷ ks) zero some below = All-head (IsBelow end) k ks below
position-below end (k ∷ ks) (suc index) some below =
    position-below end ks index some (All-tail (IsBelow end) k ks below)

abbrev LiesBelow : ℕ → DecodeError → Type 0
LiesBelow end error = error.position < end

fault-below : (end : ℕ) (base : Base) (ended : Bool) (group : List Positioned) → 0 < end
    → All (IsBelow end) group → IfSome (fault_after ended base group) (LiesBelow end)
fault-below end base true group some below = position-below end group 0 some below
fault-below end base false group some below = by (group_fault base (bytes_in group)) where
  by : (o : _) → IfSome (located group o) (LiesBelow end)
  by None = tt
  by (Some fault) = position-below end group fault.index some below

either-below : (end : ℕ) (o other : Option DecodeError) → IfSome o (LiesBelow end)
    → IfSome other (LiesBelow end) → IfSome (or_else o other) (LiesBelow end)
either-below end None other h k = k
either-below end (Some error) other h k = h

first-below : (end : ℕ) (base : Base) (ended : Bool) (parts : List (List Positioned)) → 0 < end
    → All (All (IsBelow end)) parts → IfSome (first_after ended base parts) (LiesBelow end)
first-below end base ended [] some below = tt
first-below end base ended (group ∷ others) some below =
    either-below end (fault_after ended base group)
    (first_after (is_final base group) base others)
    (fault-below end base ended group some
    (All-head (All (IsBelow end)) group others below))
    (first-below end base (is_final base group) others some
    (All-tail (All (IsBelow end)) group others below))

chunks-below : (end size count : ℕ) (ks : List Positioned) → All (IsBelow end) ks
    → All (All (IsBelow end)) (first_chunks size count ks)
chunks-below end size zero ks below = All-nil _
chunks-below end size (suc count) ks below =
    All-cons (All (IsBelow end)) (take size ks) (first_chunks size count (drop size ks))
    (All-take (IsBelow end) size ks below)
    (chunks-below end size count (drop size ks) (All-drop (IsBelow end) size ks below))

pub first-inside : (base : Base) → IsWidth base.width → (text : List ℕ)
    → IfSome (first_fault base (whole_groups base text)) (λ error. error.position < length text)
first-inside base width [] =
    subst
    (λ n. IfSome (first_fault base (first_chunks (group_symbols base.width) n [])) (LiesBelow 0))
    (sym (div-eq_of_lt (symbols-some base.width width))) tt
first-inside base width (byte ∷ text) =
    let all = byte ∷ text in
    first-below (length all) base false (whole_groups base all) (omega arith)
    (chunks-below (length all) (group_symbols base.width) _ (kept base all)
    (All-filter (λ (k : Positioned). not (is_ignored (meaning base k.byte)))
    (IsBelow (length all)) (positioned_from 0 all)
    (positioned-below 0 (length all) all (omega arith))))

-- The positions of the bytes held.

take-at : (n i : ℕ) (ps : List ℕ) → i < n → n ≤ length ps
    → get_or (take n ps) i 0 ≡ get_or ps i 0
take-at zero i ps inside h = absurd (omega (arith, inside))
take-at (suc n) i [] inside h = absurd (omega (arith, h))
take-at (suc n) zero (p ∷ ps) inside h = refl
take-at (suc n) (suc i) (p ∷ ps) inside h =
    take-at n i ps (omega (arith, inside)) (omega (arith, h))

-- one of them
pub is-held : (n i : ℕ) (ps : List ℕ) (p : ℕ) → p ≡ slice_index ps i → i < n → n ≤ length ps
    → Contains (take n ps) p
is-held n i ps p is inside h =
    let size = length-take-le n ps h in
    subst (Contains (take n ps)) (take-at n i ps inside h ∙ sym is)
    (Contains-get_or (take n ps) i 0 (omega (arith, size, inside)))

-- one more, at the end of the text
pub inside-more : (n len : ℕ) (ps : List ℕ) → n < length ps → All (λ p. p < len) (take n ps)
    → All (λ p. p < len + 1) (take (n + 1) (set ps n len))
inside-more n len ps h below =
    let P : ℕ → Type 0 = λ p. p < len + 1 in
    All-same P _ _ (take_more_set ps n len h)
    (All-push P (take n ps) len
    (All-weaker (λ p. p < len) P (λ p k. omega (arith, k)) (take n ps) below) (omega arith))
