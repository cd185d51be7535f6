-- Lemmas on a buffer that is read into.
use Rattle.std.proofs.Common.{◌≡◌, ℕ, ◌+◌, ◌-◌, ◌≤◌, List, ◌++◌, Option, length, take, ap, ◌∙◌, subst, sym}
use Rattle.std.proofs.lemmas.List.{take-append-le, length-take-le}
use Rattle.std.proofs.Math.Seq.{take-append-add}
use Rattle.std.proofs.KnownBytes.{Consumes-trans}
use Rattle.std.specs.Io.KnownBytes.{Consumes}
use borrow.Rule.Slice.PartMut.{put_mid, post_of}

-- after a read into a buffer from index i on: what was there before, and what was read
pub take-read : (a b c : Option (List ℕ)) (i n count : ℕ) (buffer part : List ℕ) → i + n ≡ count
    → i ≤ length buffer → n ≤ length part
    → Consumes a b (take i buffer) → Consumes b c (take n part)
    → Consumes a c (take count (put_mid i (length buffer - i) buffer part))
take-read a b c i n count buffer part all inside few before read =
    let front = take i buffer in
    let rest = part ++ post_of i (length buffer - i) buffer in
    let at : length front ≡ i = length-take-le i buffer inside in
    let step : take (length front + n) (front ++ rest) ≡ front ++ take n rest =
    take-append-add front rest n in
    subst (Consumes a c)
    (sym
    (subst (λ (k : ℕ). take k (front ++ rest) ≡ front ++ take n rest)
    (ap (λ k. k + n) at ∙ all) step
    ∙ ap (λ l. front ++ l)
    (take-append-le n part (post_of i (length buffer - i) buffer) few)))
    (Consumes-trans a b c front (take n part) before read)
