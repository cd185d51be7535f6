-- Lemmas on the contents of a writer.
use Rattle.std.proofs.Common.{◌≡◌, ℕ, ◌+◌, ◌-◌, List, ◌++◌, Option, length, take, drop, min, subst, sym, ◌∙◌, arith, take_all}
use Rattle.std.proofs.lemmas.List.{take-append-drop, take-append-le, take-take, take_min, drop-take, take_rest}
use Rattle.std.proofs.Math.Seq.{take-append-add}
use Rattle.std.specs.Io.KnownBytes.{Appends}
use Rattle.std.proofs.KnownBytes.{Appends-nil, Appends-trans}
use Rattle.encoding_stream.specs.Watch.{AppendsFront}

take-more : (i n : ℕ) (s : List ℕ) → take i s ++ take n (drop i s) ≡ take (i + n) s
take-more i n s =
    let front : take i (take (i + n) s) ≡ take i s = take-take i (i + n) s (omega arith) in
    rw (← front, ← drop-take i n s) (take-append-drop i (take (i + n) s))

-- the first i bytes were written, followed by n of what follows them
pub Appends-more : (a b c : Option (List ℕ)) (i n : ℕ) (s : List ℕ) → Appends a b (take i s)
    → Appends b c (take n (take (length s - i) (drop i s))) → Appends a c (take (i + n) s)
Appends-more a b c i n s begun more =
    subst (Appends a c) (take-more i n s) (Appends-trans a b c _ _ begun (rw take_rest at more))

-- bytes were written, followed by a prefix of what follows them
pub AppendsFront-more : (a b c : Option (List ℕ)) (front rest : List ℕ) → Appends a b front
    → AppendsFront b c rest → AppendsFront a c (front ++ rest)
AppendsFront-more a b c front rest begun more = (
  length front + more.0,
  subst (Appends a c) (sym (take-append-add front rest more.0))
      (Appends-trans a b c front (take more.0 rest) begun more.1),
)

-- nothing is a prefix
pub AppendsFront-nothing : (a : Option (List ℕ)) (bytes : List ℕ) → AppendsFront a a bytes
AppendsFront-nothing a bytes = (0, Appends-nil a)

-- all is a prefix
pub AppendsFront-all : (a b : Option (List ℕ)) (bytes : List ℕ) → Appends a b bytes
    → AppendsFront a b bytes
AppendsFront-all a b bytes written = (
  length bytes,
  subst (Appends a b) (sym (take_all (length bytes) bytes (omega arith))) written,
)

-- a prefix of a prefix is one of the whole
pub AppendsFront-within : (a b : Option (List ℕ)) (front rest : List ℕ) → AppendsFront a b front
    → AppendsFront a b (front ++ rest)
AppendsFront-within a b front rest begun = (
  min begun.0 (length front),
  subst (Appends a b)
      (sym (take-append-le (min begun.0 (length front)) front rest (omega arith)
      ∙ take_min begun.0 front)) begun.1,
)
