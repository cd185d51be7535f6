-- The whole runs of a list, and what is left of it.
use Rattle.std.proofs.Common.{◌≡◌, ℕ, ◌+◌, ◌*◌, ◌/◌, ◌%◌, ◌<◌, List, [], ◌∷◌, ◌++◌, length, map, take, drop, sym, ap, ◌∙◌, arith, length-append, append_assoc, take-append-drop, length-take-le}
use Rattle.std.proofs.lemmas.List.{append-nil, drop_at, drop-map, length-drop, length-map, take-map}
use Rattle.std.proofs.Math.Nat.{add-mul, div-add-mod', div-eq_of_lt-le, div-mul-le_self, lt-div-mul-add, mul_comm, mul-mod_left, zero-mul}
use Rattle.std.specs.Simd.{first_chunks}
use Rattle.data_encoding_meaning.specs.text.Bits.{runs}
use Rattle.data_encoding_meaning.proofs.lists.RunLemmas.{first_chunks-append, run_count, runs-join, runs-map, runs-nil, runs-short}

abbrev pub whole_runs : {X : Type 0} → ℕ → List X → List (List X)
whole_runs size xs = first_chunks size (length xs / size) xs

abbrev pub left : {X : Type 0} → ℕ → List X → List X
left size xs = drop (length xs / size * size) xs

-- the prefix of whole runs
abbrev pub front_of : {X : Type 0} → ℕ → List X → List X
front_of size xs = take (length xs / size * size) xs

module _ {X : Type 0} (size : ℕ) (some : 0 < size) where
  front_len : (xs : List X) → length (front_of size xs) ≡ length xs / size * size
  front_len xs = length-take-le (length xs / size * size) xs (div-mul-le_self (length xs) size)

  pub left_len : (xs : List X) → length (left size xs) < size
  left_len xs =
      let over : length xs < length xs / size * size + size = lt-div-mul-add some in
      omega (arith, length-drop (length xs / size * size) xs, over, some)

  pub front_left : (xs : List X) → front_of size xs ++ left size xs ≡ xs
  front_left xs = take-append-drop (length xs / size * size) xs

  -- this many whole runs, and fewer than one more
  whole_runs-is : (count : ℕ) (front rest : List X) → length front ≡ count * size
      → length rest < size
      → (whole_runs size (front ++ rest) ≡ runs size front) × (left size (front ++ rest) ≡ rest)
  whole_runs-is count front rest whole short =
      let len = length-append front rest in
      let parts : length (front ++ rest) / size ≡ count =
      div-eq_of_lt-le {k = count} size {m = length (front ++ rest)} (omega (arith, len, whole))
      (omega (arith, len, whole, short)) in
      let runs_are : run_count size (length front) ≡ count =
      div-eq_of_lt-le {k = count} size (omega (arith, whole))
      (omega (arith, whole, some)) in (
        ap (λ n. first_chunks size n (front ++ rest)) parts
            ∙ first_chunks-append size count front rest
            (omega (arith, whole, mul_comm size count))
            ∙ ap (λ n. first_chunks size n front) (sym runs_are),
        ap (λ n. drop (n * size) (front ++ rest)) parts ∙ drop_at front rest (count * size) whole,
      )

  pub whole_runs-front : (xs : List X) → whole_runs size xs ≡ runs size (front_of size xs)
  whole_runs-front xs =
      ap (whole_runs size) (sym (front_left xs))
      ∙ (whole_runs-is (length xs / size) (front_of size xs) (left size xs) (front_len xs)
      (left_len xs)).0

  front_whole : (xs : List X) → length (front_of size xs) % size ≡ 0
  front_whole xs = ap (λ n. n % size) (front_len xs) ∙ mul-mod_left (length xs / size) size

  -- all runs are the whole ones and those of what is left
  pub runs-left : (xs : List X) → runs size xs ≡ whole_runs size xs ++ runs size (left size xs)
  runs-left xs =
      ap (runs size) (sym (front_left xs))
      ∙ runs-join size (front_of size xs) (left size xs) some (front_whole xs)
      ∙ ap (λ rs. rs ++ runs size (left size xs)) (sym (whole_runs-front xs))

  -- what follows is cut after what was left
  pub whole_runs-join : (xs ys : List X)
      → (whole_runs size (xs ++ ys) ≡ whole_runs size xs ++ whole_runs size (left size xs ++ ys))
      × (left size (xs ++ ys) ≡ left size (left size xs ++ ys))
  whole_runs-join xs ys =
      let front = front_of size xs in
      let rest = left size xs ++ ys in
      let count = length xs / size + length rest / size in
      let len : length (front ++ front_of size rest) ≡ count * size =
      length-append front (front_of size rest)
      ∙ (λ i. front_len xs i + front_len rest i)
      ∙ sym (add-mul (length xs / size) (length rest / size) size) in
      let parts : (front ++ front_of size rest) ++ left size rest ≡ xs ++ ys =
      append_assoc front (front_of size rest) (left size rest)
      ∙ ap (λ l. front ++ l) (front_left rest)
      ∙ sym (append_assoc front (left size xs) ys) ∙ ap (λ l. l ++ ys) (front_left xs) in
      let is = whole_runs-is count (front ++ front_of size rest) (left size rest) len
      (left_len rest) in (
        ap (whole_runs size) (sym parts) ∙ is.0
            ∙ runs-join size front (front_of size rest) some (front_whole xs)
            ∙ (λ i. sym (whole_runs-front xs) i ++ sym (whole_runs-front rest) i),
        ap (left size) (sym parts) ∙ is.1,
      )

  -- fewer than a run are left
  pub whole_runs-short : (xs : List X) → length xs < size
      → (whole_runs size xs ≡ []) × (left size xs ≡ xs)
  whole_runs-short xs short =
      let is = whole_runs-is 0 [] xs (sym (zero-mul size)) short in
      (is.0 ∙ runs-nil {X = X} size some, is.1)

  -- none are left of whole runs
  pub whole_runs-all : (xs : List X) → length xs % size ≡ 0
      → (whole_runs size xs ≡ runs size xs) × (left size xs ≡ [])
  whole_runs-all xs whole =
      let count = length xs / size in
      let len : length xs ≡ count * size =
      sym (div-add-mod' (length xs) size) ∙ ap (λ r. count * size + r) whole ∙ omega arith in
      let is = whole_runs-is count xs [] len some in (
        ap (whole_runs size) (sym (append-nil xs)) ∙ is.0,
        ap (left size) (sym (append-nil xs)) ∙ is.1,
      )

  -- nor of one
  pub whole_runs-one : (xs : List X) → length xs ≡ size
      → (whole_runs size xs ≡ xs ∷ []) × (left size xs ≡ [])
  whole_runs-one xs whole =
      let is = whole_runs-is 1 xs [] (omega (arith, whole)) some in (
        ap (whole_runs size) (sym (append-nil xs)) ∙ is.0
            ∙ runs-short size xs (omega (arith, whole, some)) (omega (arith, whole)),
        ap (left size) (sym (append-nil xs)) ∙ is.1,
      )

-- The whole runs of a list of other members, and what is left of it.
module _ {X Y : Type 0} (size : ℕ) (some : 0 < size) (f : X → Y) (xs : List X) where
  same_len : length (map f xs) / size * size ≡ length xs / size * size
  same_len = ap (λ n. n / size * size) (length-map xs f)

  pub whole_runs-map : whole_runs size (map f xs) ≡ map (map f) (whole_runs size xs)
  whole_runs-map =
      whole_runs-front size some (map f xs)
      ∙ ap (runs size) (ap (λ n. take n (map f xs)) same_len
      ∙ take-map f (length xs / size * size) xs)
      ∙ runs-map size f (front_of size xs) some
      ∙ ap (map (map f)) (sym (whole_runs-front size some xs))

  pub left-map : left size (map f xs) ≡ map f (left size xs)
  left-map = ap (λ n. drop n (map f xs)) same_len ∙ drop-map f (length xs / size * size) xs
