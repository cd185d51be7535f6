-- The symbols of data, in pieces.
use Rattle.std.proofs.Common.{◌≡◌, ℕ, ◌+◌, ◌-◌, ◌*◌, ◌/◌, ◌%◌, ◌<◌, ◌≤◌, List, [], ◌∷◌, ◌++◌, length, map, ap, ◌∙◌, arith, ⊎_elim, length-append, append_assoc}
use Rattle.std.proofs.lemmas.List.{length-map, map-append, append-nil, length-replicate, nil_from_length}
use Rattle.std.proofs.lemmas.List.Concat.{flat_map-append}
use Rattle.std.proofs.lemmas.Bool.{cases_lt}
use Rattle.std.proofs.lemmas.Nat.{div-add-mod', mod_below}
use Rattle.std.proofs.Math.Nat.{add-mod, mul_comm, mod-mod, mod-eq_of_lt, mod_self, div-eq_of_lt-le, div-eq_of_lt, zero-add}
use Rattle.std.specs.List.{AllByRecursion}
use Rattle.data_encoding_meaning.specs.declared.encoding.BitOrder.{BitOrder}
use Rattle.data_encoding_meaning.specs.text.Base.{Base, symbol}
use Rattle.data_encoding_meaning.specs.text.Bits.{number_of, bits_of_bytes, missing, runs}
use Rattle.data_encoding_meaning.specs.text.Text.{filled_with, plain_text}
use Rattle.data_encoding_meaning.proofs.grammar.UnpaddedGroupLemmas.{length-bits_of_bytes}
use Rattle.data_encoding_meaning.proofs.lists.RunLemmas.{run_count, run_count-whole, length-runs, runs-join}

missing-join : (size a b : ℕ) → 0 < size → a % size ≡ 0 → missing size (a + b) ≡ missing size b
missing-join size a b h e =
    let same : (a + b) % size ≡ b % size =
    rw (add-mod a b size, e, zero-add) (mod-mod b size) in
    rw same

pub missing-none : (size n : ℕ) → n % size ≡ 0 → missing size n ≡ 0
missing-none size n e = grind (arith, mod_self size)

pub missing-some : (size n : ℕ) → 0 < size → 0 < n % size → missing size n ≡ size - n % size
missing-some size n h e = mod-eq_of_lt (let below = mod_below n size h in omega arith)

-- with what is missing, a list is as long as its runs
pub filled_count : (size n : ℕ) → 0 < size → n + missing size n ≡ size * run_count size n
filled_count size n h =
    let whole = div-add-mod' n size in
    ⊎_elim
    (λ (some : 0 < n % size).
    let below = mod_below n size h in
    let count : run_count size n ≡ n / size + 1 =
    div-eq_of_lt-le {k = n / size + 1} size {m = n + (size - 1)} (omega arith) (omega arith) in
    omega (arith, missing-some size n h some, ap (λ k. size * k) count))
    (λ (none : n % size ≤ 0).
    let count : run_count size n ≡ n / size =
    div-eq_of_lt-le {k = n / size} size {m = n + (size - 1)} (omega arith) (omega arith) in
    omega (arith, missing-none size n (omega arith), ap (λ k. size * k) count))
    (cases_lt 0 (n % size))

-- so it has as many runs with it as without
pub run_count-missing : (size n : ℕ) → 0 < size
    → run_count size (n + missing size n) ≡ run_count size n
run_count-missing size n h =
    rw (filled_count size n h, mul_comm size (run_count size n))
    (run_count-whole size (run_count size n) h)

-- each run of bits as a symbol
abbrev pub text_by : Base → ℕ → BitOrder → List ℕ → List ℕ
text_by base width order bits =
    map (λ run. symbol base (number_of order run)) (runs width (filled_with 0 width bits))

pub filled-join : (filler size : ℕ) (xs ys : List ℕ) → 0 < size → length xs % size ≡ 0
    → filled_with filler size (xs ++ ys) ≡ xs ++ filled_with filler size ys
filled-join filler size xs ys h e =
    rw (length-append xs ys, missing-join size (length xs) (length ys) h e, append_assoc)

pub filled-whole : (filler size : ℕ) (xs : List ℕ) → length xs % size ≡ 0
    → filled_with filler size xs ≡ xs
filled-whole filler size xs e = rw (missing-none size (length xs) e) (append-nil xs)

-- data of whole symbols, and then other data
pub plain_text-join : (base : Base) (bytes others : List ℕ) → 0 < base.width
    → 8 * length bytes % base.width ≡ 0
    → plain_text base (bytes ++ others) ≡ plain_text base bytes ++ plain_text base others
plain_text-join base bytes others h e =
    let bits = bits_of_bytes base.order bytes in
    let more = bits_of_bytes base.order others in
    let whole : length bits % base.width ≡ 0 = rw (length-bits_of_bytes base.order bytes) e in
    rw (flat_map-append, filled-join 0 base.width bits more h whole)
    (rw (runs-join base.width bits (filled_with 0 base.width more) h whole, map-append)
    (rw (filled-whole 0 base.width bits whole)))

pub length-plain_text : (base : Base) (bytes : List ℕ) → 0 < base.width
    → length (plain_text base bytes) ≡ run_count base.width (8 * length bytes)
length-plain_text base bytes h =
    rw (length-map, length-runs)
    (simp (length-append, length-replicate, length-bits_of_bytes)
    (run_count-missing base.width (8 * length bytes) h))

pub plain_text-nil : (base : Base) → 0 < base.width → plain_text base [] ≡ []
plain_text-nil base h =
    nil_from_length (plain_text base [])
    (length-plain_text base [] h ∙ div-eq_of_lt (omega (arith, h)))

module _ (base : Base) (ascii : (value : ℕ) → symbol base value < 128) where
  shown_ascii : (runs_of : List (List ℕ)) → AllByRecursion (λ byte. byte < 128)
      (map (λ run. symbol base (number_of base.order run)) runs_of)
  shown_ascii [] = tt
  shown_ascii (run ∷ others) = (ascii (number_of base.order run), shown_ascii others)

  -- a text of ASCII symbols is ASCII
  pub ascii-plain_text : (bytes : List ℕ)
      → AllByRecursion (λ byte. byte < 128) (plain_text base bytes)
  ascii-plain_text bytes =
      shown_ascii (runs base.width (filled_with 0 base.width (bits_of_bytes base.order bytes)))
