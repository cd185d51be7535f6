-- What is made from a list piece by piece: the positions at which each is read and written, and
-- what is written so far.
use Rattle.std.proofs.Common.{◌≡◌, ℕ, zero, suc, ◌+◌, ◌-◌, ◌*◌, ◌%◌, ◌<◌, ◌≤◌, min, List, [], ◌++◌, length, take, drop, sym, ap, ◌∙◌, subst, arith, ⊎_elim, length-append, length-take-le, take-append-drop}
use Rattle.std.proofs.Math.Nat.{mod_self, mul-mod_left, suc-mul, zero-mul}
use Rattle.std.proofs.Math.Seq.{take-add}
use Rattle.std.proofs.lemmas.Bool.{cases_lt}
use Rattle.std.proofs.lemmas.List.{length-drop, length-take, take_all}
use Rattle.std.proofs.lemmas.Slice.{take-put_mid}
use borrow.Rule.Slice.PartMut.{put_mid, same_len_mid}
use Rattle.std.specs.Int.{div_ceil}
use Rattle.data_encoding_meaning.proofs.lists.PartLemmas.{one-more}
use Rattle.data_encoding_meaning.proofs.lists.RunLemmas.{div_ceil-runs, run_count, run-before, runs-reach}

-- From a whole piece this much is made, and from a shorter one no more, whatever is next to it.
pub record IsByPieces (made : List ℕ → List ℕ) (size made_len : ℕ) : Type 0 where
  pub some : 0 < size
  pub nil : made [] ≡ []
  pub join : (xs ys : List ℕ) → length xs % size ≡ 0 → made (xs ++ ys) ≡ made xs ++ made ys
  pub whole : (xs : List ℕ) → length xs ≡ size → length (made xs) ≡ made_len
  pub short : (xs : List ℕ) → 0 < length xs → length xs ≤ size → length (made xs) ≤ made_len

-- what is made of the first i pieces is written
pub record WritesPieces (made : List ℕ → List ℕ) (size made_len : ℕ) (input output : List ℕ) (i : ℕ)
    : Type 0 where
  pub pieces : IsByPieces made size made_len
  exact : length output ≡ length (made input)
  written : take (length (made (take (i * size) input))) output ≡ made (take (i * size) input)

pub written-first : {made : List ℕ → List ℕ} {size made_len : ℕ} {input output : List ℕ}
    → IsByPieces made size made_len → length output ≡ length (made input)
    → WritesPieces made size made_len input output 0
written-first {made} {size} {made_len} {input} {output} pieces exact =
    let none : made (take (0 * size) input) ≡ [] =
    ap (λ n. made (take n input)) (zero-mul size) ∙ pieces.nil in
    record {
      pieces = pieces;
      exact = exact;
      written = ap (λ l. take (length l) output) none ∙ sym none;
    }

-- piece by piece
module _ {made : List ℕ → List ℕ} {size made_len : ℕ} {input output : List ℕ} {i : ℕ}
    (so_far : WritesPieces made size made_len input output i) where
  size-some : 0 < size
  size-some = so_far.pieces.some

  made-next : (start count : ℕ) → start % size ≡ 0 → start ≤ length input
      → made (take (start + count) input)
      ≡ made (take start input) ++ made (take count (drop start input))
  made-next start count whole within =
      ap made (take-add start count input)
      ∙ so_far.pieces.join (take start input) (take count (drop start input))
      (ap (λ n. n % size) (length-take-le start input within) ∙ whole)

  length-front : (n : ℕ) → n * size ≤ length input
      → length (made (take (n * size) input)) ≡ n * made_len
  length-front zero within =
      ap (λ n. length (made (take n input))) (zero-mul size)
      ∙ ap length so_far.pieces.nil ∙ sym (zero-mul made_len)
  length-front (suc n) within =
      let start = n * size in
      let next : suc n * size ≡ start + size = suc-mul n size ∙ omega arith in
      let piece : length (take size (drop start input)) ≡ size =
      length-take-le size (drop start input)
      (omega (arith, length-drop start input, next, within)) in
      ap (λ n. length (made (take n input))) next
      ∙ ap length (made-next start size (mul-mod_left n size) (omega (arith, next, within)))
      ∙ length-append (made (take start input)) (made (take size (drop start input)))
      ∙ (λ k. length-front n (omega (arith, next, within)) k
      + so_far.pieces.whole (take size (drop start input)) piece k)
      ∙ sym (suc-mul n made_len ∙ omega arith)

  -- a piece in progress
  module _ {count : ℕ} (counted : count ≡ div_ceil (length input) size) (below : i < count) where
    pub before : i * size < length input
    before =
        run-before size (length input) i size-some
        (subst (λ n. i < n) (counted ∙ div_ceil-runs size (length input) size-some) below)

    abbrev rest : List ℕ
    rest = drop (i * size) input

    length-rest : length rest ≡ length input - i * size
    length-rest = length-drop (i * size) input

    length-all : length (made input) ≡ i * made_len + length (made rest)
    length-all =
        let start = i * size in
        ap (λ l. length (made l)) (sym (take-append-drop start input))
        ∙ ap length
        (so_far.pieces.join (take start input) rest
        (ap (λ n. n % size) (length-take-le start input (omega (arith, before)))
        ∙ mul-mod_left i size))
        ∙ length-append (made (take start input)) (made rest)
        ∙ ap (λ n. n + length (made rest)) (length-front i (omega (arith, before)))

    -- the position at which the result of this piece begins
    pub piece-begins : i * made_len ≤ length (made input)
    piece-begins = omega (arith, length-all)

    -- by the end that the loop computes, this piece
    module _ {read_end : ℕ} (read_is : read_end ≡ min (length input) (i * size + size)) where
      abbrev piece : List ℕ
      piece = take (read_end - i * size) rest

      length-piece : length piece ≡ min size (length rest)
      length-piece =
          length-take (read_end - i * size) rest
          ∙ omega (arith, length-rest, before, read_is)

      pub piece-some : 0 < length piece
      piece-some = omega (arith, length-piece, length-rest, before, size-some)

      pub piece-few : length piece ≤ size
      piece-few = omega (arith, length-piece)

      piece-is : piece ≡ take size rest
      piece-is =
          ⊎_elim
          (λ (short : length rest < size).
          take_all (read_end - i * size) rest (omega (arith, length-rest, read_is, short))
          ∙ sym (take_all size rest (omega (arith, short))))
          (λ (long : size ≤ length rest).
          ap (λ n. take n rest) (omega (arith, length-rest, read_is, long, before)))
          (cases_lt (length rest) size)

      piece-ends : min (length (made input)) (i * made_len + made_len)
          ≡ i * made_len + length (made piece)
      piece-ends =
          ⊎_elim
          (λ (short : length rest < size).
          let all : piece ≡ rest = piece-is ∙ take_all size rest (omega (arith, short)) in
          omega (
            arith,
            length-all,
            ap (λ l. length (made l)) all,
            so_far.pieces.short piece piece-some piece-few,
          ))
          (λ (long : size ≤ length rest).
          let whole : length piece ≡ size = omega (arith, length-piece, long) in
          let parts : length (made rest)
          ≡ length (made piece) + length (made (drop size rest)) =
          ap (λ l. length (made l))
          (sym (ap (λ l. l ++ drop size rest) piece-is ∙ take-append-drop size rest))
          ∙ ap length
          (so_far.pieces.join piece (drop size rest)
          (ap (λ n. n % size) whole ∙ mod_self size))
          ∙ length-append (made piece) (made (drop size rest)) in
          omega (arith, length-all, parts, so_far.pieces.whole piece whole))
          (cases_lt (length rest) size)

      module _ {written_end : ℕ}
          (written_is : written_end ≡ min (length output) (i * made_len + made_len)) where
        written_end-is : written_end ≡ i * made_len + length (made piece)
        written_end-is =
            written_is ∙ ap (λ n. min n (i * made_len + made_len)) so_far.exact ∙ piece-ends

        pub part-begins : i * made_len ≤ written_end
        part-begins = omega (arith, written_end-is)

        abbrev from_piece : List ℕ
        from_piece = drop (i * made_len) output

        pub length-part : length (take (written_end - i * made_len) from_piece)
            ≡ length (made piece)
        length-part =
            length-take-le (written_end - i * made_len) from_piece
            (omega (arith, written_is, length-drop (i * made_len) output))
            ∙ omega (arith, written_end-is)

        -- after pieces that are written, one more
        pub piece-next : {shown : List ℕ} → shown ≡ made piece
            → WritesPieces made size made_len input
            (put_mid (i * made_len) (written_end - i * made_len) output shown) (i + 1)
        piece-next {shown} is_made =
            let part = written_end - i * made_len in
            let front = made (take (i * size) input) in
            let front_len : length front ≡ i * made_len = length-front i (omega (arith, before)) in
            let next : made (take ((i + 1) * size) input) ≡ front ++ made piece =
            ap (λ n. made (take n input)) (one-more i size)
            ∙ made-next (i * size) size (mul-mod_left i size) (omega (arith, before))
            ∙ ap (λ l. front ++ made l) (sym piece-is) in
            let next_len : length (made (take ((i + 1) * size) input))
            ≡ i * made_len + length shown =
            ap length next ∙ length-append front (made piece)
            ∙ (λ k. front_len k + length (sym is_made k)) in
            record {
              pieces = so_far.pieces;
              exact =
                  same_len_mid (i * made_len) part output shown
                  (ap length is_made ∙ sym length-part) ∙ so_far.exact;
              written =
                  take-put_mid (i * made_len) part output shown _ next_len
                  (omega (arith, so_far.exact, piece-begins))
                  ∙ ap (λ n. take n output ++ shown) (sym front_len)
                  ∙ (λ k. so_far.written k ++ is_made k) ∙ sym next;
            }

  -- and if nothing is left, all is written
  pub piece-last : i ≡ div_ceil (length input) size → output ≡ made input
  piece-last at_end =
      let reach = runs-reach size (length input) size-some in
      let all : take (i * size) input ≡ input =
      ap (λ n. take (n * size) input)
      (at_end ∙ div_ceil-runs size (length input) size-some)
      ∙ take_all (run_count size (length input) * size) input reach in
      sym (take_all (length (made input)) output (omega (arith, so_far.exact)))
      ∙ subst (λ l. take (length (made l)) output ≡ made l) all so_far.written
