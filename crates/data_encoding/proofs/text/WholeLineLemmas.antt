-- What is made from a list in whole pieces, one after another, and from the rest.
use Rattle.std.proofs.Common.{◌≡◌, ℕ, zero, suc, ◌+◌, ◌-◌, ◌*◌, ◌%◌, ◌≤◌, List, ◌++◌, length, take, drop, sym, ap, ◌∙◌, arith, length-append, length-take-le, take-append-drop}
use Rattle.std.proofs.Math.Nat.{mul-mod_left, suc-mul, zero-mul}
use Rattle.std.proofs.Math.Seq.{take-add}
use Rattle.std.proofs.lemmas.List.{length-drop, take_rest}
use Rattle.std.proofs.lemmas.Slice.{take-put_mid}
use borrow.Rule.Slice.PartMut.{put_mid}
use Rattle.data_encoding_meaning.proofs.lists.PartLemmas.{one-more}
use Rattle.data_encoding_meaning.proofs.lists.PieceLemmas.{IsByPieces}
use Rattle.data_encoding_meaning.proofs.lists.WriteLemmas.{put_mid-end}

module _ {made : List ℕ → List ℕ} {size made_len : ℕ} (pieces : IsByPieces made size made_len)
    (input : List ℕ) where
  made-next : (start count : ℕ) → start % size ≡ 0 → start ≤ length input
      → made (take (start + count) input)
      ≡ made (take start input) ++ made (take count (drop start input))
  made-next start count whole within =
      ap made (take-add start count input)
      ∙ pieces.join (take start input) (take count (drop start input))
      (ap (λ n. n % size) (length-take-le start input within) ∙ whole)

  length-made : (n : ℕ) → n * size ≤ length input
      → length (made (take (n * size) input)) ≡ n * made_len
  length-made zero within =
      ap (λ n. length (made (take n input))) (zero-mul size)
      ∙ ap length pieces.nil ∙ sym (zero-mul made_len)
  length-made (suc n) within =
      let start = n * size in
      let next : suc n * size ≡ start + size = suc-mul n size ∙ omega arith in
      let piece : length (take size (drop start input)) ≡ size =
      length-take-le size (drop start input)
      (omega (arith, length-drop start input, next, within)) in
      ap (λ n. length (made (take n input))) next
      ∙ ap length (made-next start size (mul-mod_left n size) (omega (arith, next, within)))
      ∙ length-append (made (take start input)) (made (take size (drop start input)))
      ∙ (λ k. length-made n (omega (arith, next, within)) k
      + pieces.whole (take size (drop start input)) piece k)
      ∙ sym (suc-mul n made_len ∙ omega arith)

  made-parts : (n : ℕ) → n * size ≤ length input
      → made input ≡ made (take (n * size) input) ++ made (drop (n * size) input)
  made-parts n within =
      ap made (sym (take-append-drop (n * size) input))
      ∙ pieces.join (take (n * size) input) (drop (n * size) input)
      (ap (λ m. m % size) (length-take-le (n * size) input within) ∙ mul-mod_left n size)

  pub length-parts : (n : ℕ) → n * size ≤ length input
      → length (made input) ≡ n * made_len + length (made (drop (n * size) input))
  length-parts n within =
      ap length (made-parts n within)
      ∙ length-append (made (take (n * size) input)) (made (drop (n * size) input))
      ∙ ap (λ m. m + length (made (drop (n * size) input))) (length-made n within)

  pub lines-none : (output : List ℕ)
      → take (0 * made_len) output ≡ made (take (0 * size) input)
  lines-none output =
      ap (λ n. take n output) (zero-mul made_len) ∙ sym pieces.nil
      ∙ sym (ap (λ n. made (take n input)) (zero-mul size))

  pub line-fits : (n : ℕ) → n * size + size ≤ length input
      → n * made_len + made_len ≤ length (made input)
  line-fits n within =
      let next : (n + 1) * size ≤ length input = omega (arith, within, one-more n size) in
      omega (arith, length-parts (n + 1) next, one-more n made_len)

  module _ (output shown : List ℕ) (n : ℕ)
      (so_far : take (n * made_len) output ≡ made (take (n * size) input)) where
    pub line-next : n * size + size ≤ length input → n * made_len + made_len ≤ length output
        → shown ≡ made (take size (drop (n * size) input))
        → take ((n + 1) * made_len)
        (put_mid (n * made_len) (n * made_len + made_len - n * made_len) output shown)
        ≡ made (take ((n + 1) * size) input)
    line-next within room is_made =
        let start = n * size in
        let piece : length (take size (drop start input)) ≡ size =
        length-take-le size (drop start input)
        (omega (arith, length-drop start input, within)) in
        let long : length shown ≡ made_len =
        ap length is_made ∙ pieces.whole (take size (drop start input)) piece in
        take-put_mid (n * made_len) (n * made_len + made_len - n * made_len) output shown
        ((n + 1) * made_len) (omega (arith, one-more n made_len, long)) (omega (arith, room))
        ∙ (λ k. so_far k ++ is_made k)
        ∙ sym (ap (λ m. made (take m input)) (one-more n size)
        ∙ made-next start size (mul-mod_left n size) (omega (arith, within)))

    pub lines-rest : n * size ≤ length input
        → shown ≡ made (take (length input - n * size) (drop (n * size) input))
        → put_mid (n * made_len) (length output - n * made_len) output shown ≡ made input
    lines-rest within is_made =
        put_mid-end (n * made_len) output shown
        ∙ (λ k. so_far k ++ (is_made ∙ ap made (take_rest input (n * size))) k)
        ∙ sym (made-parts n within)
