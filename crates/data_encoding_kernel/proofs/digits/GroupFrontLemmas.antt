-- The symbols at the start of a group, joined to bytes by one word.
use Rattle.std.proofs.Common.{◌≡◌, ℕ, ◌+◌, ◌-◌, ◌*◌, ◌/◌, ◌<◌, ◌≤◌, ◌==◌, not, List, ◌++◌, append_assoc, length, length-append, length-take-le, map, take, drop, replicate, slice_index, refl, sym, ap, ◌∙◌, arith, flat_map}
use Rattle.std.proofs.lemmas.List.{get_or-take, length-map, length-replicate, map-append, replicate-append-replicate}
use Rattle.std.proofs.lemmas.Nat.{mul-le}
use Rattle.std.proofs.Math.Nat.{mul_comm}
use Rattle.std.specs.List.{filter_map, list_any, range_with_len}
use Rattle.std.specs.Simd.{first_chunks}
use Rattle.data_encoding_meaning.specs.declared.encoding.BitOrder.{BitOrder}
use Rattle.data_encoding_meaning.specs.text.Base.{Base, is_symbol, meaning, value_of}
use Rattle.data_encoding_meaning.specs.text.Bits.{bits_of, number_of}
use Rattle.data_encoding_meaning.specs.decoding.Fault.{symbol_bytes, trailing_bits}
use Rattle.data_encoding_meaning.proofs.decoding.GroupJudgementLemmas.{part_bytes}
use Rattle.data_encoding_meaning.proofs.digits.BitLemmas.{AreBits-flat_map, AreBits-bits_of}
use Rattle.data_encoding_meaning.proofs.grammar.UnpaddedGroupLemmas.{length-bits_of_values}
use Rattle.data_encoding_kernel.specs.Fronts.{IsFront}
use Rattle.data_encoding_kernel.specs.Joins.{joined_bytes, value_bits}
use Rattle.data_encoding_kernel.specs.Tables.{Reads}
use Rattle.data_encoding_kernel.specs.Words.{digit, word_of, zeros_to}
use Rattle.data_encoding_kernel.proofs.digits.JoinedFrontLemmas.{joined-next, joined-whole}
use Rattle.data_encoding_kernel.proofs.digits.JoinedLemmas.{chunks-join, zero_bytes}
use Rattle.data_encoding_kernel.proofs.digits.KernelLemmas.{bytes_by, values_in-table}
use Rattle.data_encoding_kernel.proofs.digits.WordLemmas.{digits-runs}

-- the bytes of the word of up to eight values, and zeros
pub word-joined : (order : BitOrder) (width : ℕ) (xs : List ℕ) → width ≤ 6 → length xs ≤ 8
    → map (digit order 8 width (word_of order width 8 xs)) (range_with_len 0 width)
    ++ replicate (16 - width) 0
    ≡ joined_bytes order width 16 xs
word-joined order width xs narrow few =
    let b = flat_map (bits_of order width) xs in
    let r = 16 - width in
    let len : length b ≡ width * length xs = length-bits_of_values order width xs in
    let most : width * length xs ≤ width * 8 =
    mul-le width (length xs) width 8 (omega arith) few in
    let front = zeros_to (8 * width) b in
    let front_len : length front ≡ 8 * width =
    simp (length-append, length-replicate) (omega (arith, len, most)) in
    let made : map (digit order 8 width (word_of order width 8 xs)) (range_with_len 0 width)
    ≡ map (number_of order) (first_chunks 8 width front) =
    ap (λ n. map (digit order 8 width (number_of order (zeros_to n b))) (range_with_len 0 width))
    (mul_comm width 8)
    ∙ digits-runs order 8 width width b
    (AreBits-flat_map (bits_of order width) xs (AreBits-bits_of order width))
    (omega (arith, len, most)) (omega arith) in
    let sum : width + r ≡ 16 = omega (arith, narrow) in
    let extra : 8 * width - length b + 8 * r ≡ 8 * 16 - length b =
    omega (arith, len, most, narrow) in
    let all : front ++ replicate (8 * r) 0 ≡ zeros_to (8 * 16) b =
    append_assoc b (replicate (8 * width - length b) 0) (replicate (8 * r) 0)
    ∙ ap (λ l. b ++ l)
    (replicate-append-replicate (8 * width - length b) (8 * r) 0
    ∙ ap (λ n. replicate n 0) extra) in
    (λ i. made i ++ sym (zero_bytes order r) i)
    ∙ sym (map-append (number_of order) (first_chunks 8 width front)
    (first_chunks 8 r (replicate (8 * r) 0)))
    ∙ ap (map (number_of order))
    (sym (chunks-join 8 width r front (replicate (8 * r) 0) front_len)
    ∙ (λ i. first_chunks 8 (sum i) (all i)))

-- the bits after the last whole byte
abbrev left_over : BitOrder → ℕ → List ℕ → List ℕ
left_over order width values =
    drop (length (value_bits order width values) / 8 * 8) (value_bits order width values)

-- joined bytes of the values of symbols
pub joined-group : (base : Base) (values : List ℕ) (width : ℕ) (order : BitOrder)
    → Reads base values width order → (group : List ℕ) (n : ℕ)
    → ((k : ℕ) → slice_index group k < 256) → n ≤ length group → n ≤ 16
    → ((k : ℕ) → k < n → slice_index values (slice_index group k) < 128)
    → (bytes : List ℕ)
    → bytes ≡ joined_bytes order width 16 (map (slice_index values) (take n group))
    → IsFront base group n bytes
joined-group base values width order reads group n fits within few low bytes made =
    let xs = map (slice_index values) (take n group) in
    let part_len : length (take n group) ≡ n = length-take-le n group within in
    let xs_len : length xs ≡ n = length-map (take n group) (slice_index values) ∙ part_len in
    let narrow : width ≤ 6 = omega (arith, reads.holds.is_width.few, reads.width_is) in
    let most : width * length xs ≤ 6 * 16 =
    mul-le width (length xs) 6 16 narrow (omega (arith, xs_len, few)) in
    let count : width * length xs / 8 ≡ base.width * n / 8 =
    (λ i. sym reads.width_is i * xs_len i / 8) in
    let found : filter_map value_of (map (meaning base) (take n group)) ≡ xs =
    values_in-table base values (take n group) reads.holds (part_bytes group fits n)
    (λ k h.
    let inside : k < n = omega (arith, h, part_len) in
    rw (get_or-take n group k 0 inside) (low k inside)) in
    record {
      are_symbols = λ k h. ap is_symbol (reads.holds.symbols (slice_index group k) (fits k)
          (low k h));
      whole = ap (λ m. take m bytes) (sym count) ∙ ap (take (width * length xs / 8)) made
          ∙ joined-whole order width 16 (width * length xs / 8) xs (omega (arith, most)) refl
          ∙ sym (λ i. bytes_by (reads.order_is i) (reads.width_is i) (found i));
      next = (λ i. list_any (λ bit. not (bit == 0))
          (left_over (reads.order_is i) (reads.width_is i) (found i)))
          ∙ joined-next order width 16 (width * length xs / 8) xs (omega (arith, most)) refl
          (omega (arith, most))
          ∙ (λ i. not (slice_index (sym made i) (count i) == 0));
    }

-- only the symbols matter
pub front-same : (base : Base) (text other : List ℕ) (n : ℕ) (bytes : List ℕ)
    → take n text ≡ take n other → IsFront base text n bytes → IsFront base other n bytes
front-same base text other n bytes same front = record {
  are_symbols = λ k h.
      ap (λ byte. is_symbol (meaning base byte))
      (sym (get_or-take n other k 0 h) ∙ ap (λ l. slice_index l k) (sym same)
      ∙ get_or-take n text k 0 h)
      ∙ front.are_symbols k h;
  whole = front.whole ∙ (λ i. symbol_bytes base (map (meaning base) (same i)));
  next = (λ i. list_any (λ bit. not (bit == 0))
      (trailing_bits base (map (meaning base) (sym same i)))) ∙ front.next;
}
