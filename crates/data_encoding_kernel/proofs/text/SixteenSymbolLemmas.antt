-- The text of data of at most sixteen symbols.
use Rattle.std.proofs.Common.{◌≡◌, ℕ, zero, suc, ◌+◌, ◌-◌, ◌*◌, ◌/◌, ◌%◌, ◌<◌, ◌≤◌, List, ◌∷◌, ◌++◌, length, map, take, drop, replicate, refl, sym, ap, ◌∙◌, subst, arith, length-append}
use Rattle.std.proofs.lemmas.List.{length-map, length-replicate, replicate-append-replicate, take-map, take-take}
use Rattle.std.proofs.lemmas.List.Concat.{flat_map-append}
use Rattle.std.proofs.lemmas.List.Folds.{flat_map-map}
use Rattle.std.proofs.lemmas.List.FromFn.{length-range_with_len}
use Rattle.std.proofs.Math.Nat.{mul-le-mul_left, mul-le-mul_right, mul-mod_right, mul_comm}
use Rattle.std.proofs.Math.Seq.{take-append-add, take-append_seam}
use Rattle.std.specs.Prelude.{flat_map}
use Rattle.std.specs.List.{range_with_len}
use Rattle.std.specs.Simd.{first_chunks}
use Rattle.data_encoding_meaning.specs.declared.encoding.BitOrder.{BitOrder}
use Rattle.data_encoding_meaning.specs.declared.encoding.BitOrder.TheVariants.{MostSignificantFirst, LeastSignificantFirst}
use Rattle.data_encoding_meaning.specs.text.Base.{Base, symbol, IsGroup, group_bytes, group_symbols}
use Rattle.data_encoding_meaning.specs.text.Bits.{bits_of, number_of, bits_of_bytes, missing, runs}
use Rattle.data_encoding_meaning.specs.text.Text.{filled_with, plain_text}
use Rattle.data_encoding_meaning.proofs.digits.WidthLemmas.{by_width}
use Rattle.data_encoding_meaning.proofs.grammar.UnpaddedGroupLemmas.{length-bits_of_bytes}
use Rattle.data_encoding_meaning.proofs.lists.RunLemmas.{run_count, run_count-few, run_count-whole}
use Rattle.data_encoding_meaning.proofs.text.PlainTextLemmas.{filled_count, filled-whole, run_count-missing}
use Rattle.data_encoding_kernel.specs.Lanes.{digits_of, group_word, group_words}
use Rattle.data_encoding_kernel.specs.Words.{digit}
use Rattle.data_encoding_kernel.proofs.decoding.GroupRunLemmas.{sixteen-symbols}
use Rattle.data_encoding_kernel.proofs.digits.KernelLemmas.{first_chunks-zeros}

module _ {width bytes symbols : ℕ} (group : IsGroup width bytes symbols) where
  -- these groups have twice as many bytes as a symbol has bits
  pub sixteen-bytes : 16 / symbols * bytes ≡ 2 * width
  sixteen-bytes =
      rw (group.has_symbols, group.has_bytes)
      (by_width (λ w. 16 / group_symbols w * group_bytes w ≡ 2 * w) refl refl refl refl refl refl
      width group.is_width)

  -- and there are one to eight of them
  pub sixteen-some : 0 < 16 / symbols
  sixteen-some =
      rw group.has_symbols
      (by_width (λ w. 0 < 16 / group_symbols w) (omega arith) (omega arith) (omega arith)
      (omega arith) (omega arith) (omega arith) width group.is_width)

  pub sixteen-most : 16 / symbols ≤ 8
  sixteen-most =
      rw group.has_symbols
      (by_width (λ w. 16 / group_symbols w ≤ 8) (omega arith) (omega arith) (omega arith)
      (omega arith) (omega arith) (omega arith) width group.is_width)

-- the pieces of the first n numbers, where each piece has `count` elements
pieces-front : {X : Type 0} (piece : ℕ → List X) (count n m start : ℕ)
    → ((k : ℕ) → length (piece k) ≡ count) → n ≤ m
    → take (n * count) (flat_map piece (range_with_len start m))
    ≡ flat_map piece (range_with_len start n)
pieces-front piece count zero m start long few =
    let none : zero * count ≡ zero = omega arith in
    ap (λ k. take k (flat_map piece (range_with_len start m))) none
pieces-front piece count (suc n) zero start long few = absurd (omega (arith, few))
pieces-front piece count (suc n) (suc m) start long few =
    let more : suc n * count ≡ length (piece start) + n * count = omega (arith, long start) in
    let others = flat_map piece (range_with_len (start + 1) m) in
    ap (λ k. take k (piece start ++ others)) more
    ∙ take-append-add (piece start) others (n * count)
    ∙ ap (λ l. piece start ++ l)
    (pieces-front piece count n m (start + 1) long (omega (arith, few)))

-- the digits of the first sixteen symbols, from those of m groups
module _ (order : BitOrder) (input found : List ℕ) {width bytes symbols : ℕ}
    (group : IsGroup width bytes symbols) where
  pub sixteen-front : (m : ℕ) → 16 / symbols ≤ m → take (m * symbols) found
      ≡ flat_map (digits_of order width symbols) (group_words order bytes m input)
      → take 16 found
      ≡ flat_map (digits_of order width symbols) (group_words order bytes (16 / symbols) input)
  sixteen-front m few are =
      let n = 16 / symbols in
      let piece : ℕ → List ℕ =
      λ k. digits_of order width symbols (group_word order bytes input k) in
      let long : (k : ℕ) → length (piece k) ≡ symbols =
      λ k. length-map (range_with_len 0 symbols)
      (digit order width symbols (group_word order bytes input k))
      ∙ length-range_with_len 0 symbols in
      let within : n * symbols ≤ m * symbols = mul-le-mul_right symbols few in
      ap (λ k. take k found) (sym (sixteen-symbols group))
      ∙ sym (take-take (n * symbols) (m * symbols) found within)
      ∙ ap (take (n * symbols))
      (are ∙ flat_map-map (digits_of order width symbols) (group_word order bytes input)
      (range_with_len 0 m))
      ∙ pieces-front piece symbols n m 0 long few
      ∙ sym (flat_map-map (digits_of order width symbols) (group_word order bytes input)
      (range_with_len 0 n))

  -- from those of m groups of the width w
  pub width-front : (w m : ℕ) → w ≡ width → 16 / group_symbols w ≤ m
      → take (m * group_symbols w) found
      ≡ flat_map (digits_of order w (group_symbols w)) (group_words order (group_bytes w) m input)
      → take 16 found
      ≡ flat_map (digits_of order width symbols) (group_words order bytes (16 / symbols) input)
  width-front w m is few are =
      let Found : ℕ → Type 0 = λ v. take (m * group_symbols v) found
      ≡ flat_map (digits_of order v (group_symbols v))
      (group_words order (group_bytes v) m input) in
      let Few : ℕ → Type 0 = λ v. 16 / group_symbols v ≤ m in
      sixteen-front m (rw group.has_symbols (subst Few is few))
      (rw (group.has_symbols, group.has_bytes) (subst Found is are))

take-chunks : (size m n : ℕ) (xs : List ℕ) → m ≤ n
    → take m (first_chunks size n xs) ≡ first_chunks size m xs
take-chunks size zero n xs few = refl
take-chunks size (suc m) zero xs few = absurd (omega (arith, few))
take-chunks size (suc m) (suc n) xs few =
    ap (λ l. take size xs ∷ l) (take-chunks size m n (drop size xs) (omega (arith, few)))

bits-zero : (order : BitOrder) → bits_of order 8 0 ≡ replicate 8 0
bits-zero MostSignificantFirst = refl
bits-zero LeastSignificantFirst = refl

bits-zeros : (order : BitOrder) (count : ℕ)
    → bits_of_bytes order (replicate count 0) ≡ replicate (8 * count) 0
bits-zeros order zero = refl
bits-zeros order (suc count) =
    let more : 8 + 8 * count ≡ 8 * suc count = omega arith in
    (λ i. bits-zero order i ++ bits-zeros order count i)
    ∙ replicate-append-replicate 8 (8 * count) 0
    ∙ ap (λ n. replicate n 0) more

-- some of the zeros that follow data
pub padded-front : (input : List ℕ) (size room : ℕ) → length input ≤ size → size ≤ room
    → take size (input ++ replicate (room - length input) 0)
    ≡ input ++ replicate (size - length input) 0
padded-front input size room few fits =
    let n = length input in
    let some : List ℕ = replicate (size - n) 0 in
    let more : n + (size - n) ≡ size = omega (arith, few) in
    let rest : size - n + (room - size) ≡ room - n = omega (arith, few, fits) in
    let len : length some ≡ size - n = length-replicate {A = ℕ} (size - n) 0 in
    (λ i. take (sym more i) (input ++ replicate (sym rest i) 0))
    ∙ take-append-add input (replicate (size - n + (room - size)) 0) (size - n)
    ∙ ap (λ l. input ++ l)
    (ap (take (size - n)) (sym (replicate-append-replicate (size - n) (room - size) 0))
    ∙ ap (λ k. take k (some ++ replicate (room - size) 0)) (sym len)
    ∙ take-append_seam some (replicate (room - size) 0))

-- the text of data is the front of the text of the data and zeros
pub text-front : (base : Base) (input : List ℕ) (zeros count : ℕ) → 0 < base.width
    → 8 * (length input + zeros) ≡ count * base.width
    → take (run_count base.width (8 * length input))
    (plain_text base (input ++ replicate zeros 0))
    ≡ plain_text base input
text-front base input zeros count some whole =
    let width = base.width in
    let bits = bits_of_bytes base.order input in
    let all = bits ++ replicate (8 * zeros) 0 in
    let show = map (λ run. symbol base (number_of base.order run)) in
    let n = run_count width (8 * length input) in
    let extra = missing width (length bits) in
    let long : length bits ≡ 8 * length input = length-bits_of_bytes base.order input in
    let len : length all ≡ count * width =
    length-append bits (replicate (8 * zeros) 0)
    ∙ omega (arith, long, whole, length-replicate {A = ℕ} (8 * zeros) 0) in
    let is : bits_of_bytes base.order (input ++ replicate zeros 0) ≡ all =
    flat_map-append (bits_of base.order 8) input (replicate zeros 0)
    ∙ ap (λ l. bits ++ l) (bits-zeros base.order zeros) in
    let none : length all % width ≡ 0 =
    ap (λ k. k % width) (len ∙ mul_comm count width) ∙ mul-mod_right width count in
    let runs-are : run_count width (length all) ≡ count =
    ap (run_count width) len ∙ run_count-whole width count some in
    let most : n ≤ count =
    run_count-few width (8 * length input) count some (omega (arith, whole)) in
    let filled : length bits + extra ≡ width * n =
    filled_count width (length bits) some
    ∙ ap (λ k. width * run_count width k) long in
    let bound : width * n ≤ width * count = mul-le-mul_left width most in
    let fits : width * count ≡ count * width = mul_comm width count in
    let count_of : run_count width (length (filled_with 0 width bits)) ≡ n =
    ap (run_count width) (length-append bits (replicate extra 0)
    ∙ ap (λ k. length bits + k) (length-replicate extra 0))
    ∙ run_count-missing width (length bits) some
    ∙ ap (run_count width) long in
    ap (λ l. take n (show (runs width (filled_with 0 width l)))) is
    ∙ ap (λ l. take n (show (runs width l))) (filled-whole 0 width all none)
    ∙ ap (λ k. take n (show (first_chunks width k all))) runs-are
    ∙ take-map (λ run. symbol base (number_of base.order run)) n (first_chunks width count all)
    ∙ ap show (take-chunks width n count all most
    ∙ first_chunks-zeros width n extra (8 * zeros) bits (omega (arith, filled))
    (omega (arith, filled, bound, fits, whole, long)))
    ∙ ap (λ k. show (first_chunks width k (filled_with 0 width bits))) (sym count_of)
