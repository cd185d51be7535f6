-- Numbers as bits, in either order.
use Rattle.std.proofs.Common.{◌≡◌, ℕ, zero, suc, ◌+◌, ◌*◌, ◌/◌, ◌%◌, ◌^◌, ◌<◌, List, [], ◌∷◌, ◌++◌, length, take, drop, reverse, refl, sym, ap, ◌∙◌, subst, arith, length-append, take-append-drop, replicate}
use Rattle.std.proofs.lemmas.List.{length-reverse, reverse-reverse, reverse-append, replicate-append-replicate}
use Rattle.std.proofs.Math.Nat.{pow-succ', zero-add, suc-add, div-one, div-div-eq-div-mul}
use Rattle.std.specs.Prelude.{flat_map}
use Rattle.std.specs.List.{AllByRecursion}
use Rattle.data_encoding_meaning.specs.declared.encoding.BitOrder.{BitOrder}
use Rattle.data_encoding_meaning.specs.declared.encoding.BitOrder.TheVariants.{MostSignificantFirst, LeastSignificantFirst}
use Rattle.data_encoding_meaning.specs.text.Bits.{low_bits, number_of_low_bits, bits_of, number_of}
use Rattle.data_encoding_meaning.proofs.lists.EachLemmas.{all_joined, all_parts, all_reversed, all_replicate}

-- each is 0 or 1
abbrev pub AreBits : List ℕ → Type 0
AreBits bits = AllByRecursion (λ bit. bit < 2) bits

pub length-low_bits : (count number : ℕ) → length (low_bits count number) ≡ count
length-low_bits zero number = refl
length-low_bits (suc count) number = ap (λ n. suc n) (length-low_bits count (number / 2))

AreBits-low_bits : (count number : ℕ) → AreBits (low_bits count number)
AreBits-low_bits zero number = tt
AreBits-low_bits (suc count) number = (omega arith, AreBits-low_bits count (number / 2))

pub number-low_bits : (count number : ℕ) → number < 2 ^ count
    → number_of_low_bits (low_bits count number) ≡ number
number-low_bits zero number h = omega arith
number-low_bits (suc count) number h =
    omega (arith, number-low_bits count (number / 2) (omega (arith, pow-succ' 2 count)))

low_bits-number : (bits : List ℕ) → AreBits bits
    → low_bits (length bits) (number_of_low_bits bits) ≡ bits
low_bits-number [] h = refl
low_bits-number (bit ∷ bits) h =
    let first : (bit + 2 * number_of_low_bits bits) % 2 ≡ bit = omega (arith, h.0) in
    let others : (bit + 2 * number_of_low_bits bits) / 2 ≡ number_of_low_bits bits =
    omega (arith, h.0) in
    (λ i. first i ∷ low_bits (length bits) (others i))
    ∙ ap (λ l. bit ∷ l) (low_bits-number bits h.1)

pub number-below : (bits : List ℕ) → AreBits bits → number_of_low_bits bits < 2 ^ length bits
number-below [] h = omega arith
number-below (bit ∷ bits) h =
    omega (arith, h.0, number-below bits h.1, pow-succ' 2 (length bits))

-- the lowest bits, and then those above them
pub low_bits-add : (few more number : ℕ)
    → low_bits (few + more) number ≡ low_bits few number ++ low_bits more (number / 2 ^ few)
low_bits-add zero more number =
    ap (λ k. low_bits k number) (zero-add more) ∙ ap (low_bits more) (sym (div-one number))
low_bits-add (suc few) more number =
    let above : number / 2 / 2 ^ few ≡ number / 2 ^ suc few =
    div-div-eq-div-mul number 2 (2 ^ few) ∙ ap (λ k. number / k) (sym (pow-succ' 2 few)) in
    ap (λ k. low_bits k number) (suc-add few more)
    ∙ ap (λ l. number % 2 ∷ l) (low_bits-add few more (number / 2)
    ∙ ap (λ k. low_bits few (number / 2) ++ low_bits more k) above)

pub AreBits-append : (bits others : List ℕ) → AreBits bits → AreBits others
    → AreBits (bits ++ others)
AreBits-append = all_joined (λ bit. bit < 2)

pub AreBits-left : (bits others : List ℕ) → AreBits (bits ++ others) → AreBits bits
AreBits-left bits others h = (all_parts (λ bit. bit < 2) bits others h).0

pub AreBits-right : (bits others : List ℕ) → AreBits (bits ++ others) → AreBits others
AreBits-right bits others h = (all_parts (λ bit. bit < 2) bits others h).1

pub AreBits-take : (n : ℕ) (bits : List ℕ) → AreBits bits → AreBits (take n bits)
AreBits-take n bits h = AreBits-left (take n bits) (drop n bits) (rw take-append-drop h)

pub AreBits-drop : (n : ℕ) (bits : List ℕ) → AreBits bits → AreBits (drop n bits)
AreBits-drop n bits h = AreBits-right (take n bits) (drop n bits) (rw take-append-drop h)

pub AreBits-reverse : (bits : List ℕ) → AreBits bits → AreBits (reverse bits)
AreBits-reverse bits h = all_reversed (λ bit. bit < 2) bits h

pub AreBits-flat_map : {X : Type 0} (f : X → List ℕ) (xs : List X) → ((x : X) → AreBits (f x))
    → AreBits (flat_map f xs)
AreBits-flat_map f [] h = tt
AreBits-flat_map f (x ∷ xs) h = AreBits-append (f x) (flat_map f xs) (h x) (AreBits-flat_map f xs h)

pub length-bits_of : (order : BitOrder) (count number : ℕ) → length (bits_of order count number)
    ≡ count
length-bits_of LeastSignificantFirst count number = length-low_bits count number
length-bits_of MostSignificantFirst count number =
    length-reverse (low_bits count number) ∙ length-low_bits count number

pub AreBits-bits_of : (order : BitOrder) (count number : ℕ) → AreBits (bits_of order count number)
AreBits-bits_of LeastSignificantFirst count number = AreBits-low_bits count number
AreBits-bits_of MostSignificantFirst count number =
    AreBits-reverse (low_bits count number) (AreBits-low_bits count number)

-- a number, as bits and back
pub number_of-bits_of : (order : BitOrder) (count number : ℕ) → number < 2 ^ count
    → number_of order (bits_of order count number) ≡ number
number_of-bits_of LeastSignificantFirst count number h = number-low_bits count number h
number_of-bits_of MostSignificantFirst count number h =
    ap number_of_low_bits (reverse-reverse (low_bits count number)) ∙ number-low_bits count number h

-- bits, as a number and back
pub bits_of-number_of : (order : BitOrder) (bits : List ℕ) → AreBits bits
    → bits_of order (length bits) (number_of order bits) ≡ bits
bits_of-number_of LeastSignificantFirst bits h = low_bits-number bits h
bits_of-number_of MostSignificantFirst bits h =
    let turned = low_bits-number (reverse bits) (AreBits-reverse bits h) in
    ap (λ n. reverse (low_bits n (number_of_low_bits (reverse bits)))) (sym (length-reverse bits))
    ∙ ap reverse turned ∙ reverse-reverse bits

pub number_of-below : (order : BitOrder) (bits : List ℕ) → AreBits bits
    → number_of order bits < 2 ^ length bits
number_of-below LeastSignificantFirst bits h = number-below bits h
number_of-below MostSignificantFirst bits h =
    subst (λ n. number_of_low_bits (reverse bits) < 2 ^ n) (length-reverse bits)
    (number-below (reverse bits) (AreBits-reverse bits h))

-- the bits of pieces of one length
pub length-pieces : {X : Type 0} (size : ℕ) (f : X → List ℕ) (xs : List X)
    → ((x : X) → length (f x) ≡ size) → length (flat_map f xs) ≡ size * length xs
length-pieces size f [] h = omega arith
length-pieces size f (x ∷ xs) h =
    omega (arith, length-append (f x) (flat_map f xs), h x, length-pieces size f xs h)

-- lower bits, and then higher ones
pub number-append : (low high : List ℕ)
    → number_of_low_bits (low ++ high)
    ≡ number_of_low_bits low + 2 ^ length low * number_of_low_bits high
number-append [] high = omega arith
number-append (bit ∷ low) high =
    omega (
      arith,
      number-append low high,
      ap (λ m. m * number_of_low_bits high) (pow-succ' 2 (length low)),
    )

pub number-zeros : (n : ℕ) → number_of_low_bits (replicate n 0) ≡ 0
number-zeros zero = refl
number-zeros (suc n) = ap (λ k. 0 + 2 * k) (number-zeros n)

pub reverse-zeros : (n : ℕ) → reverse {A = ℕ} (replicate n 0) ≡ replicate n 0
reverse-zeros zero = refl
reverse-zeros (suc n) =
    reverse-append (0 ∷ []) (replicate n 0) ∙ ap (λ l. l ++ 0 ∷ []) (reverse-zeros n)
    ∙ replicate-append-replicate n 1 0
    ∙ (let more : n + 1 ≡ suc n = omega arith in ap (λ m. replicate m 0) more)

pub AreBits-zeros : (n : ℕ) → AreBits (replicate n 0)
AreBits-zeros n = all_replicate (λ bit. bit < 2) n 0 (omega arith)
