use Rattle.std.proofs.Common.{ℕ, ◌*◌, ◌/◌, ◌%◌, ◌<◌, cond, ltb, List, [], ◌∷◌, ◌++◌, map, replicate, refl, ap, ◌∙◌, arith}
use Rattle.std.specs.List.{AllByRecursion}
use Rattle.std.specs.Simd.Lanes.{digits_l, number_l}
use Rattle.data_encoding_meaning.specs.declared.encoding.BitOrder.TheVariants.{MostSignificantFirst}
use Rattle.data_encoding_kernel.specs.DigitPairs.{split_lanes}
use Rattle.data_encoding_kernel.specs.Lanes.{group_word}
use Rattle.data_encoding_kernel.proofs.digits.PairLemmas.{both-bytes, bytes-below, byte, pairs-are, five, five-fits, five-of}
use Rattle.data_encoding_kernel.proofs.simd.encode.digit_pairs.five_bit_digits_of_twos.Goals as goal
use Rattle.data_encoding_meaning.proofs.lists.EachLemmas.{all_joined}

-- the bytes of the lanes of an input
abbrev places : List ℕ
places =
    1 ∷ 0 ∷ 2 ∷ 1 ∷ 3 ∷ 2 ∷ 4 ∷ 3 ∷ 6 ∷ 5 ∷ 7 ∷ 6 ∷ 8 ∷ 7 ∷ 9 ∷ 8 ∷ []

abbrev masks : List ℕ
masks =
    63488 ∷ 15872 ∷ 3968 ∷ 992 ∷ 63488 ∷ 15872 ∷ 3968 ∷ 992 ∷ 63488 ∷ 15872 ∷ 3968 ∷ 992 ∷ 63488 ∷
    15872 ∷ 3968 ∷ 992 ∷ []

abbrev downs : List ℕ
downs =
    33 ∷ 129 ∷ 513 ∷ 2049 ∷ 33 ∷ 129 ∷ 513 ∷ 2049 ∷ 33 ∷ 129 ∷ 513 ∷ 2049 ∷ 33 ∷ 129 ∷ 513 ∷ 2049 ∷
    []

abbrev ups : List ℕ
ups =
    32772 ∷ 32784 ∷ 32832 ∷ 33024 ∷ 32772 ∷ 32784 ∷ 32832 ∷ 33024 ∷ 32772 ∷ 32784 ∷ 32832 ∷ 33024 ∷
    32772 ∷ 32784 ∷ 32832 ∷ 33024 ∷ []

abbrev kept : List ℕ
kept = replicate 16 7936

few : AllByRecursion (λ place. place < 16) places
few = search arith

-- the word of a pair
abbrev word : List ℕ → List ℕ → ℕ → ℕ
word first second k =
    group_word MostSignificantFirst 5 (cond (ltb k 8) first second) (k % 8 / 4)

pub returns : goal.returns
returns c =
    let first = c.args.first.now in
    let second = c.args.second.now in
    let small = λ (k : ℕ). (c.type_inv.first k).fits in
    let small_second = λ (k : ℕ). (c.type_inv.second k).fits in
    let long = c.requires.first in
    let long_second = c.requires.second in
    let front = map (byte first long small) places in
    let back = map (byte second long_second small_second) places in
    let pair = λ (k : ℕ). five (word first second k) (2 * (k % 4)) in
    let of = five-of first long small in
    let of_second = five-of second long_second small_second in
    let a0 = of 0 (omega arith) in
    let a1 = of 1 (omega arith) in
    let b0 = of_second 0 (omega arith) in
    let b1 = of_second 1 (omega arith) in
    ap (λ l. digits_l 256 32 (number_l 65536 l))
    (c.split_pairs.ensures
    ∙ ap (λ l. split_lanes masks downs ups kept (digits_l 65536 16 (number_l 256 l)))
    (both-bytes first second long places few))
    ∙ pairs-are (front ++ back) pair masks downs ups kept refl
    (all_joined (λ x. x < 256) front back (bytes-below first long small places few)
    (bytes-below second long_second small_second places few)) (λ k. refl)
    (λ k. five-fits (word first second k) (2 * (k % 4)))
    (λ i. a0.0 i ∷ a0.1 i ∷ a0.2 i ∷ a0.3 i ∷ a1.0 i ∷ a1.1 i ∷ a1.2 i ∷ a1.3 i ∷ b0.0 i ∷ b0.1 i ∷
    b0.2 i ∷ b0.3 i ∷ b1.0 i ∷ b1.1 i ∷ b1.2 i ∷ b1.3 i ∷ [])
