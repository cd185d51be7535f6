-- Whole runs of bits, as numbers.
use Rattle.std.proofs.Common.{◌≡◌, ℕ, zero, suc, ◌-◌, ◌*◌, ◌^◌, ◌<◌, ◌≤◌, List, [], ◌∷◌, ◌++◌, length, map, take, drop, refl, sym, ap, ◌∙◌, subst, arith, take-append-drop, length-take-le}
use Rattle.std.proofs.lemmas.List.{length-drop, nil_from_length}
use Rattle.std.specs.Prelude.{flat_map}
use Rattle.std.specs.List.{AllByRecursion}
use Rattle.data_encoding_meaning.specs.declared.encoding.BitOrder.{BitOrder}
use Rattle.data_encoding_meaning.specs.text.Bits.{bits_of, number_of, runs}
use Rattle.data_encoding_meaning.proofs.digits.BitLemmas.{AreBits, AreBits-take, AreBits-drop, bits_of-number_of, number_of-below}
use Rattle.data_encoding_meaning.proofs.lists.RunLemmas.{runs-first, runs-nil}

-- these numbers have the bits
pub record AreValuesOf (order : BitOrder) (width : ℕ) (bits values : List ℕ) : Type 0 where
  pub same_bits : flat_map (bits_of order width) values ≡ bits
  pub below : AllByRecursion (λ value. value < 2 ^ width) values

pub AreValuesOf-runs : (count : ℕ) (order : BitOrder) (width : ℕ) (bits : List ℕ) → 0 < width
    → AreBits bits → length bits ≡ width * count
    → AreValuesOf order width bits (map (number_of order) (runs width bits))
AreValuesOf-runs zero order width bits some h e =
    let none : bits ≡ [] = nil_from_length bits (omega (arith, e)) in
    rw (none, runs-nil {X = ℕ} width some) (record { same_bits = refl; below = tt })
AreValuesOf-runs (suc count) order width bits some h e =
    let long : width ≤ length bits = omega (arith, e) in
    let front = take width bits in
    let rest = drop width bits in
    let front_len : length front ≡ width = length-take-le width bits long in
    let rest_len : length rest ≡ length bits - width = length-drop width bits in
    let front_bits : AreBits front = AreBits-take width bits h in
    let others = AreValuesOf-runs count order width rest some (AreBits-drop width bits h)
    (omega (arith, rest_len, e)) in
    let first : bits_of order width (number_of order front) ≡ front =
    rw front_len at (bits_of-number_of order front front_bits) in
    let first_below : number_of order front < 2 ^ width =
    rw front_len at (number_of-below order front front_bits) in
    let is : number_of order front ∷ map (number_of order) (runs width rest)
    ≡ map (number_of order) (runs width bits) =
    ap (map (number_of order)) (sym (runs-first width bits some (omega (arith, long, some)))) in
    subst (AreValuesOf order width bits) is (record {
      same_bits =
          ap (λ l. l ++ flat_map (bits_of order width) (map (number_of order) (runs width rest)))
          first ∙ ap (λ l. front ++ l) others.same_bits ∙ take-append-drop width bits;
      below = (first_below, others.below);
    })
