-- Digits that are spread over eight lanes, one after another.
use Rattle.std.proofs.Common.{◌≡◌, ℕ, ◌+◌, ◌-◌, ◌*◌, ◌/◌, ◌%◌, ◌^◌, ◌<◌, ◌≤◌, List, [], ◌∷◌, ◌++◌, length, map, take, refl, sym, ap, ◌∙◌, arith}
use Rattle.std.proofs.Math.Pow.{pow_mono}
use Rattle.std.proofs.lemmas.List.{length-map}
use Rattle.std.specs.Prelude.{flat_map}
use Rattle.std.specs.List.{AllByRecursion, range_with_len}
use Rattle.std.specs.Simd.Lanes.{number_l, digits_l, pick_l}
use Rattle.data_encoding_meaning.specs.declared.encoding.BitOrder.{BitOrder}
use Rattle.data_encoding_meaning.specs.declared.encoding.BitOrder.TheVariants.{MostSignificantFirst, LeastSignificantFirst}
use Rattle.data_encoding_kernel.specs.Lanes.{digits_of, group_words, spread_word}
use Rattle.data_encoding_kernel.proofs.digits.LaneLemmas.{bytes-of-lanes, digits_of-below, by_eight, all_pieces}

-- which bytes of eight lanes are picked, repeated to fill 64 lanes
abbrev pub from_first : ℕ → List ℕ
from_first count = map (λ k. count * (k / count) % (8 * count) + k % count) (range_with_len 0 64)

abbrev from_last : ℕ → List ℕ
from_last count =
    map (λ k. count * (k / count) % (8 * count) + (count - 1 - k % count)) (range_with_len 0 64)

-- a selection from the digits of eight words
abbrev Picks : ℕ → ℕ → List ℕ → BitOrder → (List ℕ → List ℕ) → List ℕ → Type 0
Picks width count ks order times words =
    pick_l 0 (flat_map (digits_of LeastSignificantFirst width count) words
    ++ flat_map (digits_of LeastSignificantFirst width count) words) ks
    ≡ flat_map (digits_of order width count) (times words)

module _ (width : ℕ) (words lanes : List ℕ) (narrow : width ≤ 8) (long : length lanes ≡ 8) where
  abbrev bytes : ℕ → ℕ → List ℕ
  bytes count q = digits_l 256 (count * 8) (number_l q lanes)

  length-words : (count : ℕ) → lanes ≡ map (spread_word width count) words → length words ≡ 8
  length-words count is =
      sym (length-map words (spread_word width count)) ∙ ap length (sym is) ∙ long

  lane_bytes : (count q : ℕ) → q ≡ 256 ^ count
      → ((word : ℕ) → length (digits_of LeastSignificantFirst width count word) ≡ count)
      → lanes ≡ map (spread_word width count) words
      → bytes count q ≡ flat_map (digits_of LeastSignificantFirst width count) words
  lane_bytes count q e each is =
      ap (λ l. digits_l 256 (count * 8) (number_l q l)) is
      ∙ bytes-of-lanes count q (count * 8) e (digits_of LeastSignificantFirst width count) words
      (ap (λ n. count * n) (sym (length-words count is))) each
      (λ word. digits_of-below LeastSignificantFirst width count 256 word
      (pow_mono {i = width} {j = 8} narrow))

  -- the bytes of the lanes, picked
  picked : (count q : ℕ) (ks : List ℕ) (order : BitOrder) (times : List ℕ → List ℕ)
      → q ≡ 256 ^ count
      → ((word : ℕ) → length (digits_of LeastSignificantFirst width count word) ≡ count)
      → ((a b c d e f g h : ℕ)
      → Picks width count ks order times (a ∷ b ∷ c ∷ d ∷ e ∷ f ∷ g ∷ h ∷ []))
      → lanes ≡ map (spread_word width count) words
      → pick_l 0 (bytes count q ++ bytes count q) ks
      ≡ flat_map (digits_of order width count) (times words)
  picked count q ks order times e each step is =
      ap (λ l. pick_l 0 (l ++ l) ks) (lane_bytes count q e each is)
      ∙ by_eight (Picks width count ks order times) step words (length-words count is)

  pub eights_first : lanes ≡ map (spread_word width 8) words
      → bytes 8 18446744073709551616 ≡ flat_map (digits_of LeastSignificantFirst width 8) words
  eights_first = lane_bytes 8 18446744073709551616 refl (λ word. refl)

  pub eights_last : lanes ≡ map (spread_word width 8) words
      → pick_l 0 (bytes 8 18446744073709551616 ++ bytes 8 18446744073709551616) (from_last 8)
      ≡ flat_map (digits_of MostSignificantFirst width 8) words
  eights_last =
      picked 8 18446744073709551616 (from_last 8) MostSignificantFirst (λ ws. ws) refl
      (λ word. refl) (λ a b c d e f g h. refl)

  pub fours_first : lanes ≡ map (spread_word width 4) words
      → pick_l 0 (bytes 4 4294967296 ++ bytes 4 4294967296) (from_first 4)
      ≡ flat_map (digits_of LeastSignificantFirst width 4) (words ++ words)
  fours_first =
      picked 4 4294967296 (from_first 4) LeastSignificantFirst (λ ws. ws ++ ws) refl
      (λ word. refl) (λ a b c d e f g h. refl)

  pub fours_last : lanes ≡ map (spread_word width 4) words
      → pick_l 0 (bytes 4 4294967296 ++ bytes 4 4294967296) (from_last 4)
      ≡ flat_map (digits_of MostSignificantFirst width 4) (words ++ words)
  fours_last =
      picked 4 4294967296 (from_last 4) MostSignificantFirst (λ ws. ws ++ ws) refl
      (λ word. refl) (λ a b c d e f g h. refl)

  pub twos_first : lanes ≡ map (spread_word width 2) words
      → pick_l 0 (bytes 2 65536 ++ bytes 2 65536) (from_first 2)
      ≡ flat_map (digits_of LeastSignificantFirst width 2) (words ++ words ++ words ++ words)
  twos_first =
      picked 2 65536 (from_first 2) LeastSignificantFirst (λ ws. ws ++ ws ++ ws ++ ws) refl
      (λ word. refl) (λ a b c d e f g h. refl)

  pub twos_last : lanes ≡ map (spread_word width 2) words
      → pick_l 0 (bytes 2 65536 ++ bytes 2 65536) (from_last 2)
      ≡ flat_map (digits_of MostSignificantFirst width 2) (words ++ words ++ words ++ words)
  twos_last =
      picked 2 65536 (from_last 2) MostSignificantFirst (λ ws. ws ++ ws ++ ws ++ ws) refl
      (λ word. refl) (λ a b c d e f g h. refl)

-- lanes hold the digits of eight groups of these sizes
abbrev pub HasDigits : BitOrder → List ℕ → List ℕ → ℕ → ℕ → ℕ → Type 0
HasDigits order input lanes width size count = record {
  digits : take (8 * count) lanes
      ≡ flat_map (digits_of order width count) (group_words order size 8 input);
  below : AllByRecursion (λ digit. digit < 2 ^ width) lanes;
}

-- so do lanes that hold them repeatedly
module _ (order : BitOrder) (width count : ℕ) where
  abbrev joined : List ℕ → List ℕ
  joined words = flat_map (digits_of order width count) words

  pub digits-of_joined : (size : ℕ) (input : List ℕ) (times : List ℕ → List ℕ) {lanes : List ℕ}
      → ((a b c d e f g h : ℕ)
      → (let ws = a ∷ b ∷ c ∷ d ∷ e ∷ f ∷ g ∷ h ∷ [] in
      take (8 * count) (joined (times ws)) ≡ joined ws))
      → lanes ≡ joined (times (group_words order size 8 input))
      → HasDigits order input lanes width size count
  digits-of_joined size input times front is =
      let words = group_words order size 8 input in record {
        digits =
            ap (take (8 * count)) is
            ∙ by_eight (λ ws. take (8 * count) (joined (times ws)) ≡ joined ws) front words refl;
        below =
            rw is (all_pieces (λ digit. digit < 2 ^ width) (digits_of order width count)
            (times words)
            (λ word. digits_of-below order width count (2 ^ width) word (omega arith)));
      }

  -- and lanes that hold fewer groups first
  pub first_digits-of_joined : (few size : ℕ) (input words : List ℕ) {lanes : List ℕ}
      → take (few * count) (joined words) ≡ joined (group_words order size few input)
      → lanes ≡ joined words → record {
        digits : take (few * count) lanes ≡ joined (group_words order size few input);
        below : AllByRecursion (λ digit. digit < 2 ^ width) lanes;
      }
  first_digits-of_joined few size input words front is = record {
    digits = ap (take (few * count)) is ∙ front;
    below =
        rw is (all_pieces (λ digit. digit < 2 ^ width) (digits_of order width count) words
        (λ word. digits_of-below order width count (2 ^ width) word (omega arith)));
  }
