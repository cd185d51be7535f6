-- Two halves of each lane as one number.
use Rattle.std.proofs.Common.{◌≡◌, ℕ, ◌+◌, ◌*◌, ◌/◌, ◌%◌, ◌^◌, ◌<◌, ◌≤◌, List, [], ◌∷◌, length, map, replicate, bit_and, ap, ◌∙◌, arith}
use Rattle.std.proofs.Math.Nat.{mod-lt}
use Rattle.std.proofs.Math.Pow.{shr_mod}
use Rattle.std.proofs.lemmas.Nat.{pow_pos, shl_whole}
use Rattle.std.proofs.lemmas.Simd.{zip2_splat, zip2_of_maps, splat_is_map}
use Rattle.std.specs.List.{AllByRecursion}
use Rattle.std.specs.Simd.Lanes.{zip2, Each1}
use Rattle.data_encoding_meaning.specs.declared.encoding.BitOrder.{BitOrder}
use Rattle.data_encoding_kernel.specs.Values.{joined}
use Rattle.data_encoding_kernel.specs.Words.{weight}
use Rattle.data_encoding_kernel.proofs.digits.LaneLemmas.{map-same}

all-each : {X : Type 0} (P : X → Type 0) (xs : List X) → Each1 P xs → AllByRecursion P xs
all-each P [] h = tt
all-each P (x ∷ xs) h = (h.0, all-each P xs h.1)

-- lanes of twice the bits of a half
module _ (half : ℕ) where
  abbrev pub added : ℕ → ℕ → ℕ
  added a b = (a + b) % 2 ^ (half + half)

  abbrev pub up : ℕ → ℕ → ℕ
  up a b = a * 2 ^ b % 2 ^ (half + half)

  abbrev pub down : ℕ → ℕ → ℕ
  down a b = a / 2 ^ b

  -- a half, moved to its weight
  moved : (part to : ℕ) → part < 2 ^ half → to ≤ half → up part to ≡ part * 2 ^ to
  moved part to h k = shl_whole part half to (half + half) h (omega (arith, k))

  high-below : (lane : ℕ) → lane < 2 ^ (half + half) → lane / 2 ^ half < 2 ^ half
  high-below lane h =
      omega (arith, shr_mod half half h, mod-lt (lane / 2 ^ half) (pow_pos half))

  pub joined-lanes : (order : BitOrder) (size mask count low high : ℕ) (lanes : List ℕ)
      → ((x : ℕ) → bit_and x mask ≡ x % 2 ^ half) → low ≤ half → high ≤ half
      → low ≡ weight order size 2 0 → high ≡ weight order size 2 1
      → length lanes ≡ count → Each1 (λ lane. lane < 2 ^ (half + half)) lanes
      → zip2 added (zip2 up (zip2 bit_and lanes (replicate count mask)) (replicate count low))
      (zip2 up (zip2 down lanes (replicate count half)) (replicate count high))
      ≡ map (joined order half size) lanes
  joined-lanes order size mask count low high lanes masks low_few high_few low_is high_is long fit =
      let lower = λ (x : ℕ). bit_and x mask in
      let upper = λ (x : ℕ). down x half in
      zip2_of_maps added (λ x. up (lower x) low) (λ x. up (upper x) high) lanes
      (zip2_of_maps up lower (λ _. low) lanes (zip2_splat bit_and lanes count mask long)
      (splat_is_map lanes count low long))
      (zip2_of_maps up upper (λ _. high) lanes (zip2_splat down lanes count half long)
      (splat_is_map lanes count high long))
      ∙ map-same (λ lane. lane < 2 ^ (half + half))
      (λ x. added (up (lower x) low) (up (upper x) high)) (joined order half size)
      (λ x h. ap (λ n. added (up n low) (up (upper x) high)) (masks x)
      ∙ (λ i. added (moved (x % 2 ^ half) low (mod-lt x (pow_pos half)) low_few i)
      (moved (upper x) high (high-below x h) high_few i))
      ∙ (λ i. added (x % 2 ^ half * 2 ^ low_is i) (upper x * 2 ^ high_is i)))
      lanes (all-each (λ lane. lane < 2 ^ (half + half)) lanes fit)
