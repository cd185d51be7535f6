-- The positions of groups in what is read and in what is written.
use Rattle.std.proofs.Common.{◌≡◌, ℕ, ◌+◌, ◌-◌, ◌*◌, ◌/◌, ◌<◌, ◌≤◌, List, length, take, drop, refl, ap, ◌∙◌, arith, length-take-le}
use Rattle.std.proofs.lemmas.List.{length-drop}
use Rattle.std.proofs.Math.Nat.{mul_left_comm, mul-add-div, mul-le-mul_right, div-eq_of_lt}
use Rattle.std.proofs.lemmas.Nat.{div-add-mod'}
use Rattle.data_encoding_meaning.specs.text.Base.{IsGroup, IsWidth}
use Rattle.data_encoding_meaning.proofs.digits.SizeLemmas.{IsGroup-same, room-same}
use Rattle.data_encoding_meaning.proofs.digits.WidthLemmas.{group_bits, group_bytes-pos, group_symbols-pos}

-- a whole group has as many bits on both sides
pub record IsWhole (width bytes symbols : ℕ) : Type 0 where
  pub is_width : IsWidth width
  pub same_bits : width * symbols ≡ 8 * bytes
  pub some_bytes : 0 < bytes
  pub some_symbols : 0 < symbols

pub IsWhole-group : (width bytes symbols : ℕ) → IsGroup width bytes symbols
    → IsWhole width bytes symbols
IsWhole-group width bytes symbols g =
    rw (g.has_bytes, g.has_symbols) (record {
      is_width = g.is_width;
      same_bits = group_bits width g.is_width;
      some_bytes = group_bytes-pos width g.is_width;
      some_symbols = group_symbols-pos width g.is_width;
    })

-- as by sizes that equal those of a group
pub IsWhole-same : {w b s bytes symbols : ℕ} → bytes ≡ b → symbols ≡ s → IsGroup w b s
    → IsWhole w bytes symbols
IsWhole-same {w} {b} {s} {bytes} {symbols} q r group =
    IsWhole-group w bytes symbols (IsGroup-same refl q r group)

-- Groups of this many are read, and as many are written: m bits for each that is read, d for each
-- that is written.
module _ (m d from to extra : ℕ) (same : m * from ≡ d * to) (pos : 0 < d) where
  pub regroup : (q : ℕ) → m * (q * from) ≡ d * (q * to)
  regroup q = mul_left_comm m q from ∙ ap (λ n. q * n) same ∙ mul_left_comm q d to

  split : (n q r : ℕ) → n ≡ q * from + r → m * n + extra ≡ d * (q * to) + (m * r + extra)
  split n q r e =
      omega (arith, ap (λ k. m * k) e, regroup q)

  quotient : (n q r : ℕ) → n ≡ q * from + r
      → (m * n + extra) / d ≡ q * to + (m * r + extra) / d
  quotient n q r e =
      ap (λ k. k / d) (split n q r e) ∙ mul-add-div pos (q * to) (m * r + extra)

  -- whole groups have room
  pub room-rest : (n i : ℕ) → i * from ≤ n → i * to ≤ (m * n + extra) / d
  room-rest n i h = omega (arith, quotient n i (n - i * from) (omega (arith, h)))

  -- and what is left over is the room of what is left
  pub size-rest : (n i : ℕ) → i * from ≤ n
      → (m * n + extra) / d - i * to ≡ (m * (n - i * from) + extra) / d
  size-rest n i h =
      let whole = quotient n i (n - i * from) (omega (arith, h)) in omega (arith, whole)

-- a group before the last whole one ends before it
pub group-before : (n size i : ℕ) → i < n / size → i * size + size ≤ n
group-before n size i h =
    let up : (i + 1) * size ≤ n / size * size = mul-le-mul_right size (omega (arith, h)) in
    omega (arith, up, div-add-mod' n size)

pub groups-within : (n size : ℕ) → n / size * size ≤ n
groups-within n size = omega (arith, div-add-mod' n size)

pub one-more : (i size : ℕ) → (i + 1) * size ≡ i * size + size
one-more i size = omega arith

-- a group has room if all groups have room
pub group-room : {b s bytes symbols : ℕ} (n i m : ℕ) → bytes ≡ b → symbols ≡ s → n / s * b ≤ m
    → i < n / symbols → i * bytes + bytes ≤ m
group-room {b} {s} {bytes} {symbols} n i m q r room h =
    let next : i + 1 ≤ n / symbols = omega (arith, h) in
    omega (arith, mul-le-mul_right bytes next, room-same n m q r room)

-- one of four equal pieces ends before the end
pub part-of-four : (n size i : ℕ) → n ≡ 4 * size → i < 4 → i * size + size ≤ n
part-of-four n size i e h =
    let up : (i + 1) * size ≤ 4 * size = mul-le-mul_right size (omega (arith, h)) in
    omega (arith, up, e)

-- a whole group gives a whole group
pub whole-group : (m d from to extra : ℕ) → m * from ≡ d * to → extra < d
    → (m * from + extra) / d ≡ to
whole-group m d from to extra same few =
    ap (λ n. (n + extra) / d) same ∙ mul-add-div (omega (arith, few)) to extra
    ∙ ap (λ n. to + n) (div-eq_of_lt few) ∙ omega arith

-- a slice of a list, by its two ends
pub length-part : {X : Type 0} (start size : ℕ) (xs : List X) → start + size ≤ length xs
    → length (take (start + size - start) (drop start xs)) ≡ size
length-part start size xs h =
    let few : start + size - start ≤ length (drop start xs) =
    omega (arith, length-drop start xs, h) in
    length-take-le (start + size - start) (drop start xs) few ∙ omega arith

pub part-is : {X : Type 0} (start size : ℕ) (xs : List X)
    → take (start + size - start) (drop start xs) ≡ take size (drop start xs)
part-is start size xs = ap (λ n. take n (drop start xs)) (omega arith)

pub length-rest : {X : Type 0} (start : ℕ) (xs : List X)
    → length (take (length xs - start) (drop start xs)) ≡ length xs - start
length-rest start xs =
    length-take-le (length xs - start) (drop start xs) (omega (arith, length-drop start xs))
