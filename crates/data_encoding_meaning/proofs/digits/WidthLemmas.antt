-- The six widths.
use Rattle.std.proofs.Common.{◌≡◌, ℕ, zero, suc, ◌-◌, ◌*◌, ◌/◌, ◌^◌, ◌<◌, ◌≤◌, refl, arith}
use Rattle.data_encoding_meaning.specs.text.Base.{IsWidth, group_bytes, group_symbols}

-- what holds of each of the six
pub by_width : (P : ℕ → Type 0) → P 1 → P 2 → P 3 → P 4 → P 5 → P 6
    → (width : ℕ) → IsWidth width → P width
by_width P a b c d e f zero h = absurd (omega (arith, h.some))
by_width P a b c d e f (suc zero) h = a
by_width P a b c d e f (suc (suc zero)) h = b
by_width P a b c d e f (suc (suc (suc zero))) h = c
by_width P a b c d e f (suc (suc (suc (suc zero)))) h = d
by_width P a b c d e f (suc (suc (suc (suc (suc zero))))) h = e
by_width P a b c d e f (suc (suc (suc (suc (suc (suc zero)))))) h = f
by_width P a b c d e f (suc (suc (suc (suc (suc (suc (suc more))))))) h =
    absurd (omega (arith, h.few))

-- a whole group of symbols has the bits of a whole group of bytes
pub group_bits : (width : ℕ) → IsWidth width
    → width * group_symbols width ≡ 8 * group_bytes width
group_bits = by_width (λ w. w * group_symbols w ≡ 8 * group_bytes w) refl refl refl refl refl refl

pub group_bytes-pos : (width : ℕ) → IsWidth width → 0 < group_bytes width
group_bytes-pos =
    by_width (λ w. 0 < group_bytes w) (omega arith) (omega arith) (omega arith) (omega arith)
    (omega arith) (omega arith)

pub group_symbols-pos : (width : ℕ) → IsWidth width → 0 < group_symbols width
group_symbols-pos =
    by_width (λ w. 0 < group_symbols w) (omega arith) (omega arith) (omega arith) (omega arith)
    (omega arith) (omega arith)

-- how many times the number of symbols is doubled until they fill their table
pub times_doubled : (width : ℕ) → IsWidth width → 2 ^ (8 - width) ≡ 256 / 2 ^ width
times_doubled = by_width (λ w. 2 ^ (8 - w) ≡ 256 / 2 ^ w) refl refl refl refl refl refl

-- the symbols fill their table
pub times_symbols : (width : ℕ) → IsWidth width → 256 / 2 ^ width * 2 ^ width ≡ 256
times_symbols = by_width (λ w. 256 / 2 ^ w * 2 ^ w ≡ 256) refl refl refl refl refl refl

pub times-pos : (width : ℕ) → IsWidth width → 0 < 256 / 2 ^ width
times-pos =
    by_width (λ w. 0 < 256 / 2 ^ w) (omega arith) (omega arith) (omega arith) (omega arith)
    (omega arith) (omega arith)

pub symbols-few : (width : ℕ) → IsWidth width → 2 ^ width ≤ 64
symbols-few =
    by_width (λ w. 2 ^ w ≤ 64) (omega arith) (omega arith) (omega arith) (omega arith)
    (omega arith) (omega arith)

pub group_symbols-few : (width : ℕ) → IsWidth width → group_symbols width ≤ 8
group_symbols-few =
    by_width (λ w. group_symbols w ≤ 8) (omega arith) (omega arith) (omega arith) (omega arith)
    (omega arith) (omega arith)

pub group_bytes-few : (width : ℕ) → IsWidth width → group_bytes width ≤ group_symbols width
group_bytes-few =
    by_width (λ w. group_bytes w ≤ group_symbols w) (omega arith) (omega arith) (omega arith)
    (omega arith) (omega arith) (omega arith)
