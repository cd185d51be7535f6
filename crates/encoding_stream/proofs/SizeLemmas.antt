-- How many symbols and bytes a group has, and how many bytes are due for a length.
use Rattle.std.proofs.Common.{◌≡◌, ℕ, zero, suc, ◌*◌, ◌/◌, ◌%◌, ◌<◌, ◌≤◌, ◌==◌, Bool, true, false, if◌then◌else◌, Option, None, Some, Ok, arith}
use Rattle.std.proofs.Math.Nat.{div-mul-le_self, mul-le-mul_left}
use Rattle.data_encoding.specs.declared.error.DecodeError.{DecodeError}
use Rattle.data_encoding.specs.Base.{Base, IsWidth, group_bytes, group_symbols}
use Rattle.data_encoding.specs.Lengths.{decoded_len, length_fault, most_bytes, unless_fault}

-- what holds for each of the six widths
pub by_width : (P : ℕ → Type 0) → P 1 → P 2 → P 3 → P 4 → P 5 → P 6
    → (width : ℕ) → IsWidth width → P width
by_width P a b c d e f zero h = absurd (omega (arith, h.some))
by_width P a b c d e f (suc zero) h = a
by_width P a b c d e f (suc (suc zero)) h = b
by_width P a b c d e f (suc (suc (suc zero))) h = c
by_width P a b c d e f (suc (suc (suc (suc zero)))) h = d
by_width P a b c d e f (suc (suc (suc (suc (suc zero))))) h = e
by_width P a b c d e f (suc (suc (suc (suc (suc (suc zero)))))) h = f
by_width P a b c d e f (suc (suc (suc (suc (suc (suc (suc more))))))) h =
    absurd (omega (arith, h.few))

pub symbols-some : (width : ℕ) → IsWidth width → 0 < group_symbols width
symbols-some =
    by_width (λ w. 0 < group_symbols w) (omega arith) (omega arith) (omega arith) (omega arith)
    (omega arith) (omega arith)

pub symbols-few : (width : ℕ) → IsWidth width → group_symbols width ≤ 8
symbols-few =
    by_width (λ w. group_symbols w ≤ 8) (omega arith) (omega arith) (omega arith) (omega arith)
    (omega arith) (omega arith)

pub bytes-few : (width : ℕ) → IsWidth width → group_bytes width ≤ 5
bytes-few =
    by_width (λ w. group_bytes w ≤ 5) (omega arith) (omega arith) (omega arith) (omega arith)
    (omega arith) (omega arith)

bytes-fewer : (width : ℕ) → IsWidth width → group_bytes width ≤ group_symbols width
bytes-fewer =
    by_width (λ w. group_bytes w ≤ group_symbols w) (omega arith) (omega arith) (omega arith)
    (omega arith) (omega arith) (omega arith)

some-by : (five three : Bool) → 0 < (if five then 5 else if three then 3 else 1)
some-by true three = omega arith
some-by false true = omega arith
some-by false false = omega arith

pub bytes-some : (width : ℕ) → 0 < group_bytes width
bytes-some width = some-by (width == 5) (width % 3 == 0)

-- this many bytes of text complete groups of no more bytes
pub most-few : (width : ℕ) → IsWidth width → (count : ℕ)
    → count / group_symbols width * group_bytes width ≤ count
most-few width is count =
    let groups : ℕ = count / group_symbols width in
    let less : groups * group_bytes width ≤ groups * group_symbols width =
    mul-le-mul_left groups (bytes-fewer width is) in
    omega (arith, less, div-mul-le_self count (group_symbols width))

due-unless : (fault : Option DecodeError) (most bytes : ℕ) → unless_fault fault most ≡ Ok bytes
    → bytes ≡ most
due-unless None most bytes is = cc
due-unless (Some error) most bytes is = absurd (cc is)

-- what is due for a length that is not a fault
pub due-most : (base : Base) (len due : ℕ) → decoded_len base len ≡ Ok due
    → due ≡ most_bytes base len
due-most base len due is = due-unless (length_fault base len) (most_bytes base len) due is
