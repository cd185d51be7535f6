-- The sizes of a group.
use Rattle.std.proofs.Common.{◌≡◌, ◌⊎◌, inl, inr, ℕ, ◌+◌, ◌-◌, ◌*◌, ◌/◌, ◌≤◌, refl, arith}
use Rattle.data_encoding_meaning.specs.text.Base.{IsWidth, group_bytes, group_symbols, IsGroup}
use Rattle.data_encoding_meaning.proofs.digits.WidthLemmas.{by_width}

-- a whole group is small enough for a word
abbrev IsSmall : ℕ → ℕ → ℕ → Type 0
IsSmall width bytes symbols = record {
  few_bytes : bytes ≤ 5;
  few_symbols : symbols ≤ 8;
  few_bits : width * symbols ≤ 40;
}

IsSmall-width : (width : ℕ) → IsWidth width
    → IsSmall width (group_bytes width) (group_symbols width)
IsSmall-width =
    by_width (λ w. IsSmall w (group_bytes w) (group_symbols w)) (omega arith) (omega arith)
    (omega arith) (omega arith) (omega arith) (omega arith)

pub IsSmall-group : {width bytes symbols : ℕ} → IsGroup width bytes symbols
    → IsSmall width bytes symbols
IsSmall-group {width} group =
    rw (group.has_bytes, group.has_symbols) (IsSmall-width width group.is_width)

-- a group has eight, four or two symbols
pub symbols-are : {width bytes symbols : ℕ} → IsGroup width bytes symbols
    → (symbols ≡ 8) ⊎ (symbols ≡ 4) ⊎ (symbols ≡ 2)
symbols-are {width} group =
    rw group.has_symbols
    (by_width (λ w. (group_symbols w ≡ 8) ⊎ (group_symbols w ≡ 4) ⊎ (group_symbols w ≡ 2))
    (inl refl) (inr (inl refl)) (inl refl) (inr (inr refl)) (inl refl) (inr (inl refl)) width
    group.is_width)

-- and one, three or five bytes
pub bytes-are : {width bytes symbols : ℕ} → IsGroup width bytes symbols
    → (bytes ≡ 1) ⊎ (bytes ≡ 3) ⊎ (bytes ≡ 5)
bytes-are {width} group =
    rw group.has_bytes
    (by_width (λ w. (group_bytes w ≡ 1) ⊎ (group_bytes w ≡ 3) ⊎ (group_bytes w ≡ 5))
    (inl refl) (inl refl) (inr (inl refl)) (inl refl) (inr (inr refl)) (inr (inl refl)) width
    group.is_width)

-- the bytes of a group have no more symbols than a group
pub symbols-within : {width bytes symbols : ℕ} → IsGroup width bytes symbols
    → (n : ℕ) → n ≤ bytes → (8 * n + (width - 1)) / width ≤ symbols
symbols-within {width} group n few =
    let within = by_width (λ w. n ≤ group_bytes w → (8 * n + (w - 1)) / w ≤ group_symbols w)
    (omega arith) (omega arith) (omega arith) (omega arith) (omega arith) (omega arith) width
    group.is_width in
    rw group.has_symbols (within (rw group.has_bytes at few))

-- what is equal to the sizes of a group are such sizes
pub IsGroup-same : {w b s width bytes symbols : ℕ} → width ≡ w → bytes ≡ b → symbols ≡ s
    → IsGroup w b s → IsGroup width bytes symbols
IsGroup-same p q r group = rw (p, q, r) group

-- and the room for this many groups is the same
pub room-same : {b s bytes symbols : ℕ} (n m : ℕ) → bytes ≡ b → symbols ≡ s
    → n / s * b ≤ m → n / symbols * bytes ≤ m
room-same n m q r room = rw (q, r) room
