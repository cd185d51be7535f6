-- Characters with their positions.
use Rattle.std.proofs.Common.{◌≡◌, ℕ, zero, suc, ◌+◌, ◌<◌, ◌≤◌, false, not, List, [], ◌∷◌, ◌++◌, length, map, get_or, refl, ap, ◌∙◌, arith}
use Rattle.std.proofs.lemmas.List.{length-map, map-append}
use Rattle.std.proofs.lemmas.List.FromFn.{length-enumerate_from}
use Rattle.std.specs.List.{filter}
use Rattle.std.proofs.Math.Nat.{add-zero}
use Rattle.data_encoding_meaning.specs.declared.encoding.Character.{Character}
use Rattle.data_encoding_meaning.specs.declared.encoding.Character.TheVariants.{Invalid}
use Rattle.data_encoding_meaning.specs.text.Base.{Base, meaning, is_ignored, ignores_some}
use Rattle.data_encoding_meaning.specs.text.Grammar.{Positioned, bytes_in, positioned, positioned_from, kept, meanings_in}
use Rattle.data_encoding_meaning.specs.decoding.Fault.{position_of}
use Rattle.data_encoding_meaning.specs.text.Bits.{runs}
use Rattle.data_encoding_meaning.proofs.lists.EachLemmas.{map-twice}
use Rattle.data_encoding_meaning.proofs.lists.ListLemmas.{AllFail, AllFail-list_any, length-filter}
use Rattle.data_encoding_meaning.proofs.lists.RunLemmas.{runs-map}

pub positioned_from-append : (place : ℕ) (xs ys : List ℕ)
    → positioned_from place (xs ++ ys)
    ≡ positioned_from place xs ++ positioned_from (place + length xs) ys
positioned_from-append place [] ys = rw add-zero
positioned_from-append place (x ∷ xs) ys =
    let next : place + 1 + length xs ≡ place + length (x ∷ xs) = omega arith in
    rw (positioned_from-append (place + 1) xs ys, next)

pub length-positioned_from : (place : ℕ) (text : List ℕ)
    → length (positioned_from place text) ≡ length text
length-positioned_from place text = simp (length-map, length-enumerate_from)

-- what the bytes of a group mean is as long as the group
pub length-meanings : (base : Base) (ks : List Positioned)
    → length (meanings_in base ks) ≡ length ks
length-meanings base ks = simp length-map

pub meanings-append : (base : Base) (ks js : List Positioned)
    → meanings_in base (ks ++ js) ≡ meanings_in base ks ++ meanings_in base js
meanings-append base ks js = simp map-append

-- of each run of some bytes, what its bytes mean
pub runs-meanings : (base : Base) (size : ℕ) (ks : List Positioned) → 0 < size
    → runs size (meanings_in base ks) ≡ map (meanings_in base) (runs size ks)
runs-meanings base size ks some =
    let byte_of : Positioned → ℕ = λ k. k.byte in
    rw (runs-map size (meaning base) (bytes_in ks) some, runs-map size byte_of ks some)
    (map-twice (map (meaning base)) (map byte_of) (runs size ks))

-- the characters of a group are its bytes, each with its position
pub bytes-positioned_from : (place : ℕ) (group : List ℕ)
    → bytes_in (positioned_from place group) ≡ group
bytes-positioned_from place [] = refl
bytes-positioned_from place (byte ∷ group) = rw (bytes-positioned_from (place + 1) group)

pub length-by_bytes : (ks : List Positioned) (group : List ℕ) → bytes_in ks ≡ group
    → length ks ≡ length group
length-by_bytes ks group h = simp length-map at (ap length h)

pub position_of-positioned_from : (place : ℕ) (group : List ℕ) (index : ℕ) → index < length group
    → position_of (positioned_from place group) index ≡ place + index
position_of-positioned_from place [] index h = absurd (omega (arith, h))
position_of-positioned_from place (byte ∷ group) zero h = omega arith
position_of-positioned_from place (byte ∷ group) (suc index) h =
    position_of-positioned_from (place + 1) group index (omega (arith, h)) ∙ omega arith

not_ignored_at : (meanings : List Character) → AllFail is_ignored meanings
    → (byte : ℕ) → is_ignored (get_or meanings byte Invalid) ≡ false
not_ignored_at [] h byte = refl
not_ignored_at (m ∷ meanings) h zero = h.0
not_ignored_at (m ∷ meanings) h (suc byte) = not_ignored_at meanings h.1 byte

-- if nothing is ignored, no byte is
pub never_ignored : (base : Base) → ignores_some base ≡ false → (byte : ℕ)
    → is_ignored (meaning base byte) ≡ false
never_ignored base h = not_ignored_at base.meanings (AllFail-list_any is_ignored base.meanings h)

-- and each is kept
pub filter-plain : (base : Base) → ignores_some base ≡ false → (ks : List Positioned)
    → filter (λ k. not (is_ignored (meaning base k.byte))) ks ≡ ks
filter-plain base h [] = refl
filter-plain base h (k ∷ ks) = rw (never_ignored base h k.byte, filter-plain base h ks)

pub length-kept : (base : Base) (text : List ℕ) → length (kept base text) ≤ length text
length-kept base text =
    simp length-positioned_from at (length-filter
    (λ (k : Positioned). not (is_ignored (meaning base k.byte))) (positioned text))

pub length-kept_plain : (base : Base) (text : List ℕ) → ignores_some base ≡ false
    → length (kept base text) ≡ length text
length-kept_plain base text h =
    rw (filter-plain base h (positioned text)) (length-positioned_from 0 text)
