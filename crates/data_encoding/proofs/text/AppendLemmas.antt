-- A text that is written behind another one.
use Rattle.std.proofs.Common.{◌≡◌, ◌+◌, ◌-◌, ℕ, List, length, take, drop, arith, sym, ap, ◌∙◌, ◌++◌, length-append, length-take-le}
use Rattle.std.proofs.lemmas.List.{take_at}
use borrow.Rule.Slice.PartMut.{put_mid}
use Rattle.data_encoding_meaning.proofs.lists.WriteLemmas.{put_mid-end}

-- A list of length `len` is the old one and room for `added` more.
pub record IsExtended (old now : List ℕ) (start added len : ℕ) : Type 0 where
  pub front : take start now ≡ old
  pub whole : length now ≡ len
  pub sized : len ≡ start + added

-- the end of a list is overwritten, and what follows its length is dropped
pub written : {old now : List ℕ} (text made items : List ℕ) {start added len : ℕ}
    → IsExtended old now start added len → length made ≡ added → text ≡ made
    → take len (put_mid start (length now - start) now text
    ++ drop (length (put_mid start (length now - start) now text)) items) ≡ old ++ text
written {old} {now} text made items {start} {added} {len} room as_long is =
    let whole = put_mid-end start now text ∙ ap (λ l. l ++ text) room.front in
    let before = ap length (sym room.front)
    ∙ length-take-le start now (omega (arith, room.whole, room.sized)) in
    take_at (put_mid start (length now - start) now text) _ len
    (ap length whole ∙ length-append old text
    ∙ omega (arith, before, room.sized, ap length is, as_long))
    ∙ whole
