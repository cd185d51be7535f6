-- The lengths of whole groups.
use Rattle.std.proofs.Common.{◌≡◌, ℕ, ◌*◌, ◌/◌, ◌≤◌, true, false, List, [], ◌∷◌, None, Ok, refl, ap, ◌∙◌, arith}
use Rattle.std.proofs.Math.Nat.{mul-mod_left}
use Rattle.std.specs.List.{list_any}
use Rattle.data_encoding_meaning.specs.text.Base.{Base, IsWidth, group_bytes, group_symbols}
use Rattle.data_encoding_meaning.specs.text.Grammar.{Positioned, is_final}
use Rattle.data_encoding_meaning.specs.text.Lengths.{decoded_len, most_bytes}
use Rattle.data_encoding_meaning.proofs.digits.WidthLemmas.{by_width}
use Rattle.data_encoding_meaning.proofs.grammar.LengthLemmas.{decoded_len-valid, whole-length}
use Rattle.data_encoding_meaning.proofs.judgement.RuleLemmas.{IsRuled}

-- A number of whole groups, and no more bytes than symbols, in whole groups or not.
record HasLengths (width : ℕ) : Type 0 where
  padded : (count : ℕ)
      → count * group_symbols width / group_symbols width * group_bytes width
      ≡ count * group_bytes width
  plain : (count : ℕ) → width * (count * group_symbols width) / 8 ≡ count * group_bytes width
  padded_most : (len : ℕ) → len / group_symbols width * group_bytes width ≤ len
  plain_most : (len : ℕ) → width * len / 8 ≤ len

has_lengths : (width : ℕ) → IsWidth width → HasLengths width
has_lengths =
    by_width HasLengths (omega arith) (omega arith) (omega arith) (omega arith) (omega arith)
    (omega arith)

module _ (base : Base) (width : IsWidth base.width) where
  abbrev size : ℕ
  size = group_symbols base.width

  lengths : HasLengths base.width
  lengths = has_lengths base.width width

  pub decoded_len-whole : (count : ℕ)
      → decoded_len base (count * size) ≡ Ok (count * group_bytes base.width)
  decoded_len-whole count =
      let due : most_bytes base (count * size) ≡ count * group_bytes base.width =
      grind (arith, lengths.padded count, lengths.plain count) in
      decoded_len-valid base (count * size)
      (whole-length base width (count * size) (mul-mod_left count size))
      ∙ ap (λ n. Ok n) due

  pub whole_bytes : (count : ℕ) → base.width * (count * size) / 8 ≡ count * group_bytes base.width
  whole_bytes = lengths.plain

  pub most_bytes-few : (len : ℕ) → most_bytes base len ≤ len
  most_bytes-few len = grind (arith, lengths.padded_most len, lengths.plain_most len)

-- if texts may be concatenated, no group is final
pub none_final-joined : (base : Base) → base.concatenates ≡ true → (gs : List (List Positioned))
    → list_any (is_final base) gs ≡ false
none_final-joined base joins [] = refl
none_final-joined base joins (g ∷ gs) = rw (none_final-joined base joins gs, joins)

-- and texts without padding may be
pub joins-unpadded : (base : Base) → IsRuled base → base.padding ≡ None → base.concatenates ≡ true
joins-unpadded base ruled unpadded =
    let joined = ruled.concatenated in grind (arith, joined)
