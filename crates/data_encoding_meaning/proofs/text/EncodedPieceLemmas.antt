-- Data that is encoded piece by piece: blocks as they fill, and the rest at the end.
use Rattle.std.proofs.Common.{[], refl, append-nil, ◌≡◌, ℕ, ◌+◌, ◌%◌, ◌<◌, List, ◌++◌, length, append_assoc, length-append}
use Rattle.std.proofs.Math.Nat.{mod-add-mod, mod-eq_of_lt, zero-add}
use Rattle.data_encoding_meaning.specs.text.Base.{Base}
use Rattle.data_encoding_meaning.specs.text.EncodedPieces.{HasEncoded}
use Rattle.data_encoding_meaning.specs.text.Lengths.{alignment}
use Rattle.data_encoding_meaning.specs.text.Text.{text_of}
use Rattle.data_encoding_meaning.proofs.judgement.RuleLemmas.{IsRuled}
use Rattle.data_encoding_meaning.proofs.text.LineLemmas.{text_of-nil}
use Rattle.data_encoding_meaning.proofs.text.TextJoinLemmas.{text_of-join}

-- two lengths of whole blocks together
pub whole-both : (m n size : ℕ) → m % size ≡ 0 → n % size ≡ 0 → (m + n) % size ≡ 0
whole-both m n size one other = rw (← (mod-add-mod m size n), one, zero-add) other

-- nothing was taken yet
pub HasEncoded-nothing : (base : Base) → IsRuled base → (text : List ℕ) → 0 < alignment base
    → HasEncoded base text [] text []
HasEncoded-nothing base ruled text some = record {
  encoded = [];
  are_bytes = refl;
  is_aligned = mod-eq_of_lt some;
  is_short = some;
  is_written = rw (text_of-nil base ruled, append-nil);
}

module _ (base : Base) (ruled : IsRuled base) (before bytes text held : List ℕ)
    (has : HasEncoded base before bytes text held) where
  -- whole blocks of what was held and of a piece are encoded, and the rest is held
  pub HasEncoded-whole : (piece whole left : List ℕ) → held ++ piece ≡ whole ++ left
      → length whole % alignment base ≡ 0 → length left < alignment base
      → HasEncoded base before (bytes ++ piece) (text ++ text_of base whole) left
  HasEncoded-whole piece whole left cut aligned short =
      let all = text_of-join base ruled has.encoded whole has.is_aligned in
      record {
        encoded = has.encoded ++ whole;
        are_bytes = simp (has.are_bytes, cut, append_assoc);
        is_aligned = rw (length-append has.encoded whole)
            (whole-both (length has.encoded) (length whole) (alignment base) has.is_aligned
            aligned);
        is_short = short;
        is_written = simp (has.is_written, all, append_assoc);
      }

  -- what is held is encoded at the end
  pub text_of-pieces : (whole : List ℕ) → whole ≡ text ++ text_of base held
      → whole ≡ before ++ text_of base bytes
  text_of-pieces whole written =
      let all = text_of-join base ruled has.encoded held has.is_aligned in
      simp (written, has.is_written, has.are_bytes, all, append_assoc)
