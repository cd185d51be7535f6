-- Blocks of data, which are whole groups or whole lines: how long their texts are.
use Rattle.std.proofs.Common.{◌≡◌, ℕ, ◌+◌, ◌*◌, ◌/◌, ◌%◌, ◌<◌, ◌≤◌, Option, Some, None, List, length, refl, ap, arith}
use Rattle.std.proofs.Math.Nat.{div-mul-le_self, mul-pos, mul-le-mul_left, mul-mod_left}
use Rattle.std.proofs.lemmas.Nat.{le-div}
use Rattle.std.proofs.lemmas.Bool.Decides.{nat_tests}
use Rattle.data_encoding_meaning.specs.text.Base.{Base, IsWidth, Wrapping, group_bytes, group_symbols}
use Rattle.data_encoding_meaning.specs.text.Lengths.{IsBlockLength, align_by, alignment}
use Rattle.data_encoding_meaning.specs.text.Text.{text_of}
use Rattle.data_encoding_meaning.proofs.digits.WidthLemmas.{group_bytes-few, group_bytes-pos, group_symbols-few}
use Rattle.data_encoding_meaning.proofs.judgement.RuleLemmas.{IsRuled}
use Rattle.data_encoding_meaning.proofs.text.LineLemmas.{alignment-is, alignment-some, are, column-is, groups, padded-fits, short-lines}
use Rattle.data_encoding_meaning.proofs.text.PaddedTextLemmas.{text_of-unwrapped}
use Rattle.data_encoding_meaning.proofs.grammar.LengthLemmas.{widths}

-- lines of whole groups that are below 256: their characters, and their bytes
abbrev FewColumns : ℕ → Type 0
FewColumns width =
    (column : ℕ) → column < 256 → column % group_symbols width ≡ 0
    → (column ≤ 254) × (column * width / 8 ≤ 189)

pub few-columns : (width : ℕ) → IsWidth width → FewColumns width
few-columns width is column short whole = grind (arith, nat_tests, widths width is)

module _ (base : Base) (ruled : IsRuled base) where
  -- a group
  pub IsBlockLength-group : base.wrapping ≡ None → IsBlockLength base (group_symbols base.width)
  IsBlockLength-group none =
      let is : alignment base ≡ group_bytes base.width = ap (λ o. align_by o base.width) none in
      record {
        some = rw is (group_bytes-pos base.width ruled.is_width);
        no_shorter = rw is (group_bytes-few base.width ruled.is_width);
        few = omega (arith, group_symbols-few base.width ruled.is_width);
        fits = λ count bytes few.
            rw (text_of-unwrapped base bytes none)
            (padded-fits base ruled.is_width bytes count (rw is at few));
      }

  -- a line with its separator
  pub IsBlockLength-line : (lines : Wrapping) → base.wrapping ≡ Some lines
      → IsBlockLength base (lines.column + length lines.separator)
  IsBlockLength-line lines some =
      let rules = are base ruled lines some in
      record {
        some = alignment-some base ruled lines some;
        no_shorter =
            let fewer = mul-le-mul_left (groups base ruled lines some)
            (group_bytes-few base.width ruled.is_width) in
            omega (arith, alignment-is base ruled lines some, column-is base ruled lines some);
        few =
            let short = few-columns base.width ruled.is_width lines.column rules.short
            rules.whole in
            omega arith;
        fits = λ count bytes few. short-lines base ruled lines some count bytes few;
      }

  -- a byte at least
  pub alignment-positive : 0 < alignment base
  alignment-positive = by base.wrapping refl where
    by : (o : Option Wrapping) → base.wrapping ≡ o → 0 < alignment base
    by None none = (IsBlockLength-group none).some
    by (Some lines) some = alignment-some base ruled lines some

-- the data of whole blocks whose texts fit into this much room
module _ (base : Base) (len : ℕ) (is : IsBlockLength base len) (room size : ℕ)
    (size-is : size ≡ alignment base) where
  size-same : room / len * size ≡ room / len * alignment base
  size-same = ap (λ n. room / len * n) size-is

  pub piece-few : room / len * size ≤ room
  piece-few =
      omega (arith, size-same, mul-le-mul_left (room / len) is.no_shorter, div-mul-le_self room len)

  pub piece-some : 510 ≤ room → 0 < room / len * size
  piece-some most =
      let block : 0 < len = omega (arith, is.some, is.no_shorter) in
      let one = le-div 1 room len block (omega (arith, is.few, most)) in
      omega (arith, size-same, mul-pos one is.some)

  pub piece-whole : room / len * size % alignment base ≡ 0
  piece-whole = rw size-same (mul-mod_left (room / len) (alignment base))

  pub piece-fits : (bytes : List ℕ) → length bytes ≤ room / len * size
      → length (text_of base bytes) ≤ room
  piece-fits bytes few =
      omega (arith, is.fits (room / len) bytes (rw size-same at few), div-mul-le_self room len)
