-- Texts in lines, made in pieces: line by line, and by blocks of lines.
use Rattle.std.proofs.Common.{◌≡◌, ℕ, ◌+◌, ◌*◌, ◌/◌, ◌<◌, ◌≤◌, Some, IsSome, List, ◌++◌, length, ap, arith, length-append}
use Rattle.std.proofs.Math.Nat.{div-le_self, le-mul_of_pos_right, mul-mod_left, mul_assoc}
use Rattle.std.proofs.lemmas.Nat.{le-div}
use Rattle.std.proofs.lemmas.List.Concat.{flat_map-append}
use Rattle.std.specs.Prelude.{flat_map}
use Rattle.data_encoding_meaning.specs.text.Base.{Base, Wrapping}
use Rattle.data_encoding_meaning.specs.text.Bits.{runs}
use Rattle.data_encoding.specs.Encoding.{EncodingTables, KeepsRules, base_of_tables}
use Rattle.data_encoding_meaning.specs.text.Lengths.{alignment}
use Rattle.data_encoding_meaning.specs.text.Text.{padded_text, text_of}
use Rattle.data_encoding_meaning.proofs.judgement.RuleLemmas.{AreLines, IsRuled}
use Rattle.data_encoding_meaning.proofs.lists.PartLemmas.{groups-within}
use Rattle.data_encoding_meaning.proofs.lists.PieceLemmas.{IsByPieces}
use Rattle.data_encoding_meaning.proofs.lists.RunLemmas.{ended-short, runs-join, runs-nil}
use Rattle.data_encoding.proofs.text.LineTableLemmas.{IsRuled-seen, column-some, wrapping-seen}
use Rattle.data_encoding_meaning.proofs.text.LineLemmas.{alignment-some, are, padded-lines, short-lines, text-most, text_of-nil, whole-lines}
use Rattle.data_encoding_meaning.proofs.text.TextJoinLemmas.{text_of-join, whole-parts}

pub IsByPieces-lines : (column : ℕ) (separator : List ℕ) → 0 < column
    → IsByPieces (λ text. flat_map (λ line. line ++ separator) (runs column text)) column
    (column + length separator)
IsByPieces-lines column separator some =
    record {
      some = some;
      nil = ap (flat_map (λ line. line ++ separator)) (runs-nil column some);
      join =
          λ xs ys whole.
          rw (runs-join column xs ys some whole)
          (flat_map-append (λ line. line ++ separator) _ _);
      whole =
          λ xs e.
          rw (ended-short column separator xs (omega (arith, e, some)) (omega (arith, e)), ← e)
          (length-append xs separator);
      short =
          λ xs any few.
          rw (ended-short column separator xs any few, length-append xs separator) (omega arith);
    }

IsByPieces-blocks : (base : Base) → IsRuled base → (lines : Wrapping)
    → base.wrapping ≡ Some lines → (count : ℕ) → 0 < count
    → IsByPieces (text_of base) (count * alignment base)
    (count * (lines.column + length lines.separator))
IsByPieces-blocks base ruled lines wrapped count some =
    let size = alignment base in
    let size-some : 0 < size = alignment-some base ruled lines wrapped in
    record {
      some = omega (arith, some, le-mul_of_pos_right count size-some);
      nil = text_of-nil base ruled;
      join =
          λ xs ys whole.
          let blocks = length xs / (count * size) in
          text_of-join base ruled xs ys
          (rw (whole-parts (length xs) (count * size) whole, ← (mul_assoc blocks count size))
          (mul-mod_left (blocks * count) size));
      whole = λ xs e. whole-lines base ruled lines wrapped count xs e;
      short = λ xs any few. short-lines base ruled lines wrapped count xs few;
    }

-- the same by what the tables say
module _ {e : EncodingTables} {seen : Base} (rules : KeepsRules e) (is : base_of_tables e ≡ seen)
    (wraps : IsSome seen.wrapping) where
  abbrev pub lines : Wrapping
  lines = record { column = e.column; separator = e.separator }

  pub ruled : IsRuled seen
  ruled = IsRuled-seen e rules seen is

  pub wrapped : seen.wrapping ≡ Some lines
  wrapped = wrapping-seen e rules seen is (column-some e rules seen is wraps)

  lines-are : AreLines seen lines
  lines-are = are seen ruled lines wrapped

  pub columns-some : 0 < e.column
  columns-some = lines-are.some

  pub text-few : (input : List ℕ) → length (text_of seen input) ≤ 263 * length input
  text-few = text-most seen ruled

  pub line-few : {ends : ℕ} → ends ≡ length e.separator → e.column + ends ≤ 510
  line-few ends-is = omega (arith, lines-are.short, lines-are.ends_short)

  pub text-wrapped : (input : List ℕ) {separator padded : List ℕ}
      → separator ≡ e.separator → padded ≡ padded_text seen input
      → text_of seen input ≡ flat_map (λ line. line ++ separator) (runs e.column padded)
  text-wrapped input {separator} {padded} separator-is padded-is =
      rw (wrapped, separator-is, padded-is)

  pub IsByPieces-text : {count size ends : ℕ} → 0 < count → size ≡ alignment seen
      → ends ≡ length e.separator
      → IsByPieces (text_of seen) (count * size) (count * (e.column + ends))
  IsByPieces-text {count} {size} {ends} any size-is ends-is =
      rw (size-is, ends-is) (IsByPieces-blocks seen ruled lines wrapped count any)

  -- as many lines as there is room for
  module _ (room : ℕ) where
    pub lines-few : room / e.column ≤ room
    lines-few = div-le_self room e.column

    pub lines-some : 256 ≤ room → 0 < room / e.column
    lines-some enough = le-div 1 room e.column columns-some (omega (arith, lines-are.short, enough))

    pub lines-fit : {size : ℕ} (bytes : List ℕ) → size ≡ alignment seen
        → length bytes ≤ room / e.column * size → length (padded_text seen bytes) ≤ room
    lines-fit {size} bytes size-is few =
        let count = room / e.column in
        let most : length (padded_text seen bytes) ≤ count * e.column =
        padded-lines seen ruled lines wrapped count bytes
        (omega (arith, few, ap (λ n. count * n) size-is)) in
        omega (arith, most, groups-within room e.column)
