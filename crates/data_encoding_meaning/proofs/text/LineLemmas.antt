-- Texts in lines: their lengths, and one line after another.
use Rattle.std.proofs.Common.{◌≡◌, ℕ, ◌+◌, ◌*◌, ◌/◌, ◌<◌, ◌≤◌, Bool, true, false, Option, Some, None, List, [], ◌++◌, length, refl, ap, subst, arith, append-nil}
use Rattle.std.proofs.Math.Nat.{le-mul_of_pos_right, mul-le-mul_left, mul-le-mul_right}
use Rattle.std.proofs.lemmas.List.{nil_from_length}
use Rattle.std.proofs.lemmas.Nat.{mul-le}
use Rattle.std.specs.List.{AllByRecursion}
use Rattle.data_encoding_meaning.specs.text.Base.{Base, IsWidth, Wrapping, group_bytes, group_symbols, is_padded, meaning}
use Rattle.data_encoding_meaning.specs.declared.encoding.Character.TheVariants.{Ignored}
use Rattle.data_encoding_meaning.specs.text.Lengths.{alignment}
use Rattle.data_encoding_meaning.specs.text.Text.{in_lines, padded_text, text_of}
use Rattle.data_encoding_meaning.proofs.digits.WidthLemmas.{group_bytes-pos, group_symbols-few, group_symbols-pos}
use Rattle.data_encoding_meaning.proofs.lists.EachLemmas.{all_weaker}
use Rattle.data_encoding_meaning.proofs.lists.RunLemmas.{all_ended, ended-short, length-ended, run_count, run_count-few, run_count-some, run_count-whole, runs-reach}
use Rattle.data_encoding_meaning.proofs.judgement.RuleLemmas.{AreLines, IsRuled, IsRuledWrapping}
use Rattle.data_encoding_meaning.proofs.text.TextJoinLemmas.{length-padded_groups, line-groups, whole-parts}
use Rattle.data_encoding_meaning.proofs.text.PaddedTextLemmas.{groups-same, length-padded, length-unpadded, symbols-first, text_of-unwrapped}

-- what follows each line
abbrev pub separator_by : Option Wrapping → List ℕ
separator_by None = []
separator_by (Some lines) = lines.separator

module _ (base : Base) (width : IsWidth base.width) (bytes : List ℕ) where
  -- there are no more characters than whole groups have
  pub padded-few : length (padded_text base bytes)
      ≤ run_count (group_bytes base.width) (length bytes) * group_symbols base.width
  padded-few = by (is_padded base) refl where
    by : (b : Bool) → is_padded base ≡ b → length (padded_text base bytes)
        ≤ run_count (group_bytes base.width) (length bytes) * group_symbols base.width
    by true is = omega (arith, length-padded base bytes width is)
    by false is =
        let count = run_count base.width (8 * length bytes) in
        let same = ap (λ n. n * group_symbols base.width)
        (groups-same base.width width (length bytes)) in
        let reach = runs-reach _ count (group_symbols-pos base.width width) in
        omega (arith, length-unpadded base bytes width is)

  -- nor than any number of whole groups that holds the data
  pub padded-fits : (count : ℕ) → length bytes ≤ count * group_bytes base.width
      → length (padded_text base bytes) ≤ count * group_symbols base.width
  padded-fits count few =
      let groups = run_count-few (group_bytes base.width) (length bytes) count
      (group_bytes-pos base.width width) few in
      omega (arith, padded-few, mul-le-mul_right (group_symbols base.width) groups)

  -- and some if there is data
  padded-some : 0 < length bytes → 0 < length (padded_text base bytes)
  padded-some some =
      let count = run_count base.width (8 * length bytes) in
      let first = symbols-first base bytes width count _ refl refl in
      omega (arith, run_count-some base.width (8 * length bytes) width.some (omega arith))

  -- at most a whole group of each byte
  padded-each : length (padded_text base bytes) ≤ length bytes * group_symbols base.width
  padded-each =
      padded-fits (length bytes)
      (le-mul_of_pos_right (length bytes) (group_bytes-pos base.width width))

  padded-most : length (padded_text base bytes) ≤ 8 * length bytes
  padded-most =
      let most = mul-le-mul_left (length bytes) (group_symbols-few base.width width) in
      omega (arith, padded-each)

module _ (base : Base) (ruled : IsRuled base) (lines : Wrapping) (some : base.wrapping ≡ Some lines)
  where
    pub are : AreLines base lines
    are = subst (IsRuledWrapping base) some ruled.wrapping

    -- the groups of a line
    abbrev pub groups : ℕ
    groups = lines.column / group_symbols base.width

    pub column-is : lines.column ≡ groups * group_symbols base.width
    column-is = whole-parts lines.column (group_symbols base.width) are.whole

    pub alignment-is : alignment base ≡ groups * group_bytes base.width
    alignment-is = rw some (line-groups lines.column base.width ruled.is_width are.whole)

    groups-some : 0 < groups
    groups-some = grind (arith, column-is, are.some)

    pub alignment-some : 0 < alignment base
    alignment-some =
        let bytes = le-mul_of_pos_right groups (group_bytes-pos base.width ruled.is_width) in
        omega (arith, alignment-is, groups-some)

    -- a separator for each line
    pub length-lines : (bytes : List ℕ) → length (text_of base bytes)
        ≡ length (padded_text base bytes)
        + run_count lines.column (length (padded_text base bytes)) * length lines.separator
    length-lines bytes =
        rw some
        (length-ended lines.column lines.separator (padded_text base bytes) are.some)

    lines-few : (bytes : List ℕ)
        → run_count lines.column (length (padded_text base bytes)) ≤ length bytes
    lines-few bytes =
        let size = group_symbols base.width in
        let long : size ≤ lines.column =
        omega (arith, column-is, mul-le 1 size groups size groups-some (omega arith)) in
        let most = mul-le-mul_left (length bytes) long in
        run_count-few lines.column (length (padded_text base bytes)) (length bytes) are.some
        (omega (arith, padded-each base ruled.is_width bytes))

    lines-most : (bytes : List ℕ) → length (text_of base bytes) ≤ 263 * length bytes
    lines-most bytes =
        let ends = mul-le (run_count lines.column (length (padded_text base bytes)))
        (length lines.separator) (length bytes) 255 (lines-few bytes)
        (omega (arith, are.ends_short)) in
        omega (arith, length-lines bytes, padded-most base ruled.is_width bytes)

    -- data of at most this many lines
    module _ (count : ℕ) (bytes : List ℕ) (few : length bytes ≤ count * alignment base) where
      pub padded-lines : length (padded_text base bytes) ≤ count * lines.column
      padded-lines =
          let all = padded-fits base ruled.is_width bytes (count * groups)
          (omega (arith, few, ap (λ n. count * n) alignment-is)) in
          omega (arith, ap (λ n. count * n) column-is)

      pub short-lines : length (text_of base bytes)
          ≤ count * (lines.column + length lines.separator)
      short-lines =
          let ends = length lines.separator in
          let all : run_count lines.column (length (padded_text base bytes)) ≤ count =
          run_count-few lines.column (length (padded_text base bytes)) count are.some
          padded-lines in
          omega (arith, length-lines bytes, padded-lines, mul-le-mul_right ends all)

    pub whole-lines : (count : ℕ) (bytes : List ℕ) → length bytes ≡ count * alignment base
        → length (text_of base bytes) ≡ count * (lines.column + length lines.separator)
    whole-lines count bytes e =
        let ends = length lines.separator in
        let all = length-padded_groups base ruled.is_width bytes (count * groups)
        (omega (arith, e, ap (λ n. count * n) alignment-is)) in
        let long : length (padded_text base bytes) ≡ count * lines.column =
        omega (arith, ap (λ n. count * n) column-is) in
        rw (length-lines bytes, long, run_count-whole lines.column count are.some) (omega arith)

    -- data of at most a line
    one-line : (bytes : List ℕ) → length bytes ≤ alignment base → 0 < length bytes
        → text_of base bytes ≡ padded_text base bytes ++ lines.separator
    one-line bytes few any =
        rw some
        (ended-short lines.column lines.separator (padded_text base bytes)
        (padded-some base ruled.is_width bytes any)
        (omega (arith, padded-lines 1 bytes (omega (arith, few)))))

-- a separator of 255 after each line of eight symbols, of one byte, is the most
pub text-most : (base : Base) → IsRuled base → (bytes : List ℕ)
    → length (text_of base bytes) ≤ 263 * length bytes
text-most base ruled bytes = by base.wrapping refl where
  by : (o : Option Wrapping) → base.wrapping ≡ o → length (text_of base bytes) ≤ 263 * length bytes
  by None is =
      rw (text_of-unwrapped base bytes is) (omega (arith, padded-most base ruled.is_width bytes))
  by (Some lines) is = lines-most base ruled lines is bytes

pub text_of-nil : (base : Base) → IsRuled base → text_of base [] ≡ []
text_of-nil base ruled =
    let few : length (text_of base []) ≤ 263 * 0 = text-most base ruled [] in
    nil_from_length (text_of base []) (omega (arith, few))

-- data of at most a line, or of any length if there are no lines
pub text_of-line : (base : Base) → IsRuled base → (bytes : List ℕ) → 0 < length bytes
    → length bytes ≤ alignment base
    → text_of base bytes ≡ padded_text base bytes ++ separator_by base.wrapping
text_of-line base ruled bytes any few = by base.wrapping refl where
  by : (o : Option Wrapping) → base.wrapping ≡ o
      → text_of base bytes ≡ padded_text base bytes ++ separator_by o
  by None is = rw append-nil (text_of-unwrapped base bytes is)
  by (Some lines) is = one-line base ruled lines is bytes few any

-- a text is ASCII with its separators too
pub ascii-text_of : (base : Base) → IsRuled base → (bytes : List ℕ)
    → AllByRecursion (λ byte. byte < 128) (padded_text base bytes)
    → AllByRecursion (λ byte. byte < 128) (text_of base bytes)
ascii-text_of base ruled bytes ascii = by base.wrapping ruled.wrapping where
  by : (o : Option Wrapping) → IsRuledWrapping base o
      → AllByRecursion (λ byte. byte < 128) (in_lines o (padded_text base bytes))
  by None rule = ascii
  by (Some lines) rule =
      all_ended (λ byte. byte < 128) lines.separator
      (all_weaker (λ byte. (byte < 128) × (meaning base byte ≡ Ignored)) (λ byte. byte < 128)
      (λ byte both. both.0) lines.separator rule.ignored)
      lines.column (run_count lines.column (length (padded_text base bytes)))
      (padded_text base bytes) ascii
