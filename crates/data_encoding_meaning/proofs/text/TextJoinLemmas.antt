-- The texts of data that are joined at whole groups or at whole lines.
use Rattle.std.proofs.Common.{◌≡◌, ℕ, ◌-◌, ◌*◌, ◌/◌, ◌%◌, ◌<◌, Option, Some, None, List, ◌++◌, length, refl, sym, ap, ◌∙◌, arith}
use Rattle.std.proofs.Math.Nat.{mul-mod_left, mul-mod_right}
use Rattle.std.proofs.lemmas.List.Concat.{flat_map-append}
use Rattle.std.proofs.lemmas.Nat.{div-add-mod'}
use Rattle.data_encoding_meaning.specs.text.Base.{Base, IsWidth, Wrapping, group_bytes, group_symbols}
use Rattle.data_encoding_meaning.specs.text.Lengths.{align_by, alignment}
use Rattle.data_encoding_meaning.specs.text.Text.{in_lines, padded_text, plain_text, text_of, with_padding}
use Rattle.data_encoding_meaning.proofs.digits.WidthLemmas.{group_bits, group_symbols-pos}
use Rattle.data_encoding_meaning.proofs.lists.PartLemmas.{regroup, whole-group}
use Rattle.data_encoding_meaning.proofs.lists.RunLemmas.{runs-join}
use Rattle.data_encoding_meaning.proofs.judgement.RuleLemmas.{IsRuled, IsRuledWrapping}
use Rattle.data_encoding_meaning.proofs.text.PlainTextLemmas.{filled-join, filled-whole, length-plain_text, plain_text-join}

-- a number of whole pieces
pub whole-parts : (n size : ℕ) → n % size ≡ 0 → n ≡ n / size * size
whole-parts n size e = omega (arith, div-add-mod' n size, e)

with_padding-whole : (o : Option ℕ) (size : ℕ) (xs : List ℕ) → length xs % size ≡ 0
    → with_padding o size xs ≡ xs
with_padding-whole None size xs e = refl
with_padding-whole (Some character) size xs e = filled-whole character size xs e

with_padding-join : (o : Option ℕ) (size : ℕ) (xs ys : List ℕ) → 0 < size → length xs % size ≡ 0
    → with_padding o size (xs ++ ys) ≡ with_padding o size xs ++ with_padding o size ys
with_padding-join None size xs ys h e = refl
with_padding-join (Some character) size xs ys h e =
    rw (filled-whole character size xs e) (filled-join character size xs ys h e)

module _ (base : Base) (width : IsWidth base.width) (bytes : List ℕ) (q : ℕ)
    (groups : length bytes ≡ q * group_bytes base.width) where
  -- the bits of whole groups
  bits-whole : 8 * length bytes ≡ base.width * (q * group_symbols base.width)
  bits-whole =
      ap (λ n. 8 * n) groups
      ∙ regroup 8 base.width (group_bytes base.width) (group_symbols base.width) (base.width - 1)
      (sym (group_bits base.width width)) width.some q

  length-plain_groups : length (plain_text base bytes) ≡ q * group_symbols base.width
  length-plain_groups =
      length-plain_text base bytes width.some
      ∙ whole-group 8 base.width (length bytes) (q * group_symbols base.width) (base.width - 1)
      bits-whole (omega (arith, width.some))

  plain_groups : length (plain_text base bytes) % group_symbols base.width ≡ 0
  plain_groups = rw length-plain_groups (mul-mod_left q (group_symbols base.width))

  -- whole groups of bytes are as many whole groups of symbols
  pub length-padded_groups : length (padded_text base bytes) ≡ q * group_symbols base.width
  length-padded_groups =
      rw (with_padding-whole base.padding (group_symbols base.width) (plain_text base bytes)
      plain_groups) length-plain_groups

  -- and nothing depends on what comes before
  padded_text-join : (others : List ℕ)
      → padded_text base (bytes ++ others) ≡ padded_text base bytes ++ padded_text base others
  padded_text-join others =
      rw (plain_text-join base bytes others width.some
      (rw bits-whole (mul-mod_right base.width (q * group_symbols base.width))))
      (with_padding-join base.padding (group_symbols base.width) (plain_text base bytes)
      (plain_text base others) (group_symbols-pos base.width width) plain_groups)

-- the bytes of a line are as many groups as its symbols
pub line-groups : (column width : ℕ) → IsWidth width → column % group_symbols width ≡ 0
    → column * width / 8 ≡ column / group_symbols width * group_bytes width
line-groups column width is whole =
    omega (
      arith,
      ap (λ n. width * n) (whole-parts column (group_symbols width) whole),
      ap (λ n. column / group_symbols width * n) (group_bits width is),
    )

in_lines-join : (lines : Wrapping) (xs ys : List ℕ) → 0 < lines.column
    → length xs % lines.column ≡ 0
    → in_lines (Some lines) (xs ++ ys) ≡ in_lines (Some lines) xs ++ in_lines (Some lines) ys
in_lines-join lines xs ys some whole =
    rw (runs-join lines.column xs ys some whole)
    (flat_map-append (λ line. line ++ lines.separator) _ _)

module _ (base : Base) (ruled : IsRuled base) (bytes others : List ℕ) where
  by_wrapping : (o : Option Wrapping) → IsRuledWrapping base o
      → length bytes % align_by o base.width ≡ 0
      → in_lines o (padded_text base (bytes ++ others))
      ≡ in_lines o (padded_text base bytes) ++ in_lines o (padded_text base others)
  by_wrapping None rule whole =
      padded_text-join base ruled.is_width bytes (length bytes / group_bytes base.width)
      (whole-parts (length bytes) (group_bytes base.width) whole) others
  by_wrapping (Some lines) rule whole =
      let symbols = group_symbols base.width in
      let size = group_bytes base.width in
      let line = lines.column * base.width / 8 in
      let count = length bytes / line in
      let in_line = lines.column / symbols in
      let groups : length bytes ≡ count * in_line * size =
      omega (
        arith,
        whole-parts (length bytes) line whole,
        ap (λ n. count * n) (line-groups lines.column base.width ruled.is_width rule.whole),
      ) in
      let long : length (padded_text base bytes) ≡ count * lines.column =
      omega (
        arith,
        length-padded_groups base ruled.is_width bytes (count * in_line) groups,
        ap (λ n. count * n) (whole-parts lines.column symbols rule.whole),
      ) in
      rw (padded_text-join base ruled.is_width bytes (count * in_line) groups others)
      (in_lines-join lines (padded_text base bytes) (padded_text base others) rule.some
      (rw long (mul-mod_left count lines.column)))

  -- texts may be joined if the data of the first is whole lines, or whole groups without lines
  pub text_of-join : length bytes % alignment base ≡ 0
      → text_of base (bytes ++ others) ≡ text_of base bytes ++ text_of base others
  text_of-join whole = by_wrapping base.wrapping ruled.wrapping whole
