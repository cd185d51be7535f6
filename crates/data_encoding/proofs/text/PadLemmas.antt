-- What is written after the symbols, by the tables of an encoding.
use Rattle.std.proofs.Common.{◌≡◌, ℕ, ◌+◌, ◌-◌, ◌*◌, ◌<◌, ◌≤◌, Some, is_some, List, ◌++◌, length, take, drop, replicate, sym, ap, ◌∙◌, arith}
use Rattle.std.proofs.lemmas.List.{drop-drop, drop-replicate, drop_all}
use borrow.Rule.Slice.PartMut.{put_mid}
use Rattle.data_encoding.specs.Encoding.{EncodingTables, base_of_tables, KeepsRules}
use Rattle.data_encoding_meaning.specs.text.Base.{Base, IsWidth, group_bytes, group_symbols}
use Rattle.data_encoding_meaning.specs.text.Text.{padded_text, plain_text}
use Rattle.data_encoding_meaning.proofs.grammar.LengthLemmas.{widths}
use Rattle.data_encoding_meaning.proofs.lists.PartLemmas.{length-rest}
use Rattle.data_encoding_meaning.proofs.lists.RunLemmas.{run_count}
use Rattle.data_encoding.proofs.tables.TableLemmas.{IsWidth-seen}
use Rattle.data_encoding_meaning.proofs.lists.WriteLemmas.{drop-put_mid_at}
use Rattle.data_encoding_meaning.proofs.text.PaddedTextLemmas.{length-padded, padded_text-some, symbols-first}

-- few characters fill the last group of a text of `size` characters, `count` of them symbols
module _ (width : ℕ) (is : IsWidth width) (len count size : ℕ)
    (counted : count ≡ run_count width (8 * len))
    (sized : size ≡ run_count (group_bytes width) len * group_symbols width) where
  fewer-than_eight : size ≤ count + 7
  fewer-than_eight = grind (arith, widths width is)

  four-at_most : size < 8 → size ≤ count + 4
  four-at_most short = grind (arith, widths width is)

  none-below_four : size < 4 → size ≤ count
  none-below_four short = grind (arith, widths width is)

module _ {e : EncodingTables} (rules : KeepsRules e) {seen : Base} (is : base_of_tables e ≡ seen)
    (input output : List ℕ) (exact : length output ≡ length (padded_text seen input))
    (count : ℕ) (by_table : count ≡ run_count e.width (8 * length input)) where
  width : IsWidth seen.width
  width = IsWidth-seen e rules seen is

  counted : count ≡ run_count seen.width (8 * length input)
  counted = by_table ∙ ap (λ b. run_count b.width (8 * length input)) is

  pub symbols-inside : count ≤ length output
  symbols-inside = symbols-first seen input width count (length output) counted exact

  module _ (character : ℕ) (some : e.padding ≡ Some character) where
    padded : seen.padding ≡ Some character
    padded = ap (λ b. b.padding) (sym is) ∙ some

    sized : length output
        ≡ run_count (group_bytes seen.width) (length input) * group_symbols seen.width
    sized = exact ∙ length-padded seen input width (ap is_some padded)

    text-is : padded_text seen input
        ≡ plain_text seen input ++ replicate (length output - count) character
    text-is = padded_text-some seen input width count (length output) counted exact character padded

    -- padding may be written from before the last symbols on
    abbrev Pads : ℕ → Type 0
    Pads start =
        (filled : List ℕ)
        → filled ≡ replicate (length (take (length output - start) (drop start output))) character
        → padded_text seen input ≡ plain_text seen input
        ++ drop count (put_mid start (length output - start) output filled)

    pads : (start : ℕ) → start ≤ count → Pads start
    pads start before filled is_padding =
        let written = put_mid start (length output - start) output filled in
        let within : start ≤ length output = omega (arith, symbols-inside) in
        let apart : start + (count - start) ≡ count = omega arith in
        let rest : drop count written ≡ replicate (length output - count) character =
        ap (λ n. drop n written) (sym apart)
        ∙ sym (drop-drop (count - start) start written)
        ∙ ap (drop (count - start)) (drop-put_mid_at start output filled within
        ∙ is_padding ∙ ap (λ n. replicate n character) (length-rest start output))
        ∙ drop-replicate (count - start) (length output - start) character
        ∙ ap (λ n. replicate n character) (omega (arith, within)) in
        text-is ∙ ap (λ l. plain_text seen input ++ l) (sym rest)

    pub pads-eight : Pads (length output - 8)
    pads-eight =
        pads (length output - 8)
        (omega (arith, fewer-than_eight seen.width width (length input) count _ counted sized))

    pub pads-four : length output < 8 → Pads (length output - 4)
    pads-four short =
        pads (length output - 4)
        (omega (arith, four-at_most seen.width width (length input) count _ counted sized short))

    -- a text of fewer characters has no padding
    pub pads-none : length output < 4
        → padded_text seen input ≡ plain_text seen input ++ drop count output
    pads-none short =
        let none = none-below_four seen.width width (length input) count _ counted sized short in
        let zero : length output - count ≡ 0 = omega (arith, none) in
        text-is
        ∙ ap (λ l. plain_text seen input ++ l)
        (ap (λ n. replicate n character) zero ∙ sym (drop_all count output none))
