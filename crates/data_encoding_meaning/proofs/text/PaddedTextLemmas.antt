-- The text of data with padding.
use Rattle.std.proofs.Common.{◌≡◌, ℕ, ◌+◌, ◌-◌, ◌*◌, ◌<◌, ◌≤◌, true, false, Option, Some, None, IfSome, cond, is_some, List, ◌++◌, length, replicate, sym, ap, ◌∙◌, arith, length-append}
use Rattle.std.proofs.Math.Nat.{mul_comm}
use Rattle.std.proofs.lemmas.List.{length-replicate}
use Rattle.std.specs.List.{AllByRecursion}
use Rattle.data_encoding_meaning.specs.text.Base.{Base, symbol, is_padded, group_bytes, group_symbols, IsWidth}
use Rattle.data_encoding_meaning.specs.text.Bits.{missing}
use Rattle.data_encoding_meaning.specs.text.Text.{filled_with, padded_text, plain_text, text_of, with_padding}
use Rattle.data_encoding_meaning.proofs.digits.WidthLemmas.{group_symbols-pos}
use Rattle.data_encoding_meaning.proofs.lists.EachLemmas.{all_joined, all_replicate}
use Rattle.data_encoding_meaning.proofs.lists.RunLemmas.{run_count}
use Rattle.data_encoding_meaning.proofs.text.PlainTextLemmas.{filled_count, ascii-plain_text, length-plain_text}
use Rattle.data_encoding_meaning.proofs.grammar.LengthLemmas.{widths}

-- the symbols of data are as many groups as its bytes
pub groups-same : (width : ℕ) → IsWidth width → (n : ℕ)
    → run_count (group_symbols width) (run_count width (8 * n)) ≡ run_count (group_bytes width) n
groups-same width is n = grind (arith, widths width is)

pub length-filled_with : (filler size : ℕ) (xs : List ℕ)
    → length (filled_with filler size xs) ≡ length xs + missing size (length xs)
length-filled_with filler size xs = simp (length-append, length-replicate)

-- padding is what is missing
length-with_padding : (o : Option ℕ) (size : ℕ) (xs : List ℕ)
    → length (with_padding o size xs)
    ≡ length xs + cond (is_some o) (missing size (length xs)) 0
length-with_padding None size xs = omega arith
length-with_padding (Some character) size xs = length-filled_with character size xs

-- if there are no lines
pub text_of-unwrapped : (base : Base) (bytes : List ℕ) → base.wrapping ≡ None
    → text_of base bytes ≡ padded_text base bytes
text_of-unwrapped base bytes none = rw none

module _ (base : Base) (bytes : List ℕ) (width : IsWidth base.width) where
  pub padded_text-unpadded : is_padded base ≡ false
      → padded_text base bytes ≡ plain_text base bytes
  padded_text-unpadded none = let no : base.padding ≡ None = grind arith in rw no

  pub length-unpadded : is_padded base ≡ false
      → length (padded_text base bytes) ≡ run_count base.width (8 * length bytes)
  length-unpadded none = rw (padded_text-unpadded none) (length-plain_text base bytes width.some)

  filled : (character : ℕ) → base.padding ≡ Some character → padded_text base bytes
      ≡ filled_with character (group_symbols base.width) (plain_text base bytes)
  filled character some = rw some

  -- the symbols and the padding are one after another
  module _ (count size : ℕ) (is : count ≡ run_count base.width (8 * length bytes))
      (whole : size ≡ length (padded_text base bytes)) where
    pub symbols-first : count ≤ size
    symbols-first =
        let all = length-with_padding base.padding (group_symbols base.width)
        (plain_text base bytes) in
        omega (arith, length-plain_text base bytes width.some)

    pub padded_text-some : (character : ℕ) → base.padding ≡ Some character
        → padded_text base bytes ≡ plain_text base bytes ++ replicate (size - count) character
    padded_text-some character some =
        let text = plain_text base bytes in
        let len : length text ≡ count = length-plain_text base bytes width.some ∙ sym is in
        let all = whole ∙ ap length (filled character some)
        ∙ length-filled_with character (group_symbols base.width) text in
        filled character some ∙ ap (λ n. text ++ replicate n character) (omega (arith, all, len))

  -- whole groups
  pub length-padded : is_padded base ≡ true
      → length (padded_text base bytes)
      ≡ run_count (group_bytes base.width) (length bytes) * group_symbols base.width
  length-padded some =
      let size = group_symbols base.width in
      let text = plain_text base bytes in
      rw (length-with_padding base.padding size text, some)
      (rw (filled_count size (length text) (group_symbols-pos base.width width))
      (rw (length-plain_text base bytes width.some, groups-same base.width width (length bytes))
      (mul_comm size (run_count (group_bytes base.width) (length bytes)))))

-- a text of ASCII symbols and ASCII padding is ASCII
pub ascii-padded_text : (base : Base) (bytes : List ℕ) → ((value : ℕ) → symbol base value < 128)
    → IfSome base.padding (λ character. character < 128)
    → AllByRecursion (λ byte. byte < 128) (padded_text base bytes)
ascii-padded_text base bytes symbols padding = by_padding base.padding padding where
  by_padding : (o : Option ℕ) → IfSome o (λ character. character < 128)
      → AllByRecursion (λ byte. byte < 128)
      (with_padding o (group_symbols base.width) (plain_text base bytes))
  by_padding None h = ascii-plain_text base symbols bytes
  by_padding (Some character) h =
      let text = plain_text base bytes in
      all_joined (λ byte. byte < 128) text
      (replicate (missing (group_symbols base.width) (length text)) character)
      (ascii-plain_text base symbols bytes)
      (all_replicate (λ byte. byte < 128) (missing (group_symbols base.width) (length text))
      character h)
