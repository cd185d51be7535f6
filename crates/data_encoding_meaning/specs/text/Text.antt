-- The text of data (RFC 4648, sections 4 to 8; lines as in RFC 2045, section 6.8).
use Rattle.std.specs.Prelude.{ℕ, List, ◌++◌, map, length, replicate, flat_map, Option, Some, None}
use Rattle.data_encoding_meaning.specs.text.Base.{Base, Wrapping, symbol, group_symbols}
use Rattle.data_encoding_meaning.specs.text.Bits.{bits_of_bytes, number_of, missing, runs}

-- The list `xs`, followed by the least number of fillers that makes its length a multiple of
-- `size`.
abbrev pub filled_with : ℕ → ℕ → List ℕ → List ℕ
filled_with filler size xs = xs ++ replicate (missing size (length xs)) filler

-- One symbol for every `width` bits of the data. Zeros follow the last bit.
abbrev pub plain_text : Base → List ℕ → List ℕ
plain_text base bytes =
    map (λ run. symbol base (number_of base.order run))
    (runs base.width (filled_with 0 base.width (bits_of_bytes base.order bytes)))

-- The text, followed by padding up to a multiple of `size`.
abbrev pub with_padding : Option ℕ → ℕ → List ℕ → List ℕ
with_padding None size text = text
with_padding (Some character) size text = filled_with character size text

-- The text of `bytes`, without lines.
abbrev pub padded_text : Base → List ℕ → List ℕ
padded_text base bytes =
    with_padding base.padding (group_symbols base.width) (plain_text base bytes)

-- The text, cut into lines, each followed by the separator.
abbrev pub in_lines : Option Wrapping → List ℕ → List ℕ
in_lines None text = text
in_lines (Some wrapping) text =
    flat_map (λ line. line ++ wrapping.separator) (runs wrapping.column text)

-- The text of `bytes`.
abbrev pub text_of : Base → List ℕ → List ℕ
text_of base bytes = in_lines base.wrapping (padded_text base bytes)
