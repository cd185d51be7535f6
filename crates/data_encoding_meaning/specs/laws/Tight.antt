-- Lengths of texts that determine the number of bytes that they mean.
use Rattle.std.specs.Prelude.{◌≡◌, ℕ, false, List, length, None, Ok}
use Rattle.data_encoding_meaning.specs.text.Base.{Base, ignores_some}
use Rattle.data_encoding_meaning.specs.specification.Fields.{IsSpecified}
use Rattle.data_encoding_meaning.specs.text.Grammar.{Means}
use Rattle.data_encoding_meaning.specs.text.Lengths.{decoded_len, most_bytes}
use Rattle.data_encoding_meaning.specs.text.Text.{text_of}

-- Without padding and ignored bytes, a text that means data means the greatest number of bytes that
-- its length allows.
abbrev pub MeansMost : Type 0
MeansMost =
    (base : Base) → IsSpecified base → base.padding ≡ None → ignores_some base ≡ false
    → (text bytes : List ℕ) → Means base text bytes → length bytes ≡ most_bytes base (length text)

-- Without padding and lines, the length of the text of data determines the length of the data.
abbrev pub LengthAgain : Type 0
LengthAgain =
    (base : Base) → IsSpecified base → base.padding ≡ None → base.wrapping ≡ None
    → (bytes : List ℕ) → decoded_len base (length (text_of base bytes)) ≡ Ok (length bytes)

-- Without padding and ignored bytes, a text that means data is as long as the text of any data of
-- the same length.
abbrev pub LengthOfText : Type 0
LengthOfText =
    (base : Base) → IsSpecified base → base.padding ≡ None → ignores_some base ≡ false
    → (text bytes others : List ℕ) → Means base text bytes → length others ≡ length bytes
    → length text ≡ length (text_of base others)
