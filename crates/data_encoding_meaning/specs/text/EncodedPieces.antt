-- Data that is encoded piece by piece.
use Rattle.std.specs.Prelude.{◌≡◌, ℕ, ◌<◌, ◌%◌, List, ◌++◌, length}
use Rattle.data_encoding_meaning.specs.text.Base.{Base}
use Rattle.data_encoding_meaning.specs.text.Text.{text_of}
use Rattle.data_encoding_meaning.specs.text.Lengths.{alignment}

-- The text of `bytes` was appended to `before`, except for the last bytes, `held`, which are too
-- few for a block.
pub record HasEncoded (base : Base) (before bytes : List ℕ) (text held : List ℕ) : Type 0 where
  pub encoded : List ℕ
  pub are_bytes : bytes ≡ encoded ++ held
  pub is_aligned : length encoded % alignment base ≡ 0
  pub is_short : length held < alignment base
  pub is_written : text ≡ before ++ text_of base encoded
