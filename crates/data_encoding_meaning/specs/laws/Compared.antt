-- Comparing texts in place of data.
use Rattle.std.specs.Prelude.{◌≡◌, ◌↔◌, ℕ, ◌<◌, List, All, None}
use Rattle.data_encoding_meaning.specs.text.Base.{Base}
use Rattle.data_encoding_meaning.specs.laws.Canonical.{IsCanonical}
use Rattle.data_encoding_meaning.specs.specification.Fields.{IsSpecified}
use Rattle.data_encoding_meaning.specs.text.Grammar.{Means}
use Rattle.data_encoding_meaning.specs.laws.Order.{IsBefore, IsOrdered}
use Rattle.data_encoding_meaning.specs.text.Text.{text_of}

-- `one` comes before `other` if and only if `first` comes before `second`, and they are equal if
-- and only if those are.
pub record CompareAlike (one other first second : List ℕ) : Type 0 where
  pub order : IsBefore one other ↔ IsBefore first second
  pub equality : (one ≡ other) ↔ (first ≡ second)

-- Without lines, data of an ordered base compares as its texts do.
abbrev pub OrderOfData : Type 0
OrderOfData =
    (base : Base) → IsSpecified base → base.wrapping ≡ None → IsOrdered base
    → (bytes others : List ℕ) → All (λ byte. byte < 256) bytes → All (λ byte. byte < 256) others
    → CompareAlike bytes others (text_of base bytes) (text_of base others)

-- If an ordered base is canonical, any texts that mean data compare as the data does.
abbrev pub OrderOfTexts : Type 0
OrderOfTexts =
    (base : Base) → IsSpecified base → IsCanonical base → IsOrdered base
    → (text other bytes others : List ℕ) → Means base text bytes → Means base other others
    → CompareAlike bytes others text other
