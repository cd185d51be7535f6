-- The fault of a text and its meaning; the texts of different data, and their lengths.
use Rattle.std.specs.Prelude.{◌≡◌, ◌↔◌, ℕ, ◌<◌, List, length, All, None}
use Rattle.data_encoding_meaning.specs.text.Base.{Base}
use Rattle.data_encoding_meaning.specs.laws.Canonical.{IsCanonical}
use Rattle.data_encoding_meaning.specs.decoding.Fault.{fault_of, sound_bytes}
use Rattle.data_encoding_meaning.specs.specification.Fields.{IsSpecified}
use Rattle.data_encoding_meaning.specs.text.Grammar.{Means}
use Rattle.data_encoding_meaning.specs.text.Text.{text_of}

-- A text means bytes if and only if it is valid and the bytes are its sound bytes.
abbrev pub MeansSound : Type 0
MeansSound =
    (base : Base) → IsSpecified base → (text bytes : List ℕ)
    → Means base text bytes ↔ ((fault_of base text ≡ None) × (sound_bytes base text ≡ bytes))

-- Different data has different texts.
abbrev pub Injective : Type 0
Injective =
    (base : Base) → IsSpecified base → (bytes others : List ℕ)
    → All (λ byte. byte < 256) bytes → All (λ byte. byte < 256) others
    → text_of base bytes ≡ text_of base others → bytes ≡ others

-- If a base is canonical, a text that means data is as long as the text of any data of the same
-- length.
abbrev pub FixedLength : Type 0
FixedLength =
    (base : Base) → IsSpecified base → IsCanonical base → (text bytes others : List ℕ)
    → Means base text bytes → length others ≡ length bytes
    → length text ≡ length (text_of base others)
