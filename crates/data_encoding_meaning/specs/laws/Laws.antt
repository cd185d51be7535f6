-- The laws of the definitions.
use Rattle.std.specs.Prelude.{◌≡◌, ◌↔◌, ℕ, ◌+◌, ◌<◌, ◌%◌, ◌⊎◌, true, false, List, ◌++◌, length, take, drop, All, Option, Some, None, Ok}
use Rattle.data_encoding_meaning.specs.declared.error.DecodeError.{DecodeError}
use Rattle.data_encoding_meaning.specs.declared.error.DecodePartial.{DecodePartial}
use Rattle.data_encoding_meaning.specs.text.Base.{Base, meaning, is_padded, is_padding}
use Rattle.data_encoding_meaning.specs.decoding.Fault.{fault_of, sound_bytes}
use Rattle.data_encoding_meaning.specs.specification.Fields.{base_of, IsSpecified}
use Rattle.data_encoding_meaning.specs.text.Grammar.{Means, PlainMeans, kept, meanings_in}
use Rattle.data_encoding_meaning.specs.specification.Layout.{fields_of}
use Rattle.data_encoding_meaning.specs.text.Lengths.{alignment, length_fault}
use Rattle.data_encoding_meaning.specs.laws.Order.{KeepsOrder, IsOrdered, IsBroken}
use Rattle.data_encoding_meaning.specs.decoding.Partial.{partial_of}
use Rattle.data_encoding_meaning.specs.text.Text.{text_of}

-- The base is built from its own specification.
abbrev pub SpecificationAgain : Type 0
SpecificationAgain = (base : Base) → IsSpecified base → base_of (fields_of base) ≡ Ok base

-- The text of bytes means the bytes.
abbrev pub RoundTrip : Type 0
RoundTrip =
    (base : Base) → IsSpecified base → (bytes : List ℕ) → All (λ byte. byte < 256) bytes
    → Means base (text_of base bytes) bytes

-- A text means at most one list of bytes.
abbrev pub OneMeaning : Type 0
OneMeaning =
    (base : Base) → IsSpecified base → (text one other : List ℕ)
    → Means base text one → Means base text other → one ≡ other

-- A text without a fault means its sound bytes.
abbrev pub SoundMeans : Type 0
SoundMeans =
    (base : Base) → IsSpecified base → (text : List ℕ) → fault_of base text ≡ None
    → Means base text (sound_bytes base text)

-- Without padding, a text means bytes if and only if its symbols, one after the other, mean them.
-- The bits of the symbols are the bits of the bytes, followed by fewer bits than a symbol has.
abbrev pub Unpadded : Type 0
Unpadded =
    (base : Base) → IsSpecified base → base.padding ≡ None → (text bytes : List ℕ)
    → Means base text bytes ↔ PlainMeans base (meanings_in base (kept base text)) bytes

-- If the length of the first of two pieces of data is whole lines or whole groups, the text of the
-- data is the texts of the pieces, joined.
abbrev pub JoinEncode : Type 0
JoinEncode =
    (base : Base) → IsSpecified base → (a b : List ℕ) → length a % alignment base ≡ 0
    → text_of base (a ++ b) ≡ text_of base a ++ text_of base b

-- Another text may follow: the base is padded and `text` has no final group, or eight bits are
-- whole symbols.
abbrev pub MayBeFollowed : Base → List ℕ → Type 0
MayBeFollowed base text =
    ((is_padded base ≡ true)
    × ((base.concatenates ≡ true) ⊎ All (λ byte. is_padding (meaning base byte) ≡ false) text))
    ⊎ (8 % base.width ≡ 0)

-- Two texts, joined, mean their bytes, joined, if the first may be followed.
abbrev pub JoinDecode : Type 0
JoinDecode =
    (base : Base) → IsSpecified base → (text after bytes more : List ℕ)
    → MayBeFollowed base text → Means base text bytes → Means base after more
    → Means base (text ++ after) (bytes ++ more)

-- Without lines, a base keeps the order of data if and only if it is ordered.
abbrev pub Order : Type 0
Order =
    (base : Base) → IsSpecified base → base.wrapping ≡ None
    → (IsOrdered base → KeepsOrder base) × (KeepsOrder base → IsOrdered base)

-- A base that does not keep the order has data in order whose texts are not in order.
abbrev pub NoOrder : Type 0
NoOrder = (base : Base) → IsSpecified base → base.wrapping ≡ None → IsBroken base

-- The fault, with `count` added to its position.
abbrev pub shifted : ℕ → Option DecodeError → Option DecodeError
shifted count None = None
shifted count (Some fault) =
    Some (record { position = count + fault.position; kind = fault.kind })

-- After a text that means bytes and may be followed, another text has the fault that it has alone,
-- with the length of the first added to its position. Its sound bytes follow the bytes of the
-- first.
abbrev pub JoinFault : Type 0
JoinFault =
    (base : Base) → IsSpecified base → (text after bytes : List ℕ)
    → MayBeFollowed base text → Means base text bytes
    → (fault_of base (text ++ after) ≡ shifted (length text) (fault_of base after))
    × (sound_bytes base (text ++ after) ≡ bytes ++ sound_bytes base after)

-- The first `read` bytes of `piece` mean `bytes`. The rest of `piece`, joined to `next`, has the
-- meaning and the fault of the whole.
pub record Resumes (base : Base) (piece next : List ℕ) (read : ℕ) (bytes : List ℕ) : Type 0 where
  pub read_means : Means base (take read piece) bytes
  pub rest_means : (more : List ℕ) → Means base (drop read piece ++ next) more
      → Means base (piece ++ next) (bytes ++ more)
  pub fault : fault_of base (piece ++ next)
      ≡ shifted read (fault_of base (drop read piece ++ next))
  pub sound : sound_bytes base (piece ++ next)
      ≡ bytes ++ sound_bytes base (drop read piece ++ next)

-- If a decoding of a piece stops at a fault and the bytes that were read may be followed, the
-- decoding resumes with the rest.
abbrev pub Resume : Type 0
Resume =
    (base : Base) → IsSpecified base → (piece next : List ℕ) (partial : DecodePartial)
    → length_fault base (length piece) ≡ None → partial_of base piece ≡ Some partial
    → MayBeFollowed base (take partial.read piece)
    → Resumes base piece next partial.read (sound_bytes base (take partial.read piece))
