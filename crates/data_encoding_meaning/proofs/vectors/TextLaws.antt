-- Worked rows of the laws of texts: what they mean, how they join, and how long they are.
use Rattle.std.proofs.Common.{◌≡◌, ℕ, ◌+◌, ◌*◌, ◌/◌, ◌<◌, false, List, ◌∷◌, ◌++◌, length, map, codes, get_or, Some, Ok, refl, ap, arith, lit<, inl, inr}
use Rattle.std.proofs.lemmas.List.Elements.{All-from_recursion}
use Rattle.data_encoding_meaning.specs.declared.error.DecodeKind.TheVariants.{Length as LengthFault, Symbol}
use Rattle.data_encoding_meaning.specs.text.Base.{Base, is_padding, meaning}
use Rattle.data_encoding_meaning.specs.text.Grammar.{Means, PlainMeans}
use Rattle.data_encoding_meaning.specs.text.Lengths.{decoded_len}
use Rattle.data_encoding_meaning.specs.text.Text.{text_of}
use Rattle.data_encoding_meaning.specs.decoding.Fault.{fault_of, sound_bytes}
use Rattle.data_encoding_meaning.specs.specification.Fields.{IsSpecified, base_of}
use Rattle.data_encoding_meaning.specs.specification.Predefined.{base64_fields, base64_mime_fields, base64_nopad_fields, hexlower_fields}
use Rattle.data_encoding_meaning.specs.laws.Canonical.{IsCanonical}
use Rattle.data_encoding_meaning.specs.laws.Laws.{JoinDecode, JoinEncode, JoinFault, OneMeaning, Resume, Resumes, RoundTrip, SoundMeans, SpecificationAgain, Unpadded, shifted}
use Rattle.data_encoding_meaning.specs.laws.Tight.{LengthAgain, MeansMost}
use Rattle.data_encoding_meaning.specs.laws.Verdicts.{FixedLength, MeansSound}
use Rattle.data_encoding_meaning.proofs.vectors.Examples.{built, single_fields}
use Rattle.data_encoding_meaning.proofs.vectors.Laws.{is_specified}

-- base64 is built again from the fields of its base
base64_is_built_again : SpecificationAgain → base_of base64_fields ≡ Ok (built base64_fields)
base64_is_built_again law = law (built base64_fields) (is_specified base64_fields refl)

-- the text of `Hi` means `Hi`
text_means_its_data : RoundTrip → Means (built base64_fields) (codes "SGk=") (codes "Hi")
text_means_its_data law =
    law (built base64_fields) (is_specified base64_fields refl) (codes "Hi")
    (All-from_recursion (λ byte. byte < 256) (codes "Hi") (lit< tt, (lit< tt, tt)))

-- a text that means `Hi` does not mean `Ho`
text_means_one_thing : OneMeaning → (base : Base) → IsSpecified base → (text : List ℕ)
    → Means base text (codes "Hi") → Means base text (codes "Ho") → ⊥
text_means_one_thing law base is text one other =
    let last : 105 ≡ 111 =
    ap (λ l. get_or l 1 0) (law base is text (codes "Hi") (codes "Ho") one other) in
    omega (arith, last)

-- without a fault a text means its sound bytes
sound_text_means_its_bytes : SoundMeans → Means (built base64_fields) (codes "SGk=") (codes "Hi")
sound_text_means_its_bytes law =
    law (built base64_fields) (is_specified base64_fields refl) (codes "SGk=") refl

-- and these alone, and with a fault it means nothing
means_only_sound_bytes : MeansSound → Means (built base64_fields) (codes "SGk=") (codes "Hi")
    × ((bytes : List ℕ) → Means (built base64_fields) (codes "SGk=") bytes → codes "Hi" ≡ bytes)
    × ((bytes : List ℕ) → Means (built base64_fields) (codes "SG!=") bytes → ⊥)
means_only_sound_bytes law =
    let base = built base64_fields in
    let is = is_specified base64_fields refl in (
      (law base is (codes "SGk=") (codes "Hi")).1 (refl, refl),
      (λ bytes means. ((law base is (codes "SGk=") bytes).0 means).1),
      (λ bytes means. let none = ((law base is (codes "SG!=") bytes).0 means).0 in cc),
    )

-- the symbols of `QQ` are those of `A` and four bits that are zeros
abbrev two_symbols : List ℕ → Type 0
two_symbols bytes =
    PlainMeans (built base64_nopad_fields) (map (meaning (built base64_nopad_fields)) (codes "QQ"))
    bytes

-- an unpadded text means the bytes of its symbols
unpadded_means_as_symbols : Unpadded → (two_symbols (codes "A")
    → Means (built base64_nopad_fields) (codes "QQ") (codes "A"))
    × ((bytes : List ℕ) → Means (built base64_nopad_fields) (codes "QQ") bytes → two_symbols bytes)
unpadded_means_as_symbols law =
    let base = built base64_nopad_fields in
    let is = is_specified base64_nopad_fields refl in (
      (law base is refl (codes "QQ") (codes "A")).1,
      λ bytes. (law base is refl (codes "QQ") bytes).0,
    )

-- the text of `Hel` comes first, whatever follows
text_joined : JoinEncode → (more : List ℕ) → text_of (built base64_fields) (codes "Hel" ++ more)
    ≡ codes "SGVs" ++ text_of (built base64_fields) more
text_joined law more =
    law (built base64_fields) (is_specified base64_fields refl) (codes "Hel") more refl

-- texts joined: of base64, of one that ends with its first padded group, after a group without
-- padding, and of hexadecimal
abbrev Joins : Base → List ℕ → Type 0
Joins base text =
    (after bytes more : List ℕ) → Means base text bytes → Means base after more
    → Means base (text ++ after) (bytes ++ more)

texts_joined : JoinDecode
    → Joins (built base64_fields) (codes "QQ==") × Joins (built single_fields) (codes "QUJD")
    × Joins (built hexlower_fields) (codes "4a")
texts_joined law = (
  λ after bytes more. law (built base64_fields) (is_specified base64_fields refl)
      (codes "QQ==") after
      bytes more (inl (refl, inl refl)),
  λ after bytes more. law (built single_fields) (is_specified single_fields refl)
      (codes "QUJD") after
      bytes more (inl (
        refl,
        inr (All-from_recursion
            (λ byte. is_padding (meaning (built single_fields) byte) ≡ false) (codes "QUJD")
            (refl, (refl, (refl, (refl, tt))))),
      )),
  λ after bytes more. law (built hexlower_fields) (is_specified hexlower_fields refl) (codes "4a")
      after bytes more (inr refl),
)

-- a fault of the second text, and the bytes before it
fault_joined : JoinFault → (text bytes : List ℕ) → Means (built base64_fields) text bytes
    → (fault_of (built base64_fields) (text ++ codes "QQ==S!Vs")
    ≡ Some (record { position = length text + 5; kind = Symbol }))
    × (sound_bytes (built base64_fields) (text ++ codes "QQ==S!Vs") ≡ bytes ++ codes "A")
fault_joined law text bytes means =
    law (built base64_fields) (is_specified base64_fields refl) text (codes "QQ==S!Vs") bytes
    (inl (refl, inl refl)) means

-- what a decoding of `SGVs` CR LF `bG` in lines did not read, with whatever comes next
abbrev stopped : List ℕ
stopped = codes "SGVs" ++ 13 ∷ 10 ∷ codes "bG"

lines_resumed : Resume → (next : List ℕ)
    → Resumes (built base64_mime_fields) stopped next 4 (codes "Hel")
lines_resumed law next =
    law (built base64_mime_fields) (is_specified base64_mime_fields refl) stopped next
    (record {
      read = 4;
      written = 3;
      error = record { position = 6; kind = LengthFault };
    }) refl refl (inl (refl, inl refl))

-- the read part means `Hel`, and the rest adds its data, its fault and its sound bytes
resuming_joins_rest : (next more : List ℕ)
    → Resumes (built base64_mime_fields) stopped next 4 (codes "Hel")
    → Means (built base64_mime_fields) (codes "SGVs") (codes "Hel")
    × (Means (built base64_mime_fields) (13 ∷ 10 ∷ codes "bG" ++ next) more
    → Means (built base64_mime_fields) (stopped ++ next) (codes "Hel" ++ more))
    × (fault_of (built base64_mime_fields) (stopped ++ next)
    ≡ shifted 4 (fault_of (built base64_mime_fields) (13 ∷ 10 ∷ codes "bG" ++ next)))
    × (sound_bytes (built base64_mime_fields) (stopped ++ next)
    ≡ codes "Hel" ++ sound_bytes (built base64_mime_fields) (13 ∷ 10 ∷ codes "bG" ++ next))
resuming_joins_rest next more resumes =
    (resumes.read_means, resumes.rest_means more, resumes.fault, resumes.sound)

-- the length of a text of hexadecimal decides the length of its data
data_length_by_text_length : MeansMost → (text : List ℕ)
    → Means (built hexlower_fields) text (codes "Hi")
    → 2 ≡ 4 * length text / 8
data_length_by_text_length law text means =
    law (built hexlower_fields) (is_specified hexlower_fields refl) refl refl text
    (codes "Hi") means

-- the length of the text of data decodes to the length of the data
decoded_len_of_text : LengthAgain → (bytes : List ℕ)
    → decoded_len (built base64_nopad_fields) (length (text_of (built base64_nopad_fields) bytes))
    ≡ Ok (length bytes)
decoded_len_of_text law bytes =
    law (built base64_nopad_fields) (is_specified base64_nopad_fields refl) refl refl bytes

-- if base64 without padding is canonical, each text that means two bytes has three characters
length_fixed : FixedLength → IsCanonical (built base64_nopad_fields) → (text : List ℕ)
    → Means (built base64_nopad_fields) text (codes "Hi") → length text ≡ 3
length_fixed law canonical text means =
    law (built base64_nopad_fields) (is_specified base64_nopad_fields refl) canonical text
    (codes "Hi") (codes "AA") means refl
