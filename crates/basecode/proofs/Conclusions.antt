-- What users can conclude from the clauses of `run`, for two arguments and known bytes.
use Rattle.std.proofs.Common.{◌≡◌, ℕ, ◌<◌, ◌≤◌, List, [], ◌∷◌, ◌++◌, length, take, codes, Bool, true, false, None, Some, IsSome, is_some, inl, inr, refl, sym, ap, ◌∙◌, subst, arith, append-nil, length-append}
use Rattle.std.proofs.lemmas.Bool.{true≢false}
use Rattle.std.specs.Io.KnownBytes.{Consumes, IsAtEnd}
use Rattle.data_encoding.specs.declared.decode.TheConstants.{DECODE_LIMIT}
use Rattle.data_encoding.specs.Base.{Base}
use Rattle.data_encoding.specs.Fault.{fault_of, sound_bytes}
use Rattle.data_encoding.specs.Grammar.{Means}
use Rattle.data_encoding.specs.Named.{IsNamed}
use Rattle.data_encoding.specs.Predefined.{hexlower_fields}
use Rattle.data_encoding.specs.Text.{text_of}
use Rattle.encoding_stream.specs.Encoded.{ReadsMore}
use Rattle.encoding_stream.specs.Watch.{from_to, Change}
use Rattle.basecode.specs.Arguments.{limit_of}
use Rattle.basecode.specs.Run.{Begun, DecodesFaulty, Done, Refused}
use Rattle.basecode.specs.declared.command.Verb.{Verb}
use Rattle.basecode.specs.declared.command.Verb.TheVariants.{Encode, Decode}
use Rattle.basecode.proofs.ArgumentLemmas.{base_asked, begun, fulfilled, fulfilled_whole, verb_asked}

-- what is read to the end is all that there was
all_read : (old new bytes : List ℕ) → Consumes (Some old) (Some new) bytes → IsAtEnd (Some new)
    → bytes ≡ old
all_read old new bytes read at_end =
    sym (read ∙ ap (λ rest. bytes ++ rest) at_end ∙ append-nil bytes)

-- what was read is no longer than what there was
read_more : (limit : ℕ) (old new : List ℕ) → ReadsMore limit (from_to (Some old) (Some new))
    → limit < length old
read_more limit old new read =
    omega (arith, ap length read.read, length-append read.bytes new, read.more)

abbrev is_encode : Verb → Bool
is_encode Encode = true
is_encode Decode = false

module _ (name input rest held output : List ℕ) where
  abbrev reader : Change
  reader = from_to (Some input) (Some rest)

  abbrev writer : Change
  writer = from_to (Some held) (Some output)

  abbrev to_encode : List (List ℕ)
  to_encode = codes "encode" ∷ name ∷ []

  abbrev to_decode : List (List ℕ)
  to_decode = codes "decode" ∷ name ∷ []

  -- what is done was read to its end
  encoded_whole : Done to_encode reader writer → rest ≡ []
  encoded_whole done = fulfilled_whole _ _ Encode refl _ _ _ done.fulfils

  decoded_whole : Done to_decode reader writer → rest ≡ []
  decoded_whole done = fulfilled_whole _ _ Decode refl _ _ _ done.fulfils

  -- only the length of an input to be encoded is refused
  not_encoded : Refused to_encode reader writer → limit_of Encode < length input
  not_encoded refused =
      let IsPast : Verb → Type 0 = λ v. ReadsMore (limit_of v) reader in
      let verb_is = verb_asked _ _ _ _ refused.asked Encode refl in
      elim refused.reason [
        | inl more ↦ read_more _ _ _ (subst IsPast verb_is more)
        | inr faulty ↦
            absurd (true≢false (sym (ap is_encode verb_is) ∙ ap is_encode faulty.is_decoding))
      ]

  -- a text within the limit that is refused has a fault
  faulty_text : (refused : Refused to_decode reader writer) → length input ≤ limit_of Decode
      → DecodesFaulty refused.verb refused.base reader writer
  faulty_text refused fits =
      let IsPast : Verb → Type 0 = λ v. ReadsMore (limit_of v) reader in
      let verb_is = verb_asked _ _ _ _ refused.asked Decode refl in
      elim refused.reason [
        | inl more ↦
            let past = read_more _ _ _ (subst IsPast verb_is more) in
            absurd (omega (arith, past, fits))
        | inr faulty ↦ faulty
      ]

  -- it was read to its end
  refused_whole : Refused to_decode reader writer → length input ≤ DECODE_LIMIT → rest ≡ []
  refused_whole refused fits = (faulty_text refused fits).decodes.at_end

  module _ (base : Base) (known : IsNamed name base) where
    -- the text was written
    pub encoded : Done to_encode reader writer → output ≡ held ++ text_of base input
    encoded done =
        let answers = fulfilled _ name Encode refl _ _ _ done.fulfils base known in
        let read = all_read _ _ _ answers.read answers.at_end in
        done.written
        ∙ ap (λ text. held ++ text) (answers.is_answer ∙ ap (text_of base) read)

    -- a prefix of the text was written
    encoded_front : Begun to_encode reader writer
        → (count : ℕ) × (output ≡ held ++ take count (text_of base input))
    encoded_front has = (begun _ name Encode refl _ _ _ _ has base known).of_all

    -- bytes were written that the text means
    decoded : Done to_decode reader writer
        → (bytes : List ℕ) × Means base input bytes × (output ≡ held ++ bytes)
    decoded done =
        let answers = fulfilled _ name Decode refl _ _ _ done.fulfils base known in
        let read = all_read _ _ _ answers.read answers.at_end in (
          done.output,
          subst (λ text. Means base text done.output) read answers.is_answer,
          done.written,
        )

    -- a prefix of the sound bytes was written
    decoded_front : Begun to_decode reader writer
        → (count : ℕ) × (output ≡ held ++ take count (sound_bytes base input))
    decoded_front has = (begun _ name Decode refl _ _ _ _ has base known).of_all

    -- a text within the limit that is refused has a fault, and its sound bytes were written
    not_decoded : Refused to_decode reader writer → length input ≤ DECODE_LIMIT
        → IsSome (fault_of base input) × (output ≡ held ++ sound_bytes base input)
    not_decoded refused fits =
        let all = (faulty_text refused fits).decodes in
        let read = all_read _ _ _ all.read all.at_end in
        let is = base_asked _ _ _ _ refused.asked base known in (
          ap is_some ((λ i. fault_of (sym is i) (sym read i)) ∙ all.fault_is),
          all.written ∙ (λ i. held ++ sound_bytes (is i) (read i)),
        )

    -- a sound text within the limit is not refused
    sound : Refused to_decode reader writer → fault_of base input ≡ None
        → length input ≤ DECODE_LIMIT → ⊥
    sound refused none fits =
        let has_fault = not_decoded refused fits in
        true≢false (sym has_fault.0 ∙ ap is_some none)

-- the text of five bytes
pub hello : (base : Base) × IsNamed (codes "HEXLOWER") base
    × (text_of base (codes "Hello") ≡ codes "48656c6c6f")
hello = (_, record { fields = hexlower_fields; is_known = refl; is_built = refl }, refl)
