-- A conversion by a stream as the answer that the arguments of a run ask for.
use Rattle.std.proofs.Common.{◌≡◌, ◌↔◌, ◌⊎◌, List, Option, Some, Result, Ok, Err, ℕ, IfErr, OnOk, inl, inr, refl, ap, arith}
use Rattle.data_encoding.specs.Base.{Base}
use Rattle.data_encoding.specs.Fault.{sound_bytes}
use Rattle.data_encoding.specs.Text.{text_of}
use Rattle.data_encoding.specs.Fields.{IsSpecified}
use Rattle.data_encoding.specs.Laws.{SoundMeans}
use Rattle.data_encoding.specs.declared.error.DecodeError.{DecodeError}
use Rattle.encoding_stream.specs.Decoded.{DecodesAll}
use Rattle.encoding_stream.specs.Encoded.{ReadsMore}
use Rattle.encoding_stream.specs.declared.error.StreamFault.{StreamFault}
use Rattle.encoding_stream.specs.declared.error.StreamFault.TheVariants.{Decode as Faulty, TooLong, Read, Write}
use Rattle.encoding_stream.specs.Watch.{from_to, Change}
use Rattle.basecode.specs.Faults.{status_after}
use Rattle.basecode.specs.Run.{ByAnswer, Converts, Done, CausesFault, Refused}
use Rattle.basecode.specs.Arguments.{Asks, limit_of}
use Rattle.basecode.specs.declared.command.Ask.TheVariants.{Conversion}
use Rattle.basecode.specs.declared.command.Verb.{Verb}
use Rattle.basecode.specs.declared.command.Verb.TheVariants.{Encode, Decode}

module _ (words : List (List ℕ)) (read_old read_new written_old written_new : Option (List ℕ))
  where
    -- a conversion by a stream is the answer that the arguments ask for
    pub done_conversion : SoundMeans → (verb : Verb) (base : Base)
        → Asks words (Conversion verb) base
        → Converts verb base (from_to read_old read_new) (from_to written_old written_new)
        → Done words (from_to read_old read_new) (from_to written_old written_new)
    done_conversion law Encode base asked all = record {
      output = text_of base all.bytes;
      fulfils = ByAnswer Encode base asked (record {
        input = all.bytes;
        read = all.read;
        at_end = all.at_end;
        is_answer = refl;
      });
      written = all.written;
    }
    done_conversion law Decode base asked all =
        let specified : IsSpecified base =
        record { fields = asked.fields; is_built = asked.is_built } in
        record {
          output = sound_bytes base all.text;
          fulfils = ByAnswer Decode base asked (record {
            input = all.text;
            read = all.read;
            at_end = all.at_end;
            is_answer = law base specified all.text all.fault_is;
          });
          written = all.written;
        }

    -- a conversion that ends with status 1 is refused
    pub refused_conversion : (verb : Verb) (base : Base) (outcome : Result (Unit {0}) StreamFault)
        → Asks words (Conversion verb) base
        → IfErr outcome (CausesFault verb base (from_to read_old read_new)
        (from_to written_old written_new))
        → status_after outcome ≡ 1 → Refused words (from_to read_old read_new)
        (from_to written_old written_new)
    refused_conversion verb base (Ok done) asked explains ends = absurd (omega (arith, ends))
    refused_conversion verb base (Err (Faulty error)) asked explains ends = record {
      verb = verb;
      base = base;
      asked = asked;
      reason = inr (record { error = error; is_decoding = explains.0; decodes = explains.1 });
    }
    refused_conversion verb base (Err TooLong) asked explains ends =
        record { verb = verb; base = base; asked = asked; reason = inl explains }
    refused_conversion verb base (Err Read) asked explains ends = absurd (omega (arith, ends))
    refused_conversion verb base (Err Write) asked explains ends = absurd (omega (arith, ends))

-- what holds where there was no fault holds where a run ends with status 0
pub ended : (outcome : Result (Unit {0}) StreamFault) (P : Type 0) → OnOk outcome P
    → status_after outcome ≡ 0 → P
ended (Ok done) P holds ends = holds
ended (Err (Faulty error)) P holds ends = absurd (omega (arith, ends))
ended (Err TooLong) P holds ends = absurd (omega (arith, ends))
ended (Err Read) P holds ends = absurd (omega (arith, ends))
ended (Err Write) P holds ends = absurd (omega (arith, ends))

-- a conversion ends with status 3 exactly when a read or a write has failed
failure : (outcome : Result (Unit {0}) StreamFault) → status_after outcome ≡ 3
    → (outcome ≡ Err Read) ⊎ (outcome ≡ Err Write)
failure (Ok done) ends = absurd (omega (arith, ends))
failure (Err (Faulty error)) ends = absurd (omega (arith, ends))
failure (Err TooLong) ends = absurd (omega (arith, ends))
failure (Err Read) ends = inl refl
failure (Err Write) ends = inr refl

pub failed_conversion : (outcome : Result (Unit {0}) StreamFault) (R W : Type 0)
    → ((outcome ≡ Err Read) ↔ R) → ((outcome ≡ Err Write) ↔ W)
    → (status_after outcome ≡ 3) ↔ (R ⊎ W)
failed_conversion outcome R W read write = (
  λ ends.
      elim (failure outcome ends) [
        | inl is ↦ inl (read.0 is)
        | inr is ↦ inr (write.0 is)
      ],
  λ failed.
      elim failed [
        | inl r ↦ ap status_after (read.1 r)
        | inr w ↦ ap status_after (write.1 w)
      ],
)

-- what a stream reports of a fault explains it
pub explained : (verb : Verb) (base : Base) (reader writer : Change)
    (outcome : Result (Unit {0}) StreamFault)
    → ((error : DecodeError) → outcome ≡ Err (Faulty error)
    → (verb ≡ Decode) × DecodesAll base (Some error) reader writer)
    → (outcome ≡ Err TooLong → ReadsMore (limit_of verb) reader)
    → IfErr outcome (CausesFault verb base reader writer)
explained verb base reader writer (Ok done) faulty past = tt
explained verb base reader writer (Err (Faulty error)) faulty past = faulty error refl
explained verb base reader writer (Err TooLong) faulty past = past refl
explained verb base reader writer (Err Read) faulty past = tt
explained verb base reader writer (Err Write) faulty past = tt
