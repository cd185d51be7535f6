-- The effect of decoding a reader to a writer.
use Rattle.std.specs.Prelude.{◌≡◌, ℕ, ◌≤◌, Bool, false, List, length, Option, Some, None, Result, Ok, Err, IfSome, OnOk}
use Rattle.std.specs.Io.KnownBytes.{Appends, Consumes, IsAtEnd}
use Rattle.data_encoding.specs.declared.decode.TheConstants.{DECODE_LIMIT}
use Rattle.data_encoding.specs.declared.error.DecodeError.{DecodeError}
use Rattle.data_encoding.specs.Base.{Base}
use Rattle.data_encoding.specs.Fault.{fault_of, sound_bytes}
use Rattle.encoding_stream.specs.declared.error.StreamFault.{StreamFault}
use Rattle.encoding_stream.specs.declared.error.StreamFault.TheVariants.{Decode}
use Rattle.encoding_stream.specs.declared.buffer_decoder.Kept.{Kept}
use Rattle.encoding_stream.specs.Reading.{HasLastBytes}
use Rattle.encoding_stream.specs.Watch.{AppendsFront, Change}

-- The reader was read to its end, and the sound bytes of its text were written: those before the
-- first faulty group. `fault` is the fault of the text, if it has one.
pub record DecodesAll (base : Base) (fault : Option DecodeError) (reader writer : Change)
    : Type 0 where
  pub text : List ℕ
  pub read : Consumes reader.old reader.new text
  pub at_end : IsAtEnd reader.new
  pub fault_is : fault_of base text ≡ fault
  pub written : Appends writer.old writer.new (sound_bytes base text)

-- Some of a text was read, and a prefix of its sound bytes was written. The written bytes are also
-- a prefix of the sound bytes of the whole text in the reader.
pub record DecodesFront (base : Base) (reader writer : Change) : Type 0 where
  pub text : List ℕ
  pub read : Consumes reader.old reader.new text
  pub written : AppendsFront writer.old writer.new (sound_bytes base text)
  pub of_all : IfSome reader.old (λ all. AppendsFront writer.old writer.new
      (sound_bytes base all))

-- The result of a stream for a text with the given fault, or with none.
abbrev pub result_of : Option DecodeError → Result (Unit {0}) StreamFault
result_of None = Ok _
result_of (Some error) = Err (Decode error)

-- If the result is Ok, or a fault of the text, the whole text was read and decoded.
pub record DecodesJudged (base : Base) (result : Result (Unit {0}) StreamFault)
    (reader writer : Change) : Type 0 where
  pub whole : OnOk result (DecodesAll base None reader writer)
  pub faulty : (error : DecodeError) → result ≡ Err (Decode error)
      → DecodesAll base (Some error) reader writer

-- If the content of the reader is known and within the limit, and no call of the reader or the
-- writer has failed, the result is the fault of the content, or Ok.
abbrev pub JudgesText :
    Base → Result (Unit {0}) StreamFault → Option (List ℕ) → Bool → Bool → Type 0
JudgesText base result remaining read_failed write_failed =
    IfSome remaining (λ text. length text ≤ DECODE_LIMIT → read_failed ≡ false
    → write_failed ≡ false → result ≡ result_of (fault_of base text))

-- A prefix of the last bytes of the text was written, and all of them unless a write failed.
pub record EndsText (base : Base) (kept : Kept) (failed : Bool)
    (written_old written_new : Option (List ℕ)) : Type 0 where
  pub bytes : List ℕ
  pub sound : HasLastBytes base kept bytes
  pub begun : AppendsFront written_old written_new bytes
  pub all : failed ≡ false → Appends written_old written_new bytes
