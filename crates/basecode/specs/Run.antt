-- The effect of a run.
use Rattle.std.specs.Prelude.{◌≡◌, ◌⊎◌, ℕ, ⊤, Bool, true, false, List, ◌∷◌, [], ◌++◌, codes, Option, Some, None}
use Rattle.std.specs.Io.KnownBytes.{Appends, Consumes, IsAtEnd, Keeps}
use Rattle.data_encoding.specs.Base.{Base}
use Rattle.data_encoding.specs.Canonical.{IsCanonical}
use Rattle.data_encoding.specs.Grammar.{Means}
use Rattle.data_encoding.specs.Text.{text_of}
use Rattle.data_encoding.specs.declared.error.DecodeError.{DecodeError}
use Rattle.encoding_stream.specs.Decoded.{DecodesAll, DecodesFront}
use Rattle.encoding_stream.specs.Encoded.{EncodesAll, EncodesFront, ReadsMore}
use Rattle.encoding_stream.specs.Watch.{AppendsFront, Change}
use Rattle.encoding_stream.specs.declared.error.StreamFault.{StreamFault}
use Rattle.encoding_stream.specs.declared.error.StreamFault.TheVariants.{Decode as DecodeFault, TooLong}
use Rattle.basecode.specs.declared.command.Ask.TheVariants.{Conversion, Question}
use Rattle.basecode.specs.declared.command.Verb.{Verb}
use Rattle.basecode.specs.declared.command.Verb.TheVariants.{Encode, Decode}
use Rattle.data_encoding.specs.Named.{listing}
use Rattle.basecode.specs.Arguments.{Asks, Names, limit_of, request_of}

-- `output` is the answer to an input: the text of its bytes, or the bytes that it means.
abbrev pub IsAnswer : Verb → Base → List ℕ → List ℕ → Type 0
IsAnswer Encode base input output = output ≡ text_of base input
IsAnswer Decode base input output = Means base input output

-- The input was read to its end, and `output` is the answer to it.
pub record Answers (verb : Verb) (base : Base) (old new : Option (List ℕ)) (output : List ℕ)
    : Type 0 where
  pub input : List ℕ
  pub read : Consumes old new input
  pub at_end : IsAtEnd new
  pub is_answer : IsAnswer verb base input output

-- The input was read to its end, and its text was written, or the sound bytes of a text without a
-- fault.
abbrev pub Converts : Verb → Base → Change → Change → Type 0
Converts Encode base reader writer =
    EncodesAll base reader writer
Converts Decode base reader writer =
    DecodesAll base None reader writer

-- A prefix of the text, or of the sound bytes, of the bytes read was written.
abbrev pub Begins : Verb → Base → Change → Change → Type 0
Begins Encode base reader writer =
    EncodesFront base reader writer
Begins Decode base reader writer =
    DecodesFront base reader writer

-- The cause of a fault. After `Decode`, the whole text has this fault, and its sound bytes were
-- written. After `TooLong`, more bytes than the limit were read.
abbrev pub CausesFault : Verb → Base → Change → Change → StreamFault → Type 0
CausesFault verb base reader writer (DecodeFault error) =
    (verb ≡ Decode) × DecodesAll base (Some error) reader writer
CausesFault verb base reader writer TooLong =
    ReadsMore (limit_of verb) reader
CausesFault verb base reader writer _ = ⊤

-- The line that answers a question.
abbrev pub truth : Bool → List ℕ
truth true = codes "true" ++ 10 ∷ []
truth false = codes "false" ++ 10 ∷ []

-- The line is `true` if no two different texts mean the same data, and `false` otherwise.
abbrev pub IsCanonicalLine : Base → List ℕ → Type 0
IsCanonicalLine base line =
    (IsCanonical base × (line ≡ truth true)) ⊎ ((¬ IsCanonical base) × (line ≡ truth false))

-- Nothing was read, and `output` is the reply to the arguments: the line that states if an encoding
-- is canonical, or the names.
pub data Replies (words : List (List ℕ)) (old new : Option (List ℕ)) (output : List ℕ)
    : Type 0 where
  OfQuestion : (base : Base) → Asks words Question base → Keeps old new
      → IsCanonicalLine base output → Replies words old new output
  OfNames : request_of words ≡ Some Names → Keeps old new → output ≡ listing
      → Replies words old new output

-- `output` is the output that the arguments request: the answer to the input, or a reply.
pub data Fulfils (words : List (List ℕ)) (old new : Option (List ℕ)) (output : List ℕ)
    : Type 0 where
  ByAnswer : (verb : Verb) (base : Base) → Asks words (Conversion verb) base
      → Answers verb base old new output → Fulfils words old new output
  ByReply : Replies words old new output → Fulfils words old new output

-- The requested output was written.
pub record Done (words : List (List ℕ)) (reader writer : Change) : Type 0 where
  pub output : List ℕ
  pub fulfils : Fulfils words reader.old reader.new output
  pub written : Appends writer.old writer.new output

-- The arguments request a conversion, and a prefix of its output was written.
pub record BeginsAnswer (words : List (List ℕ)) (reader writer : Change) : Type 0 where
  pub verb : Verb
  pub base : Base
  pub asked : Asks words (Conversion verb) base
  pub begins : Begins verb base reader writer

-- The arguments request a reply, and a prefix of it was written.
pub record BeginsReply (words : List (List ℕ)) (reader writer : Change) : Type 0 where
  pub output : List ℕ
  pub replies : Replies words reader.old reader.new output
  pub written : AppendsFront writer.old writer.new output

-- A prefix of the requested output was written.
pub record Begun (words : List (List ℕ)) (reader writer : Change) : Type 0 where
  pub is_begun : BeginsAnswer words reader writer
      ⊎ BeginsReply words reader writer

-- A text to decode was read to its end and has a fault. Its sound bytes were written.
pub record DecodesFaulty (verb : Verb) (base : Base) (reader writer : Change) : Type 0 where
  pub error : DecodeError
  pub is_decoding : verb ≡ Decode
  pub decodes : DecodesAll base (Some error) reader writer

-- The arguments request a conversion of an input that is too long, or of a text with a fault.
pub record Refused (words : List (List ℕ)) (reader writer : Change) : Type 0 where
  pub verb : Verb
  pub base : Base
  pub asked : Asks words (Conversion verb) base
  pub reason : ReadsMore (limit_of verb) reader
      ⊎ DecodesFaulty verb base reader writer

-- The arguments request a conversion.
pub record AskConversion (words : List (List ℕ)) : Type 0 where
  pub verb : Verb
  pub base : Base
  pub asked : Asks words (Conversion verb) base
