-- The effect of encoding a reader to a writer.
use Rattle.std.specs.Prelude.{◌≡◌, IfSome, IsOk, ◌<◌, ◌^◌, ℕ, Bool, false, List, length, Option, Result}
use Rattle.std.specs.Io.KnownBytes.{Appends, Consumes, IsAtEnd}
use Rattle.data_encoding.specs.Base.{Base}
use Rattle.data_encoding.specs.Text.{text_of}
use Rattle.encoding_stream.specs.declared.error.StreamFault.{StreamFault}
use Rattle.encoding_stream.specs.Watch.{AppendsFront, Change}

-- The reader was read to its end, and the text of its bytes was written.
pub record EncodesAll (base : Base) (reader writer : Change) : Type 0 where
  pub bytes : List ℕ
  pub read : Consumes reader.old reader.new bytes
  pub at_end : IsAtEnd reader.new
  pub written : Appends writer.old writer.new (text_of base bytes)

-- The text of the whole content of the reader was written, if that content is known.
abbrev pub WritesText : Base → Change → Change → Type 0
WritesText base reader writer =
    IfSome reader.old (λ bytes. Appends writer.old writer.new (text_of base bytes))

-- Some bytes were read, and a prefix of their text was written. It is also a prefix of the text of
-- the whole content of the reader.
pub record EncodesFront (base : Base) (reader writer : Change) : Type 0 where
  pub bytes : List ℕ
  pub read : Consumes reader.old reader.new bytes
  pub written : AppendsFront writer.old writer.new (text_of base bytes)
  pub of_all : IfSome reader.old (λ all. AppendsFront writer.old writer.new (text_of base all))

-- If the content of the reader is known and less than 2 ^ 64 bytes, and no call of the reader or
-- the writer has failed, the result is Ok.
abbrev pub Succeeds : Result (Unit {0}) StreamFault → Option (List ℕ) → Bool → Bool → Type 0
Succeeds result remaining read_failed write_failed =
    IfSome remaining (λ bytes. length bytes < 2 ^ 64 → read_failed ≡ false
    → write_failed ≡ false → IsOk result)

-- More than `limit` bytes were read.
pub record ReadsMore (limit : ℕ) (reader : Change) : Type 0 where
  pub bytes : List ℕ
  pub read : Consumes reader.old reader.new bytes
  pub more : limit < length bytes
