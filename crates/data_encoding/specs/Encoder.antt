-- The view of an `Encoder` in contracts.
use Rattle.std.specs.Prelude.{◌≡◌, ℕ, List, ◌++◌, Result, Ok, Err, OnOk, OnErr}
use Rattle.std.specs.String.{string_bytes, string_capacity}
use Rattle.std.specs.Borrow.{Fml, GName, RattleType, follows_so}
use Rattle.std.specs.contracts.alloc.Global as global
use Rattle.std.specs.contracts.impls.GlobalAllocator.TheImpl.{ghosts}
use Rattle.std.specs.contracts.string.String as string
use mathlib.Core.Option as maybe
use Rattle.data_encoding.specs.declared.encoder.Encoder.{Encoder}
use Rattle.data_encoding.specs.declared.encoder.Encodes
use Rattle.data_encoding.specs.KeptData.{held_data}
use Rattle.data_encoding_meaning.specs.text.Base.{Base}
use Rattle.data_encoding_meaning.specs.text.EncodedPieces.{HasEncoded}
use Rattle.data_encoding_meaning.specs.text.Text.{text_of}

-- The type of the text that an encoder appends to.
abbrev string_type : RattleType
string_type = string.the_row global.the_row ghosts

-- The encoding of an encoder.
abbrev pub base_of_encoder : {E : Type 0} {by : Encodes.Ghosts E} → Encoder E by → Base
base_of_encoder {by = by} encoder = by.base encoder.encoding

-- The name of the text that the encoder appends to.
abbrev pub output_name : {E : Type 0} {by : Encodes.Ghosts E} → Encoder E by → GName
output_name encoder = encoder.output.ghost_name

-- The current text of the encoder.
abbrev pub written : {E : Type 0} {by : Encodes.Ghosts E} → Encoder E by → List ℕ
written encoder = string_bytes encoder.output.now

-- The capacity of the text.
abbrev pub capacity : {E : Type 0} {by : Encodes.Ghosts E} → Encoder E by → ℕ
capacity encoder = string_capacity encoder.output.now

-- The bytes of an unfinished block.
abbrev pub held : {E : Type 0} {by : Encodes.Ghosts E} → Encoder E by → List ℕ
held encoder = held_data encoder.kept

-- The encoder has taken `bytes` since its text was `before`.
abbrev pub HasTaken : {E : Type 0} {by : Encodes.Ghosts E}
    → Encoder E by → List ℕ → List ℕ → Type 0
HasTaken encoder before bytes =
    HasEncoded (base_of_encoder encoder) before bytes (written encoder) (held encoder)

-- The text, its capacity, the held bytes and the encoding are as before.
pub record IsUnchanged {E : Type 0} {by : Encodes.Ghosts E} (old new : Encoder E by)
    : Type 0 where
  pub written : written new ≡ written old
  pub capacity : capacity new ≡ capacity old
  pub held : held new ≡ held old
  pub base : base_of_encoder new ≡ base_of_encoder old
  pub output : output_name new ≡ output_name old

-- The name of the text of the returned encoder, if an encoder is returned.
abbrev pub name_handed_back : {E : Type 0} {by : Encodes.Ghosts E}
    → Result (Unit {0}) (Encoder E by) → maybe.Option GName
name_handed_back (Ok _) = maybe.none
name_handed_back (Err encoder) = maybe.some (output_name encoder)

-- The text ends with the text of all bytes that the encoder has taken. Or an encoder is returned,
-- and the text is as that encoder leaves it.
abbrev pub Finalizes : {E : Type 0} {by : Encodes.Ghosts E} → Encoder E by
    → Result (Unit {0}) (Encoder E by) → Fml
Finalizes encoder result =
    follows_so string_type string_type (output_name encoder) (name_handed_back result)
    (λ last now. OnErr result (now ≡ last))
    (λ now. OnOk result ((before bytes : List ℕ) → HasTaken encoder before bytes
    → string_bytes now ≡ before ++ text_of (base_of_encoder encoder) bytes))
