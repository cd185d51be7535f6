-- The facts about its encoding that a decoder of a text in pieces keeps, so that the laws apply.
use Rattle.std.specs.Prelude.{◌≡◌, List, ℕ, ◌++◌, length, take, Ok}
use Rattle.data_encoding.specs.Base.{Base}
use Rattle.data_encoding.specs.Fields.{base_of, IsSpecified}
use Rattle.data_encoding.specs.Layout.{fields_of}
use Rattle.data_encoding.specs.Pieces.{whole_bytes, AreWhole, CountsGroups, EndsNowhere, HoldsPiece, JoinsUnpadded, JudgesGroup, KeepsFault, MeansWhole, ReadsFaulty, ReadsGroup, ReadsSound, TellsBytes, TellsEnd, TellsFault}

-- The base is built from its own specification.
pub record IsBuiltAgain (base : Base) : Type 0 where
  pub is_built : base_of (fields_of base) ≡ Ok base

-- The decoded bytes of a text are the first decoded bytes of a longer text.
abbrev pub KeepsFront : Type 0
KeepsFront =
    (base : Base) → IsSpecified base → (text piece : List ℕ)
    → take (length (whole_bytes base text)) (whole_bytes base (text ++ piece))
    ≡ whole_bytes base text

-- The laws of decoding piece by piece hold.
pub record HasLaws : Type 0 where
  pub held : HoldsPiece
  pub group : ReadsGroup
  pub faulty : KeepsFault
  pub front : KeepsFront
  pub verdict : TellsFault
  pub bytes : TellsBytes
  pub alone : JudgesGroup
  pub sound : ReadsSound
  pub stops : ReadsFaulty
  pub whole : AreWhole
  pub due : CountsGroups
  pub joins : JoinsUnpadded
  pub ends_nowhere : EndsNowhere
  pub ends : TellsEnd
  pub by_bytes : MeansWhole
