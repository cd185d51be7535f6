-- The table of meanings. Each check adds to it.
use Rattle.std.specs.Prelude.{ℕ, nat_le, if◌then◌else◌, List, [], ◌∷◌, replicate, slice_index_or, slice_set, Result, Ok, Err}
use Rattle.data_encoding_meaning.specs.declared.encoding.Character.{Character}
use Rattle.data_encoding_meaning.specs.declared.encoding.Character.TheVariants.{Invalid}
use Rattle.data_encoding_meaning.specs.declared.refusal.Refusal.{Refusal}
use Rattle.data_encoding_meaning.specs.declared.refusal.Refusal.TheVariants.{NotAscii, Duplicate, Undefined}
use Rattle.data_encoding_meaning.specs.specification.Fields.{Judgement, Require, Define, Translate, is_same}

-- The meanings, with one more if `byte` is ASCII and without another meaning.
abbrev pub defined : List Character → ℕ → Character → Result (List Character) Refusal
defined meanings byte m =
    if nat_le 128 byte then Err NotAscii
    else if is_same (slice_index_or meanings byte Invalid) m then Ok meanings
    else if is_same (slice_index_or meanings byte Invalid) Invalid
    then Ok (slice_set meanings byte m)
    else Err (Duplicate byte)

-- The meanings, with `from` translated to `to` if that is ASCII and has a meaning.
abbrev pub translated : List Character → ℕ → ℕ → Result (List Character) Refusal
translated meanings from to =
    if nat_le 128 to then Err NotAscii
    else if is_same (slice_index_or meanings to Invalid) Invalid then Err (Undefined to)
    else defined meanings from (slice_index_or meanings to Invalid)

-- The meanings after one check, or the refusal.
abbrev pub judged : List Character → Judgement → Result (List Character) Refusal
judged meanings (Require holds refusal) = if holds then Ok meanings else Err refusal
judged meanings (Define byte m) = defined meanings byte m
judged meanings (Translate from to) = translated meanings from to

-- The meanings before any check.
abbrev pub no_meanings : List Character
no_meanings = replicate 128 Invalid

-- The meanings after all checks, or the first refusal.
abbrev pub meanings_after : Result (List Character) Refusal → List Judgement
    → Result (List Character) Refusal
meanings_after (Err refusal) judgements = Err refusal
meanings_after (Ok meanings) [] = Ok meanings
meanings_after (Ok meanings) (judgement ∷ others) =
    meanings_after (judged meanings judgement) others
