-- The messages of faults and of refusals.
use Rattle.std.specs.Prelude.{ℕ, List, ◌++◌, codes, Option, Some, None}
use Rattle.std.specs.Fmt.{decimal}
use Rattle.data_encoding_meaning.specs.declared.error.DecodeKind.{DecodeKind}
use Rattle.data_encoding_meaning.specs.declared.error.DecodeKind.TheVariants.{Length, Symbol, Trailing, Padding}
use Rattle.data_encoding_meaning.specs.declared.error.DecodeError.{DecodeError}
use Rattle.data_encoding_meaning.specs.declared.error.DecodeFault.{DecodeFault}
use Rattle.data_encoding_meaning.specs.declared.error.DecodeFault.TheVariants.{Error, OutOfMemory}
use Rattle.data_encoding_meaning.specs.declared.refusal.Refusal.{Refusal}
use Rattle.data_encoding_meaning.specs.declared.refusal.Refusal.TheVariants.{BadSize, NotAscii, Duplicate, ExtraPadding, WrapLength, WrapWidth, FromTo, Undefined}

-- The message of a kind of fault.
abbrev pub printed_kind : DecodeKind → List ℕ
printed_kind Length = codes "invalid length"
printed_kind Symbol = codes "invalid symbol"
printed_kind Trailing = codes "non-zero trailing bits"
printed_kind Padding = codes "invalid padding length"

-- The message of a fault: its kind and its position.
abbrev pub printed_error : DecodeError → List ℕ
printed_error error = printed_kind error.kind ++ codes " at " ++ decimal error.position

-- The message of the reason why a decoding returned no data.
abbrev pub printed_fault : DecodeFault → List ℕ
printed_fault (Error error) = printed_error error
printed_fault OutOfMemory = codes "out of memory"

-- The message of a refusal. The two that quote a character are left out.
abbrev pub printed_refusal : Refusal → Option (List ℕ)
printed_refusal BadSize = Some (codes "invalid number of symbols")
printed_refusal NotAscii = Some (codes "non-ascii character")
printed_refusal (Duplicate byte) = None
printed_refusal ExtraPadding = Some (codes "unnecessary padding")
printed_refusal WrapLength = Some (codes "invalid wrap width or separator length")
printed_refusal (WrapWidth count) = Some (codes "wrap width not a multiple of " ++ decimal count)
printed_refusal FromTo = Some (codes "translate from/to length mismatch")
printed_refusal (Undefined byte) = None
