-- The numbers that calls return.
use Rattle.std.specs.Prelude.{ℕ, Option, Some, None}
use Rattle.data_encoding.specs.declared.error.DecodeKind.{DecodeKind}
use Rattle.data_encoding.specs.declared.error.DecodeKind.TheVariants.{Length, Symbol, Trailing, Padding}
use Rattle.data_encoding.specs.declared.error.DecodeError.{DecodeError}
use Rattle.data_encoding.specs.declared.specification.meanings.Refusal.{Refusal}
use Rattle.data_encoding.specs.declared.specification.meanings.Refusal.TheVariants.{BadSize, NotAscii, Duplicate, ExtraPadding, WrapLength, WrapWidth, FromTo, Undefined}

-- The call succeeded.
abbrev pub ok : ℕ
ok = 0

-- No encoding has the given number or name.
abbrev pub unknown_encoding : ℕ
unknown_encoding = 1

-- The input is longer than the limit of a call.
abbrev pub too_long : ℕ
too_long = 3

-- The output is too short.
abbrev pub short_buffer : ℕ
short_buffer = 4

-- The bytes are not a layout.
abbrev pub no_encoding : ℕ
no_encoding = 18

-- The numbers are not a state of a decoder of the encoding.
abbrev pub no_decoder : ℕ
no_decoder = 19

-- The numbers are not a state of an encoder of the encoding.
abbrev pub no_encoder : ℕ
no_encoder = 20

-- The status of a kind of fault.
abbrev pub status_of_kind : DecodeKind → ℕ
status_of_kind Length = 6
status_of_kind Symbol = 7
status_of_kind Trailing = 8
status_of_kind Padding = 9

-- The status of a text with the given fault, or with none.
abbrev pub status_of_fault : Option DecodeError → ℕ
status_of_fault None = ok
status_of_fault (Some error) = status_of_kind error.kind

-- The status of a refused specification.
abbrev pub status_of_refusal : Refusal → ℕ
status_of_refusal BadSize = 10
status_of_refusal NotAscii = 11
status_of_refusal (Duplicate byte) = 12
status_of_refusal ExtraPadding = 13
status_of_refusal WrapLength = 14
status_of_refusal (WrapWidth count) = 15
status_of_refusal FromTo = 16
status_of_refusal (Undefined byte) = 17

-- The byte or the number that a refusal names, or 0.
abbrev pub detail_of_refusal : Refusal → ℕ
detail_of_refusal (Duplicate byte) = byte
detail_of_refusal (WrapWidth count) = count
detail_of_refusal (Undefined byte) = byte
detail_of_refusal _ = 0
