-- The results and the effects of callers.
use Rattle.std.specs.Prelude.{◌≡◌, ◌⊎◌, ◌<◌, ◌==◌, ⊤, ℕ, List, ◌++◌, count_by, length, not, reverse, take, take_while, Result, Err, Ok}
use Rattle.data_encoding.specs.declared.decode.TheConstants.{DECODE_LIMIT}
use Rattle.data_encoding.specs.declared.encode.TheConstants.{ENCODE_LIMIT}
use Rattle.data_encoding.specs.declared.error.DecodeError.{DecodeError}
use Rattle.data_encoding.specs.declared.error.DecodeFault.{DecodeFault}
use Rattle.data_encoding.specs.declared.error.DecodeFault.TheVariants.{Error}
use Rattle.data_encoding.specs.declared.error.DecodeKind.{DecodeKind}
use Rattle.data_encoding.specs.Base.{Base}
use Rattle.data_encoding.specs.Fields.{Fields, base_of}
use Rattle.data_encoding.specs.Text.{text_of}
use Rattle.conformance.specs.declared.callers.buffers.Filled.{Filled}
use Rattle.conformance.specs.declared.callers.kept.Lengths.{Lengths}
use Rattle.conformance.specs.declared.callers.names.BodyFault.{BodyFault}
use Rattle.conformance.specs.declared.callers.names.BodyFault.TheVariants.{OutOfMemory, Text}
use Rattle.conformance.specs.Texts.{HasFaultOfKind}

-- The fault of the given kind and position, as decoding returns it.
abbrev pub returned_fault : ℕ → DecodeKind → DecodeFault
returned_fault position kind = Error (record { position = position; kind = kind })

-- The result is the fault `error` of a text.
abbrev pub IsFault : {T : Type 0} → Result T DecodeFault → DecodeError → Type 0
IsFault result error = result ≡ Err (Error error)

-- The data is too long to be encoded, or its text by these fields is too long to be decoded.
abbrev pub IsTooLong : Fields → List ℕ → Type 0
IsTooLong fields bytes =
    (ENCODE_LIMIT < length bytes)
    ⊎ ((base : Base) × (base_of fields ≡ Ok base) × (DECODE_LIMIT < length (text_of base bytes)))

-- The text has a fault of the given kind at the given line and column. If memory ran out, nothing
-- is stated.
abbrev pub Explains : Base → List ℕ → BodyFault → Type 0
Explains base text (Text place kind) =
    (position : ℕ) × HasFaultOfKind base text position kind
    × (place.line ≡ count_by (λ byte. byte == 10) (take position text))
    × (place.column
    ≡ length (take_while (λ byte. not (byte == 10)) (reverse (take position text))))
Explains base text OutOfMemory = ⊤

-- The bytes that were written to the three buffers.
abbrev pub bytes_filled : Filled → List ℕ → List ℕ → List ℕ → List ℕ
bytes_filled filled front next last =
    take filled.front front ++ take filled.next next ++ take filled.last last

-- The text that was written to the three buffers.
abbrev pub text_filled : Lengths → List ℕ → List ℕ → List ℕ → List ℕ
text_filled lengths front next last =
    (take lengths.front front ++ take lengths.next next) ++ take lengths.last last
