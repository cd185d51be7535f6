-- Worked rows for the conclusions of callers.
use Rattle.std.proofs.Common.{◌≡◌, ◌↔◌, ◌<◌, ℕ, Bool, List, [], ◌∷◌, ◌++◌, codes, length, IsTrue, Some, Result, Ok, Err, inl, inr, refl}
use Rattle.data_encoding.specs.declared.decode.TheConstants.{DECODE_LIMIT}
use Rattle.data_encoding.specs.declared.encode.TheConstants.{ENCODE_LIMIT}
use Rattle.data_encoding.specs.declared.error.DecodeError.{DecodeError}
use Rattle.data_encoding.specs.declared.error.DecodeFault.TheVariants.{Error}
use Rattle.data_encoding.specs.declared.error.DecodeKind.TheVariants.{Symbol}
use Rattle.data_encoding.specs.declared.specification.meanings.Refusal.{Refusal}
use Rattle.data_encoding.specs.Base.{Base}
use Rattle.data_encoding.specs.Fields.{Fields, base_of}
use Rattle.data_encoding.specs.Grammar.{Means}
use Rattle.data_encoding.specs.Order.{IsBefore}
use Rattle.data_encoding.specs.Predefined.{base64_fields, base64_mime_fields, base64url_fields, hexlower_fields}
use Rattle.data_encoding.specs.Text.{text_of}
use Rattle.conformance.specs.declared.callers.names.BodyFault.TheVariants.{OutOfMemory, Text}
use Rattle.conformance.specs.Results.{bytes_filled, returned_fault, text_filled, Explains, IsFault, IsTooLong}
use Rattle.conformance.specs.Texts.{lines_of, HasFaultOfKind, HasFaultAt, IsFaultOfAll, MeanAlike, MeansBytes, MeansSome, MeansSoundBytes, OfBase64, TellsLength, TellsOrder, TellsSame}

abbrev Holds : (Base → Type 0) → Result Base Refusal → Type 0
Holds P (Ok base) = P base
Holds P (Err refusal) = ⊥

-- The fields have a base, and the property holds for it.
abbrev Has : Fields → (Base → Type 0) → Type 0
Has fields P = Holds P (base_of fields)

-- a text that means five bytes
five_meant : (base : Base) → Means base (codes "SGVsbG8=") (codes "Hello")
    → MeansSome base (codes "SGVsbG8=") × MeansBytes base (codes "SGVsbG8=") 5
five_meant base means = ((codes "Hello", means), (codes "Hello", means, refl))

-- the sound bytes of a text of base64
sound_meant :
    Has base64_fields (λ base. MeansSoundBytes base (codes "SGVsbG8=")
    → Means base (codes "SGVsbG8=") (codes "Hello"))
sound_meant means = means

-- the statements on two texts that mean data
two_texts : (base : Base) (one other bytes others : List ℕ) → Means base one bytes
    → Means base other others
    → (MeanAlike base one other → Means base other bytes)
    × ((answer : Bool) → TellsLength base one 5 answer → (IsTrue answer ↔ (length bytes ≡ 5)))
    × ((answer : Bool) → TellsSame base one other answer → (IsTrue answer ↔ (bytes ≡ others)))
    × ((answer : Bool) → TellsOrder base one other answer
    → (IsTrue answer ↔ IsBefore bytes others))
two_texts base one other bytes others means also = (
  λ alike. (alike bytes).0 means,
  λ answer it. it bytes means,
  λ answer it. it bytes others means also,
  λ answer it. it bytes others means also,
)

-- `G` is not a digit of HEXLOWER, and each longer text has this fault
faults_found :
    Has hexlower_fields (λ base. HasFaultOfKind base (codes "4G") 1 Symbol
    × HasFaultAt base (codes "4G") 1
    × ((error : DecodeError) → IsFaultOfAll base (codes "4G") error
    → Some (record { position = 1; kind = Symbol }) ≡ Some error))
faults_found = (refl, (Symbol, refl), λ error of. of [] refl)

-- the fault that decoding returns
fault_returned :
    (returned_fault 1 Symbol ≡ Error (record { position = 1; kind = Symbol }))
    × IsFault {T = List ℕ} (Err (returned_fault 1 Symbol)) (record { position = 1; kind = Symbol })
fault_returned = (refl, refl)

-- both bases
of_both : (P : Base → Base → Type 0) → OfBase64 P
    → Has base64_fields (λ base. Has base64url_fields (λ url. P base url))
of_both P of = of _ _ refl refl

-- three bytes in lines of two
in_lines : lines_of 2 (codes "abc") ≡ codes "ab" ++ 13 ∷ 10 ∷ codes "c" ++ 13 ∷ 10 ∷ []
in_lines = refl

-- too long for encoding, and for decoding
too_long : (fields : Fields) (base : Base) (bytes : List ℕ)
    → (ENCODE_LIMIT < length bytes → IsTooLong fields bytes)
    × (base_of fields ≡ Ok base → DECODE_LIMIT < length (text_of base bytes)
    → IsTooLong fields bytes)
too_long fields base bytes = (λ long. inl long, λ is long. inr (base, is, long))

-- a fault in the second line, after one character
fault_placed :
    Has base64_mime_fields (λ base.
    Explains base (codes "SGVs" ++ 10 ∷ codes "b!8=")
    (Text (record { line = 1; column = 1 }) Symbol)
    × Explains base [] OutOfMemory)
fault_placed = ((6, refl, refl, refl), tt)

-- the written parts of the buffers
buffers_filled :
    (bytes_filled (record { front = 1; next = 2; last = 0; verdict = Ok tt }) (codes "ab")
    (codes "cd") (codes "ef") ≡ codes "acd")
    × (text_filled (record { front = 1; next = 2; last = 0 }) (codes "ab") (codes "cd")
    (codes "ef") ≡ codes "acd")
buffers_filled = (refl, refl)
