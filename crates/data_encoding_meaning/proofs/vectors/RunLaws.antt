-- Worked rows of runs in which no byte is ignored, and of the symbols of a group.
use Rattle.std.proofs.Common.{◌≡◌, ℕ, false, [], ◌∷◌, ◌++◌, codes, Some, None, refl, sym}
use Rattle.std.proofs.lemmas.Bool.{false≢true}
use Rattle.std.proofs.lemmas.List.Elements.{All-from_recursion, recursion_from_All}
use Rattle.data_encoding_meaning.specs.declared.error.DecodeKind.TheVariants.{Length, Symbol, Trailing}
use Rattle.data_encoding_meaning.specs.text.Base.{is_ignored, meaning}
use Rattle.data_encoding_meaning.specs.decoding.Fault.{fault_of}
use Rattle.data_encoding_meaning.specs.decoding.Partial.{ignoring_nothing, partial_of}
use Rattle.data_encoding_meaning.specs.laws.Layers.{IgnoresNone, RunFault, RunTold, SymbolsTold, TellsSymbols, checking_none}
use Rattle.data_encoding_meaning.specs.specification.Predefined.{base64_fields, base64_mime_fields, base64_nopad_fields}
use Rattle.data_encoding_meaning.proofs.vectors.Examples.{Has, by, built, nopad_ignoring_lf_fields}
use Rattle.data_encoding_meaning.proofs.vectors.Laws.{at, is_specified}

-- BASE64_MIME ignores LF
ignored_or_not :
    Has base64_mime_fields (λ base.
    IgnoresNone base (codes "A!=") × (IgnoresNone base (10 ∷ []) → ⊥))
ignored_or_not =
    let plain = λ (byte : ℕ). is_ignored (meaning (built base64_mime_fields) byte) ≡ false in (
      All-from_recursion plain (codes "A!=") (refl, (refl, (refl, tt))),
      (λ all. false≢true (sym (recursion_from_All plain (10 ∷ []) all).0)),
    )

-- as a run `SGVs` LF `!` is of no valid length, and of `SG` LF `s` the third byte is no symbol
run_faults : RunFault
    → (fault_of (ignoring_nothing (built nopad_ignoring_lf_fields)) (codes "SGVs" ++ 10 ∷ [])
    ≡ Some (at Length 4))
    × (fault_of (ignoring_nothing (built nopad_ignoring_lf_fields)) (codes "SG" ++ 10 ∷ codes "s")
    ≡ Some (at Symbol 2))
run_faults law =
    let base = built nopad_ignoring_lf_fields in
    let is = is_specified nopad_ignoring_lf_fields refl in (
      law base is (codes "SGVs" ++ 10 ∷ []),
      law base is (codes "SG" ++ 10 ∷ codes "s"),
    )

-- `SGVs!A==` is read and written up to the fault of its second group
run_stops_at_fault : RunTold
    → (fault_of (ignoring_nothing (built base64_mime_fields)) (codes "SGVs!A==")
    ≡ Some (at Symbol 4))
    × (partial_of (ignoring_nothing (built base64_mime_fields)) (codes "SGVs!A==")
    ≡ Some (record { read = 4; written = 3; error = at Symbol 4 }))
run_stops_at_fault law =
    let base = built base64_mime_fields in
    let plain = λ (byte : ℕ). is_ignored (meaning base byte) ≡ false in
    let same = law base (is_specified base64_mime_fields refl) (codes "SGVs!A==")
    (All-from_recursion plain (codes "SGVs!A==")
    (refl, (refl, (refl, (refl, (refl, (refl, (refl, (refl, tt))))))))) refl in
    (sym same.0, sym same.1)

-- trailing bits are not checked any more
bits_unchecked :
    (by (λ base. fault_of base (codes "QR")) base64_nopad_fields ≡ Some (Some (at Trailing 1)))
    × (by (λ base. fault_of (checking_none base) (codes "QR")) base64_nopad_fields ≡ Some None)
bits_unchecked = (refl, refl)

-- `Q!` has no symbol at 1, and of `QR` the bits that are left are the fault
symbols_of_group : SymbolsTold
    → TellsSymbols (built base64_fields) (codes "Q!") (Some 1)
    × TellsSymbols (built base64_fields) (codes "QR") None
symbols_of_group law =
    let base = built base64_fields in
    let is = is_specified base64_fields refl in
    (law base is (codes "Q!") refl, law base is (codes "QR") refl)
