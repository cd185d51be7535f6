-- Worked rows of the laws: what each says of some data and texts.
use Rattle.std.proofs.Common.{◌≡◌, ◌↔◌, ℕ, ◌+◌, ◌<◌, ◌≤◌, true, false, List, [], ◌∷◌, ◌++◌, length, codes, Some, None, Ok, refl, ap, arith, lit<}
use Rattle.std.proofs.lemmas.Bool.{false≢true}
use Rattle.std.proofs.lemmas.List.Elements.{All-from_recursion}
use Rattle.data_encoding_meaning.specs.declared.encoding.BitOrder.TheVariants.{MostSignificantFirst}
use Rattle.data_encoding_meaning.specs.declared.error.DecodeError.{DecodeError}
use Rattle.data_encoding_meaning.specs.declared.error.DecodeKind.{DecodeKind}
use Rattle.data_encoding_meaning.specs.declared.error.DecodeKind.TheVariants.{Symbol, Trailing}
use Rattle.data_encoding_meaning.specs.text.Base.{Base, ignores_some, is_invalid, meaning}
use Rattle.data_encoding_meaning.specs.text.Grammar.{Means}
use Rattle.data_encoding_meaning.specs.text.Text.{text_of}
use Rattle.data_encoding_meaning.specs.text.Lengths.{length_fault, most_bytes}
use Rattle.data_encoding_meaning.specs.decoding.Fault.{fault_of}
use Rattle.data_encoding_meaning.specs.decoding.Pieces.{IsNoLonger}
use Rattle.data_encoding_meaning.specs.specification.Fields.{Fields, IsSpecified, base_of}
use Rattle.data_encoding_meaning.specs.specification.Predefined.{base64_fields, base64_mime_fields, base64_nopad_fields, base64url_fields, hexlower_fields, hexlower_permissive_fields, translated_fields}
use Rattle.data_encoding_meaning.specs.laws.Canonical.{AreTwoTexts, NotCanonical}
use Rattle.data_encoding_meaning.specs.laws.FaultStays.{FaultStays, GroupFaultStays, NoFaultBefore}
use Rattle.data_encoding_meaning.specs.laws.Laws.{NoOrder, Order}
use Rattle.data_encoding_meaning.specs.laws.Order.{BreaksOrder, KeepsOrder}
use Rattle.data_encoding_meaning.specs.laws.Rules.{EighteenRules}
use Rattle.data_encoding_meaning.specs.laws.SameMeaning.{DifferInSymbolsAlone, FaultExchanged, MeansExchanged, SameInBoth}
use Rattle.data_encoding_meaning.specs.laws.Tight.{LengthOfText}
use Rattle.data_encoding_meaning.specs.laws.Told.{FaultTold, SymbolTold, TrailingTold, WholeTold, first_other, leaves_bits}
use Rattle.data_encoding_meaning.specs.laws.Verdicts.{Injective}
use Rattle.data_encoding_meaning.proofs.vectors.Examples.{built, single_fields, unchecked}

abbrev pub at : DecodeKind → ℕ → DecodeError
at kind position = record { position = position; kind = kind }

-- what is built from some fields
pub is_specified : (fields : Fields) → base_of fields ≡ Ok (built fields) → IsSpecified
    (built fields)
is_specified fields is_built = record { fields = fields; is_built = is_built }

-- two keys, of which one is longer
keys_differ : Injective → (base : Base) → IsSpecified base
    → text_of base (1 ∷ []) ≡ text_of base (1 ∷ 2 ∷ []) → ⊥
keys_differ law base is same =
    let few = All-from_recursion (λ byte. byte < 256) (1 ∷ []) (lit< tt, tt) in
    let more = All-from_recursion (λ byte. byte < 256) (1 ∷ 2 ∷ []) (lit< tt, (lit< tt, tt)) in
    let lengths : 1 ≡ 2 = ap length (law base is (1 ∷ []) (1 ∷ 2 ∷ []) few more same) in
    omega (arith, lengths)

-- two bytes have four digits, in either case
two_bytes_have_four_digits : LengthOfText → (text : List ℕ)
    → Means (built hexlower_permissive_fields) text (74 ∷ 107 ∷ []) → length text ≡ 4
two_bytes_have_four_digits law text means =
    law (built hexlower_permissive_fields) (is_specified hexlower_permissive_fields refl) refl refl
    text (74 ∷ 107 ∷ []) (0 ∷ 0 ∷ []) means refl

-- the fault of a whole group, with an unfinished one after it, and what follows
fault_stayed : GroupFaultStays
    → fault_of (built base64_nopad_fields) (codes "SG!sQ" ++ codes "UI") ≡ Some (at Symbol 2)
fault_stayed law =
    law (built base64_nopad_fields) (is_specified base64_nopad_fields refl) (codes "SG!sQ")
    (codes "UI") (at Symbol 2) refl refl

text_fault_stayed : FaultStays
    → fault_of (built base64_nopad_fields) (codes "SG!s" ++ codes "QUI") ≡ Some (at Symbol 2)
text_fault_stayed law =
    law (built base64_nopad_fields) (is_specified base64_nopad_fields refl) (codes "SG!s")
    (codes "QUI") (at Symbol 2) refl refl refl

-- after a sound group, any fault is further on
none_before : NoFaultBefore → (after : List ℕ) (error : DecodeError)
    → fault_of (built base64_nopad_fields) (codes "SGVs" ++ after) ≡ Some error
    → 4 ≤ error.position
none_before law after error =
    law (built base64_nopad_fields) (is_specified base64_nopad_fields refl)
    (codes "SGVs") after error
    refl refl

-- an encoding without lines that keeps order has the most significant bit first
order_needs_significant_first : Order → (base : Base) → IsSpecified base → base.wrapping ≡ None
    → KeepsOrder base
    → base.order ≡ MostSignificantFirst
order_needs_significant_first law base is unwrapped keeps =
    ((law base is unwrapped).1 keeps).most_significant_first

-- base64 does not keep order: `0A` is before `zA`, and its data after
base64_breaks_order : NoOrder → BreaksOrder (built base64_nopad_fields) (204 ∷ []) (208 ∷ [])
base64_breaks_order law =
    (law (built base64_nopad_fields) (is_specified base64_nopad_fields refl) refl).descending
    refl 51
    (lit< tt) (lit< tt)

-- each cause of a second text
second_texts : NotCanonical
    → AreTwoTexts (built base64_mime_fields) [] (10 ∷ []) []
    × AreTwoTexts (built (unchecked base64_nopad_fields)) (codes "AA") (codes "AB") (0 ∷ [])
    × AreTwoTexts (built base64_fields) (codes "AA==AA==") (codes "AAA=") (0 ∷ 0 ∷ [])
    × ((bytes : List ℕ)
    × AreTwoTexts (built hexlower_permissive_fields) (codes "aa") (codes "AA") bytes)
    × AreTwoTexts (built (translated_fields single_fields (codes "~") (codes "=")))
    (codes "AA==") (codes "AA=~") (0 ∷ [])
second_texts law =
    let tilde = translated_fields single_fields (codes "~") (codes "=") in
    let unchecked_fields = unchecked base64_nopad_fields in
    let lower = hexlower_permissive_fields in (
      (law (built base64_mime_fields) (is_specified base64_mime_fields refl)).0 10 refl,
      (law (built unchecked_fields) (is_specified unchecked_fields refl)).1 refl,
      (law (built base64_fields) (is_specified base64_fields refl)).2 refl refl,
      (law (built lower) (is_specified lower refl)).3 65 10 refl
          (λ same. let no : 97 ≡ 65 = same in omega (arith, no)),
      (law (built tilde) (is_specified tilde refl)).4 126 61 refl refl
          (λ same. let no : 61 ≡ 126 = same in omega (arith, no)),
    )

-- the bytes of a text decide its fault: the first byte that is not a symbol, or trailing bits
faults_from_bytes : FaultTold → SymbolTold → TrailingTold → WholeTold
    → (fault_of (built base64_nopad_fields) (codes "SGVsQR") ≡ Some (at Trailing 5))
    × ((index : ℕ)
    → fault_of (built base64_nopad_fields) (codes "SGV!Q!") ≡ Some (at Symbol index) → index ≡ 3)
    × (fault_of (built base64_nopad_fields) (codes "SGVsQR") ≡ Some (at Trailing 5))
    × (fault_of (built hexlower_fields) (codes "4G4g") ≡ Some (at Symbol 1))
faults_from_bytes fault symbol trailing whole =
    let base = built base64_nopad_fields in
    let is = is_specified base64_nopad_fields refl in
    let some : (a b : ℕ) → Some a ≡ Some b → b ≡ a = λ a b h. cc in (
      fault base is refl refl (codes "SGVsQR") refl,
      (λ index h. some 3 index ((symbol base is refl refl (codes "SGV!Q!") refl index).0 h)),
      (trailing base is refl refl (codes "SGVsQR") refl 5).1 (refl, refl, refl),
      whole (built hexlower_fields) (is_specified hexlower_fields refl) refl refl
          (codes "4G4g") refl,
    )

-- The other way round: the first byte that is not a symbol is the fault. A fault of trailing bits
-- is at the last byte of a text of symbols.
bytes_from_faults : SymbolTold → TrailingTold
    → (fault_of (built base64_nopad_fields) (codes "SGV!Q!") ≡ Some (at Symbol 3))
    × ((text : List ℕ) → length_fault (built base64_nopad_fields) (length text) ≡ None
    → (index : ℕ) → fault_of (built base64_nopad_fields) text ≡ Some (at Trailing index)
    → (first_other (built base64_nopad_fields) text ≡ None)
    × (leaves_bits (built base64_nopad_fields) text ≡ true) × (index + 1 ≡ length text))
bytes_from_faults symbol trailing =
    let base = built base64_nopad_fields in
    let is = is_specified base64_nopad_fields refl in (
      (symbol base is refl refl (codes "SGV!Q!") refl 3).1 refl,
      (λ text valid index. (trailing base is refl refl text valid index).0),
    )

base64_and_url : DifferInSymbolsAlone (built base64_fields) (built base64url_fields)
base64_and_url = record {
  in_symbols = record { width = refl; order = refl; padded = refl; wrapping = refl };
  checks = refl;
  concatenates = refl;
  ignored = refl;
}

-- if `+` is exchanged for `-`, a text means the same data in base64url, or has the same fault
exchange_keeps_meaning_and_fault : MeansExchanged → FaultExchanged → SameInBoth → (bytes : List ℕ)
    → Means (built base64_fields) (codes "+A==+A==") bytes
    → Means (built base64url_fields) (codes "-A==-A==") bytes
    × (fault_of (built base64_fields) (codes "+A!=")
    ≡ fault_of (built base64url_fields) (codes "-A!="))
    × (fault_of (built base64_fields) (codes "+A-=")
    ≡ fault_of (built base64url_fields) (codes "-A+="))
    × (Means (built base64_fields) (codes "+A==") (248 ∷ [])
    ↔ Means (built base64url_fields) (codes "-A==") (248 ∷ []))
exchange_keeps_meaning_and_fault means fault both bytes meant =
    let one = built base64_fields in
    let url = built base64url_fields in
    let is = is_specified base64_fields refl in
    let also = is_specified base64url_fields refl in
    let stays = λ (byte : ℕ).
    is_invalid (meaning one byte) ≡ true → is_invalid (meaning url byte) ≡ true in (
      means one url is also base64_and_url (codes "+A==+A==") bytes meant,
      fault one url is also base64_and_url (codes "+A!=")
          (All-from_recursion stays (codes "+A!=") (
            (λ h. absurd (false≢true h)),
            ((λ h. absurd (false≢true h)), ((λ h. refl), ((λ h. absurd (false≢true h)), tt))),
          )),
      (both one url is also base64_and_url (codes "+A-=") (codes "-A+=") refl).0,
      (both one url is also base64_and_url (codes "+A==") (codes "-A==") refl).1 (248 ∷ []),
    )

-- HEXLOWER ignores no byte, and the padding of BASE64_MIME is `=`
hexlower_ignores_none : EighteenRules → (ignores_some (built hexlower_fields) ≡ false)
    × ((built base64_mime_fields).padding ≡ Some 61)
hexlower_ignores_none law = (
  (law.hexlower (built hexlower_fields) refl).ignores,
  (law.base64_mime (built base64_mime_fields) refl).padding,
)

-- a text of seven bytes means no more
no_longer : IsNoLonger → (base : Base) → IsSpecified base → most_bytes base 7 ≤ 7
no_longer law base is = law base is 7
