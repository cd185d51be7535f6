-- Names of BASE32_DNSSEC in lower case.
use Rattle.std.proofs.Common.{◌≡◌, ◌↔◌, ℕ, ◌+◌, ◌<◌, ◌≤◌, ◌==◌, nat_le, if◌then◌else◌, ◌&&◌, Bool, true, false, IsTrue, List, length, None, unwrap_or, Ok, sym, ap, ◌∙◌, subst, arith, ⊎_elim}
use Rattle.std.proofs.lemmas.List.{get_or_past}
use Rattle.std.proofs.lemmas.Bool.{cases_lt, eqb-true}
use Rattle.std.proofs.lemmas.Bool.Decides.{nat_tests}
use Rattle.std.specs.List.{list_all, range_with_len}
use Rattle.data_encoding.specs.declared.encoding.Character.TheVariants.{Invalid}
use Rattle.data_encoding.specs.Base.{Base}
use Rattle.data_encoding.specs.Compared.{OrderOfData}
use Rattle.data_encoding.specs.Fields.{base_of}
use Rattle.data_encoding.specs.Grammar.{Means}
use Rattle.data_encoding.specs.Laws.{Unpadded}
use Rattle.data_encoding.specs.Layout.{own_character}
use Rattle.data_encoding.specs.Order.{IsBefore, IsOrdered}
use Rattle.data_encoding.specs.Predefined.{base32_dnssec_fields}
use Rattle.data_encoding.specs.SameMeaning.{OwnText, exchanged, has_one_own_form, own_form}
use Rattle.data_encoding.specs.Text.{text_of}
use Rattle.conformance.proofs.RewrittenLemmas.{each_byte, value-of, specified_by}

-- a byte in lower case, if it is a letter up to V
abbrev lowered : ℕ → ℕ
lowered byte = if nat_le 65 byte && nat_le byte 86 then byte + 32 else byte

lowered-upper : (byte : ℕ) → 65 ≤ byte → byte ≤ 86 → byte + 32 ≡ lowered byte
lowered-upper byte low high = grind (arith, nat_tests)

lowered-other : (byte : ℕ) → (65 ≤ byte → byte ≤ 86 → ⊥) → byte ≡ lowered byte
lowered-other byte apart = grind (arith, nat_tests)

module _ (base : Base) (is : base_of base32_dnssec_fields ≡ Ok base) where
  -- `true` if a byte is translated to the byte in lower case
  abbrev is_own : Base → ℕ → Bool
  is_own b byte = exchanged b b byte == lowered byte

  abbrev are_own : Base → Bool
  are_own b = list_all (is_own b) (range_with_len 0 128)

  are_own-computed : are_own base ≡ true
  are_own-computed = value-of are_own false base32_dnssec_fields base is

  meanings-length : length base.meanings ≡ 128
  meanings-length = value-of (λ b. length b.meanings) 0 base32_dnssec_fields base is

  own_lowered : (byte : ℕ) → lowered byte ≡ exchanged base base byte
  own_lowered byte =
      ⊎_elim {C = lowered byte ≡ exchanged base base byte}
      (λ (low : byte < 128).
      sym (eqb-true (exchanged base base byte) (lowered byte)
      (each_byte (is_own base) are_own-computed byte low)))
      (λ (high : 128 ≤ byte).
      let none = get_or_past base.meanings byte Invalid (omega (arith, high, meanings-length)) in
      sym (lowered-other byte (λ low few. omega (arith, high, few)))
      ∙ sym (ap (λ m. unwrap_or (own_character base m) byte) none))
      (cases_lt byte 128)

  pub own-upper : (byte : ℕ) → 65 ≤ byte → byte ≤ 86 → byte + 32 ≡ exchanged base base byte
  own-upper byte low high = lowered-upper byte low high ∙ own_lowered byte

  pub own-other : (byte : ℕ) → (65 ≤ byte → byte ≤ 86 → ⊥) → byte ≡ exchanged base base byte
  own-other byte apart = lowered-other byte apart ∙ own_lowered byte

  -- their texts are sorted as the data
  pub sorts_alike : (own : OwnText) (order : OrderOfData) (unpadded : Unpadded) → IsOrdered base
      → (result : Bool)
      (one other first second bytes others : List ℕ)
      → first ≡ own_form base one → second ≡ own_form base other
      → IsTrue result ↔ IsBefore first second → Means base one bytes → Means base other others
      → IsTrue result ↔ IsBefore bytes others
  sorts_alike own order unpadded ordered result one other first second bytes others form also less
      means more =
      let specified = specified_by base32_dnssec_fields base is in
      let one_form = value-of has_one_own_form false base32_dnssec_fields base is in
      let none = value-of (λ b. b.padding) None base32_dnssec_fields base is in
      let plain = value-of (λ b. b.wrapping) None base32_dnssec_fields base is in
      let text = form ∙ own base specified one_form one bytes means in
      let text_also = also ∙ own base specified one_form other others more in
      let alike = order base specified plain ordered bytes others
      ((unpadded base specified none one bytes).0 means).are_bytes
      ((unpadded base specified none other others).0 more).are_bytes in (
        (λ h.
            alike.order.1 (subst (λ l. IsBefore l (text_of base others)) text
            (subst (λ l. IsBefore first l) text_also (less.0 h)))),
        (λ h.
            less.1 (subst (λ l. IsBefore l second) (sym text)
            (subst (λ l. IsBefore (text_of base bytes) l) (sym text_also) (alike.order.0 h)))),
      )
