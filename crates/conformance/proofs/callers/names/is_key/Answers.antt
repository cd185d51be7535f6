use Rattle.std.proofs.Common.{◌≡◌, ◌↔◌, ◌==◌, ℕ, false, List, length, replicate, None, IsTrue, lit<, refl, sym, ap, ◌∙◌}
use Rattle.std.proofs.lemmas.Bool.{eqb-true}
use Rattle.data_encoding.specs.Base.{ignores_some}
use Rattle.data_encoding.specs.Fields.{IsSpecified}
use Rattle.data_encoding.specs.Grammar.{Means}
use Rattle.data_encoding.specs.Lengths.{decoded_len, length_fault, most_bytes}
use Rattle.data_encoding.specs.Predefined.{base64url_nopad_fields}
use Rattle.data_encoding.specs.Text.{text_of}
use Rattle.conformance.proofs.NameLemmas.{seen-holds, len-count, equal-tested, is_built-seen}
use Rattle.conformance.proofs.callers.names.is_key.Goals as goal

pub returns : goal.returns
returns c =
    let seen = c.base64url_nopad.result in
    let is_built = c.base64url_nopad.ensures in
    let token = c.args.token.now in
    let some : List ℕ = replicate 16 0 in
    let is : IsSpecified seen =
    record { fields = base64url_nopad_fields; is_built = is_built } in
    let one = c.canonical.ensures.eighteen.0 5 base64url_nopad_fields (lit< tt) seen is_built in
    let unpadded = seen-holds (λ b. b.padding ≡ None) base64url_nopad_fields seen is_built refl in
    let unwrapped = seen-holds (λ b. b.wrapping ≡ None) base64url_nopad_fields seen is_built refl in
    let none = seen-holds (λ b. ignores_some b ≡ false) base64url_nopad_fields seen is_built refl in
    let len : length (text_of seen some) ≡ c.encode_len.result =
    c.encode_len.ensures.length some refl in
    is_built-seen (λ base. (bytes : List ℕ) → Means base token bytes
    → IsTrue (length token == c.encode_len.result) ↔ (length bytes ≡ 16))
    base64url_nopad_fields seen is_built (λ bytes means. (
      (λ equal.
          let same : length token ≡ length (text_of seen some) =
          eqb-true (length token) c.encode_len.result equal ∙ sym len in
          let again = ap (decoded_len seen) same
          ∙ c.tight.ensures.again seen is unpadded unwrapped some in
          c.tight.ensures.most seen is unpadded none token bytes means
          ∙ len-count (length_fault seen (length token)) (most_bytes seen (length token)) 16 again),
      (λ sixteen.
          let same = c.injective.ensures.length seen is one token bytes some means (sym sixteen)
          ∙ len in
          equal-tested (length token) c.encode_len.result same),
    ))
