use Rattle.std.proofs.Common.{◌≡◌, ◌↔◌, ◌==◌, ℕ, List, length, replicate, IsTrue, refl, sym, ap, ◌∙◌}
use Rattle.std.proofs.lemmas.Bool.{eqb-true}
use Rattle.data_encoding.specs.Fields.{IsSpecified}
use Rattle.data_encoding.specs.Grammar.{Means}
use Rattle.data_encoding.specs.Lengths.{decoded_len, length_fault, most_bytes}
use Rattle.data_encoding.specs.Predefined.{hexlower_permissive_fields}
use Rattle.data_encoding.specs.Text.{text_of}
use Rattle.conformance.proofs.NameLemmas.{len-count, equal-tested, is_built-seen}
use Rattle.conformance.proofs.callers.keys.is_digest.Goals as goal

pub returns : goal.returns
returns c =
    let seen = c.hexlower_permissive.result in
    let is_built = c.hexlower_permissive.ensures in
    let rules = c.eighteen.ensures.hexlower_permissive seen is_built in
    let is : IsSpecified seen = record { fields = hexlower_permissive_fields; is_built = is_built }
    in
    let text = c.args.text.now in
    let some : List ℕ = replicate 20 0 in
    let len : length (text_of seen some) ≡ c.encode_len.result =
    c.encode_len.ensures.length some refl in
    is_built-seen (λ base. (bytes : List ℕ) → Means base text bytes
    → IsTrue (length text == c.encode_len.result) ↔ (length bytes ≡ 20))
    hexlower_permissive_fields seen is_built (λ bytes means. (
      (λ equal.
          let same = eqb-true (length text) c.encode_len.result equal ∙ sym len in
          let again = ap (decoded_len seen) same
          ∙ c.tight.ensures.again seen is rules.padding rules.wrapping some in
          c.tight.ensures.most seen is rules.padding rules.ignores text bytes means
          ∙ len-count (length_fault seen (length text)) (most_bytes seen (length text)) 20 again),
      (λ twenty.
          equal-tested (length text) c.encode_len.result
          (c.tight.ensures.fixed seen is rules.padding rules.ignores text bytes some means
          (sym twenty) ∙ len)),
    ))
