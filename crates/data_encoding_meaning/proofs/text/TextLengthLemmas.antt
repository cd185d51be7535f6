-- The length of a text follows from that of its data, and determines it if there is no padding.
use Rattle.std.proofs.Common.{◌≡◌, ℕ, ◌*◌, ◌/◌, ◌%◌, ◌<◌, Bool, true, false, List, length, Option, Some, None, Ok, is_some, refl, ap, ◌∙◌, arith}
use Rattle.std.proofs.lemmas.Bool.{lt-ltb}
use Rattle.std.proofs.lemmas.Bool.Decides.{nat_tests}
use Rattle.data_encoding_meaning.specs.text.Base.{Base, IsWidth, Wrapping, is_padded}
use Rattle.data_encoding_meaning.specs.text.Lengths.{decoded_len}
use Rattle.data_encoding_meaning.specs.text.Text.{padded_text, text_of}
use Rattle.data_encoding_meaning.proofs.grammar.LengthLemmas.{decoded_len-valid, is_valid_length-by, most_bytes-by, widths}
use Rattle.data_encoding_meaning.proofs.lists.RunLemmas.{run_count}
use Rattle.data_encoding_meaning.proofs.judgement.RuleLemmas.{IsRuled}
use Rattle.data_encoding_meaning.proofs.text.LineLemmas.{length-lines}
use Rattle.data_encoding_meaning.proofs.text.PaddedTextLemmas.{length-padded, length-unpadded, text_of-unwrapped}

module _ (base : Base) (ruled : IsRuled base) where
  padded-same : (bytes others : List ℕ) → length bytes ≡ length others
      → length (padded_text base bytes) ≡ length (padded_text base others)
  padded-same bytes others same = by (is_padded base) refl where
    by : (b : Bool) → is_padded base ≡ b
        → length (padded_text base bytes) ≡ length (padded_text base others)
    by true is =
        rw (length-padded base bytes ruled.is_width is)
        (rw (length-padded base others ruled.is_width is, same))
    by false is =
        rw (length-unpadded base bytes ruled.is_width is)
        (rw (length-unpadded base others ruled.is_width is, same))

  -- texts of as many bytes are as long
  pub text-same : (bytes others : List ℕ) → length bytes ≡ length others
      → length (text_of base bytes) ≡ length (text_of base others)
  text-same bytes others same = by base.wrapping refl where
    padded : length (padded_text base bytes) ≡ length (padded_text base others)
    padded = padded-same bytes others same

    by : (o : Option Wrapping) → base.wrapping ≡ o
        → length (text_of base bytes) ≡ length (text_of base others)
    by None none = rw (text_of-unwrapped base bytes none, text_of-unwrapped base others none) padded
    by (Some lines) some =
        rw (length-lines base ruled lines some bytes)
        (rw (length-lines base ruled lines some others, padded))

-- the symbols of this many bytes
counted : (width : ℕ) → IsWidth width → (n : ℕ)
    → (width * run_count width (8 * n) % 8 < width) × (width * run_count width (8 * n) / 8 ≡ n)
counted width is n = grind (arith, nat_tests, widths width is)

pub length-again : (base : Base) → IsWidth base.width → base.padding ≡ None
    → base.wrapping ≡ None → (bytes : List ℕ)
    → decoded_len base (length (text_of base bytes)) ≡ Ok (length bytes)
length-again base width unpadded unwrapped bytes =
    let count = run_count base.width (8 * length bytes) in
    let plain : is_padded base ≡ false = ap is_some unpadded in
    let len : length (text_of base bytes) ≡ count =
    rw (text_of-unwrapped base bytes unwrapped) (length-unpadded base bytes width plain) in
    let both = counted base.width width (length bytes) in
    ap (decoded_len base) len
    ∙ decoded_len-valid base count (is_valid_length-by base count false plain ∙ lt-ltb _ _ both.0)
    ∙ ap (λ n. Ok n) (most_bytes-by base count false plain ∙ both.1)
