-- If there is no padding and no ignored byte, a text means bytes, and how many.
use Rattle.std.proofs.Common.{◌≡◌, ℕ, ◌*◌, false, ◌<◌, ◌≤◌, List, [], ◌∷◌, length, take, All, Option, Some, None, is_some, Ok, refl, sym, ap, arith, map, slice_index, length-take-le}
use Rattle.std.proofs.lemmas.List.Elements.{All-append, All-from_recursion}
use Rattle.data_encoding_meaning.specs.declared.encoding.Character.{Character}
use Rattle.data_encoding_meaning.specs.declared.encoding.Character.TheVariants.{Ignored}
use Rattle.data_encoding_meaning.specs.text.Base.{Base, IsWidth, Wrapping, ignores_some, is_ignored, meaning}
use Rattle.data_encoding_meaning.specs.text.Grammar.{GroupsMean, Means, groups, kept, meanings_in}
use Rattle.data_encoding_meaning.specs.text.Lengths.{decoded_len, most_bytes}
use Rattle.data_encoding_meaning.specs.text.Text.{text_of}
use Rattle.data_encoding_meaning.proofs.grammar.LengthLemmas.{decoded_len-counted, most_bytes-by, widths}
use Rattle.data_encoding_meaning.proofs.grammar.PositionLemmas.{length-kept_plain, never_ignored, length-meanings}
use Rattle.data_encoding_meaning.proofs.grammar.UnpaddedGrammarLemmas.{unpadded-Means}
use Rattle.data_encoding_meaning.proofs.grammar.UnpaddedGroupLemmas.{PlainMeans-count}
use Rattle.data_encoding_meaning.proofs.lists.EachLemmas.{all-at}
use Rattle.data_encoding_meaning.proofs.lists.RunLemmas.{run_count}
use Rattle.data_encoding_meaning.proofs.judgement.RuleLemmas.{IsRuled, IsRuledWrapping}
use Rattle.data_encoding_meaning.proofs.text.PaddedTextLemmas.{length-unpadded}

-- if no byte is ignored, there are no lines
pub no_lines-plain : (base : Base) → IsRuled base → ignores_some base ≡ false
    → base.wrapping ≡ None
no_lines-plain base ruled none = by base.wrapping ruled.wrapping where
  by : (o : Option Wrapping) → IsRuledWrapping base o → o ≡ None
  by None h = refl
  by (Some lines) h =
      let first = all-at (λ byte. (byte < 128) × (meaning base byte ≡ Ignored)) lines.separator
      h.ignored 0 h.ended in
      cc (never_ignored base none (slice_index lines.separator 0), ap is_ignored first.1)

-- texts of as many bytes are as long
pub length-plain_text_of : (base : Base) → IsRuled base → base.padding ≡ None
    → ignores_some base ≡ false → (text bytes others : List ℕ) → Means base text bytes
    → length others ≡ length bytes → length text ≡ length (text_of base others)
length-plain_text_of base ruled unpadded none text bytes others means same =
    let meant = meanings_in base (kept base text) in
    let plain = (unpadded-Means base ruled.is_width (ap is_some unpadded) text bytes).0 means in
    let bits = PlainMeans-count base ruled.is_width meant bytes plain in
    let count : run_count base.width (8 * length bytes) ≡ length meant =
    grind (arith, widths base.width ruled.is_width, bits, plain.rest_is_short) in
    rw (no_lines-plain base ruled none)
    (rw (length-unpadded base others ruled.is_width (ap is_some unpadded), same, count)
    (rw length-meanings (sym (length-kept_plain base text none))))

pub most-Means : (base : Base) → IsWidth base.width → base.padding ≡ None
    → ignores_some base ≡ false → (text bytes : List ℕ) → Means base text bytes
    → length bytes ≡ most_bytes base (length text)
most-Means base width unpadded none text bytes means =
    let meant = meanings_in base (kept base text) in
    let plain = (unpadded-Means base width (ap is_some unpadded) text bytes).0 means in
    let count = PlainMeans-count base width meant bytes plain in
    rw (most_bytes-by base (length text) false (ap is_some unpadded))
    (rw (← (length-kept_plain base text none), ← (length-meanings base (kept base text)))
    (omega (arith, count)))

-- so what is decoded to a buffer of exactly the length that is due fills it
pub full-Means : (base : Base) → IsWidth base.width → base.padding ≡ None
    → ignores_some base ≡ false → (text output : List ℕ) (count : ℕ)
    → decoded_len base (length text) ≡ Ok (length output) → count ≤ length output
    → Means base text (take count output) → count ≡ length output
full-Means base width unpadded none text output count due within means =
    let exact = decoded_len-counted base (length text) (length output) due in
    let most = most-Means base width unpadded none text (take count output) means in
    omega (arith, length-take-le count output within, most, exact.1)

each-bytes : (base : Base) (gs : List (List Character)) (bytes : List ℕ)
    → GroupsMean base gs bytes → All (λ byte. byte < 256) bytes
each-bytes base [] bytes none = rw none (All-from_recursion (λ byte. byte < 256) [] tt)
each-bytes base (group ∷ gs) bytes means =
    rw means.2 (All-append (λ byte. byte < 256) means.0 means.1 means.3.means.are_bytes
    (each-bytes base gs means.1 means.5))

pub are_bytes-Means : (base : Base) (text bytes : List ℕ) → Means base text bytes
    → All (λ byte. byte < 256) bytes
are_bytes-Means base text = each-bytes base (map (meanings_in base) (groups base text))
