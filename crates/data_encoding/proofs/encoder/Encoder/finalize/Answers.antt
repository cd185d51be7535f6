use Rattle.std.proofs.Common.{◌≡◌, ◌++◌, ℕ, List, false, Ok, Err, refl, sym, ◌∙◌}
use Rattle.std.proofs.lemmas.Bool.{false≢true}
use Rattle.std.specs.Prelude.{Result, OnOk, is_err}
use Rattle.data_encoding_meaning.specs.text.Base.{Base}
use Rattle.data_encoding_meaning.specs.text.EncodedPieces.{HasEncoded}
use Rattle.data_encoding_meaning.specs.specification.Fields.{IsSpecified}
use Rattle.data_encoding_meaning.specs.text.Text.{text_of}
use Rattle.data_encoding_meaning.proofs.judgement.RuleLemmas.{IsRuled-built}
use Rattle.data_encoding_meaning.proofs.text.EncodedPieceLemmas.{text_of-pieces}
use Rattle.data_encoding.proofs.encoder.Encoder.finalize.Goals as goal

-- what holds if nothing failed
when-ok : {P E : Type 0} (r : Result (Unit {0}) E) → is_err r ≡ false → OnOk r P → P
when-ok (Ok _) none p = p
when-ok (Err _) none p = absurd (false≢true (sym none))

-- the text of the held bytes ends the text of all bytes
ended : (seen : Base) → IsSpecified seen → (old held new : List ℕ)
    → new ≡ old ++ text_of seen held → (before bytes : List ℕ)
    → HasEncoded seen before bytes old held → new ≡ before ++ text_of seen bytes
ended seen specified old held new written before bytes has =
    text_of-pieces seen (IsRuled-built specified.fields seen specified.is_built) before bytes old
    held has new written

pub returns : goal.returns
returns g c =
    let none = sym c.is_err.ensures.value ∙ c.if-is_err.false in
    let written = when-ok c.append_in.result none c.append_in.ensures.text in
    let appended = ended c.by_ref.result c.append_in.ensures.base _ _ _ written in (
      (refl, (λ _. tt), λ before bytes taken. (rw c.by_ref.ensures at appended) before bytes taken),
      record { text = tt; unchanged = tt; empty = λ _. refl },
    )
