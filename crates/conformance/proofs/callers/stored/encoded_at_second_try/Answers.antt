use Rattle.std.proofs.Common.{◌≡◌, ℕ, List, ◌++◌, false, rules, Result, Ok, Err, OnOk, is_err, sym, ap, ◌∙◌, subst}
use Rattle.std.proofs.lemmas.Result.{IfOk-at_ok}
use Rattle.std.specs.String.{string_bytes}
use Rattle.data_encoding.specs.declared.encoder.Encoder.{Encoder}
use Rattle.data_encoding.specs.declared.encoder.Encodes
use Rattle.data_encoding.specs.Encoder.{HasTaken, IsUnchanged, base_of_encoder, held, written}
use Rattle.data_encoding.specs.EncodedPieces.{HasEncoded}
use Rattle.data_encoding.specs.Text.{text_of}
use Rattle.conformance.proofs.callers.stored.encoded_at_second_try.Goals as goal

-- a property of Ok holds if there is no error
where_ok : {T E P : Type 0} (result : Result T E) → false ≡ is_err result → OnOk result P → P
where_ok (Ok x) none holds = holds
where_ok (Err error) none holds = cc

-- an encoder that is unchanged has taken the same bytes
still_taken : {E : Type 0} {by : Encodes.Ghosts E} (old new : Encoder E by)
    → IsUnchanged old new → (before bytes : List ℕ) → HasTaken old before bytes
    → HasTaken new before bytes
still_taken old new same before bytes has =
    subst (λ base. HasEncoded base before bytes (written new) (held new)) (sym same.base)
    (subst (λ text. HasEncoded (base_of_encoder old) before bytes text (held new))
    (sym same.written)
    (subst (λ rest. HasEncoded (base_of_encoder old) before bytes (written old) rest)
    (sym same.held) has))

pub returns-in-Ok : goal.returns-in-Ok
returns-in-Ok c =
    let start = c.new_encoder-encoder.ensures.pieces in
    let once =
    where_ok c.append_again.result c.if-is_err.ensures.value c.append_again.ensures.taken _ _ start
    in
    let twice =
    where_ok c.append_again-else-is_err.result c.if-is_err-2.ensures.value
    c.append_again-else-is_err.ensures.taken _ _ once in
    let text = IfOk-at_ok _ c.in-Ok.is c.finalize.follows.holds-at-none _ _ twice in
    search rules

pub returns-in-Ok-finalize : goal.returns-in-Ok-finalize
returns-in-Ok-finalize c =
    let start = c.new_encoder-encoder.ensures.pieces in
    let once =
    where_ok c.append_again.result c.if-is_err.ensures.value c.append_again.ensures.taken _ _ start
    in
    let twice =
    where_ok c.append_again-else-is_err.result c.if-is_err-2.ensures.value
    c.append_again-else-is_err.ensures.taken _ _ once in
    let same = c.in-Err.ensures.unchanged in
    let again = still_taken _ _ same _ _ twice in
    let text = IfOk-at_ok _ c.in-Ok-finalize.is c.finalize-in-Err.follows.holds-at-none _ _ again in
    let name =
    same.output ∙ c.append_again-else-is_err.ensures.output ∙ c.append_again.ensures.output
    ∙ c.new_encoder-encoder.ensures.output in
    let base =
    same.base ∙ c.append_again-else-is_err.ensures.base ∙ c.append_again.ensures.base
    ∙ c.new_encoder-encoder.ensures.base in
    let whole =
    text
    ∙ ap (λ base. string_bytes c.args.output.now
    ++ text_of base (c.args.one.now ++ c.args.other.now))
    base in
    search rules
