use Rattle.std.proofs.Common.{◌≡◌, ◌%◌, ℕ, false, length, Err, refl, sym, ap, ◌∙◌, subst}
use Rattle.std.specs.Prelude.{IfErr}
use Rattle.std.specs.List.{enumerate_from}
use Rattle.std.proofs.lemmas.List.{length-map}
use Rattle.std.proofs.lemmas.List.FromFn.{length-enumerate_from}
use Rattle.data_encoding.specs.declared.error.DecodeError.{DecodeError}
use Rattle.data_encoding.specs.declared.error.DecodeFault.TheVariants.{Error}
use Rattle.data_encoding.specs.Base.{group_symbols, ignores_some}
use Rattle.data_encoding.specs.Fault.{IsRefusal}
use Rattle.data_encoding.specs.Fields.{IsSpecified}
use Rattle.data_encoding.specs.Grammar.{Positioned, kept}
use Rattle.data_encoding.specs.Predefined.{base64_fields}
use Rattle.conformance.specs.Texts.{IsFaultOfAll}
use Rattle.conformance.proofs.NameLemmas.{seen-holds, is_built-seen}
use Rattle.conformance.proofs.callers.streamed.decoded_early.Goals as goal

pub returns-clause-fault : goal.returns-clause-fault
returns-clause-fault c =
    let seen = c.base64.result in
    let is_built = c.base64.ensures in
    let front = c.args.front.now in
    let is : IsSpecified seen = record { fields = base64_fields; is_built = is_built } in
    let none = seen-holds (λ b. ignores_some b ≡ false) base64_fields seen is_built refl in
    let size = seen-holds (λ b. group_symbols b.width ≡ 4) base64_fields seen is_built refl in
    let len : length (kept seen front) ≡ length front =
    ap length ((c.whole_groups.ensures.kept seen none).1 front)
    ∙ length-map (enumerate_from 0 front)
    (λ (p : ℕ × ℕ). let k : Positioned = record { position = p.0; byte = p.1 } in k)
    ∙ length-enumerate_from 0 front in
    let whole : length (kept seen front) % group_symbols seen.width ≡ 0 =
    subst (λ n. n % group_symbols seen.width ≡ 0) (sym len)
    (subst (λ n. length front % n ≡ 0) (sym size) c.requires.whole) in
    is_built-seen (λ base. (error : DecodeError) → c.decode.result ≡ Err (Error error)
    → IsFaultOfAll base front error) base64_fields seen is_built
    (λ error returned after due.
    c.fault_stays.ensures.text seen is front after error whole
    (subst (λ r. IfErr r (IsRefusal seen front)) returned c.decode.ensures.refusal) due)
