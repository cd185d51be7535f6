use Rattle.std.proofs.Common.{◌≡◌, ◌%◌, ◌≤◌, ◌+◌, ◌-◌, length, take, drop, Some, ap, ◌∙◌, arith, length-take-le, take-append-drop}
use Rattle.data_encoding.specs.declared.error.DecodeKind.{DecodeKind}
use Rattle.data_encoding.specs.Base.{group_symbols}
use Rattle.data_encoding.specs.Fault.{fault_of}
use Rattle.data_encoding.specs.Grammar.{kept}
use Rattle.data_encoding.specs.Predefined.{base64_nopad_fields}
use Rattle.conformance.proofs.KeyLemmas.{length-kept}
use Rattle.conformance.proofs.NameLemmas.{is_built-seen}
use Rattle.conformance.proofs.callers.keys.place_after.Goals as goal
use Rattle.conformance.proofs.callers.keys.place_after.Goals.{In-Err-Error-decode}

fault_is : (c : In-Err-Error-decode)
    → fault_of c.base64_nopad-encoding.result c.args.text.now ≡ Some c.in-Err-Error-decode.error
fault_is c = rw c.in-Err-Error-decode.field-0-is at c.in-Err-Error-decode.ensures.refusal

after_front : (c : In-Err-Error-decode) → c.args.len ≤ c.in-Err-Error-decode.error.position
after_front c =
    let seen = c.base64_nopad-encoding.result in
    let is_built = c.base64_nopad-encoding.ensures in
    let text = c.args.text.now in
    let front = take c.args.len text in
    let has = c.eighteen.ensures.base64_nopad seen is_built in
    let len : length front ≡ c.args.len = length-take-le c.args.len text c.requires.within in
    let whole : length (kept seen front) % group_symbols seen.width ≡ 0 =
    (λ i. length-kept c.whole_groups.ensures.kept seen has.ignores front i
    % group_symbols (has.width i))
    ∙ ap (λ n. n % 4) len ∙ c.requires.whole in
    let past = c.fault_stays.ensures.before seen
    (record { fields = base64_nopad_fields; is_built = is_built }) front (drop c.args.len text)
    c.in-Err-Error-decode.error whole c.in-Ok.ensures.sound.0
    (ap (fault_of seen) (take-append-drop c.args.len text) ∙ fault_is c) in
    omega (arith, past, len)

pub overflow_sub-result : goal.overflow_sub-result
overflow_sub-result c = after_front (goal.at.overflow_sub-result c).In-Err-Error-decode

pub returns-in-Err-Error-decode : goal.returns-in-Err-Error-decode
returns-in-Err-Error-decode c =
    let error = c.in-Err-Error-decode.error in
    let d = (goal.at.returns-in-Err-Error-decode c).In-Err-Error-decode in
    let place : error.position ≡ c.args.len + (error.position - c.args.len) =
    omega (arith, after_front d) in
    is_built-seen (λ base. (kind : DecodeKind) × (fault_of base c.args.text.now ≡ Some (record {
      position = c.args.len + (error.position - c.args.len);
      kind = kind;
    }))) base64_nopad_fields c.base64_nopad-encoding.result c.base64_nopad-encoding.ensures
    (error.kind, fault_is d ∙ ap (λ n. Some (record { position = n; kind = error.kind })) place)
