use Rattle.std.proofs.Common.{◌≡◌, ℕ, Option, Some, None, Result, Ok, Err, IfErr, IfOk, OnOk, sym, subst, ◌∙◌, arith, tests}
use Rattle.data_encoding.specs.declared.error.DecodeError.{DecodeError}
use Rattle.data_encoding.specs.declared.error.DecodePartial.{DecodePartial}
use Rattle.data_encoding.specs.Layers.{IgnoresNone}
use Rattle.conformance.proofs.callers.runs.decode_run.Goals as goal

-- equal faults: if one is None, so is the other
sound_alike : (answer : Result ℕ DecodePartial) (fault other : Option DecodeError)
    (Bytes : ℕ → Type 0) → fault ≡ other → IfOk answer (λ n. (fault ≡ None) × Bytes n)
    → OnOk answer (other ≡ None)
sound_alike (Ok n) fault other Bytes same sound = sym same ∙ sound.0
sound_alike (Err partial) fault other Bytes same sound = tt

pub returns-clause-fault : goal.returns-clause-fault
returns-clause-fault c = λ valid.
    let none : IgnoresNone c.args.encoding.now c.args.run.now =
    c.ignores_none.ensures.sound (grind (arith, tests)) in
    let same = c.run_told.ensures.same c.args.encoding.now c.decode_len.ensures.base c.args.run.now
    none valid in
    subst (λ o. IfErr c.decode_mut.result (λ partial. o ≡ Some partial)) same.1
    c.decode_mut.ensures.fault

pub returns-clause-sound : goal.returns-clause-sound
returns-clause-sound c = λ valid.
    let none : IgnoresNone c.args.encoding.now c.args.run.now =
    c.ignores_none.ensures.sound (grind (arith, tests)) in
    let same = c.run_told.ensures.same c.args.encoding.now c.decode_len.ensures.base c.args.run.now
    none valid in
    sound_alike c.decode_mut.result _ _ _ same.0 c.decode_mut.ensures.sound
