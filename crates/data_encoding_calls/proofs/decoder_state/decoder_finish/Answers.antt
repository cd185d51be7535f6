use Rattle.std.proofs.Common.{◌≡◌, ◌⊎◌, ◌++◌, List, ℕ, ◌<◌, None, Some, is_some, drop, refl, sym, ap, subst, ◌∙◌, arith, inl, inr}
use Rattle.data_encoding.specs.Fault.{fault_of}
use Rattle.encoding_stream.specs.BufferDecoder.{kept_by}
use Rattle.data_encoding_calls.specs.DecoderState.{WasGiven}
use Rattle.data_encoding_calls.specs.Status.{status_of_fault}
use Rattle.data_encoding_calls.proofs.DecoderStateLemmas.{EndsKept, ended, fault-inside, fault-none, fault-some, kept-len, kind-faulty, kind-own, no-error, none-consumed, one-error}
use Rattle.data_encoding_calls.proofs.decoder_state.decoder_finish.Goals as goal

pub returns-in_default : goal.returns-in_default
returns-in_default c =
    let none =
    none-consumed c.args.encoding.now c.args.plain.now c.decoder_of.result c.in_default.is
    c.decoder_of.ensures.stands in
    record {
      verdict = λ _ text consumed. absurd (none text consumed);
      bytes = λ _ text consumed. absurd (none text consumed);
      position = λ _ text error consumed. absurd (none text consumed);
      read = λ _ text consumed. absurd (none text consumed);
      end = λ is. absurd (cc is);
      given = λ known. absurd (known refl);
      counted = λ known _. absurd (known refl);
      inside = λ known _ _. absurd (known refl);
      within = λ _ text consumed. absurd (none text consumed);
      after = refl;
      len = refl;
      short = λ is. absurd (cc is);
      refused = λ _. (refl, refl);
    }

pub returns-in-Ok : goal.returns-in-Ok
returns-in-Ok c =
    let is = c.in-Some.ensures.base in
    let end = c.finish-written in
    let now : EndsKept c.args.encoding.now c.args.plain.now c.args.output.now
    (c.copy_from_slice.new.self ++ drop end.result.0 c.args.output.now) c.len-read.result
    end.result.0 end.result.1 =
    ended c.in-Some.ensures.kept end.new.output (rw is at end.ensures.verdict)
    (rw is at end.ensures.bytes)
    (omega (arith, end.ensures.few, end.ensures.len)) (omega (arith, c.if-output-written.false))
    c.copy_from_slice.ensures.after c.len-read.ensures.value in
    let none : (text : List ℕ) → WasGiven c.args.encoding.now c.args.plain.now text
    → fault_of c.args.encoding.now text ≡ None =
    λ text consumed. fault-none (fault_of c.args.encoding.now text) end.result.1 c.in-Ok.field-0
    c.in-Ok.is (now.verdict_is text consumed) in
    record {
      verdict = λ _ text consumed. sym (ap status_of_fault (none text consumed));
      bytes = λ _ text consumed. now.bytes text consumed;
      position = λ _ text error consumed found.
          absurd (no-error (sym (none text consumed) ∙ found));
      read = λ _ text consumed. now.read_is text consumed;
      end = λ _. refl;
      given = λ _. c.decoder_of.ensures.given (ap is_some c.in-Some.is);
      counted = λ _ _.
          c.len-read.ensures.value
          ∙ kept-len c.args.plain.now (kept_by c.in-Some.decoder) c.in-Some.ensures.kept;
      inside = λ _ _ bad. absurd (bad refl);
      within = λ _ text consumed. now.within;
      after = now.after;
      len = now.len;
      short = λ short. absurd (omega (arith, short));
      refused = λ refused. absurd (elim refused [
        | inl is_none ↦ omega (arith, is_none)
        | inr is_short ↦ omega (arith, is_short)
      ]);
    }

pub returns-in-Err : goal.returns-in-Err
returns-in-Err c =
    let is = c.in-Some.ensures.base in
    let end = c.finish-written in
    let now : EndsKept c.args.encoding.now c.args.plain.now c.args.output.now
    (c.copy_from_slice.new.self ++ drop end.result.0 c.args.output.now) c.len-read.result
    end.result.0 end.result.1 =
    ended c.in-Some.ensures.kept end.new.output (rw is at end.ensures.verdict)
    (rw is at end.ensures.bytes)
    (omega (arith, end.ensures.few, end.ensures.len)) (omega (arith, c.if-output-written.false))
    c.copy_from_slice.ensures.after c.len-read.ensures.value in
    let some : (text : List ℕ) → WasGiven c.args.encoding.now c.args.plain.now text
    → fault_of c.args.encoding.now text ≡ Some c.in-Err.error =
    λ text consumed. fault-some (fault_of c.args.encoding.now text) end.result.1 c.in-Err.error
    c.in-Err.is (now.verdict_is text consumed) in
    let own = λ (n : ℕ) (refused : (n ≡ 19) ⊎ (n ≡ 4)) (same : c.status_of_kind.result ≡ n).
    kind-own c.in-Err.error.kind n refused (sym c.status_of_kind.ensures ∙ same) in
    record {
      verdict = λ _ text consumed.
          c.status_of_kind.ensures ∙ sym (ap status_of_fault (some text consumed));
      bytes = λ _ text consumed. now.bytes text consumed;
      position = λ _ text error consumed found.
          ap (λ e. e.position) (one-error (sym (some text consumed) ∙ found));
      read = λ _ text consumed. now.read_is text consumed;
      end = λ is. absurd (kind-faulty c.in-Err.error.kind (sym c.status_of_kind.ensures ∙ is));
      given = λ _. c.decoder_of.ensures.given (ap is_some c.in-Some.is);
      counted = λ _ _.
          c.len-read.ensures.value
          ∙ kept-len c.args.plain.now (kept_by c.in-Some.decoder) c.in-Some.ensures.kept;
      inside = λ _ _ _.
          subst (λ n. c.in-Err.error.position < n) (sym c.len-read.ensures.value)
          (fault-inside (kept_by c.in-Some.decoder).len end.result.1 c.in-Err.error c.in-Err.is
          end.ensures.position);
      within = λ _ text consumed. now.within;
      after = now.after;
      len = now.len;
      short = λ short. absurd (own 4 (inr refl) short);
      refused = λ refused. absurd (elim refused [
        | inl is_none ↦ own 19 (inl refl) is_none
        | inr is_short ↦ own 4 (inr refl) is_short
      ]);
    }
