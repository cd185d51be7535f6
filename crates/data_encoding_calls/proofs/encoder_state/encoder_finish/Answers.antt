use Rattle.std.proofs.Common.{◌≡◌, ◌++◌, ℕ, length, take, ◌∙◌, refl, ap, arith}
use Rattle.data_encoding_calls.specs.EncoderState.{last_text}
use Rattle.data_encoding_calls.specs.Calls.{front_status}
use Rattle.data_encoding_calls.specs.Status.{ok, short_buffer}
use Rattle.data_encoding_calls.proofs.EncoderStateLemmas.{if-less, if-not, if-short, last-len, written-len, written-over}
use Rattle.data_encoding_calls.proofs.encoder_state.encoder_finish.Goals as goal

pub returns-then-output-needed : goal.returns-then-output-needed
returns-then-output-needed c =
    let base = c.args.encoding.now in
    let kept = c.args.kept.now in
    let room : ℕ = length c.args.output.now in
    let last = last_text base kept in
    let needed =
    last-len base kept c.encode_len-needed.result (omega (arith, c.in-Some.ensures.few))
    c.encode_len-needed.ensures.length in
    let own = if-short base kept (front_status last room) c.in-Some.ensures.short in
    record {
      status =
          if-less room (length last) short_buffer ok
          (omega (arith, needed, c.if-output-needed.true))
          ∙ own;
      text = λ is. absurd (cc is);
      written = λ is. absurd (cc is);
      whole = λ is. absurd (cc is);
      refused = λ _. (refl, refl);
    }

pub finish-requires : goal.finish-requires
finish-requires c =
    let base = c.args.encoding.now in
    let kept = c.args.kept.now in
    let room : ℕ = length c.args.output.now in
    let last = last_text base kept in
    let needed =
    last-len base kept c.encode_len-needed.result (omega (arith, c.in-Some.ensures.few))
    c.encode_len-needed.ensures.length in
    record {
      room =
          rw c.in-Some.ensures.base (rw c.in-Some.ensures.kept
          (omega (arith, needed, c.if-output-needed.false)));
    }

pub returns : goal.returns
returns c =
    let base = c.args.encoding.now in
    let kept = c.args.kept.now in
    let room : ℕ = length c.args.output.now in
    let last = last_text base kept in
    let needed =
    last-len base kept c.encode_len-needed.result (omega (arith, c.in-Some.ensures.few))
    c.encode_len-needed.ensures.length in
    let own = if-short base kept (front_status last room) c.in-Some.ensures.short in
    let old = c.args.output.now in
    let new = c.finish.new.output in
    let at_base = rw c.in-Some.ensures.base at c.finish.ensures.text in
    let front : take c.finish.result new ≡ last = rw c.in-Some.ensures.kept at at_base in
    let after = c.finish.ensures.after in
    let within = c.finish.ensures.within in
    let whole_base = rw c.in-Some.ensures.base at c.finish.ensures.whole in
    let whole = rw c.in-Some.ensures.kept at whole_base in
    record {
      status =
          if-not room (length last) short_buffer ok
          (omega (arith, needed, c.if-output-needed.false))
          ∙ own;
      text = λ _. written-over c.finish.result new old last front within after;
      written = λ _. written-len c.finish.result new old last front within after;
      whole = λ _ bytes text has. whole bytes text has ∙ ap (λ l. text ++ l) front;
      refused = λ refused. absurd (refused refl);
    }
