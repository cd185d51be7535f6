use Rattle.std.proofs.Common.{◌≡◌, None, length, sym, ◌∙◌, subst, arith}
use Rattle.data_encoding.specs.Fault.{fault_of, sound_bytes}
use Rattle.data_encoding.specs.Grammar.{Means}
use Rattle.data_encoding_calls.proofs.DecodeLemmas.{status-faulty, status-fits, status-short}
use Rattle.data_encoding_calls.proofs.DecoderStateLemmas.{fault-none, fault-some}
use Rattle.data_encoding_calls.proofs.convert.decode_to_fit.Goals as goal

pub returns-in-Ok-clause-means : goal.returns-in-Ok-clause-means
returns-in-Ok-clause-means c = λ _.
    let base = c.args.encoding.now in
    let text = c.args.input.now in
    let what = c.decode_and_count-needed in
    let none : fault_of base text ≡ None =
    fault-none (fault_of base text) what.result.1 c.in-Ok.field-0 c.in-Ok.is
    what.ensures.verdict in
    subst (Means base text)
    (sym (what.ensures.bytes (omega (arith, c.if-needed-output.true, what.ensures.len))))
    (c.sound_text.ensures.sound base what.ensures.specified text none)

pub returns-in-Ok-2-clause-status : goal.returns-in-Ok-2-clause-status
returns-in-Ok-2-clause-status c =
    let base = c.args.encoding.now in
    let text = c.args.input.now in
    let what = c.decode_and_count-needed in
    status-short (fault_of base text) (length (sound_bytes base text)) (length c.args.output.now)
    (fault-none (fault_of base text) what.result.1 c.in-Ok-2.field-0 c.in-Ok-2.is
    what.ensures.verdict)
    (omega (
      arith,
      what.ensures.length,
      what.ensures.len,
      c.decode_in_two.ensures.len,
      c.if-needed-output.false,
    ))

pub returns-in-Ok-clause-status : goal.returns-in-Ok-clause-status
returns-in-Ok-clause-status c =
    let base = c.args.encoding.now in
    let text = c.args.input.now in
    let what = c.decode_and_count-needed in
    status-fits (fault_of base text) (length (sound_bytes base text)) (length c.args.output.now)
    (fault-none (fault_of base text) what.result.1 c.in-Ok.field-0 c.in-Ok.is
    what.ensures.verdict)
    (omega (
      arith,
      what.ensures.length,
      what.ensures.len,
      c.decode_in_two.ensures.len,
      c.if-needed-output.true,
    ))

pub returns-in-Err-clause-status : goal.returns-in-Err-clause-status
returns-in-Err-clause-status c =
    let base = c.args.encoding.now in
    let text = c.args.input.now in
    let what = c.decode_and_count-needed in
    c.status_of_kind.ensures
    ∙ status-faulty (fault_of base text) (length (sound_bytes base text))
    (length c.args.output.now) c.in-Err.error
    (fault-some (fault_of base text) what.result.1 c.in-Err.error c.in-Err.is
    what.ensures.verdict)
