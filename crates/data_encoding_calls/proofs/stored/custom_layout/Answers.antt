use Rattle.std.proofs.Common.{◌≡◌, ◌∙◌, ap}
use Rattle.data_encoding.specs.Layout.{layout}
use Rattle.data_encoding.specs.Plain.{base_of_plain}
use Rattle.data_encoding_calls.proofs.EncoderStateLemmas.{writes-front}
use Rattle.data_encoding_calls.proofs.stored.custom_layout.Goals as goal

pub returns : goal.returns
returns c =
    let bytes = c.as_slice-bytes.result.now in
    let same : bytes ≡ layout (base_of_plain c.args.held.now) =
    c.as_slice-bytes.ensures.value ∙ c.internal_implementation-bytes.ensures
    ∙ ap layout c.by_ref.ensures in
    rw (← same)
    (writes-front bytes c.args.output.now c.copy_from_slice.new.self c.args.written.now
    c.if-output-bytes.false c.copy_from_slice.ensures.after)
