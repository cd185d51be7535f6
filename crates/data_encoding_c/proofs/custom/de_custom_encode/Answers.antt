use Rattle.std.proofs.Common.{subst}
use Rattle.data_encoding_calls.specs.Calls.{Encodes}
use Rattle.data_encoding_c.proofs.custom.de_custom_encode.Goals as goal

pub returns : goal.returns
returns c =
    let ensured = c.encode.ensures in
    subst
    (λ b. Encodes b c.args.input.now c.args.output.now c.encode.new.output
    c.args.written.now c.encode.new.written c.encode.result)
    c.by_ref.ensures
    (record {
      status = ensured.status;
      text = ensured.text;
      written = ensured.written;
      refused = ensured.refused;
    })
