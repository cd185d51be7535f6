use Rattle.std.proofs.Common.{subst}
use Rattle.data_encoding_calls.specs.Calls.{TellsTextLength}
use Rattle.data_encoding_c.proofs.custom.de_custom_encode_len.Goals as goal

pub returns : goal.returns
returns c =
    let ensured = c.encode_len.ensures in
    subst
    (λ b. TellsTextLength b c.args.len c.args.text_len.now c.encode_len.new.text_len
    c.encode_len.result)
    c.by_ref.ensures
    (record {
      status = ensured.status;
      text_length = ensured.length;
      refused = ensured.refused;
    })
