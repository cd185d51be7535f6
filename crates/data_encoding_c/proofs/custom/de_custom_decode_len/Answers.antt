use Rattle.std.proofs.Common.{subst}
use Rattle.data_encoding_calls.specs.Calls.{TellsMost}
use Rattle.data_encoding_c.proofs.custom.de_custom_decode_len.Goals as goal

pub returns : goal.returns
returns c =
    let ensured = c.decode_len.ensures in
    subst
    (λ b. TellsMost b c.args.len c.args.most.now c.decode_len.new.most c.decode_len.result)
    c.by_ref.ensures
    (record {
      status = ensured.status;
      value = ensured.value;
      fault = ensured.fault;
      refused = ensured.refused;
    })
