use Rattle.std.proofs.Common.{subst}
use Rattle.data_encoding_calls.specs.Calls.{Decodes}
use Rattle.data_encoding_c.proofs.custom.de_custom_decode.Goals as goal

pub returns : goal.returns
returns c =
    let ensured = c.decode.ensures in
    subst
    (λ b. Decodes b c.args.input.now c.args.output.now c.decode.new.output
    c.args.decoded.now c.decode.new.decoded c.decode.result)
    c.by_ref.ensures
    (record {
      status = ensured.status;
      means = ensured.means;
      all = ensured.all;
      end = ensured.end;
      refused = ensured.refused;
      needed = ensured.needed;
      by_length = ensured.by_length;
      fault = ensured.fault;
      short_fault = ensured.short_fault;
      within = ensured.within;
      after = ensured.after;
    })
