use Rattle.std.proofs.Common.{◌∙◌, refl, arith}
use Rattle.data_encoding_calls.specs.Calls.{encode_len_status}
use Rattle.data_encoding_calls.specs.Status.{ok, too_long}
use Rattle.data_encoding_calls.proofs.EncoderStateLemmas.{due-len, if-not, if-short}
use Rattle.data_encoding_calls.proofs.encoder_state.encoder_most.Goals as goal

pub returns : goal.returns
returns c =
    let kept = c.args.kept.now in
    let len = c.args.len in
    record {
      status =
          if-not 36028797018963967 len too_long ok (omega (arith, c.if-len-gt-ENCODE_LIMIT.false))
          ∙ if-short c.args.encoding.now kept (encode_len_status len) c.in-Some.ensures.short;
      value = λ _ piece same.
          due-len piece c.due.result c.in-Some.ensures.base c.in-Some.ensures.kept
          (c.due.ensures.value piece same);
      refused = λ refused. absurd (refused refl);
    }
