use Rattle.std.proofs.Common.{◌≡◌}
use Rattle.data_encoding_calls.proofs.EncoderStateLemmas.{writes-front}
use Rattle.data_encoding_calls.proofs.names.numbered_name.Goals as goal

pub returns : goal.returns
returns c = record {
  known = λ name is.
      let bytes = c.as_bytes-name.result.now in
      let same : bytes ≡ name = cc (c.in-Some.ensures.known, is) in
      rw (← same)
      (writes-front bytes c.args.output.now c.copy_from_slice.new.self c.args.written.now
      c.if-output-name.false c.copy_from_slice.ensures.after);
  unknown = λ none. absurd (cc (c.in-Some.ensures.known, none));
  fits = λ _ is. absurd (cc is);
}
