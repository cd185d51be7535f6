use Rattle.encoding_stream.proofs.DecoderLemmas.{appended-after}
use Rattle.encoding_stream.proofs.decoder.Decoder.finish.Goals as goal

pub returns-in-Ok-clause-appends : goal.returns-in-Ok-clause-appends
returns-in-Ok-clause-appends c = record {
  bytes = c.in-Ok.ensures.appends;
  decoded = λ before text is has.
      appended-after before has.appended (c.in-Ok.ensures.appends text is);
}
