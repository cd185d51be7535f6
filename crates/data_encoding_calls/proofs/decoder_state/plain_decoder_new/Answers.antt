use Rattle.std.proofs.Common.{None, false, lit≤, refl, replicate}
use Rattle.encoding_stream.specs.declared.buffer_decoder.Kept.{Kept}
use Rattle.data_encoding_calls.proofs.decoder_state.plain_decoder_new.Goals as goal

abbrev of_nothing : Kept
of_nothing = record {
  len = 0;
  fault = None;
  positions = replicate 8 0;
  bytes = replicate 8 0;
  count = 0;
  ended = false;
}

pub returns : goal.returns
returns c = λ base is. record {
  kept = of_nothing;
  told = refl;
  keeps = (c.pieces.ensures.nothing base is).0;
  limit = lit≤ tt;
  clear = λ _. refl;
}
