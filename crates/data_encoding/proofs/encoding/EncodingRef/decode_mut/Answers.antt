use Rattle.std.proofs.Common.{◌≡◌, ◌∙◌, length, Ok}
use Rattle.data_encoding.proofs.decoding.StepLemmas.{decodes-text}
use Rattle.data_encoding.proofs.encoding.EncodingRef.decode_mut.Goals as goal

pub decode_after-requires-clause-at : goal.decode_after-requires-clause-at
decode_after-requires-clause-at c =
    rw c.if-decode_valid.false at c.decode_valid.ensures.begun

pub returns : goal.returns
returns c =
    let after = c.decode_after.ensures in
    record {
      decoded = after.decoded;
      sound = after.sound;
      accepted = after.accepted;
      fault = after.fault;
      partial = after.partial;
      bounds = after.bounds;
      most = after.most;
      full = after.full;
      len = after.len ∙ c.decode_valid.auto.output;
    }

pub returns-then-decode_valid : goal.returns-then-decode_valid
returns-then-decode_valid c =
    let written = c.decode_valid.auto.output in
    decodes-text c.decode_valid.ensures.width (rw c.if-decode_valid.true at
    c.decode_valid.ensures.begun) (rw written c.requires.exact) written
