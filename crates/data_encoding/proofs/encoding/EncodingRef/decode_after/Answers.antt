use Rattle.std.proofs.Common.{◌≡◌, length, Ok, arith}
use Rattle.data_encoding.specs.Steps.{HasStopped}
use Rattle.data_encoding_meaning.specs.decoding.Partial.{StopsAt}
use Rattle.data_encoding_meaning.proofs.decoding.StopLemmas.{fault-partial, most-partial}
use Rattle.data_encoding_meaning.proofs.grammar.MeaningLemmas.{no_fault-Means}
use Rattle.data_encoding.proofs.decoding.StepLemmas.{decodes-text}
use Rattle.data_encoding.proofs.encoding.EncodingRef.decode_after.Goals as goal
use Rattle.data_encoding.proofs.encoding.EncodingRef.decode_after.Goals.{After-partial_error}

stops : (c : After-partial_error)
    → StopsAt c.args.self.now c.args.input.now c.partial_error.new.output c.partial_error.result
stops c =
    let ended : HasStopped c.args.self.now c.args.input.now c.decode_rest.new.output
    c.decode_rest.new.stop =
    rw c.if-decode_rest.false at c.decode_rest.ensures in
    ended.stops c.partial_error.new.output c.partial_error.result
    (omega (arith, c.partial_error.auto.output, ended.fits)) c.partial_error.ensures.kept
    c.partial_error.ensures.stop

pub returns : goal.returns
returns c =
    let base = c.args.self.now in
    let width = c.requires.width in
    let new = c.partial_error.new.output in
    let stops = stops (goal.at.returns c).After-partial_error in
    record {
      decoded = cc;
      sound = cc;
      accepted = λ bytes means.
          let fault = fault-partial base c.args.input.now c.partial_error.result stops.is_partial in
          let none = no_fault-Means base width c.args.input.now bytes means in
          cc;
      fault = stops.is_partial;
      partial = stops.means;
      bounds = (stops.read_before, stops.within);
      most = most-partial base width c.args.input.now new c.partial_error.result stops;
      full = cc;
      len = cc;
    }

pub returns-then-decode_rest : goal.returns-then-decode_rest
returns-then-decode_rest c =
    decodes-text c.requires.width (rw c.if-decode_rest.true at c.decode_rest.ensures)
    (rw c.decode_rest.auto.output c.requires.at.exact.len) c.decode_rest.auto.output
