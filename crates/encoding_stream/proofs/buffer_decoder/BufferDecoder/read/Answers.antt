use Rattle.std.proofs.Common.{◌∙◌}
use Rattle.encoding_stream.proofs.ReadPieceLemmas.{length-both, reads-front, reads-part, reads-rest, rest-room, within-both}
use Rattle.encoding_stream.proofs.buffer_decoder.BufferDecoder.read.Goals as goal

pub read_run-run_read-requires-clause-room : goal.read_run-run_read-requires-clause-room
read_run-run_read-requires-clause-room c =
    let first = c.read_bytes-first_read in
    rw first.ensures.base
    (rest-room (reads-front first.ensures.reads first.ensures.read first.ensures.within)
    (rw first.ensures.len c.requires.room))

pub read_each-requires-clause-room : goal.read_each-requires-clause-room
read_each-requires-clause-room c =
    let first = c.read_bytes-first_read in
    let run = c.read_run-run_read in
    let front = reads-front first.ensures.reads first.ensures.read first.ensures.within in
    let both =
    reads-part front run.new.output run.ensures.len run.ensures.within run.result.0
    run.ensures.read (rw first.ensures.base at run.ensures.reads) in
    rw (run.ensures.base ∙ first.ensures.base)
    (rest-room both
    (rw (length-both front run.new.output run.ensures.len run.ensures.within
    ∙ first.ensures.len) c.requires.room))

pub returns : goal.returns
returns c =
    let first = c.read_bytes-first_read in
    let run = c.read_run-run_read in
    let each = c.read_each in
    let front = reads-front first.ensures.reads first.ensures.read first.ensures.within in
    let both =
    reads-part front run.new.output run.ensures.len run.ensures.within run.result.0
    run.ensures.read (rw first.ensures.base at run.ensures.reads) in
    let bases = run.ensures.base ∙ first.ensures.base in
    record {
      base = each.ensures.base ∙ bases;
      reads =
          reads-rest both each.new.output each.ensures.len each.ensures.within
          (rw bases at each.ensures.reads);
      within = within-both both each.new.output each.ensures.len each.ensures.within;
      len =
          length-both both each.new.output each.ensures.len each.ensures.within
          ∙ length-both front run.new.output run.ensures.len run.ensures.within
          ∙ first.ensures.len;
    }
