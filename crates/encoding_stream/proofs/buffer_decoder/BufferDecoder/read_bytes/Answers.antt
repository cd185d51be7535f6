use Rattle.std.proofs.Common.{◌∙◌, arith, inl, refl}
use Rattle.encoding_stream.specs.BufferDecoder.{base_of_pieces}
use Rattle.encoding_stream.proofs.ReadPieceLemmas.{length-both, next-room, reads-next, reads-nothing}
use Rattle.encoding_stream.proofs.buffer_decoder.BufferDecoder.read_bytes.Goals as goal

pub loop-read-init : goal.loop-read-init
loop-read-init c = record {
  base = refl;
  front = record {
    reads = reads-nothing (base_of_pieces c.args.self.now) c.args.self.now.kept;
    begins = omega arith;
    fits = omega arith;
  };
  len = refl;
}

pub read_byte-written-requires-clause-room : goal.read_byte-written-requires-clause-room
read_byte-written-requires-clause-room c =
    let now = c.loop-read.invariant in
    rw now.base
    (next-room now.front c.args.self.now.width c.loop-read-test.true
    (rw now.len c.requires.room))

pub loop-read-preserved : goal.loop-read-preserved
loop-read-preserved c =
    let now = c.loop-read.invariant in
    let taken = c.read_byte-written in
    record {
      base = taken.ensures.base ∙ now.base;
      front =
          reads-next now.front taken.new.output taken.ensures.len taken.ensures.within
          (rw now.base at taken.ensures.reads) c.loop-read-test.true;
      len = length-both now.front taken.new.output taken.ensures.len taken.ensures.within ∙ now.len;
    }

pub returns-else-self-least-clause-until : goal.returns-else-self-least-clause-until
returns-else-self-least-clause-until c = λ _. inl c.if-self-least.false
