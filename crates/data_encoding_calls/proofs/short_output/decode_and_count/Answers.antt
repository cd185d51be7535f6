use Rattle.std.proofs.Common.{◌≡◌, ◌+◌, ◌≤◌, ◌++◌, length, take, drop, length-take-le, sym, ◌∙◌, subst, arith}
use Rattle.std.proofs.lemmas.List.{length-append, length-take, take-append-le, take_all}
use Rattle.data_encoding.specs.Fault.{sound_bytes}
use Rattle.data_encoding.specs.Pieces.{whole_bytes}
use Rattle.encoding_stream.specs.BufferDecoder.{kept_by, Keeps}
use Rattle.data_encoding_calls.proofs.FitLemmas.{Copied, copied-more, reads-part}
use Rattle.data_encoding_calls.proofs.short_output.decode_and_count.Goals as goal

pub loop-read-preserved : goal.loop-read-preserved
loop-read-preserved c =
    let base = c.args.encoding.now in
    let text = c.args.input.now in
    let now = c.loop-read.invariant in
    let read = c.loop-read.read in
    let end = c.min-end.result in
    let count = c.read-count.result in
    let front = c.read-count.new.output in
    let buffer = front ++ drop c.most-most.result c.loop-read.buffer in
    let within : read ≤ end = omega (arith, c.min-end.ensures, now.within) in
    let more : take count buffer ≡ take count front =
    take-append-le count front (drop c.most-most.result c.loop-read.buffer)
    c.read-count.ensures.within in
    let size : length (take count buffer) ≡ count =
    length-take-le count buffer (omega (
      arith,
      c.read-count.ensures.within,
      length-append front (drop c.most-most.result c.loop-read.buffer),
    )) in
    let next =
    reads-part base (kept_by c.loop-read.decoder) (kept_by c.read-count.new.self) text
    (take count buffer) read end within now.keeps
    (rw more (rw now.base at c.read-count.ensures.reads)) in
    record {
      base = c.read-count.ensures.base ∙ now.base;
      keeps = next.0;
      copied =
          subst (λ bytes. Copied bytes (c.loop-read.needed + count) c.write_if_fits.new.output)
          (sym next.1)
          (copied-more (whole_bytes base (take read text)) (take count buffer) c.loop-read.output
          c.write_if_fits.new.output c.loop-read.needed count size now.copied
          c.write_if_fits.ensures.len c.write_if_fits.ensures.written);
      few = omega (
        arith,
        now.few,
        c.loop-read-test.true,
        c.min-end.ensures,
        c.most-most.ensures.few,
        c.read-count.ensures.within,
        c.read-count.ensures.len,
        length-take c.most-most.result c.loop-read.buffer,
      );
      within = omega (arith, c.min-end.ensures);
    }

pub returns : goal.returns
returns c =
    let base = c.args.encoding.now in
    let text = c.args.input.now in
    let now = c.loop-read.invariant in
    let last = c.finish-count in
    let count = last.result.0 in
    let more = take count last.new.output in
    let out = c.write_if_fits-2 in
    let whole = take_all c.loop-read.read text c.loop-read-test.false in
    let keeps : Keeps base (kept_by c.loop-read.decoder) text =
    subst (Keeps base (kept_by c.loop-read.decoder)) whole now.keeps in
    let before : Copied (whole_bytes base text) c.loop-read.needed c.loop-read.output =
    subst (λ t. Copied (whole_bytes base t) c.loop-read.needed c.loop-read.output) whole
    now.copied in
    let size : length more ≡ count =
    length-take-le count last.new.output (omega (arith, last.ensures.few, last.ensures.len)) in
    let done : Copied (sound_bytes base text) (c.loop-read.needed + count) out.new.output =
    subst (λ bytes. Copied bytes (c.loop-read.needed + count) out.new.output)
    (sym ((rw now.base at last.ensures.bytes) text keeps))
    (copied-more (whole_bytes base text) more c.loop-read.output out.new.output
    c.loop-read.needed count size before out.ensures.len out.ensures.written) in
    record {
      length = done.counted;
      verdict = (rw now.base at last.ensures.verdict) text keeps;
      bytes = λ fits. done.front (omega (arith, fits, out.ensures.len, c.loop-read.auto.output));
      len = omega (arith, out.ensures.len, c.loop-read.auto.output);
      specified = c.new_by_ref-decoder.ensures.specified;
    }
