use Rattle.std.proofs.Common.{arith}
use Rattle.std.proofs.Math.Seq.{take-length}
use Rattle.std.proofs.lemmas.Bool.{false≢true}
use Rattle.encoding_stream.specs.BufferDecoder.{base_of_pieces}
use Rattle.encoding_stream.proofs.ReadByteLemmas.{is-specified}
use Rattle.encoding_stream.proofs.ReadRunLemmas.{stopped-most, stopped-within}
use Rattle.encoding_stream.proofs.SizeLemmas.{due-most}
use Rattle.encoding_stream.proofs.buffer_decoder.BufferDecoder.decode_run.Goals as goal

pub returns-in-Ok-clause-most : goal.returns-in-Ok-clause-most
returns-in-Ok-clause-most c =
    omega (
      arith,
      due-most (base_of_pieces c.args.self.now) _ _ c.requires.exact,
      c.decode_mut.ensures.len,
      c.in-Ok.ensures.decoded.0,
    )

pub returns-in-Err-clause-fault : goal.returns-in-Err-clause-fault
returns-in-Err-clause-fault c = λ before len read.
    let s = c.args.self.now in
    s.laws.stops (base_of_pieces s) (is-specified s) before
    c.args.text.now _ len c.in-Err.partial read
    (rw c.by_ref.ensures at c.in-Err.ensures.fault)
    (c.is_of_whole_group.ensures c.if-is_of_whole_group.true)
    (rw c.by_ref.ensures at c.in-Err.ensures.partial)

pub returns-in-Err-clause-within : goal.returns-in-Err-clause-within
returns-in-Err-clause-within c =
    let fits = stopped-within (base_of_pieces c.args.self.now) c.args.self.now.width _ _
    c.requires.exact c.in-Err.partial c.in-Err.ensures.bounds
    (rw c.by_ref.ensures at c.in-Err.ensures.most) in
    omega (arith, fits, c.decode_mut.ensures.len)

pub returns-in-Err-2-clause-most : goal.returns-in-Err-2-clause-most
returns-in-Err-2-clause-most c =
    stopped-most (base_of_pieces c.args.self.now) c.in-Err.partial.read c.in-Err.partial.written
    (rw c.by_ref.ensures at c.in-Err.ensures.most)

pub returns-in-Err-2-clause-written : goal.returns-in-Err-2-clause-written
returns-in-Err-2-clause-written c =
    let fits = stopped-within (base_of_pieces c.args.self.now) c.args.self.now.width _ _
    c.requires.exact c.in-Err.partial c.in-Err.ensures.bounds
    (rw c.by_ref.ensures at c.in-Err.ensures.most) in
    omega (arith, fits, c.decode_mut.ensures.len)

pub returns-in-Ok-clause-means : goal.returns-in-Ok-clause-means
returns-in-Ok-clause-means c =
    rw (take-length c.args.text.now, ← c.by_ref.ensures) c.in-Ok.ensures.decoded.1

pub returns-in-Err-2-clause-all : goal.returns-in-Err-2-clause-all
returns-in-Err-2-clause-all c = λ bytes means.
    absurd (false≢true (c.in-Err.ensures.accepted bytes (rw c.by_ref.ensures means)))

pub returns-in-Err-2-clause-full : goal.returns-in-Err-2-clause-full
returns-in-Err-2-clause-full c = λ bytes means _ _.
    absurd (false≢true (c.in-Err.ensures.accepted bytes (rw c.by_ref.ensures means)))
