use Rattle.std.proofs.Common.{◌<◌, None, Some, take, arith, refl}
use Rattle.std.proofs.lemmas.List.Elements.{All-contains}
use Rattle.std.proofs.lemmas.Result.{IfErr-weaker, IfOk-weaker}
use Rattle.encoding_stream.specs.BufferDecoder.{base_of_pieces}
use Rattle.encoding_stream.proofs.SizeLemmas.{bytes-few, symbols-few}
use Rattle.encoding_stream.proofs.FinishLemmas.{last-fault, last-none_ignored}
use Rattle.encoding_stream.proofs.buffer_decoder.BufferDecoder.decode_last_group.Goals as goal

pub returns-then-self-eq0-clause-sound : goal.returns-then-self-eq0-clause-sound
returns-then-self-eq0-clause-sound c = λ text keeps.
    rw (c.in_default.is, c.if-self-eq0.true) (refl, refl)

pub returns-clause-few : goal.returns-clause-few
returns-clause-few c =
    let s = c.args.self.now in
    IfOk-weaker c.decode_group.result _ _
    (λ written few. omega (arith, few, bytes-few (base_of_pieces s).width s.width))
    c.decode_group.ensures.few

pub returns-clause-sound : goal.returns-clause-sound
returns-clause-sound c =
    let s = c.args.self.now in
    let k = s.kept in
    let none = c.in_default.is in
    let few = symbols-few (base_of_pieces s).width s.width in
    IfOk-weaker c.decode_group.result _ _
    (λ written judged text keeps.
    let verdict = judged
    (last-none_ignored (base_of_pieces s) k.fault k.positions k.bytes k.count k.ended none
    (omega (arith, c.if-self-eq0.false)) (omega (arith, few, s.short))
    (omega (arith, few, s.short)) text k.len keeps) in (
      last-fault (base_of_pieces s) k.fault k.positions k.bytes k.count k.ended none
          (omega (arith, c.if-self-eq0.false)) (omega (arith, few, s.short))
          (omega (arith, few, s.short)) text k.len keeps None verdict.0,
      verdict.1,
    ))
    c.decode_group.ensures.sound

pub returns-clause-fault : goal.returns-clause-fault
returns-clause-fault c =
    let s = c.args.self.now in
    let k = s.kept in
    let none = c.in_default.is in
    let few = symbols-few (base_of_pieces s).width s.width in
    IfErr-weaker c.decode_group.result _ _
    (λ error judged text keeps.
    last-fault (base_of_pieces s) k.fault k.positions k.bytes k.count k.ended none
    (omega (arith, c.if-self-eq0.false)) (omega (arith, few, s.short))
    (omega (arith, few, s.short)) text k.len keeps (Some error)
    (judged
    (last-none_ignored (base_of_pieces s) k.fault k.positions k.bytes k.count k.ended none
    (omega (arith, c.if-self-eq0.false)) (omega (arith, few, s.short))
    (omega (arith, few, s.short)) text k.len keeps)))
    c.decode_group.ensures.fault

pub returns-clause-position : goal.returns-clause-position
returns-clause-position c =
    let k = c.args.self.now.kept in
    IfErr-weaker c.decode_group.result _ _
    (λ error at. All-contains (λ p. p < k.len) (take k.count k.positions) error.position
    c.args.self.now.inside at)
    c.decode_group.ensures.position
