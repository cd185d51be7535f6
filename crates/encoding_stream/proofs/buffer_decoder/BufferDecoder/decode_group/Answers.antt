use Rattle.std.proofs.Common.{◌≡◌, ◌<◌, None, Some, Ok, take, drop, sym, ap, ◌∙◌, subst, arith, length-take-le}
use Rattle.std.proofs.lemmas.List.{take-append-le}
use Rattle.data_encoding.specs.Fault.{fault_after, fault_of}
use Rattle.data_encoding.specs.Lengths.{decoded_len}
use Rattle.encoding_stream.specs.BufferDecoder.{at_positions, base_of_pieces}
use Rattle.encoding_stream.proofs.SizeLemmas.{symbols-few}
use Rattle.encoding_stream.proofs.ReadByteLemmas.{is-specified}
use Rattle.encoding_stream.proofs.OrderLemmas.{is-held}
use Rattle.encoding_stream.proofs.GroupLemmas.{due-few, fault-refused, fault-stopped, group-after_end, group-fault, group-sound}
use Rattle.encoding_stream.proofs.buffer_decoder.BufferDecoder.decode_group.Goals.{in-Ok+in-Err-decode_mut, in-Err}
use Rattle.encoding_stream.proofs.buffer_decoder.BufferDecoder.decode_group.Goals as goal

pub returns-then-self-clause-fault : goal.returns-then-self-clause-fault
returns-then-self-clause-fault c = λ none.
    let s = c.args.self.now in
    let k = s.kept in
    let few = symbols-few (base_of_pieces s).width s.width in
    subst
    (λ e. fault_after e (base_of_pieces s) (at_positions c.args.count k.positions k.bytes)
    ≡ Some c.at_text_position.result)
    (sym c.if-self.true)
    (group-after_end (base_of_pieces s) c.args.count k.positions k.bytes c.requires.some
    (omega (arith, few, c.requires.few)) (omega (arith, few, c.requires.few))
    c.at_text_position.result
    c.at_text_position.ensures.position c.at_text_position.ensures.kind)

pub shared_ref_as_front-decode_mut : goal.shared_ref_as_front-decode_mut
shared_ref_as_front-decode_mut c =
    omega (
      arith,
      symbols-few (base_of_pieces c.args.self.now).width c.args.self.now.width,
      c.requires.few,
    )

pub slice_bounds-decode_mut-end-in-Ok : goal.slice_bounds-decode_mut-end-in-Ok
slice_bounds-decode_mut-end-in-Ok c =
    let s = c.args.self.now in
    let due =
    due-few (base_of_pieces s) s.width c.args.count c.in-Ok.len c.requires.few
    (sym (rw c.by_ref-encoding.ensures at c.decode_len.ensures.value) ∙ c.in-Ok.is) in
    omega (arith, due, c.requires.room)

pub slice_bounds-decode_mut-end-in-Ok-2 : goal.slice_bounds-decode_mut-end-in-Ok-2
slice_bounds-decode_mut-end-in-Ok-2 c =
    let s = c.args.self.now in
    let due =
    due-few (base_of_pieces s) s.width c.args.count c.in-Ok.len c.requires.few
    (sym (rw c.by_ref-encoding.ensures at c.decode_len.ensures.value) ∙ c.in-Ok.is) in
    sym (length-take-le c.in-Ok.len c.args.output.now (omega (arith, due, c.requires.room)))

pub decode_mut-requires-clause-exact : goal.decode_mut-requires-clause-exact
decode_mut-requires-clause-exact c =
    let s = c.args.self.now in
    let few = symbols-few (base_of_pieces s).width s.width in
    ap (λ n. decoded_len c.by_ref-encoding.result n)
    (length-take-le c.args.count s.kept.bytes (omega (arith, few, c.requires.few)))
    ∙ sym c.decode_len.ensures.value ∙ c.in-Ok.is
    ∙ ap (λ n. Ok n) (slice_bounds-decode_mut-end-in-Ok-2 c)

pub returns-in-Ok-decode_mut-clause-sound : goal.returns-in-Ok-decode_mut-clause-sound
returns-in-Ok-decode_mut-clause-sound c = λ none.
    let s = c.args.self.now in
    let k = s.kept in
    let few = symbols-few (base_of_pieces s).width s.width in
    let sound = rw c.by_ref-encoding.ensures at c.in-Ok-decode_mut.ensures.sound in
    let part =
    take-append-le c.in-Ok-decode_mut.written c.decode_mut.new.output
    (drop c.in-Ok.len c.args.output.now) c.in-Ok-decode_mut.ensures.decoded.0 in
    let judged =
    group-sound (base_of_pieces s) c.args.count k.positions k.bytes c.requires.some
    (omega (arith, few, c.requires.few)) (omega (arith, few, c.requires.few))
    (is-specified s) s.laws.alone c.requires.few none _ sound.0
    (sound.1 ∙ sym part) in (
      subst
          (λ e. fault_after e (base_of_pieces s)
          (at_positions c.args.count k.positions k.bytes) ≡ None)
          (sym c.if-self.false) judged.0,
      judged.1,
    )

pub returns-in-Ok-decode_mut-clause-few : goal.returns-in-Ok-decode_mut-clause-few
returns-in-Ok-decode_mut-clause-few c =
    let s = c.args.self.now in
    let due =
    due-few (base_of_pieces s) s.width c.args.count c.in-Ok.len c.requires.few
    (sym (rw c.by_ref-encoding.ensures at c.decode_len.ensures.value) ∙ c.in-Ok.is) in
    let part =
    length-take-le c.in-Ok.len c.args.output.now (omega (arith, due, c.requires.room)) in
    omega (
      arith,
      due,
      part,
      c.decode_mut.ensures.len,
      c.in-Ok-decode_mut.ensures.decoded.0,
    )

pub decode_len-requires : goal.decode_len-requires
decode_len-requires c =
    omega (
      arith,
      symbols-few (base_of_pieces c.args.self.now).width c.args.self.now.width,
      c.requires.few,
    )

pub returns-then-self-clause-position : goal.returns-then-self-clause-position
returns-then-self-clause-position c =
    let s = c.args.self.now in
    let few = symbols-few (base_of_pieces s).width s.width in
    is-held c.args.count 0 s.kept.positions c.at_text_position.result.position
    c.at_text_position.ensures.position
    c.requires.some (omega (arith, few, c.requires.few))

pub returns-clause-position : goal.returns-clause-position
returns-clause-position c =
    let s = c.args.self.now in
    let few = symbols-few (base_of_pieces s).width s.width in
    let size = length-take-le c.args.count s.kept.bytes (omega (arith, few, c.requires.few)) in
    let inside : c.match-decode_len.fault.position < c.args.count =
    elim c.match-decode_len.branch [
      | in-Ok+in-Err-decode_mut w ↦
          rw w.fault-is (omega (arith, size, w.in-Err-decode_mut.ensures.bounds.1))
      | in-Err w ↦ rw w.fault-is w.in-Err.ensures.position
    ] in
    is-held c.args.count c.match-decode_len.fault.position s.kept.positions
    c.at_text_position-2.result.position c.at_text_position-2.ensures.position inside
    (omega (arith, few, c.requires.few))

pub at_text_position-requires-2 : goal.at_text_position-requires-2
at_text_position-requires-2 c =
    let few = symbols-few (base_of_pieces c.args.self.now).width c.args.self.now.width in
    elim c.match-decode_len.branch [
      | in-Ok+in-Err-decode_mut w ↦
          rw w.fault-is
          (omega (arith, few, c.requires.few, w.in-Err-decode_mut.ensures.bounds.1))
      | in-Err w ↦
          rw w.fault-is (omega (arith, few, c.requires.few, w.in-Err.ensures.position))
    ]

pub returns-clause-fault : goal.returns-clause-fault
returns-clause-fault c = λ none.
    let s = c.args.self.now in
    let k = s.kept in
    let few = symbols-few (base_of_pieces s).width s.width in
    let text = take c.args.count k.bytes in
    let size = length-take-le c.args.count k.bytes (omega (arith, few, c.requires.few)) in
    let found : (fault_of (base_of_pieces s) text ≡ Some c.match-decode_len.fault)
    × (c.match-decode_len.fault.position < c.args.count) =
    elim c.match-decode_len.branch [
      | in-Ok+in-Err-decode_mut w ↦
          rw w.fault-is (
            fault-stopped (base_of_pieces s) text _
                (rw c.by_ref-encoding.ensures at w.in-Err-decode_mut.ensures.fault),
            omega (arith, size, w.in-Err-decode_mut.ensures.bounds.1),
          )
      | in-Err w ↦
          rw w.fault-is (
            fault-refused (base_of_pieces s) text c.args.count w.in-Err.error size
                (sym (rw c.by_ref-encoding.ensures at c.decode_len.ensures.value) ∙ w.in-Err.is),
            w.in-Err.ensures.position,
          )
    ] in
    subst
    (λ e. fault_after e (base_of_pieces s) (at_positions c.args.count k.positions k.bytes)
    ≡ Some c.at_text_position-2.result)
    (sym c.if-self.false)
    (group-fault (base_of_pieces s) c.args.count k.positions k.bytes c.requires.some
    (omega (arith, few, c.requires.few)) (omega (arith, few, c.requires.few))
    (is-specified s) s.laws.alone c.requires.few none
    c.match-decode_len.fault c.at_text_position-2.result found.0 found.1
    c.at_text_position-2.ensures.position
    c.at_text_position-2.ensures.kind)
