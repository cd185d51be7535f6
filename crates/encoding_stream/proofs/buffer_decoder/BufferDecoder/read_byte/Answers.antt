use Rattle.std.proofs.lemmas.List.Elements.{All-contains, All-weaker}
use Rattle.std.proofs.Common.{All, set, ◌<◌, ◌≡◌, ◌+◌, ◌∙◌, arith, refl, rules, sym, subst, [], ◌∷◌, take, length-take-le}
use Rattle.encoding_stream.specs.declared.buffer_decoder.BufferDecoder.{BufferDecoder}
use Rattle.encoding_stream.specs.BufferDecoder.{base_of_pieces}
use Rattle.encoding_stream.specs.Reading.{ReadsOn}
use Rattle.encoding_stream.proofs.OrderLemmas.{inside-more}
use Rattle.encoding_stream.proofs.ReadByteLemmas.{is-kept, no-fault-inside, read_byte-faulty, read_byte-held, read_byte-ignored, read_byte-sound}
use Rattle.encoding_stream.proofs.SizeLemmas.{symbols-few}
use Rattle.encoding_stream.proofs.ReadPieceLemmas.{most-whole, reads-fault}
use Rattle.encoding_stream.proofs.buffer_decoder.BufferDecoder.read_byte.Goals.{then-is_some-via-then-is_some, then-is_some-via-else-is_some+then-is_ignored}
use Rattle.encoding_stream.proofs.buffer_decoder.BufferDecoder.read_byte.Goals as goal

pub bounds-self-index : goal.bounds-self-index
bounds-self-index c =
    let s = c.args.self.now in
    omega (arith, symbols-few (base_of_pieces s).width s.width, s.short)

pub bounds-self-index-2 : goal.bounds-self-index-2
bounds-self-index-2 c =
    let s = c.args.self.now in
    omega (arith, symbols-few (base_of_pieces s).width s.width, s.short)

pub returns-then-is_some-clause-reads : goal.returns-then-is_some-clause-reads
returns-then-is_some-clause-reads c =
    let s = c.args.self.now in
    let k = s.kept in
    let base = base_of_pieces s in
    let byte = c.args.byte in
    let is = is-kept s (omega arith) (omega arith) in
    elim c.then-is_some.branch [
      | then-is_some-via-then-is_some w ↦
          subst (λ (p : BufferDecoder). ReadsOn base k p.kept (byte ∷ []) []) (sym w.self-is)
          (reads-fault base s.width is.specified s.laws.faulty k
          (sym c.is_some.ensures ∙ w.if-is_some.true) (byte ∷ []))
      | then-is_some-via-else-is_some+then-is_ignored w ↦
          subst (λ (p : BufferDecoder). ReadsOn base k p.kept (byte ∷ []) []) (sym w.self-is)
          (read_byte-ignored base k is byte (sym c.is_some.ensures ∙ w.if-is_some.false)
          s.laws.held
          (sym (rw c.by_ref-encoding.ensures at w.is_ignored.ensures) ∙ w.if-is_ignored.true))
    ]

pub returns-then-index-size-clause-reads : goal.returns-then-index-size-clause-reads
returns-then-index-size-clause-reads c =
    let s = c.args.self.now in
    let k = s.kept in
    let few = c.if-index-size.true in
    read_byte-held (base_of_pieces s) k
    (is-kept s (omega arith) (omega arith)) c.args.byte
    (sym c.is_some.ensures ∙ c.if-is_some.false)
    (sym (rw c.by_ref-encoding.ensures at c.is_ignored.ensures) ∙ c.if-is_ignored.false)
    (k.count + 1) refl s.laws.held
    (omega (arith, few, rw c.by_ref-encoding.ensures at c.group_len-size.ensures.value))

pub decode_group-decoded-requires-clause-room : goal.decode_group-decoded-requires-clause-room
decode_group-decoded-requires-clause-room c =
    let s = c.args.self.now in
    let size = rw c.by_ref-encoding.ensures at c.group_len-size.ensures.value in
    let whole =
    most-whole (base_of_pieces s) s.width s.kept (sym c.is_some.ensures ∙ c.if-is_some.false)
    (omega (arith, size, s.short, c.if-index-size.false)) in
    omega (arith, whole, c.requires.room)

pub returns-in-Ok-clause-within : goal.returns-in-Ok-clause-within
returns-in-Ok-clause-within c =
    let s = c.args.self.now in
    let size = rw c.by_ref-encoding.ensures at c.group_len-size.ensures.value in
    let whole =
    most-whole (base_of_pieces s) s.width s.kept (sym c.is_some.ensures ∙ c.if-is_some.false)
    (omega (arith, size, s.short, c.if-index-size.false)) in
    omega (arith, c.in-Ok.ensures.few, c.in-Ok.ensures.len, whole, c.requires.room)

pub returns-in-Ok-clause-reads : goal.returns-in-Ok-clause-reads
returns-in-Ok-clause-reads c =
    let s = c.args.self.now in
    let bytes = take c.in-Ok.written c.decode_group-decoded.new.output in
    let whole = rw c.by_ref-encoding.ensures at c.group_len-size.ensures.value in
    let size =
    length-take-le c.in-Ok.written c.decode_group-decoded.new.output (returns-in-Ok-clause-within c)
    in
    read_byte-sound (base_of_pieces s) s.kept
    (is-kept s (omega arith) (omega arith)) c.args.byte
    (sym c.is_some.ensures ∙ c.if-is_some.false)
    (sym (rw c.by_ref-encoding.ensures at c.is_ignored.ensures) ∙ c.if-is_ignored.false)
    c.group_len-size.result (omega (arith, whole, s.short, c.if-index-size.false)) s.laws.group
    whole bytes c.in-Ok.ensures.sound (omega (arith, size, c.in-Ok.ensures.few))
    c.is_final-is_final.result
    (rw (← whole) at c.is_final-is_final.ensures)

pub returns-in-Err-clause-reads : goal.returns-in-Err-clause-reads
returns-in-Err-clause-reads c =
    let s = c.args.self.now in
    let whole = rw c.by_ref-encoding.ensures at c.group_len-size.ensures.value in
    read_byte-faulty (base_of_pieces s) s.kept
    (is-kept s (omega arith) (omega arith)) c.args.byte
    (sym c.is_some.ensures ∙ c.if-is_some.false)
    (sym (rw c.by_ref-encoding.ensures at c.is_ignored.ensures) ∙ c.if-is_ignored.false)
    c.group_len-size.result (omega (arith, whole, s.short, c.if-index-size.false)) s.laws.group
    whole c.in-Err.error c.in-Err.ensures.fault

pub invariant_of-self-then-is_ignored : goal.invariant_of-self-then-is_ignored
invariant_of-self-then-is_ignored c =
    let k = c.args.self.now.kept in
    record {
      laws = search rules;
      specified = search rules;
      width = search rules;
      short = search rules;
      held = search rules;
      clear = search rules;
      limit = search rules;
      inside =
          All-weaker (λ p. p < k.len) (λ p. p < k.len + 1) (λ p k. omega (arith, k))
          (take k.count k.positions) c.args.self.now.inside;
      fault_inside = no-fault-inside k _ (sym c.is_some.ensures ∙ c.if-is_some.false);
    }

pub invariant_of-self-2-clause-fault_inside : goal.invariant_of-self-2-clause-fault_inside
invariant_of-self-2-clause-fault_inside c =
    no-fault-inside c.args.self.now.kept _ (sym c.is_some.ensures ∙ c.if-is_some.false)

pub invariant_of-self-then-index-size : goal.invariant_of-self-then-index-size
invariant_of-self-then-index-size c =
    let s = c.args.self.now in
    let k = s.kept in
    record {
      laws = search rules;
      specified = search rules;
      width = search rules;
      short =
          omega (
            arith,
            c.if-index-size.true,
            rw c.by_ref-encoding.ensures at c.group_len-size.ensures.value,
          );
      held = search rules;
      clear = search rules;
      limit = search rules;
      inside =
          inside-more k.count k.len k.positions
          (omega (arith, symbols-few (base_of_pieces s).width s.width, s.short)) s.inside;
      fault_inside = no-fault-inside k _ (sym c.is_some.ensures ∙ c.if-is_some.false);
    }

pub invariant_of-self-in-Err : goal.invariant_of-self-in-Err
invariant_of-self-in-Err c =
    let s = c.args.self.now in
    let k = s.kept in
    let count = c.group_len-size.result in
    let size : count ≡ k.count + 1 =
    omega (
      arith,
      rw c.by_ref-encoding.ensures at c.group_len-size.ensures.value,
      s.short,
      c.if-index-size.false,
    ) in
    let below =
    inside-more k.count k.len k.positions
    (omega (arith, symbols-few (base_of_pieces s).width s.width, s.short)) s.inside in
    record {
      laws = search rules;
      specified = search rules;
      width = search rules;
      short = search rules;
      held = search rules;
      clear = search rules;
      limit = search rules;
      inside = search rules;
      fault_inside =
          All-contains (λ p. p < k.len + 1) (take count (set k.positions k.count k.len))
          c.in-Err.error.position
          (subst (λ n. All (λ p. p < k.len + 1) (take n (set k.positions k.count k.len)))
          (sym size) below)
          c.in-Err.ensures.position;
    }
