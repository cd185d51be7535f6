use Rattle.std.proofs.Common.{◌≡◌, ℕ, ◌*◌, ◌/◌, List, ◌≤◌, length, take, refl, sym, ap, ◌∙◌, arith, length-take-le, inr}
use Rattle.data_encoding_meaning.specs.text.Base.{Base, group_symbols}
use Rattle.data_encoding_meaning.specs.decoding.Decoding.{valid_front}
use Rattle.data_encoding_meaning.specs.text.Lengths.{greatest_valid_length}
use Rattle.data_encoding_meaning.proofs.decoding.GroupJudgementLemmas.{HasFault-some, room-symbols}
use Rattle.data_encoding_kernel.specs.declared.simd.decode.last_symbols.Join.{Join}
use Rattle.data_encoding.specs.Endings.{JoinsSymbols}
use Rattle.data_encoding.proofs.decoding.JudgedGroupLemmas.{symbol-bits}
use Rattle.data_encoding.proofs.tables.TableLemmas.{HoldsValues-seen, Reads-seen, ascii-seen}
use Rattle.data_encoding.proofs.encoding.EncodingRef.decode_prefix.Goals as goal

module _ (base : Base) (rest : List ℕ) {len : ℕ}
    (value : len ≡ greatest_valid_length base (length rest)) (most : len ≤ length rest) where
  front : take len rest ≡ valid_front base rest
  front = ap (λ n. take n rest) value

  front_len : length (valid_front base rest) ≡ len
  front_len = ap length (sym front) ∙ length-take-le len rest most

-- the join of the symbols has the size of a group
symbols-of : {base : Base} {join : Join} → JoinsSymbols base join
    → group_symbols join.width ≡ group_symbols base.width
symbols-of joins = ap group_symbols joins.width_is

pub returns-in-Ok : goal.returns-in-Ok
returns-in-Ok c =
    let seen = c.args.self.now in
    let rest = c.args.rest.now in
    let value = c.greatest_valid_length-len.ensures.value in
    let most = c.greatest_valid_length-len.ensures.most in
    let len = front_len seen rest value most in
    let few : length (valid_front seen rest) ≤ group_symbols seen.width =
    omega (
      arith,
      len,
      c.group_symbols.ensures,
      c.if-len-group_symbols.false,
      symbols-of c.join.ensures.join,
    ) in
    let sound = rw (front seen rest value most) at c.in-Ok.ensures.sound in
    let bits : seen.width * c.in-Ok.count / 8 ≡ c.bytes_len.result =
    ap (λ w. w * c.in-Ok.count / 8) (sym c.join-in-Ok.ensures.join.width_is)
    ∙ sym c.bytes_len.ensures in
    let room = room-symbols refl sound.within (c.requires.room few) in (
      omega (arith, bits, room),
      inr (omega (arith, len, c.if-len-eq0.false), few, c.in-Ok.count, sound, sym bits),
    )

pub returns-then-len-group_symbols : goal.returns-then-len-group_symbols
returns-then-len-group_symbols c =
    let len = front_len c.args.self.now c.args.rest.now c.greatest_valid_length-len.ensures.value
    c.greatest_valid_length-len.ensures.most in
    let symbols = symbols-of c.join.ensures.join in (
      omega (arith, len, c.if-len-eq0.false),
      λ few. absurd (omega (
        arith,
        len,
        symbols,
        few,
        c.group_symbols.ensures,
        c.if-len-group_symbols.true,
      )),
    )

pub returns-in-Err : goal.returns-in-Err
returns-in-Err c =
    let seen = c.args.self.now in
    let rest = c.args.rest.now in
    let value = c.greatest_valid_length-len.ensures.value in
    let most = c.greatest_valid_length-len.ensures.most in (
      omega (arith, front_len seen rest value most),
      λ _. rw (← (front seen rest value most)) (HasFault-some c.in-Err.ensures.fault),
    )

pub decode_group-requires-clause-room : goal.decode_group-requires-clause-room
decode_group-requires-clause-room c = λ _.
    let seen = c.args.self.now in
    let rest = c.args.rest.now in
    let value = c.greatest_valid_length-len.ensures.value in
    let most = c.greatest_valid_length-len.ensures.most in
    rw (front seen rest value most)
    (c.requires.room
    (omega (
      arith,
      front_len seen rest value most,
      c.group_symbols.ensures,
      c.if-len-group_symbols.false,
      symbols-of c.join.ensures.join,
    )))

pub bytes_len-requires : goal.bytes_len-requires
bytes_len-requires c =
    let joins = c.join-in-Ok.ensures.join in
    let len = length-take-le c.greatest_valid_length-len.result c.args.rest.now
    c.greatest_valid_length-len.ensures.most in
    let few = symbol-bits joins.is_join joins.width_is c.in-Ok.ensures.sound.within
    (omega (
      arith,
      len,
      c.group_symbols.ensures,
      c.if-len-group_symbols.false,
      symbols-of c.join.ensures.join,
    )) in
    record { fits = omega (arith, few) }

pub decode_group-requires-clause-entries : goal.decode_group-requires-clause-entries
decode_group-requires-clause-entries c =
    let seen = c.args.self.now in
    let joins = c.join-2.ensures.join in
    record {
      reads = Reads-seen _ c.self.invariant seen c.self.view_is c.join-2.result.now.width
          c.join-2.result.now.order (sym joins.width_is) (sym joins.order_is);
      held = c.of.ensures;
      join = joins.is_join;
      ignored = c.of-2.ensures seen
          (HoldsValues-seen _ c.self.invariant seen c.self.view_is)
          (ascii-seen _ c.self.invariant seen c.self.view_is);
    }
