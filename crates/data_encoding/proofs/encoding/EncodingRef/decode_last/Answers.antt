use Rattle.std.proofs.Common.{◌≡◌, ◌-◌, ◌*◌, ◌/◌, ◌≤◌, ◌==◌, ◌&&◌, ◌++◌, not, false, length, take, drop, slice_index, refl, sym, ap, subst, ◌∙◌, arith, length-drop, IsTrue}
use Rattle.std.proofs.Math.Nat.{div-mul-le_self, mul-le-mul_left, mul-le-mul_right}
use Rattle.std.proofs.lemmas.Bool.Decides.{nat_tests}
use Rattle.std.proofs.lemmas.List.{take_rest}
use Rattle.data_encoding_meaning.specs.text.Base.{group_bytes, group_symbols}
use Rattle.data_encoding_meaning.proofs.decoding.WholeLengthLemmas.{whole_bytes}
use Rattle.data_encoding_meaning.proofs.lists.WriteLemmas.{length-rewritten_same, rewritten, take-rewritten}
use Rattle.data_encoding.proofs.decoding.LastGroupLemmas.{last-decoded, last-room, rest-valid}
use Rattle.data_encoding.proofs.decoding.ShortLemmas.{front-reached, front-room, joins-width, stored}
use Rattle.data_encoding.proofs.encoding.EncodingRef.decode_last.Goals as goal
use Rattle.data_encoding.proofs.encoding.EncodingRef.decode_last.Goals.{After-bytes_len-count, Joined-is_valid, then-is_valid, else-is_valid}

-- at most all symbols are decoded
fewer : (c : Joined-is_valid) → c.if-is_valid.symbols ≤ c.args.front.now.symbols
fewer c =
    elim c.if-is_valid.branch [
      | then-is_valid w ↦ omega (arith, w.symbols-is)
      | else-is_valid w ↦
          omega (
            arith,
            w.symbols-is,
            w.whole_groups-symbols.ensures,
            div-mul-le_self c.args.front.now.symbols (group_symbols c.args.join.now.width),
          )
    ]

pub is_end-is_valid-requires-clause-valid : goal.is_end-is_valid-requires-clause-valid
is_end-is_valid-requires-clause-valid c =
    λ none.
    rw (take_rest c.args.input.now c.args.at.read)
    (rest-valid (joins-width c.requires.join) c.requires.at none)

-- the bytes of the symbols, if they are whole groups
whole : (c : After-bytes_len-count)
    → c.if-is_valid.symbols ≡ c.args.front.now.symbols / group_symbols c.args.self.now.width
    * group_symbols c.args.self.now.width
    → c.bytes_len-count.result ≡ c.args.front.now.symbols / group_symbols c.args.self.now.width
    * group_bytes c.args.self.now.width
whole c is =
    c.bytes_len-count.ensures
    ∙ (λ i. c.requires.join.width_is i * is i / 8)
    ∙ whole_bytes c.args.self.now (joins-width c.requires.join)
    (c.args.front.now.symbols / group_symbols c.args.self.now.width)

-- the bytes that are stored have room
few : (c : After-bytes_len-count)
    → c.bytes_len-count.result ≤ length c.args.output.now - c.args.at.written
few c =
    let base = c.args.self.now in
    let input = c.args.input.now in
    let front = c.args.front.now in
    let width = joins-width c.requires.join in
    let within = c.requires.front.within in
    elim c.if-is_valid.branch [
      | then-is_valid w ↦
          let ends = rw (take_rest input c.args.at.read) at
          (c.is_end-is_valid.ensures.end (subst IsTrue (sym w.if-is_valid.true) refl)) in
          let bytes : c.bytes_len-count.result ≡ base.width * front.symbols / 8 =
          c.bytes_len-count.ensures ∙ (λ i. c.requires.join.width_is i * w.symbols-is i / 8) in
          omega (
            arith,
            bytes,
            last-room width c.requires.at c.requires.front ends.1,
          )
      | else-is_valid w ↦
          let symbols : c.if-is_valid.symbols
          ≡ front.symbols / group_symbols base.width * group_symbols base.width =
          w.symbols-is ∙ w.whole_groups-symbols.ensures
          ∙ (λ i. front.symbols / group_symbols (c.requires.join.width_is i)
          * group_symbols (c.requires.join.width_is i)) in
          omega (
            arith,
            whole c symbols,
            front-room width c.requires.at c.requires.front.symbols
                (omega (arith, within, length-drop c.args.at.read input)),
            ap length (take_rest c.args.output.now c.args.at.written),
            length-drop c.args.at.written c.args.output.now,
          )
    ]

pub store_front-requires-clause-room : goal.store_front-requires-clause-room
store_front-requires-clause-room c =
    omega (
      arith,
      few (goal.at.store_front-requires-clause-room c).After-bytes_len-count,
      ap length (take_rest c.args.output.now c.args.at.written),
      length-drop c.args.at.written c.args.output.now,
    )

pub returns : goal.returns
returns c =
    let base = c.args.self.now in
    let input = c.args.input.now in
    let output = c.args.output.now in
    let written = c.args.at.written in
    let front = c.args.front.now in
    let new = c.store_front.new.output in
    let width = joins-width c.requires.join in
    let before = (goal.at.returns c).After-bytes_len-count in
    let room = take (length output - written) (drop written output) in
    let room_len : length room ≡ length output - written =
    ap length (take_rest output written) ∙ length-drop written output in
    let kept = stored front.bytes room new c.bytes_len-count.result c.store_front.ensures
    c.store_front.auto.output (omega (arith, few before, room_len)) in
    elim c.if-is_valid.branch [
      | then-is_valid w ↦
          let is_true = subst IsTrue (sym w.if-is_valid.true) refl in
          let ends = rw (take_rest input c.args.at.read) at (c.is_end-is_valid.ensures.end is_true)
          in
          let m = base.width * front.symbols / 8 in
          let bytes : c.bytes_len-count.result ≡ m =
          c.bytes_len-count.ensures ∙ (λ i. c.requires.join.width_is i * w.symbols-is i / 8) in
          let trailing = c.is_end-is_valid.ensures.trailing is_true in
          let quiet : (base.checks_trailing_bits && not (slice_index front.bytes m == 0)) ≡ false =
          grind (arith, nat_tests, trailing) in
          rw (w.if-is_valid.true, bytes) (last-decoded width c.requires.at c.requires.front ends.1
          (rewritten written output new)
          (length-rewritten_same written output new c.requires.at.so_far.fits
          c.store_front.auto.output)
          (take-rewritten written output new c.requires.at.so_far.fits m
          ∙ ap (λ l. take written output ++ l) (rw bytes at kept))
          quiet)
      | else-is_valid w ↦
          let symbols : c.if-is_valid.symbols
          ≡ front.symbols / group_symbols base.width * group_symbols base.width =
          w.symbols-is ∙ w.whole_groups-symbols.ensures
          ∙ (λ i. front.symbols / group_symbols (c.requires.join.width_is i)
          * group_symbols (c.requires.join.width_is i)) in
          let bytes = whole before symbols in
          rw (w.if-is_valid.false, symbols, bytes)
          (front-reached width c.requires.at c.requires.front.symbols
          (omega (arith, c.requires.front.within, length-drop c.args.at.read input)) new
          c.store_front.auto.output (rw bytes at kept))
    ]

pub is_end-is_valid-requires-clause-front : goal.is_end-is_valid-requires-clause-front
is_end-is_valid-requires-clause-front c =
    rw (take_rest c.args.input.now c.args.at.read) c.requires.front

pub is_end-is_valid-requires-clause-join : goal.is_end-is_valid-requires-clause-join
is_end-is_valid-requires-clause-join c = c.requires.join

pub slice_bounds-is_end-count : goal.slice_bounds-is_end-count
slice_bounds-is_end-count c = c.requires.at.so_far.within

pub slice_bounds-store_front-count : goal.slice_bounds-store_front-count
slice_bounds-store_front-count c = c.requires.at.so_far.fits

pub bytes_len-count-requires : goal.bytes_len-count-requires
bytes_len-count-requires c =
    let some : c.if-is_valid.symbols ≤ 16 =
    omega (
      arith,
      fewer (goal.at.bytes_len-count-requires c).Joined-is_valid,
      c.requires.front.few,
    ) in
    record {
      fits = omega (
        arith,
        mul-le-mul_right c.args.join.now.width some,
        c.requires.join.is_join.few,
      );
    }

pub store_front-requires-clause-few : goal.store_front-requires-clause-few
store_front-requires-clause-few c =
    let some : c.if-is_valid.symbols ≤ 16 =
    omega (
      arith,
      fewer (goal.at.store_front-requires-clause-few c).Joined-is_valid,
      c.requires.front.few,
    ) in
    omega (
      arith,
      c.bytes_len-count.ensures,
      mul-le-mul_left c.args.join.now.width some,
      c.requires.join.is_join.few,
    )

pub overflow_add-stop : goal.overflow_add-stop
overflow_add-stop c =
    record {
      fits = omega (
        arith,
        fewer (goal.at.overflow_add-stop c).Joined-is_valid,
        c.requires.front.within,
        length-drop c.args.at.read c.args.input.now,
        c.requires.at.so_far.within,
        c.requires.at.exact.limit,
      );
    }

pub overflow_add-stop-2 : goal.overflow_add-stop-2
overflow_add-stop-2 c =
    record {
      fits = omega (
        arith,
        few (goal.at.overflow_add-stop-2 c).After-bytes_len-count,
        c.requires.at.so_far.fits,
      );
    }
