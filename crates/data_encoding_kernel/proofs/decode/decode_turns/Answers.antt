use Rattle.std.proofs.Common.{◌≡◌, ◌+◌, ◌-◌, ◌*◌, ◌/◌, ◌≤◌, length, take, drop, refl, sym, ◌∙◌, subst, arith}
use Rattle.std.proofs.Math.Nat.{le-mul_of_pos_right, mul-le-mul_right, zero-mul}
use Rattle.data_encoding_kernel.specs.Runs.{IsRun}
use Rattle.data_encoding_kernel.proofs.decoding.SymbolRunLemmas.{groups-complete, groups-at_most, groups-after, run-after, run-next, run-none, turn-fits, groups-of_product}
use Rattle.data_encoding_meaning.proofs.digits.SizeLemmas.{IsGroup-same}
use Rattle.data_encoding_meaning.proofs.lists.PartLemmas.{IsWhole-group, length-part, one-more}
use Rattle.data_encoding_kernel.proofs.decode.decode_turns.Goals as goal

pub loop-index-init : goal.loop-index-init
loop-index-init g c = record {
  run = λ values held base reads.
      rw zero-mul
      (run-none base reads.holds.is_width c.args.input.now c.args.output.now c.args.output.now);
}

pub slice_bounds-decode-end : goal.slice_bounds-decode-end
slice_bounds-decode-end g c =
    turn-fits (length c.args.input.now) c.args.count c.loop-index.index
    c.GROUPS-groups.ensures c.SYMBOLS-symbols.ensures c.requires.few c.loop-index-test.true

pub overflow_add-read : goal.overflow_add-read
overflow_add-read g c = omega (arith, slice_bounds-decode-end g c)

pub overflow_mul-read : goal.overflow_mul-read
overflow_mul-read g c = omega (arith, slice_bounds-decode-end g c)

pub slice_bounds-decode-end-in-loop-index : goal.slice_bounds-decode-end-in-loop-index
slice_bounds-decode-end-in-loop-index g c =
    let room = turn-fits (length c.args.output.now) c.args.count c.loop-index.index
    c.GROUPS-groups.ensures c.BYTES-bytes.ensures c.requires.room c.loop-index-test.true in
    omega (arith, c.loop-index.auto.output)

pub overflow_add-written : goal.overflow_add-written
overflow_add-written g c = omega (arith, slice_bounds-decode-end-in-loop-index g c)

pub overflow_mul-written : goal.overflow_mul-written
overflow_mul-written g c =
    let room = turn-fits (length c.args.output.now) c.args.count c.loop-index.index
    c.GROUPS-groups.ensures c.BYTES-bytes.ensures c.requires.room c.loop-index-test.true in
    omega arith

pub decode-found-requires-clause-symbols : goal.decode-found-requires-clause-symbols
decode-found-requires-clause-symbols g c =
    length-part (c.loop-index.index * c.GROUPS-groups.result * c.SYMBOLS-symbols.result)
    (c.GROUPS-groups.result * c.SYMBOLS-symbols.result) c.args.input.now
    (turn-fits (length c.args.input.now) c.args.count c.loop-index.index
    c.GROUPS-groups.ensures c.SYMBOLS-symbols.ensures c.requires.few c.loop-index-test.true)
    ∙ (λ k. c.GROUPS-groups.ensures k * c.SYMBOLS-symbols.ensures k)

pub decode-found-requires-clause-exact : goal.decode-found-requires-clause-exact
decode-found-requires-clause-exact g c =
    length-part (c.loop-index.index * c.GROUPS-groups.result * c.BYTES-bytes.result)
    (c.GROUPS-groups.result * c.BYTES-bytes.result) c.loop-index.output
    (rw c.loop-index.auto.output (turn-fits (length c.args.output.now) c.args.count
    c.loop-index.index c.GROUPS-groups.ensures c.BYTES-bytes.ensures c.requires.room
    c.loop-index-test.true))
    ∙ (λ k. c.GROUPS-groups.ensures k * c.BYTES-bytes.ensures k)

pub returns-then-found-groups-clause-run : goal.returns-then-found-groups-clause-run
returns-then-found-groups-clause-run g c = λ values held base reads.
    let input = c.args.input.now in
    let output = c.loop-index.output in
    let groups = c.GROUPS-groups.result in
    let bytes = c.BYTES-bytes.result in
    let symbols = c.SYMBOLS-symbols.result in
    let first = c.loop-index.index * groups in
    let found = c.decode-found.result in
    let count = found / g.G.GroupSize.SYMBOLS in
    let group = IsGroup-same refl c.BYTES-bytes.ensures c.SYMBOLS-symbols.ensures
    g.G.GroupSize.is_group in
    let whole = IsWhole-group g.G.GroupSize.WIDTH g.G.GroupSize.BYTES g.G.GroupSize.SYMBOLS
    g.G.GroupSize.is_group in
    let few : count ≤ groups =
    subst (λ n. count ≤ n) (sym c.GROUPS-groups.ensures)
    (groups-at_most found g.T.DecodeTurn.GROUPS whole.some_symbols c.decode-found.ensures.few) in
    let within = turn-fits (length input) c.args.count c.loop-index.index
    c.GROUPS-groups.ensures c.SYMBOLS-symbols.ensures c.requires.few c.loop-index-test.true in
    let room : first * bytes + groups * bytes ≤ length output =
    rw c.loop-index.auto.output (turn-fits (length c.args.output.now) c.args.count
    c.loop-index.index c.GROUPS-groups.ensures c.BYTES-bytes.ensures c.requires.room
    c.loop-index-test.true) in
    let shown_len : length c.decode-found.new.output ≡ groups * bytes =
    c.decode-found.auto.output ∙ length-part (first * bytes) (groups * bytes) output room in
    rw (groups-after first found symbols c.SYMBOLS-symbols.ensures whole.some_symbols)
    (run-after base reads.holds.is_width g.G.GroupSize.WIDTH bytes symbols group reads.width_is
    input c.args.output.now output
    (take (first * bytes + groups * bytes - first * bytes) (drop (first * bytes) output))
    c.decode-found.new.output first count _ (first * symbols + groups * symbols) within
    (omega (arith, room)) (omega (arith, mul-le-mul_right bytes few, shown_len))
    (c.loop-index.invariant.run values held base reads)
    (c.decode-found.ensures.run values held base reads))

pub loop-index-preserved : goal.loop-index-preserved
loop-index-preserved g c =
    let input = c.args.input.now in
    let output = c.loop-index.output in
    let groups = c.GROUPS-groups.result in
    let bytes = c.BYTES-bytes.result in
    let symbols = c.SYMBOLS-symbols.result in
    let first = c.loop-index.index * groups in
    let group = IsGroup-same refl c.BYTES-bytes.ensures c.SYMBOLS-symbols.ensures
    g.G.GroupSize.is_group in
    let whole = IsWhole-group g.G.GroupSize.WIDTH g.G.GroupSize.BYTES g.G.GroupSize.SYMBOLS
    g.G.GroupSize.is_group in
    let within = turn-fits (length input) c.args.count c.loop-index.index
    c.GROUPS-groups.ensures c.SYMBOLS-symbols.ensures c.requires.few c.loop-index-test.true in
    let room : first * bytes + groups * bytes ≤ length output =
    rw c.loop-index.auto.output (turn-fits (length c.args.output.now) c.args.count
    c.loop-index.index c.GROUPS-groups.ensures c.BYTES-bytes.ensures c.requires.room
    c.loop-index-test.true) in
    let shown_len : length c.decode-found.new.output ≡ groups * bytes =
    c.decode-found.auto.output ∙ length-part (first * bytes) (groups * bytes) output room in
    let part = take (first * symbols + groups * symbols - first * symbols)
    (drop (first * symbols) input) in
    let before = take (first * bytes + groups * bytes - first * bytes)
    (drop (first * bytes) output) in
    let all = groups-complete c.decode-found.result c.GROUPS-groups.ensures
    c.SYMBOLS-symbols.ensures whole.some_symbols c.decode-found.ensures.few
    (omega (arith, c.if-found-groups.false)) in
    record {
      run = λ values held base reads.
          run-next base reads.holds.is_width g.G.GroupSize.WIDTH bytes symbols group
          reads.width_is input c.args.output.now output before c.decode-found.new.output first
          groups _ _ _ (one-more c.loop-index.index groups) refl within (omega (arith, room))
          shown_len (c.loop-index.invariant.run values held base reads)
          (subst (λ n. IsRun base part n before c.decode-found.new.output) all
          (c.decode-found.ensures.run values held base reads));
    }

pub returns-clause-run : goal.returns-clause-run
returns-clause-run g c = λ values held base reads.
    let whole = IsWhole-group g.G.GroupSize.WIDTH g.G.GroupSize.BYTES g.G.GroupSize.SYMBOLS
    g.G.GroupSize.is_group in
    let all : c.loop-index.index ≡ c.args.count =
    omega (arith, c.loop-index-test.false, c.loop-index.auto.index-end) in
    rw (groups-of_product (c.args.count * c.GROUPS-groups.result) c.SYMBOLS-symbols.result
    c.SYMBOLS-symbols.ensures whole.some_symbols)
    (rw all at (c.loop-index.invariant.run values held base reads))

pub overflow_mul-first : goal.overflow_mul-first
overflow_mul-first g c =
    let first = c.loop-index.index * c.GROUPS-groups.result in
    let some = (IsWhole-group g.G.GroupSize.WIDTH g.G.GroupSize.BYTES g.G.GroupSize.SYMBOLS
    g.G.GroupSize.is_group).some_symbols in
    let all : first ≤ first * c.SYMBOLS-symbols.result =
    le-mul_of_pos_right first (omega (arith, some, c.SYMBOLS-symbols.ensures)) in
    record { fits = omega (arith, all, slice_bounds-decode-end g c) }

pub overflow_mul-groups : goal.overflow_mul-groups
overflow_mul-groups g c = record { fits = omega (arith, slice_bounds-decode-end g c) }

pub overflow_mul-groups-in-loop-index : goal.overflow_mul-groups-in-loop-index
overflow_mul-groups-in-loop-index g c = record {
  fits = omega (arith, slice_bounds-decode-end-in-loop-index g c);
}

pub overflow_mul-groups-in-loop-index-2 : goal.overflow_mul-groups-in-loop-index-2
overflow_mul-groups-in-loop-index-2 g c =
    let within = turn-fits (length c.args.input.now) c.args.count c.loop-index.index
    c.GROUPS-groups.ensures c.SYMBOLS-symbols.ensures c.requires.few c.loop-index-test.true in
    record { fits = omega arith }

pub overflow_add-result : goal.overflow_add-result
overflow_add-result g c =
    let few : c.decode-found.result ≤ c.GROUPS-groups.result * c.SYMBOLS-symbols.result =
    rw (c.GROUPS-groups.ensures, c.SYMBOLS-symbols.ensures) c.decode-found.ensures.few in
    let within = turn-fits (length c.args.input.now) c.args.count c.loop-index.index
    c.GROUPS-groups.ensures c.SYMBOLS-symbols.ensures c.requires.few c.loop-index-test.true in
    record { fits = omega (arith, few) }

pub returns-then-found-groups-clause-within : goal.returns-then-found-groups-clause-within
returns-then-found-groups-clause-within g c =
    let few : c.decode-found.result ≤ c.GROUPS-groups.result * c.SYMBOLS-symbols.result =
    rw (c.GROUPS-groups.ensures, c.SYMBOLS-symbols.ensures) c.decode-found.ensures.few in
    let all = c.args.count * g.T.DecodeTurn.GROUPS * g.G.GroupSize.SYMBOLS in
    omega (
      arith,
      few,
      turn-fits all c.args.count c.loop-index.index c.GROUPS-groups.ensures
          c.SYMBOLS-symbols.ensures (omega arith) c.loop-index-test.true,
    )

pub overflow_mul-result : goal.overflow_mul-result
overflow_mul-result g c =
    let all : c.args.count * c.GROUPS-groups.result * c.SYMBOLS-symbols.result
    ≤ length c.args.input.now =
    rw (c.GROUPS-groups.ensures, c.SYMBOLS-symbols.ensures) c.requires.few in
    let some = (IsWhole-group g.G.GroupSize.WIDTH g.G.GroupSize.BYTES g.G.GroupSize.SYMBOLS
    g.G.GroupSize.is_group).some_symbols in
    let fewer : c.args.count * c.GROUPS-groups.result
    ≤ c.args.count * c.GROUPS-groups.result * c.SYMBOLS-symbols.result =
    le-mul_of_pos_right (c.args.count * c.GROUPS-groups.result)
    (omega (arith, some, c.SYMBOLS-symbols.ensures)) in
    record { fits = omega (arith, all, fewer) }

pub overflow_mul-result-2 : goal.overflow_mul-result-2
overflow_mul-result-2 g c =
    let all : c.args.count * c.GROUPS-groups.result * c.SYMBOLS-symbols.result
    ≤ length c.args.input.now =
    rw (c.GROUPS-groups.ensures, c.SYMBOLS-symbols.ensures) c.requires.few in
    record { fits = omega (arith, all) }

pub returns-clause-within : goal.returns-clause-within
returns-clause-within g c =
    rw (c.GROUPS-groups.ensures, c.SYMBOLS-symbols.ensures) (omega arith)

pub slice_bounds-decode-count : goal.slice_bounds-decode-count
slice_bounds-decode-count g c = omega arith

pub slice_bounds-decode-count-in-loop-index : goal.slice_bounds-decode-count-in-loop-index
slice_bounds-decode-count-in-loop-index g c = omega arith
