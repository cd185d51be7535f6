use Rattle.std.proofs.Common.{◌≡◌, ◌*◌, ◌/◌, ◌%◌, ◌≤◌, length, refl, sym, ap, ◌∙◌, subst, arith}
use Rattle.std.proofs.Math.Nat.{mul-mod_left}
use Rattle.data_encoding_meaning.proofs.digits.SizeLemmas.{IsGroup-same}
use Rattle.data_encoding_kernel.proofs.decoding.SymbolRunLemmas.{group-next, groups-of_product, run-kept}
use Rattle.data_encoding_meaning.proofs.lists.PartLemmas.{IsWhole-group, IsWhole-same, group-before, group-room, groups-within, length-part}
use Rattle.data_encoding_kernel.proofs.simd.decode.last_symbols.Join.decode_in_words_of.Goals as goal

pub slice_bounds-decode_entries-end : goal.slice_bounds-decode_entries-end
slice_bounds-decode_entries-end g c =
    group-before (length c.args.input.now) c.SYMBOLS-symbols.result c.loop-index.index
    c.loop-index-test.true

pub overflow_mul-read : goal.overflow_mul-read
overflow_mul-read g c =
    omega (
      arith,
      group-before (length c.args.input.now) c.SYMBOLS-symbols.result c.loop-index.index
          c.loop-index-test.true,
    )

pub overflow_add-read : goal.overflow_add-read
overflow_add-read g c =
    omega (
      arith,
      group-before (length c.args.input.now) c.SYMBOLS-symbols.result c.loop-index.index
          c.loop-index-test.true,
    )

pub slice_bounds-decode_entries-end-in-loop-index :
    goal.slice_bounds-decode_entries-end-in-loop-index
slice_bounds-decode_entries-end-in-loop-index g c =
    let room = group-room (length c.args.input.now) c.loop-index.index (length c.args.output.now)
    c.BYTES-bytes.ensures c.SYMBOLS-symbols.ensures c.requires.room c.loop-index-test.true in
    omega arith

pub overflow_mul-written : goal.overflow_mul-written
overflow_mul-written g c =
    let room = group-room (length c.args.input.now) c.loop-index.index (length c.args.output.now)
    c.BYTES-bytes.ensures c.SYMBOLS-symbols.ensures c.requires.room c.loop-index-test.true in
    omega arith

pub overflow_add-written : goal.overflow_add-written
overflow_add-written g c = omega (arith, slice_bounds-decode_entries-end-in-loop-index g c)

pub decode_entries-entries-requires-clause-few : goal.decode_entries-entries-requires-clause-few
decode_entries-entries-requires-clause-few g c =
    let within = group-before (length c.args.input.now) c.SYMBOLS-symbols.result c.loop-index.index
    c.loop-index-test.true in
    omega (
      arith,
      length-part (c.loop-index.index * c.SYMBOLS-symbols.result) c.SYMBOLS-symbols.result
          c.args.input.now within,
    )

pub decode_entries-entries-requires-clause-exact : goal.decode_entries-entries-requires-clause-exact
decode_entries-entries-requires-clause-exact g c =
    let within = group-before (length c.args.input.now) c.SYMBOLS-symbols.result c.loop-index.index
    c.loop-index-test.true in
    let room = group-room (length c.args.input.now) c.loop-index.index (length c.args.output.now)
    c.BYTES-bytes.ensures c.SYMBOLS-symbols.ensures c.requires.room c.loop-index-test.true in
    let bytes = c.BYTES-bytes.result in
    let symbols = c.SYMBOLS-symbols.result in
    let i = c.loop-index.index in
    let read = length-part (i * symbols) symbols c.args.input.now within in
    let wrote = length-part (i * bytes) bytes c.loop-index.output (omega arith) in
    let same = (IsWhole-same c.BYTES-bytes.ensures c.SYMBOLS-symbols.ensures
    g.G.GroupSize.is_group).same_bits in
    omega (arith, wrote, ap (λ n. g.G.GroupSize.WIDTH * n) read, same)

pub returns-then-entries-ge128-clause-run : goal.returns-then-entries-ge128-clause-run
returns-then-entries-ge128-clause-run g c = λ base reads.
    let room = group-room (length c.args.input.now) c.loop-index.index (length c.args.output.now)
    c.BYTES-bytes.ensures c.SYMBOLS-symbols.ensures c.requires.room c.loop-index-test.true in
    let group = IsGroup-same refl c.BYTES-bytes.ensures c.SYMBOLS-symbols.ensures
    g.G.GroupSize.is_group in
    let some = (IsWhole-group _ _ _ g.G.GroupSize.is_group).some_symbols in
    rw (groups-of_product c.loop-index.index c.SYMBOLS-symbols.result c.SYMBOLS-symbols.ensures
    some)
    (run-kept base reads.holds.is_width g.G.GroupSize.WIDTH c.BYTES-bytes.result
    c.SYMBOLS-symbols.result group reads.width_is c.args.input.now _
    c.loop-index.output c.decode_entries-entries.new.output c.loop-index.index _ (omega arith)
    (c.loop-index.invariant.run base reads))

pub returns-then-entries-ge128-clause-within :
    goal.returns-then-entries-ge128-clause-within
returns-then-entries-ge128-clause-within g c =
    omega (
      arith,
      group-before (length c.args.input.now) c.SYMBOLS-symbols.result c.loop-index.index
          c.loop-index-test.true,
      ap (λ n. c.loop-index.index * n) c.SYMBOLS-symbols.ensures,
    )

pub loop-index-init : goal.loop-index-init
loop-index-init g c =
    record { run = c.decode_whole_turns-first.ensures.run c.args.values.now refl }

pub loop-index-preserved : goal.loop-index-preserved
loop-index-preserved g c =
    let part = c.args.input.now in
    let within = group-before (length c.args.input.now) c.SYMBOLS-symbols.result c.loop-index.index
    c.loop-index-test.true in
    let room = group-room (length c.args.input.now) c.loop-index.index (length c.args.output.now)
    c.BYTES-bytes.ensures c.SYMBOLS-symbols.ensures c.requires.room c.loop-index-test.true in
    let group = IsGroup-same refl c.BYTES-bytes.ensures c.SYMBOLS-symbols.ensures
    g.G.GroupSize.is_group in
    let i = c.loop-index.index in
    let output = c.loop-index.output in
    let enc = c.BYTES-bytes.result in
    let dec = c.SYMBOLS-symbols.result in
    let shown_len : length c.decode_entries-entries.new.output ≡ enc =
    c.decode_entries-entries.auto.output ∙ length-part (i * enc) enc output (omega arith) in
    record {
      run = λ base reads.
          group-next base reads.holds.is_width g.G.GroupSize.WIDTH enc dec group
          reads.width_is c.args.values.now
          part _ output c.decode_entries-entries.new.output i _ _ refl within (omega arith)
          shown_len reads.holds (c.loop-index.invariant.run base reads)
          (λ j. (c.type_inv.input j).fits)
          (c.decode_entries-entries.ensures.symbols.0 c.if-entries-ge128.false)
          (c.decode_entries-entries.ensures.bytes base reads
          c.if-entries-ge128.false);
    }

pub returns-clause-run : goal.returns-clause-run
returns-clause-run g c = λ base reads.
    let within = subst (λ n. c.decode_whole_turns-first.result ≤ (length c.args.input.now) / n)
    (sym c.SYMBOLS-symbols.ensures) c.decode_whole_turns-first.ensures.within in
    let all : c.loop-index.index ≡ (length c.args.input.now) / c.SYMBOLS-symbols.result =
    omega (arith, within, c.loop-index-test.false, c.loop-index.auto.index-end) in
    let some = (IsWhole-group _ _ _ g.G.GroupSize.is_group).some_symbols in
    let count = length c.args.input.now / c.SYMBOLS-symbols.result in
    rw (groups-of_product count c.SYMBOLS-symbols.result c.SYMBOLS-symbols.ensures some)
    (rw all at (c.loop-index.invariant.run base reads))

pub returns-clause-within : goal.returns-clause-within
returns-clause-within g c =
    omega (
      arith,
      groups-within (length c.args.input.now) c.SYMBOLS-symbols.result,
      ap (λ s. (length c.args.input.now) / c.SYMBOLS-symbols.result * s) c.SYMBOLS-symbols.ensures,
    )

pub returns-then-entries-ge128-clause-whole : goal.returns-then-entries-ge128-clause-whole
returns-then-entries-ge128-clause-whole g c =
    rw c.SYMBOLS-symbols.ensures (mul-mod_left c.loop-index.index g.G.GroupSize.SYMBOLS)

pub returns-clause-whole : goal.returns-clause-whole
returns-clause-whole g c =
    let symbols = c.SYMBOLS-symbols.result in
    ap (λ n. length c.args.input.now / symbols * symbols % n) (sym c.SYMBOLS-symbols.ensures)
    ∙ mul-mod_left (length c.args.input.now / symbols) symbols
