use Rattle.std.proofs.Common.{◌≡◌, ◌-◌, ◌+◌, ◌*◌, ◌/◌, ◌<◌, ◌≤◌, drop, length, take, ap, ◌∙◌, arith, sym, subst}
use Rattle.std.proofs.lemmas.List.{take-take}
use Rattle.std.proofs.lemmas.Nat.{div-add-mod', mul-le}
use Rattle.data_encoding_meaning.specs.text.Text.{plain_text}
use Rattle.data_encoding_meaning.proofs.digits.SizeLemmas.{IsSmall-group}
use Rattle.data_encoding_meaning.proofs.lists.PartLemmas.{group-before, groups-within, length-part, length-rest, part-is}
use Rattle.data_encoding_kernel.proofs.text.PlainGroupLemmas.{IsWhole-turn, groups_fit, next_fits, rest_fits, written-next, written-none, written-rest}
use Rattle.data_encoding_kernel.proofs.encode.encode_turns.Goals as goal

pub overflow_mul-read_len : goal.overflow_mul-read_len
overflow_mul-read_len g c =
    omega (
      arith,
      mul-le c.GROUPS-groups.result c.BYTES-bytes.result 12 5
          (rw c.GROUPS-groups.ensures c.requires.few)
          (omega (arith, (IsSmall-group g.G.GroupSize.is_group).few_bytes, c.BYTES-bytes.ensures)),
    )

pub overflow_mul-written_len : goal.overflow_mul-written_len
overflow_mul-written_len g c =
    omega (
      arith,
      mul-le c.GROUPS-groups.result c.SYMBOLS.result 12 8
          (rw c.GROUPS-groups.ensures c.requires.few)
          (omega (arith, (IsSmall-group g.G.GroupSize.is_group).few_symbols, c.SYMBOLS.ensures)),
    )

pub nonzero_div-count : goal.nonzero_div-count
nonzero_div-count g c =
    let whole = IsWhole-turn c.GROUPS-groups.ensures c.BYTES-bytes.ensures c.SYMBOLS.ensures
    c.requires.some g.G.GroupSize.is_group in
    whole.some_bytes

pub loop-index-init : goal.loop-index-init
loop-index-init g c =
    let whole = IsWhole-turn c.GROUPS-groups.ensures c.BYTES-bytes.ensures c.SYMBOLS.ensures
    c.requires.some g.G.GroupSize.is_group in
    record {
      written = λ base writes.
          written-none whole base writes.width_is c.args.input.now c.args.output.now;
    }

pub overflow_mul-written : goal.overflow_mul-written
overflow_mul-written g c =
    let whole = IsWhole-turn c.GROUPS-groups.ensures c.BYTES-bytes.ensures c.SYMBOLS.ensures
    c.requires.some g.G.GroupSize.is_group in
    let room = next_fits whole _ _ _ _ _ (c.loop-index.auto.output ∙ c.requires.exact)
    c.saturating_sub.ensures c.loop-index-test.true in
    omega arith

pub slice_bounds-encode-end-in-loop-index : goal.slice_bounds-encode-end-in-loop-index
slice_bounds-encode-end-in-loop-index g c =
    let whole = IsWhole-turn c.GROUPS-groups.ensures c.BYTES-bytes.ensures c.SYMBOLS.ensures
    c.requires.some g.G.GroupSize.is_group in
    next_fits whole _ _ _ _ _ (c.loop-index.auto.output ∙ c.requires.exact)
    c.saturating_sub.ensures c.loop-index-test.true

pub overflow_add-written : goal.overflow_add-written
overflow_add-written g c = omega (arith, slice_bounds-encode-end-in-loop-index g c)

pub loop-index-preserved : goal.loop-index-preserved
loop-index-preserved g c =
    let whole = IsWhole-turn c.GROUPS-groups.ensures c.BYTES-bytes.ensures c.SYMBOLS.ensures
    c.requires.some g.G.GroupSize.is_group in
    let input = c.args.input.now in
    let i = c.loop-index.index in
    let bytes = c.GROUPS-groups.result * c.BYTES-bytes.result in
    let loaded = bytes + c.AHEAD-ahead_len.result in
    let read = take (i * bytes + loaded - i * bytes) (drop (i * bytes) input) in
    let room = next_fits whole _ _ _ _ _ (c.loop-index.auto.output ∙ c.requires.exact)
    c.saturating_sub.ensures c.loop-index-test.true in
    record {
      written = λ base writes.
          written-next whole base writes.width_is input c.loop-index.output c.encode.new.output i
          (c.loop-index.invariant.written base writes)
          (omega (
            arith,
            group-before c.saturating_sub.result bytes i c.loop-index-test.true,
            c.saturating_sub.ensures,
          )) room c.encode.auto.output
          (c.encode.ensures base writes
          ∙ (λ k. plain_text base (take
          (sym c.GROUPS-groups.ensures k * sym c.BYTES-bytes.ensures k) read))
          ∙ ap (λ l. plain_text base (take bytes l)) (part-is (i * bytes) loaded input)
          ∙ ap (plain_text base) (take-take bytes loaded (drop (i * bytes) input) (omega arith)));
    }

pub slice_bounds-encode_rest-count-2 : goal.slice_bounds-encode_rest-count-2
slice_bounds-encode_rest-count-2 g c =
    let whole = IsWhole-turn c.GROUPS-groups.ensures c.BYTES-bytes.ensures c.SYMBOLS.ensures
    c.requires.some g.G.GroupSize.is_group in
    let bytes = c.GROUPS-groups.result * c.BYTES-bytes.result in
    groups_fit whole _ _ _ (c.loop-index.auto.output ∙ c.requires.exact)
    (omega (arith, groups-within c.saturating_sub.result bytes, c.saturating_sub.ensures))

pub slice_bounds-encode_rest-start-2 : goal.slice_bounds-encode_rest-start-2
slice_bounds-encode_rest-start-2 g c = slice_bounds-encode_rest-count-2 g c

pub overflow_mul-count-2 : goal.overflow_mul-count-2
overflow_mul-count-2 g c = omega (arith, slice_bounds-encode_rest-count-2 g c)

pub encode_rest-requires-clause-exact : goal.encode_rest-requires-clause-exact
encode_rest-requires-clause-exact g c =
    let whole = IsWhole-turn c.GROUPS-groups.ensures c.BYTES-bytes.ensures c.SYMBOLS.ensures
    c.requires.some g.G.GroupSize.is_group in
    let width = g.G.GroupSize.WIDTH in
    let bytes = c.GROUPS-groups.result * c.BYTES-bytes.result in
    let count = c.saturating_sub.result / bytes in
    length-rest (count * (c.GROUPS-groups.result * c.SYMBOLS.result)) c.loop-index.output
    ∙ rest_fits whole _ _ count (c.loop-index.auto.output ∙ c.requires.exact)
    (omega (arith, groups-within c.saturating_sub.result bytes, c.saturating_sub.ensures))
    ∙ ap (λ n. (8 * n + (width - 1)) / width) (sym (length-rest (count * bytes) c.args.input.now))

pub returns : goal.returns
returns g c base writes =
    let whole = IsWhole-turn c.GROUPS-groups.ensures c.BYTES-bytes.ensures c.SYMBOLS.ensures
    c.requires.some g.G.GroupSize.is_group in
    let input = c.args.input.now in
    let output = c.loop-index.output in
    let bytes = c.GROUPS-groups.result * c.BYTES-bytes.result in
    let count = c.saturating_sub.result / bytes in
    let all : c.loop-index.index ≡ count =
    omega (arith, c.loop-index-test.false, c.loop-index.auto.index-end) in
    let within : count * bytes ≤ length input =
    omega (arith, groups-within c.saturating_sub.result bytes, c.saturating_sub.ensures) in
    written-rest whole base writes.width_is input output c.encode_rest.new.output count
    (rw all at (c.loop-index.invariant.written base writes)) within
    (groups_fit whole _ _ count (c.loop-index.auto.output ∙ c.requires.exact) within)
    c.encode_rest.auto.output (c.encode_rest.ensures base writes)

pub slice_bounds-encode-end : goal.slice_bounds-encode-end
slice_bounds-encode-end g c =
    let whole = IsWhole-turn c.GROUPS-groups.ensures c.BYTES-bytes.ensures c.SYMBOLS.ensures
    c.requires.some g.G.GroupSize.is_group in
    let bytes = c.GROUPS-groups.result * c.BYTES-bytes.result in
    omega (
      arith,
      group-before c.saturating_sub.result bytes c.loop-index.index c.loop-index-test.true,
      whole.some_bytes,
      c.saturating_sub.ensures,
    )

pub overflow_mul-read : goal.overflow_mul-read
overflow_mul-read g c = omega (arith, slice_bounds-encode-end g c, c.requires.limit)

pub overflow_add-read_len : goal.overflow_add-read_len
overflow_add-read_len g c = omega (arith, slice_bounds-encode-end g c, c.requires.limit)

pub overflow_add-read : goal.overflow_add-read
overflow_add-read g c = omega (arith, slice_bounds-encode-end g c, c.requires.limit)

pub slice_bounds-encode-count : goal.slice_bounds-encode-count
slice_bounds-encode-count g c = omega arith

pub slice_bounds-encode-count-in-loop-index : goal.slice_bounds-encode-count-in-loop-index
slice_bounds-encode-count-in-loop-index g c = omega arith

pub encode-requires-clause-loaded : goal.encode-requires-clause-loaded
encode-requires-clause-loaded g c =
    let whole = IsWhole-turn c.GROUPS-groups.ensures c.BYTES-bytes.ensures c.SYMBOLS.ensures
    c.requires.some g.G.GroupSize.is_group in
    let bytes = c.GROUPS-groups.result * c.BYTES-bytes.result in
    let loaded = bytes + c.AHEAD-ahead_len.result in
    length-part (c.loop-index.index * bytes) loaded c.args.input.now
    (omega (
      arith,
      group-before c.saturating_sub.result bytes c.loop-index.index c.loop-index-test.true,
      whole.some_bytes,
      c.saturating_sub.ensures,
    ))
    ∙ (λ k. c.GROUPS-groups.ensures k * c.BYTES-bytes.ensures k + c.AHEAD-ahead_len.ensures k)

pub encode-requires-clause-exact : goal.encode-requires-clause-exact
encode-requires-clause-exact g c =
    let whole = IsWhole-turn c.GROUPS-groups.ensures c.BYTES-bytes.ensures c.SYMBOLS.ensures
    c.requires.some g.G.GroupSize.is_group in
    let symbols = c.GROUPS-groups.result * c.SYMBOLS.result in
    length-part (c.loop-index.index * symbols) symbols c.loop-index.output
    (next_fits whole _ _ _ _ _ (c.loop-index.auto.output ∙ c.requires.exact)
    c.saturating_sub.ensures c.loop-index-test.true)
    ∙ (λ k. c.GROUPS-groups.ensures k * c.SYMBOLS.ensures k)

pub slice_bounds-encode_rest-count : goal.slice_bounds-encode_rest-count
slice_bounds-encode_rest-count g c =
    omega (
      arith,
      groups-within c.saturating_sub.result (c.GROUPS-groups.result * c.BYTES-bytes.result),
      c.saturating_sub.ensures,
    )

pub overflow_mul-count : goal.overflow_mul-count
overflow_mul-count g c =
    omega (arith, slice_bounds-encode_rest-count g c, c.requires.limit)

pub encode_rest-requires-clause-few : goal.encode_rest-requires-clause-few
encode_rest-requires-clause-few g c =
    let whole = IsWhole-turn c.GROUPS-groups.ensures c.BYTES-bytes.ensures c.SYMBOLS.ensures
    c.requires.some g.G.GroupSize.is_group in
    let bytes = c.GROUPS-groups.result * c.BYTES-bytes.result in
    let count = c.saturating_sub.result / bytes in
    let rest : length c.args.input.now - count * bytes < bytes + c.AHEAD-ahead_len.result =
    omega (
      arith,
      div-add-mod' c.saturating_sub.result bytes,
      whole.some_bytes,
      c.saturating_sub.ensures,
    ) in
    subst (λ n. length (take (length c.args.input.now - count * bytes)
    (drop (count * bytes) c.args.input.now)) < n)
    (λ k. c.GROUPS-groups.ensures k * c.BYTES-bytes.ensures k + c.AHEAD-ahead_len.ensures k)
    (omega (arith, rest, length-rest (count * bytes) c.args.input.now))

pub encode_rest-requires-clause-limit : goal.encode_rest-requires-clause-limit
encode_rest-requires-clause-limit g c =
    let bytes = c.GROUPS-groups.result * c.BYTES-bytes.result in
    omega (
      arith,
      length-rest (c.saturating_sub.result / bytes * bytes) c.args.input.now,
      c.requires.limit,
    )

pub encode-requires-clause-held : goal.encode-requires-clause-held
encode-requires-clause-held g c = c.requires.held
