use Rattle.std.proofs.Common.{◌≡◌, ◌+◌, ◌-◌, ◌*◌, ◌/◌, ◌≤◌, length, take, drop, refl, sym, ap, ◌∙◌, subst, arith, length-drop}
use Rattle.std.proofs.Math.Nat.{div-le_self, mul-le-mul_right}
use Rattle.std.proofs.lemmas.List.{drop-drop, take_rest}
use Rattle.data_encoding_meaning.specs.decoding.Decoding.{IsIgnoredFront}
use Rattle.std.proofs.lemmas.Nat.{le-div}
use Rattle.data_encoding_meaning.specs.text.Base.{group_bytes, group_symbols}
use Rattle.data_encoding_meaning.proofs.digits.WidthLemmas.{group_symbols-few, group_symbols-pos}
use Rattle.data_encoding_kernel.proofs.decoding.JoinSizeLemmas.{join-width}
use Rattle.data_encoding_kernel.proofs.decoding.SymbolRunLemmas.{groups-of_product, turns-few}
use Rattle.data_encoding_meaning.proofs.lists.PartLemmas.{groups-within}
use Rattle.data_encoding.proofs.decoding.OutputLemmas.{begins-within, ends-within, goes-further, goes-nowhere, goes-nowhere_rest, moves-on}
use Rattle.data_encoding.proofs.decoding.PlacingLemmas.{placed-here}
use Rattle.data_encoding.proofs.decoding.StepLemmas.{room-next_run, under_way}
use Rattle.data_encoding.proofs.encoding.EncodingRef.decode_lines.Goals as goal

pub overflow_mul-count : goal.overflow_mul-count
overflow_mul-count g c = record {
  fits = rw (c.groups.ensures, c.group_symbols-turn.ensures) (omega (
    arith,
    turns-few {number = 8} {s = group_symbols c.args.entries.join.now.width} (c.args.len - 1) refl
        refl,
    group_symbols-few c.args.entries.join.now.width (join-width c.requires.entries.join),
    c.requires.within,
    c.requires.at.exact.limit,
  ));
}

pub decode_line-found-requires-clause-bytes : goal.decode_line-found-requires-clause-bytes
decode_line-found-requires-clause-bytes g c =
    let w = c.args.entries.join.now.width in
    let s = group_symbols w in
    let count = c.groups.result / 8 + 1 in
    let whole : count * c.group_symbols-turn.result * 8 / s ≡ count * 8 =
    ap (λ n. count * n * 8 / s) c.group_symbols-turn.ensures
    ∙ ap (λ n. n / s) (omega arith)
    ∙ groups-of_product (count * 8) s refl
    (group_symbols-pos w (join-width c.requires.entries.join)) in
    let turns : count * (8 * c.group_symbols-turn.result) ≡ count * c.group_symbols-turn.result * 8
    =
    omega arith in
    let written : c.groups_len-written_len.result ≡ count * 8 * group_bytes c.args.self.now.width =
    c.groups_len-written_len.ensures
    ∙ ap (λ n. n / s * group_bytes w) turns
    ∙ ap (λ n. n * group_bytes w) whole
    ∙ ap (λ n. count * 8 * group_bytes n) (sym c.requires.entries.reads.width_is) in
    omega (
      arith,
      written,
      c.if-output-at.false,
      ap length (take_rest c.loop.output c.loop.at.written),
      length-drop c.loop.at.written c.loop.output,
    )

pub decode_line-found-requires-clause-room : goal.decode_line-found-requires-clause-room
decode_line-found-requires-clause-room g c =
    let reached = c.loop.invariant.on.reached in
    let width = c.requires.entries.reads.holds.is_width in
    let start = c.loop.at.read + c.loop.at.ignored in
    let rest = take (length c.args.input.now - start) (drop start c.args.input.now) in
    let size = group_symbols c.args.self.now.width in
    let count = c.args.len in
    let fewer : count / size ≤ length rest / size =
    le-div (count / size) (length rest) size (group_symbols-pos c.args.self.now.width width)
    (omega (arith, groups-within count size, c.if-rest-read_len.false, c.max-read_len.ensures)) in
    omega (
      arith,
      mul-le-mul_right (group_bytes c.args.self.now.width) fewer,
      room-next_run (under_way width reached.exact reached.so_far) reached.front,
    )

pub loop-preserved : goal.loop-preserved
loop-preserved g c =
    let reached = c.loop.invariant.on.reached in
    let start = c.loop.at.read + c.loop.at.ignored in
    let rest = take (length c.args.input.now - start) (drop start c.args.input.now) in
    let whole : c.decode_line-found.result.read ≡ c.args.len = c.if-found-len.false in
    let placed = placed-here c.requires.entries.reads.holds.is_width reached
    c.decode_line-found.new.output c.decode_line-found.auto.output c.args.len
    c.decode_line-found.ensures
    (omega (arith, whole, c.requires.some)) in
    let front =
    subst (λ l. IsIgnoredFront c.args.self.now l c.front-ignored.result)
    (take_rest rest c.args.len ∙ ap (drop c.args.len) (take_rest c.args.input.now start)
    ∙ drop-drop c.args.len start c.args.input.now)
    (c.front-ignored.ensures.front c.args.self.now c.requires.entries.ignored) in
    record {
      on = goes-further c.loop.invariant.on.further (moves-on c.decode_line-found.new.output reached
          c.decode_line-found.auto.output (rw (← whole) placed) front (omega arith));
    }

pub returns-then-found-gt0 : goal.returns-then-found-gt0
returns-then-found-gt0 g c =
    let at = c.progress_at-at.ensures in
    let reached = c.loop.invariant.on.reached in
    goes-further c.loop.invariant.on.further
    (moves-on c.decode_line-found.new.output reached c.decode_line-found.auto.output
    (rw (at.read, at.written) (placed-here c.requires.entries.reads.holds.is_width reached
    c.decode_line-found.new.output c.decode_line-found.auto.output c.args.len
    c.decode_line-found.ensures c.if-found-gt0.true))
    (rw at.read (at.front c.args.self.now c.requires.entries.ignored)) (omega (arith, at.read)))

pub returns-else-found-gt0 : goal.returns-else-found-gt0
returns-else-found-gt0 g c =
    goes-further c.loop.invariant.on.further
    (goes-nowhere_rest _ c.requires.entries.reads.holds.is_width c.loop.invariant.on.reached
    c.decode_line-found.auto.output)

pub loop-init : goal.loop-init
loop-init g c =
    record { on = goes-nowhere c.requires.at }

pub overflow_add-start : goal.overflow_add-start
overflow_add-start g c =
    let reached = c.loop.invariant.on.reached in
    record { fits = omega (arith, begins-within reached, reached.exact.limit) }

pub slice_bounds-rest-count : goal.slice_bounds-rest-count
slice_bounds-rest-count g c = begins-within c.loop.invariant.on.reached

pub slice_bounds-front-count : goal.slice_bounds-front-count
slice_bounds-front-count g c = omega (arith, c.if-rest-read_len.false, c.max-read_len.ensures)

pub decode_line-found-requires-clause-entries : goal.decode_line-found-requires-clause-entries
decode_line-found-requires-clause-entries g c = c.requires.entries

pub decode_line-found-requires-clause-within : goal.decode_line-found-requires-clause-within
decode_line-found-requires-clause-within g c =
    omega (arith, c.if-rest-read_len.false, c.max-read_len.ensures)

pub decode_line-found-requires-clause-few : goal.decode_line-found-requires-clause-few
decode_line-found-requires-clause-few g c =
    let count = c.groups.result / 8 + 1 in
    let size : group_symbols c.args.self.now.width ≡ c.group_symbols-turn.result =
    ap group_symbols c.requires.entries.reads.width_is ∙ sym c.group_symbols-turn.ensures in
    let turns : count * 8 * group_symbols c.args.self.now.width
    ≡ count * (8 * c.group_symbols-turn.result) =
    ap (λ n. count * 8 * n) size ∙ omega arith in
    omega (arith, turns, c.if-rest-read_len.false, c.max-read_len.ensures)

pub slice_bounds-decode_line-count : goal.slice_bounds-decode_line-count
slice_bounds-decode_line-count g c = c.loop.invariant.on.reached.so_far.fits

pub returns-after-loop : goal.returns-after-loop
returns-after-loop g c = c.loop.invariant.on

pub returns-then-ignored-eq0 : goal.returns-then-ignored-eq0
returns-then-ignored-eq0 g c = c.loop.invariant.on

pub returns-then-rest-read_len : goal.returns-then-rest-read_len
returns-then-rest-read_len g c = c.loop.invariant.on

pub overflow_add-start-then-found-gt0 : goal.overflow_add-start-then-found-gt0
overflow_add-start-then-found-gt0 g c =
    let reached = c.loop.invariant.on.reached in
    let start = c.loop.at.read + c.loop.at.ignored in
    let within = ends-within c.args.input.now start c.args.len (begins-within reached)
    c.decode_line-found.ensures.so_far.within in
    record { fits = omega (arith, within, reached.exact.limit) }

pub progress_at-at-requires : goal.progress_at-at-requires
progress_at-at-requires g c =
    let reached = c.loop.invariant.on.reached in
    let start = c.loop.at.read + c.loop.at.ignored in
    record {
      within = ends-within c.args.input.now start c.args.len (begins-within reached)
          c.decode_line-found.ensures.so_far.within;
    }

pub overflow_add-written : goal.overflow_add-written
overflow_add-written g c =
    let reached = c.loop.invariant.on.reached in
    record {
      fits = omega (
        arith,
        c.decode_line-found.ensures.so_far.fits,
        c.decode_line-found.auto.output,
        ap length (take_rest c.loop.output c.loop.at.written),
        length-drop c.loop.at.written c.loop.output,
        reached.so_far.fits,
      );
    }

pub overflow_add-at : goal.overflow_add-at
overflow_add-at g c =
    let reached = c.loop.invariant.on.reached in
    let start = c.loop.at.read + c.loop.at.ignored in
    record {
      fits = omega (
        arith,
        c.if-rest-read_len.false,
        c.max-read_len.ensures,
        ap length (take_rest c.args.input.now start),
        length-drop start c.args.input.now,
        begins-within reached,
        reached.exact.limit,
      );
    }

pub overflow_add-count : goal.overflow_add-count
overflow_add-count g c =
    record {
      fits = omega (
        arith,
        c.groups.ensures,
        div-le_self (c.args.len - 1) (group_symbols c.args.entries.join.now.width),
        c.requires.within,
        c.requires.at.exact.limit,
      );
    }

pub overflow_add-len : goal.overflow_add-len
overflow_add-len g c =
    record { fits = omega (arith, c.requires.within, c.requires.at.exact.limit) }

pub overflow_mul-turn : goal.overflow_mul-turn
overflow_mul-turn g c =
    record {
      fits = omega (
        arith,
        c.group_symbols-turn.ensures,
        group_symbols-few c.args.entries.join.now.width (join-width c.requires.entries.join),
      );
    }

pub overflow_sub-len : goal.overflow_sub-len
overflow_sub-len g c = c.requires.some

pub overflow_sub-output : goal.overflow_sub-output
overflow_sub-output g c = c.loop.invariant.on.reached.so_far.fits
