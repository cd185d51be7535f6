use Rattle.std.proofs.Common.{◌≡◌, ◌+◌, ◌-◌, ◌/◌, ◌<◌, ◌≤◌, length, take, drop, ap, arith, length-drop, length-take-le}
use Rattle.std.proofs.Math.Nat.{mul-le-mul_right}
use Rattle.std.proofs.lemmas.List.{length-take, take_rest}
use Rattle.std.proofs.lemmas.Nat.{le-div}
use Rattle.data_encoding_meaning.specs.text.Base.{group_bytes, group_symbols}
use Rattle.data_encoding_meaning.proofs.digits.WidthLemmas.{group_symbols-pos}
use Rattle.data_encoding_meaning.specs.text.Grammar.{kept}
use Rattle.data_encoding_meaning.proofs.decoding.IgnoredFrontLemmas.{no_front}
use Rattle.data_encoding_meaning.proofs.grammar.PositionLemmas.{length-by_bytes}
use Rattle.data_encoding_meaning.proofs.lists.PartLemmas.{groups-within}
use Rattle.data_encoding_meaning.proofs.lists.WriteLemmas.{rewritten}
use Rattle.data_encoding.proofs.decoding.OutputLemmas.{begins-within, goes-nowhere_rest, moves-on}
use Rattle.data_encoding.proofs.decoding.PlacingLemmas.{IsPackedTo, packed-to}
use Rattle.data_encoding.proofs.decoding.StepLemmas.{room-next_run, under_way}
use Rattle.data_encoding.proofs.encoding.EncodingRef.decode_packed.Given.{Over}
use Rattle.data_encoding.proofs.encoding.EncodingRef.decode_packed.Goals as goal
use Rattle.data_encoding.proofs.encoding.EncodingRef.decode_packed.Goals.{After-span_before-end}

pub decode_groups-found-requires-clause-room : goal.decode_groups-found-requires-clause-room
decode_groups-found-requires-clause-room g c =
    let start = c.args.at.read + c.args.at.ignored in
    let rest = take (length c.args.input.now - start) (drop start c.args.input.now) in
    let size = group_symbols c.args.self.now.width in
    let count = c.pack-span.result.1 in
    let pos = group_symbols-pos c.args.self.now.width c.requires.entries.reads.holds.is_width in
    let fewer : count / size ≤ length rest / size =
    le-div (count / size) (length rest) size pos
    (omega (
      arith,
      groups-within count size,
      c.pack-span.ensures.few,
      c.pack-span.ensures.within,
    )) in
    omega (
      arith,
      mul-le-mul_right (group_bytes c.args.self.now.width) fewer,
      room-next_run (under_way c.requires.entries.reads.holds.is_width
          c.requires.at.exact c.requires.at.so_far) c.requires.at.front,
    )

pub returns-then-found-eq0 : goal.returns-then-found-eq0
returns-then-found-eq0 g c =
    goes-nowhere_rest _ c.requires.entries.reads.holds.is_width c.requires.at
    c.decode_groups-found.auto.output

-- the packed groups, placed in the text
reached : (g : Over) (c : After-span_before-end g)
    → IsPackedTo c.args.self.now c.args.input.now
    (c.args.at.read + c.args.at.ignored + c.span_before-end.result)
    (c.args.at.written + c.decode_groups-found.result.written)
    (c.pack-span.result.0 - c.span_before-end.result)
    (c.decode_groups-found.result.read ≡ c.pack-span.result.1)
    (rewritten c.args.at.written c.args.output.now c.decode_groups-found.new.output)
reached g c =
    let base = c.args.self.now in
    let start = c.args.at.read + c.args.at.ignored in
    let text = c.args.input.now in
    let span = c.pack-span.result.0 in
    let width = c.requires.entries.reads.holds.is_width in
    let whole = take_rest text start in
    let slice : take (start + span - start) (drop start text) ≡ take span (drop start text) =
    ap (λ n. take n (drop start text)) (omega arith) in
    let ignores = c.requires.entries.ignored in
    let within = rw whole at c.pack-span.ensures.within in
    let are = rw whole at (c.pack-span.ensures.kept base ignores) in
    let count_len = length-by_bytes (kept base (take span (drop start text))) _ are in
    let packed_len = length-take-le c.pack-span.result.1 c.pack-span.new.room
    c.pack-span.ensures.room in
    let before = rw slice at (c.span_before-end.ensures.ends base ignores
    (rw slice (omega (arith, count_len, packed_len)))) in
    let inside = rw slice at c.span_before-end.ensures.within in
    let some : 0 < c.decode_groups-found.result.read = omega (arith, c.if-found-eq0.false) in
    packed-to width c.requires.at c.decode_groups-found.new.output
    c.decode_groups-found.auto.output
    (record { few = c.pack-span.ensures.room; within = within; are = are })
    c.decode_groups-found.ensures some before inside

pub returns-then-found-count : goal.returns-then-found-count
returns-then-found-count g c =
    let at = (goal.at.returns-then-found-count g c).After-span_before-end in
    moves-on c.decode_groups-found.new.output c.requires.at c.decode_groups-found.auto.output
    (reached g at).so_far ((reached g at).front c.if-found-count.true) (omega arith)

pub returns-else-found-count : goal.returns-else-found-count
returns-else-found-count g c =
    let at = (goal.at.returns-else-found-count g c).After-span_before-end in
    moves-on c.decode_groups-found.new.output c.requires.at c.decode_groups-found.auto.output
    (reached g at).so_far (no_front c.args.self.now _) (omega arith)

pub overflow_add-start : goal.overflow_add-start
overflow_add-start g c =
    record { fits = omega (arith, begins-within c.requires.at, c.requires.at.exact.limit) }

pub slice_bounds-pack-count : goal.slice_bounds-pack-count
slice_bounds-pack-count g c = begins-within c.requires.at

pub slice_bounds-room-count : goal.slice_bounds-room-count
slice_bounds-room-count g c = c.requires.at.so_far.fits

pub decode_groups-found-requires-clause-entries : goal.decode_groups-found-requires-clause-entries
decode_groups-found-requires-clause-entries g c = c.requires.entries

pub decode_groups-found-requires-clause-few : goal.decode_groups-found-requires-clause-few
decode_groups-found-requires-clause-few g c = c.pack-span.ensures.room

-- the last groups end within the packed bytes
shorter : (g : Over) (c : After-span_before-end g) → c.span_before-end.result ≤ c.pack-span.result.0
shorter g c =
    let start = c.args.at.read + c.args.at.ignored in
    omega (
      arith,
      c.span_before-end.ensures.within,
      length-take (start + c.pack-span.result.0 - start) (drop start c.args.input.now),
    )

pub overflow_add-part : goal.overflow_add-part
overflow_add-part g c =
    let start = c.args.at.read + c.args.at.ignored in
    let inside = rw (take_rest c.args.input.now start) at c.pack-span.ensures.within in
    record {
      fits = omega (
        arith,
        inside,
        length-drop start c.args.input.now,
        begins-within c.requires.at,
        c.requires.at.exact.limit,
      );
    }

pub slice_bounds-part-count : goal.slice_bounds-part-count
slice_bounds-part-count g c = omega arith

pub overflow_sub-count : goal.overflow_sub-count
overflow_sub-count g c =
    omega (
      arith,
      c.decode_groups-found.ensures.so_far.within,
      length-take-le c.pack-span.result.1 c.pack-span.new.room c.pack-span.ensures.room,
    )

pub overflow_add-result : goal.overflow_add-result
overflow_add-result g c =
    record {
      fits = omega (
        arith,
        shorter g c,
        c.pack-span.ensures.within,
        ap length (take_rest c.args.input.now (c.args.at.read + c.args.at.ignored)),
        length-drop (c.args.at.read + c.args.at.ignored) c.args.input.now,
        begins-within c.requires.at,
        c.requires.at.exact.limit,
      );
    }

pub overflow_add-result-2 : goal.overflow_add-result-2
overflow_add-result-2 g c =
    record {
      fits = omega (
        arith,
        c.decode_groups-found.ensures.so_far.fits,
        c.decode_groups-found.auto.output,
        ap length (take_rest c.args.output.now c.args.at.written),
        length-drop c.args.at.written c.args.output.now,
        c.requires.at.so_far.fits,
      );
    }

pub overflow_sub-result : goal.overflow_sub-result
overflow_sub-result g c = shorter g (goal.at.overflow_sub-result g c).After-span_before-end
