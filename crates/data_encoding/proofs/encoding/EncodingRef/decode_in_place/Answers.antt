use Rattle.std.proofs.Common.{◌+◌, ◌<◌, length, ap, arith, length-drop}
use Rattle.std.proofs.lemmas.List.{take_rest}
use Rattle.data_encoding.proofs.decoding.OutputLemmas.{begins-within, ends-within, goes-nowhere_rest, moves-on}
use Rattle.data_encoding.proofs.decoding.PlacingLemmas.{placed-here}
use Rattle.data_encoding.proofs.decoding.StepLemmas.{room-next_run, under_way}
use Rattle.data_encoding.proofs.encoding.EncodingRef.decode_in_place.Goals as goal

pub decode_groups-found-requires-clause-room : goal.decode_groups-found-requires-clause-room
decode_groups-found-requires-clause-room g c =
    room-next_run (under_way c.requires.entries.reads.holds.is_width
    c.requires.at.exact c.requires.at.so_far) c.requires.at.front

pub returns-then-found-eq0-clause-on : goal.returns-then-found-eq0-clause-on
returns-then-found-eq0-clause-on g c =
    goes-nowhere_rest _ c.requires.entries.reads.holds.is_width c.requires.at
    c.decode_groups-found.auto.output

pub returns-clause-on : goal.returns-clause-on
returns-clause-on g c =
    let at = c.progress_at.ensures in
    let some : 0 < c.decode_groups-found.result.read = omega (arith, c.if-found-eq0.false) in
    moves-on c.decode_groups-found.new.output c.requires.at c.decode_groups-found.auto.output
    (rw (at.read, at.written) (placed-here c.requires.entries.reads.holds.is_width c.requires.at
    c.decode_groups-found.new.output c.decode_groups-found.auto.output _
    c.decode_groups-found.ensures some))
    (rw at.read (at.front c.args.self.now c.requires.entries.ignored)) (omega (arith, at.read))

pub overflow_add-start : goal.overflow_add-start
overflow_add-start g c =
    record { fits = omega (arith, begins-within c.requires.at, c.requires.at.exact.limit) }

pub slice_bounds-rest-count : goal.slice_bounds-rest-count
slice_bounds-rest-count g c = begins-within c.requires.at

pub slice_bounds-room-count : goal.slice_bounds-room-count
slice_bounds-room-count g c = c.requires.at.so_far.fits

pub overflow_add-start-2 : goal.overflow_add-start-2
overflow_add-start-2 g c =
    let start = c.args.at.read + c.args.at.ignored in
    let within = ends-within c.args.input.now start _ (begins-within c.requires.at)
    c.decode_groups-found.ensures.so_far.within in
    record { fits = omega (arith, within, c.requires.at.exact.limit) }

pub progress_at-requires : goal.progress_at-requires
progress_at-requires g c =
    let start = c.args.at.read + c.args.at.ignored in
    record {
      within = ends-within c.args.input.now start _ (begins-within c.requires.at)
          c.decode_groups-found.ensures.so_far.within;
    }

pub overflow_add-written : goal.overflow_add-written
overflow_add-written g c =
    record {
      fits = omega (
        arith,
        c.decode_groups-found.ensures.so_far.fits,
        c.decode_groups-found.auto.output,
        ap length (take_rest c.args.output.now c.args.at.written),
        length-drop c.args.at.written c.args.output.now,
        c.requires.at.so_far.fits,
      );
    }

pub returns-clause-past : goal.returns-clause-past
returns-clause-past g c =
    λ _. omega (arith, c.progress_at.ensures.read, c.if-found-eq0.false)
