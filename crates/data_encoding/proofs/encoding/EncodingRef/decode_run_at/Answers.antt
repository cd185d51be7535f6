use Rattle.std.proofs.Common.{◌≡◌, ◌*◌, ◌/◌, length, ap, arith, length-drop, length-take-le}
use Rattle.std.proofs.Math.Nat.{div-mul-le_self, mod-eq-sub-div-mul}
use Rattle.std.proofs.lemmas.List.{take_rest}
use Rattle.data_encoding_meaning.specs.text.Base.{group_symbols}
use Rattle.data_encoding_kernel.proofs.decoding.JoinSizeLemmas.{join-group}
use Rattle.data_encoding.proofs.decoding.ReadGroupLemmas.{reads-run}
use Rattle.data_encoding.proofs.decoding.ShortLemmas.{read-joins}
use Rattle.data_encoding.proofs.encoding.EncodingRef.decode_run_at.Goals as goal

pub returns-clause-on : goal.returns-clause-on
returns-clause-on g c =
    let entries = c.requires.entries in
    let width = c.args.entries.join.now.width in
    let count = c.decode_run-read.result / group_symbols width in
    let whole : count * group_symbols width ≡ c.decode_run-read.result =
    omega (
      arith,
      c.decode_run-read.ensures.whole,
      mod-eq-sub-div-mul c.decode_run-read.result (group_symbols width),
      div-mul-le_self c.decode_run-read.result (group_symbols width),
    ) in
    rw (← whole, c.groups_len.ensures)
    (reads-run (join-group entries.join) c.args.self.now entries.reads.width_is c.args.part.now
    c.args.len c.requires.few c.args.output.now c.decode_run-read.new.output c.requires.at
    c.decode_run-read.auto.output count
    (c.decode_run-read.ensures.run c.args.self.now entries.reads))

pub is_padded_at-requires-clause-join : goal.is_padded_at-requires-clause-join
is_padded_at-requires-clause-join g c = read-joins c.requires.entries

pub is_padded_at-requires-clause-within : goal.is_padded_at-requires-clause-within
is_padded_at-requires-clause-within g c =
    omega (
      arith,
      c.requires.at.so_far.within,
      length-take-le c.args.len c.args.part.now c.requires.few,
    )

pub returns-then-is_padded_at-clause-on : goal.returns-then-is_padded_at-clause-on
returns-then-is_padded_at-clause-on g c = c.requires.at

pub decode_run-read-requires-clause-few : goal.decode_run-read-requires-clause-few
decode_run-read-requires-clause-few g c =
    omega (
      arith,
      c.requires.few,
      ap length (take_rest c.args.part.now c.args.at.read),
      length-drop c.args.at.read c.args.part.now,
    )

pub decode_run-read-requires-clause-room : goal.decode_run-read-requires-clause-room
decode_run-read-requires-clause-room g c =
    let room = rw (
      length-take-le c.args.len c.args.part.now c.requires.few,
      c.requires.entries.reads.width_is,
    ) at c.requires.at.room in
    omega (
      arith,
      room,
      ap length (take_rest c.args.output.now c.args.at.written),
      length-drop c.args.at.written c.args.output.now,
    )

pub overflow_add-result : goal.overflow_add-result
overflow_add-result g c =
    record {
      fits = omega (
        arith,
        c.decode_run-read.ensures.within,
        c.requires.at.so_far.within,
        length-take-le c.args.len c.args.part.now c.requires.few,
        c.ranges.len,
      );
    }

pub slice_bounds-decode_run-count : goal.slice_bounds-decode_run-count
slice_bounds-decode_run-count g c =
    omega (
      arith,
      c.requires.at.so_far.within,
      length-take-le c.args.len c.args.part.now c.requires.few,
      c.requires.few,
    )

pub slice_bounds-decode_run-count-2 : goal.slice_bounds-decode_run-count-2
slice_bounds-decode_run-count-2 g c = c.requires.at.so_far.fits
