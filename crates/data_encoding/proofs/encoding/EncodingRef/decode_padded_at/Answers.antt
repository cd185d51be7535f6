use Rattle.std.proofs.Common.{◌+◌, ◌*◌, ◌≤◌, refl, sym, ap, arith, length-take-le}
use Rattle.data_encoding_meaning.specs.text.Base.{group_symbols}
use Rattle.data_encoding_meaning.proofs.lists.PartLemmas.{length-part}
use Rattle.data_encoding_kernel.proofs.decoding.JoinSizeLemmas.{join-group}
use Rattle.data_encoding.proofs.decoding.JudgedGroupLemmas.{symbol-bits}
use Rattle.data_encoding_meaning.proofs.digits.WidthLemmas.{group_symbols-pos}
use Rattle.data_encoding.proofs.decoding.OutputLemmas.{reads-no_more}
use Rattle.data_encoding.proofs.decoding.ReadGroupLemmas.{group-room, reads-few, reads-group}
use Rattle.data_encoding.proofs.decoding.ShortLemmas.{read-joins}
use Rattle.data_encoding.proofs.encoding.EncodingRef.decode_padded_at.Given.{Over}
use Rattle.data_encoding.proofs.encoding.EncodingRef.decode_padded_at.Goals as goal
use Rattle.data_encoding.proofs.encoding.EncodingRef.decode_padded_at.Goals.{In-Ok}

pub decode_group-requires-clause-room : goal.decode_group-requires-clause-room
decode_group-requires-clause-room g c whole =
    let by = c.requires.entries in
    let enough : c.args.at.read + group_symbols c.args.entries.join.now.width ≤ c.args.len =
    omega (
      arith,
      ap group_symbols by.reads.width_is,
      c.if-not-is_padded_at.ensures.within refl,
    ) in
    let len = length-part c.args.at.read c.group_symbols.result c.args.part.now
    (omega (arith, c.group_symbols.ensures, enough, c.requires.few)) in
    rw (len, c.group_symbols.ensures, by.reads.width_is)
    (group-room (join-group by.join) c.args.self.now by.reads.width_is c.args.part.now c.args.len
    c.requires.few c.args.output.now c.args.output.now c.requires.at enough)

-- the bits of the symbols
few : (g : Over) (c : In-Ok g) → c.args.entries.join.now.width * c.in-Ok.count ≤ 48
few g c =
    let by = c.requires.entries in
    let own = ap group_symbols by.reads.width_is in
    let len = length-part c.args.at.read c.group_symbols.result c.args.part.now
    (omega (
      arith,
      own,
      c.group_symbols.ensures,
      c.if-not-is_padded_at.ensures.within refl,
      c.requires.few,
    )) in
    symbol-bits by.join (sym by.reads.width_is) c.in-Ok.ensures.sound.within
    (omega (arith, len, own, c.group_symbols.ensures))

pub bytes_len-requires : goal.bytes_len-requires
bytes_len-requires g c = record { fits = omega (arith, few g c) }

pub overflow_add-result : goal.overflow_add-result
overflow_add-result g c =
    let by = c.requires.entries in
    record {
      fits = omega (
        arith,
        c.requires.few,
        c.bytes_len.ensures,
        reads-few (join-group by.join) c.args.self.now by.reads.width_is c.args.part.now
            c.args.len c.requires.few c.args.output.now c.args.output.now c.requires.at,
        few g (goal.at.overflow_add-result g c).In-Ok,
      );
    }

pub returns-in-Ok-clause-on : goal.returns-in-Ok-clause-on
returns-in-Ok-clause-on g c =
    let by = c.requires.entries in
    rw (c.group_symbols.ensures, c.bytes_len.ensures)
    (reads-group (join-group by.join) c.args.self.now by.reads.width_is c.args.part.now c.args.len
    c.requires.few c.args.output.now c.decode_group.new.output c.requires.at
    c.decode_group.auto.output
    (omega (
      arith,
      ap group_symbols by.reads.width_is,
      c.if-not-is_padded_at.ensures.within refl,
    ))
    (c.if-not-is_padded_at.ensures.concatenates refl) {count = c.in-Ok.count}
    (rw c.group_symbols.ensures at c.in-Ok.ensures.sound))

pub is_padded_at-requires-clause-join : goal.is_padded_at-requires-clause-join
is_padded_at-requires-clause-join g c = read-joins c.requires.entries

pub is_padded_at-requires-clause-within : goal.is_padded_at-requires-clause-within
is_padded_at-requires-clause-within g c =
    omega (
      arith,
      c.requires.at.so_far.within,
      length-take-le c.args.len c.args.part.now c.requires.few,
    )

pub returns-then-not-is_padded_at-clause-on : goal.returns-then-not-is_padded_at-clause-on
returns-then-not-is_padded_at-clause-on g c = c.requires.at

pub returns-in-Err-clause-on : goal.returns-in-Err-clause-on
returns-in-Err-clause-on g c =
    reads-no_more _ c.requires.entries.reads.holds.is_width c.requires.at c.decode_group.auto.output

pub overflow_add-end : goal.overflow_add-end
overflow_add-end g c =
    record {
      fits = omega (
        arith,
        c.group_symbols.ensures,
        ap group_symbols c.requires.entries.reads.width_is,
        c.if-not-is_padded_at.ensures.within refl,
        c.requires.few,
      );
    }

pub slice_bounds-group-count : goal.slice_bounds-group-count
slice_bounds-group-count g c = omega arith

pub slice_bounds-room-count : goal.slice_bounds-room-count
slice_bounds-room-count g c = c.requires.at.so_far.fits

pub decode_group-requires-clause-few : goal.decode_group-requires-clause-few
decode_group-requires-clause-few g c =
    let own = ap group_symbols c.requires.entries.reads.width_is in
    let within = c.if-not-is_padded_at.ensures.within refl in
    let len = length-part c.args.at.read c.group_symbols.result c.args.part.now
    (omega (arith, own, c.group_symbols.ensures, within, c.requires.few)) in
    omega (arith, len, own, c.group_symbols.ensures)

pub decode_group-requires-clause-some : goal.decode_group-requires-clause-some
decode_group-requires-clause-some g c =
    let own = ap group_symbols c.requires.entries.reads.width_is in
    let within = c.if-not-is_padded_at.ensures.within refl in
    let len = length-part c.args.at.read c.group_symbols.result c.args.part.now
    (omega (arith, own, c.group_symbols.ensures, within, c.requires.few)) in
    omega (
      arith,
      len,
      own,
      c.group_symbols.ensures,
      group_symbols-pos c.args.self.now.width c.requires.entries.reads.holds.is_width,
    )

pub returns-in-Ok-clause-further : goal.returns-in-Ok-clause-further
returns-in-Ok-clause-further g c = omega arith
