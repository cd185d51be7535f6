use Rattle.std.proofs.Common.{◌≡◌, ◌+◌, ◌*◌, ◌/◌, refl, ap, ◌∙◌, length, arith}
use Rattle.data_encoding_meaning.specs.text.Base.{group_bytes, group_symbols}
use Rattle.data_encoding_meaning.proofs.digits.SizeLemmas.{room-same}
use Rattle.data_encoding_meaning.proofs.digits.WidthLemmas.{group_symbols-pos}
use Rattle.data_encoding_kernel.proofs.decoding.SymbolRunLemmas.{groups-of_product}
use Rattle.data_encoding.proofs.decoding.ShortLemmas.{joins-reads, joins-width, room-all, run-reached, start-reached}
use Rattle.data_encoding.proofs.encoding.EncodingRef.decode_eights.Goals as goal

pub decode_iterations-read-requires-clause-room : goal.decode_iterations-read-requires-clause-room
decode_iterations-read-requires-clause-room g c =
    let joins = c.requires.join in
    let width = joins-width joins in
    room-same (length c.args.input.now) (length c.args.output.now)
    (ap group_bytes joins.width_is) (ap group_symbols joins.width_is)
    (omega (arith, room-all width (start-reached width c.requires.exact)))

pub returns : goal.returns
returns g c =
    let base = c.args.self.now in
    let joins = c.requires.join in
    let finds = c.requires.finds in
    let width = joins-width joins in
    let s = group_symbols base.width in
    let b = group_bytes base.width in
    let count = c.decode_iterations-read.result / s in
    let run = rw joins.width_is at (c.decode_iterations-read.ensures.run finds.values finds.held
    base (joins-reads joins finds.is_table)) in
    let read : c.whole_groups-read.result ≡ count * s =
    c.whole_groups-read.ensures
    ∙ (λ i. c.decode_iterations-read.result / group_symbols (joins.width_is i)
    * group_symbols (joins.width_is i)) in
    let written : c.groups_len.result ≡ count * b =
    c.groups_len.ensures
    ∙ (λ i. read i / group_symbols (joins.width_is i) * group_bytes (joins.width_is i))
    ∙ ap (λ n. n * b) (groups-of_product count s refl (group_symbols-pos base.width width)) in
    let zero : 0 + count * s ≡ count * s = omega arith in
    let none : 0 + count * b ≡ count * b = omega arith in
    record {
      reached = rw (read, written) (rw (zero, none) at (run-reached width
          (start-reached width c.requires.exact) c.decode_iterations-read.new.output
          c.decode_iterations-read.auto.output count (omega (arith, run.within)) run.are_symbols
          (rw none run.bytes)));
    }
