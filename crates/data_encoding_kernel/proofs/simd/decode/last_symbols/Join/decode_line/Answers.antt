use Rattle.std.proofs.Common.{◌*◌, ◌/◌, ◌≤◌, length, refl, arith}
use Rattle.std.proofs.Math.Nat.{mul-le-mul_right}
use Rattle.data_encoding_meaning.specs.text.Base.{group_bytes, group_symbols}
use Rattle.data_encoding_meaning.proofs.digits.WidthLemmas.{group_symbols-pos}
use Rattle.data_encoding_meaning.proofs.lists.PartLemmas.{groups-within}
use Rattle.data_encoding_kernel.proofs.decoding.JoinSizeLemmas.{join-group}
use Rattle.data_encoding_kernel.proofs.decoding.ShorterRunLemmas.{run-shorter}
use Rattle.data_encoding_kernel.proofs.decoding.SymbolRunLemmas.{groups-at_most, groups-monotone, run-cut}
use Rattle.data_encoding_kernel.proofs.simd.decode.last_symbols.Join.decode_line.Goals as goal

pub returns-clause-run : goal.returns-clause-run
returns-clause-run g c = λ values held base reads.
    let w = c.args.self.now.width in
    let symbols = group_symbols w in
    let bytes = group_bytes w in
    let group = join-group c.requires.join in
    let some = group_symbols-pos w group.is_width in
    let found = c.decode_turns.result in
    let read = c.min.result in
    let input = c.args.input.now in
    let old = c.args.output.now in
    let new = c.decode_turns.new.output in
    let most : found / symbols ≤ c.args.count * 8 =
    groups-at_most found (c.args.count * 8) some c.decode_turns.ensures.within in
    let room : found / symbols * bytes ≤ length new =
    omega (arith, mul-le-mul_right bytes most, c.requires.room, c.decode_turns.auto.output) in
    let few : read / symbols ≤ found / symbols =
    groups-monotone read found refl some (omega (arith, c.min.ensures)) in
    run-cut base reads.holds.is_width w bytes symbols group reads.width_is input old new
    (read / symbols) c.args.len (omega (arith, groups-within read symbols, c.min.ensures))
    (run-shorter base reads.holds.is_width w bytes symbols group reads.width_is input old new
    (found / symbols) (read / symbols) room few
    (c.decode_turns.ensures.run values held base reads))
