use Rattle.std.proofs.Common.{◌*◌, ◌/◌, ◌≤◌, length, refl, arith}
use Rattle.data_encoding_meaning.specs.text.Base.{group_bytes, group_symbols}
use Rattle.data_encoding_kernel.proofs.decoding.SymbolRunLemmas.{turns-few, turns-room}
use Rattle.data_encoding_kernel.proofs.simd.decode.last_symbols.Join.decode_iterations.Given.{Over}
use Rattle.data_encoding_kernel.proofs.simd.decode.last_symbols.Join.decode_iterations.Goals.{After-groups-count}
use Rattle.data_encoding_kernel.proofs.simd.decode.last_symbols.Join.decode_iterations.Goals as goal

few : (g : Over) (c : After-groups-count g)
    → c.groups-count.result / 8 * 8 * group_symbols c.args.self.now.width ≤ length c.args.input.now
few g c =
    rw c.groups-count.ensures
    (turns-few {number = 8} {s = group_symbols c.args.self.now.width} (length c.args.input.now) refl
    refl)

pub decode_turns-requires-clause-few : goal.decode_turns-requires-clause-few
decode_turns-requires-clause-few g c =
    few g (goal.at.decode_turns-requires-clause-few g c).After-groups-count

pub decode_turns-requires-clause-room : goal.decode_turns-requires-clause-room
decode_turns-requires-clause-room g c =
    rw c.groups-count.ensures
    (turns-room {number = 8} {s = group_symbols c.args.self.now.width} (length c.args.input.now)
    (length c.args.output.now) (group_bytes c.args.self.now.width) refl refl c.requires.room)

pub returns-clause-within : goal.returns-clause-within
returns-clause-within g c =
    omega (
      arith,
      few g (goal.at.returns-clause-within g c).After-groups-count,
      c.decode_turns.ensures.within,
    )

pub returns-clause-run : goal.returns-clause-run
returns-clause-run g c = c.decode_turns.ensures.run
