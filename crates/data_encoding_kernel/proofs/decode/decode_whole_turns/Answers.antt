use Rattle.std.proofs.Common.{length, arith}
use Rattle.data_encoding_kernel.proofs.decoding.SymbolRunLemmas.{groups-monotone, turns-few, turns-room}
use Rattle.data_encoding_meaning.proofs.lists.PartLemmas.{IsWhole-group}
use Rattle.data_encoding_kernel.proofs.decode.decode_whole_turns.Goals as goal

pub decode_turns-requires-clause-few : goal.decode_turns-requires-clause-few
decode_turns-requires-clause-few g c =
    turns-few (length c.args.input.now) c.GROUPS.ensures c.SYMBOLS.ensures

pub decode_turns-requires-clause-room : goal.decode_turns-requires-clause-room
decode_turns-requires-clause-room g c =
    turns-room (length c.args.input.now) (length c.args.output.now) g.G.GroupSize.BYTES
    c.GROUPS.ensures c.SYMBOLS.ensures c.requires.room

pub returns-clause-within : goal.returns-clause-within
returns-clause-within g c =
    let whole = IsWhole-group g.G.GroupSize.WIDTH g.G.GroupSize.BYTES g.G.GroupSize.SYMBOLS
    g.G.GroupSize.is_group in
    groups-monotone c.decode_turns.result (length c.args.input.now) c.SYMBOLS-2.ensures
    whole.some_symbols
    (omega (
      arith,
      c.decode_turns.ensures.within,
      turns-few (length c.args.input.now) c.GROUPS.ensures c.SYMBOLS.ensures,
    ))

pub returns-clause-run : goal.returns-clause-run
returns-clause-run g c = rw c.SYMBOLS-2.ensures c.decode_turns.ensures.run
