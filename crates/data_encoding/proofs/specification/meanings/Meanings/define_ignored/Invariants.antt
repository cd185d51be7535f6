use Rattle.std.proofs.Common.{◌≡◌, drop, Ok}
use Rattle.data_encoding_meaning.specs.specification.Fields.{ignored_judgements}
use Rattle.data_encoding_meaning.specs.specification.MeaningTable.{meanings_after}
use Rattle.data_encoding.proofs.specification.meanings.Meanings.define_ignored.Given as goal

abbrev pub invariant-loop-index : goal.invariant-loop-index
invariant-loop-index l =
    meanings_after (Ok l.self) (ignored_judgements (drop l.index l.bytes))
    ≡ meanings_after (Ok l.initial.self) (ignored_judgements l.bytes)
