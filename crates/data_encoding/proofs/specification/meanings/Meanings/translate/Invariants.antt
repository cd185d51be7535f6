use Rattle.std.proofs.Common.{◌≡◌, drop, Ok}
use Rattle.data_encoding_meaning.specs.specification.Fields.{pair_judgements}
use Rattle.data_encoding_meaning.specs.specification.MeaningTable.{meanings_after}
use Rattle.data_encoding.proofs.specification.meanings.Meanings.translate.Given as goal

abbrev pub invariant-loop-index : goal.invariant-loop-index
invariant-loop-index l =
    meanings_after (Ok l.self) (pair_judgements (drop l.index l.from) (drop l.index l.to))
    ≡ meanings_after (Ok l.initial.self) (pair_judgements l.from l.to)
