use Rattle.std.proofs.Common.{◌≡◌, drop, Ok}
use Rattle.data_encoding_meaning.specs.specification.Fields.{symbol_judgements}
use Rattle.data_encoding_meaning.specs.specification.MeaningTable.{meanings_after}
use Rattle.data_encoding.proofs.specification.meanings.Meanings.define_symbols.Given as goal

abbrev pub invariant-loop-value : goal.invariant-loop-value
invariant-loop-value l =
    meanings_after (Ok l.self) (symbol_judgements l.value (drop l.value l.symbols))
    ≡ meanings_after (Ok l.initial.self) (symbol_judgements 0 l.symbols)
