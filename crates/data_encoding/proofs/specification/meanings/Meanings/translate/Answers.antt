use Rattle.std.proofs.Common.{◌≡◌, ℕ, ◌+◌, ◌<◌, ◌∙◌, List, length, get_or, drop, Result, Ok, arith}
use Rattle.std.proofs.lemmas.Grind.{common_steps}
use Rattle.data_encoding_meaning.specs.declared.encoding.Character.{Character}
use Rattle.data_encoding_meaning.specs.declared.refusal.Refusal.{Refusal}
use Rattle.data_encoding_meaning.specs.specification.Fields.{pair_judgements}
use Rattle.data_encoding_meaning.specs.specification.MeaningTable.{meanings_after, translated}
use Rattle.data_encoding.proofs.specification.meanings.Meanings.translate.Goals as goal

-- the next pair is judged
next : (meanings : List Character) (from to : List ℕ) (index : ℕ)
    (r : Result (List Character) Refusal) → index < length from → length from ≡ length to
    → translated meanings (get_or from index 0) (get_or to index 0) ≡ r
    → meanings_after r (pair_judgements (drop (index + 1) from) (drop (index + 1) to))
    ≡ meanings_after (Ok meanings) (pair_judgements (drop index from) (drop index to))
next meanings from to index r inside len is = grind (arith, common_steps)

pub loop-index-preserved : goal.loop-index-preserved
loop-index-preserved c =
    next c.loop-index.self c.args.from.now c.args.to.now c.loop-index.index
    (Ok c.translate_byte.new.self) c.loop-index-test.true c.if-from-to.false
    c.in_ok-translate_byte.ensures.defined
    ∙ c.loop-index.invariant
