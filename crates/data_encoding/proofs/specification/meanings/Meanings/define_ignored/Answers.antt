use Rattle.std.proofs.Common.{◌≡◌, ℕ, ◌+◌, ◌<◌, ◌∙◌, List, length, get_or, drop, Result, Ok, Err, sym, arith}
use Rattle.std.proofs.lemmas.Grind.{common_steps}
use Rattle.std.proofs.lemmas.Result.{err_from_is_err_and}
use Rattle.data_encoding_meaning.specs.declared.encoding.Character.{Character}
use Rattle.data_encoding_meaning.specs.declared.refusal.Refusal.{Refusal}
use Rattle.data_encoding_meaning.specs.specification.Entries.{meaning_of_entry}
use Rattle.data_encoding_meaning.specs.specification.Fields.{ignored_judgements}
use Rattle.data_encoding_meaning.specs.specification.MeaningTable.{defined, meanings_after}
use Rattle.data_encoding.proofs.specification.meanings.Meanings.define_ignored.Goals as goal

-- the next byte is judged
next : (meanings : List Character) (bytes : List ℕ) (index : ℕ)
    (r : Result (List Character) Refusal) → index < length bytes
    → defined meanings (get_or bytes index 0) (meaning_of_entry 129) ≡ r
    → meanings_after r (ignored_judgements (drop (index + 1) bytes))
    ≡ meanings_after (Ok meanings) (ignored_judgements (drop index bytes))
next meanings bytes index r inside is = grind (arith, common_steps)

pub loop-index-preserved : goal.loop-index-preserved
loop-index-preserved c =
    next c.loop-index.self c.args.bytes.now c.loop-index.index (Ok c.define.new.self)
    c.loop-index-test.true c.in_ok-define.ensures.defined
    ∙ c.loop-index.invariant

pub returns-in_err-define-clause-refused : goal.returns-in_err-define-clause-refused
returns-in_err-define-clause-refused c =
    let p = err_from_is_err_and c.from_residual.result c.from_residual.ensures.1 in
    rw (p.1, p.2) (sym c.loop-index.invariant
    ∙ sym (next c.loop-index.self c.args.bytes.now c.loop-index.index
    (Err c.in_err-define.field-0.0) c.loop-index-test.true c.in_err-define.ensures.refused))
