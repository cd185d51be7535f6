use Rattle.std.proofs.Common.{◌≡◌, ℕ, ◌+◌, ◌<◌, ◌∙◌, List, length, get_or, drop, Result, Ok, Err, sym, arith}
use Rattle.std.proofs.lemmas.Bool.Decides.{nat_tests}
use Rattle.std.proofs.lemmas.Grind.{common_steps}
use Rattle.std.proofs.lemmas.Result.{err_from_is_err_and}
use Rattle.data_encoding_meaning.specs.declared.encoding.Character.{Character}
use Rattle.data_encoding_meaning.specs.declared.refusal.Refusal.{Refusal}
use Rattle.data_encoding_meaning.specs.specification.Entries.{meaning_of_entry}
use Rattle.data_encoding_meaning.specs.specification.Fields.{symbol_judgements}
use Rattle.data_encoding_meaning.specs.specification.MeaningTable.{defined, meanings_after}
use Rattle.data_encoding.proofs.specification.meanings.Meanings.define_symbols.Goals as goal

-- the next symbol is judged
next : (meanings : List Character) (symbols : List ℕ) (value : ℕ)
    (r : Result (List Character) Refusal) → value < length symbols → value < 64
    → defined meanings (get_or symbols value 0) (meaning_of_entry value) ≡ r
    → meanings_after r (symbol_judgements (value + 1) (drop (value + 1) symbols))
    ≡ meanings_after (Ok meanings) (symbol_judgements value (drop value symbols))
next meanings symbols value r inside few is = grind (arith, nat_tests, common_steps)

pub loop-value-preserved : goal.loop-value-preserved
loop-value-preserved c =
    next c.loop-value.self c.args.symbols.now c.loop-value.value (Ok c.define.new.self)
    c.loop-value-test.true (omega (arith, c.requires)) c.in_ok-define.ensures.defined
    ∙ c.loop-value.invariant

pub returns-in_err-define-clause-refused : goal.returns-in_err-define-clause-refused
returns-in_err-define-clause-refused c =
    let p = err_from_is_err_and c.from_residual.result c.from_residual.ensures.1 in
    rw (p.1, p.2) (sym c.loop-value.invariant
    ∙ sym (next c.loop-value.self c.args.symbols.now c.loop-value.value
    (Err c.in_err-define.field-0.0) c.loop-value-test.true (omega (arith, c.requires))
    c.in_err-define.ensures.refused))
