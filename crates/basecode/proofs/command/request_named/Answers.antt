use Rattle.std.proofs.Common.{◌≡◌, ◌↔◌, [], ◌∷◌, ◌∙◌, Bool, true, false, None, Some, cond, ap, subst, refl, sym, arith}
use Rattle.std.proofs.lemmas.Bool.{false≢true}
use Rattle.std.proofs.lemmas.Grind.{common_steps}
use Rattle.std.proofs.lemmas.Option.{none-some}
use Rattle.basecode.specs.Arguments.{Asks, IsWrong, Names, request_of, texts}
use Rattle.basecode.proofs.ArgumentLemmas.{texts_of_one, texts_of_two}
use Rattle.basecode.proofs.command.request_named.Goals.{After-as_str-in-len2-2}
use Rattle.basecode.proofs.command.request_named.Goals as goal

pub returns-in-len1-clause-asked : goal.returns-in-len1-clause-asked
returns-in-len1-clause-asked c =
    ap request_of (texts_of_one c.args.words.now c.word-item.result c.as_str.result.now
    c.in-len1.len_at_least c.in-len1.len_below c.word-item.is c.as_str.ensures.value)
    ∙ ap (λ (is : Bool). cond is (Some Names) None) (sym c.eq.ensures ∙ c.if-eq.true)

pub returns-in-len1-clause-wrong : goal.returns-in-len1-clause-wrong
returns-in-len1-clause-wrong c = (
  λ err. absurd (false≢true err),
  λ none. absurd (none-some _ (sym none ∙ returns-in-len1-clause-asked c)),
)

-- the arguments are two
are : (c : After-as_str-in-len2-2)
    → texts c.args.words.now ≡ c.as_str-in-len2.result.now ∷ c.as_str-in-len2-2.result.now ∷ []
are c =
    texts_of_two c.args.words.now c.word-item-then-words-lt3.result c.name-item.result
    c.as_str-in-len2.result.now c.as_str-in-len2-2.result.now c.in-len2.len_at_least
    c.in-len2.len_below c.word-item-then-words-lt3.is c.name-item.is
    c.as_str-in-len2.ensures.value c.as_str-in-len2-2.ensures.value

pub returns-in-Ok-clause-asked : goal.returns-in-Ok-clause-asked
returns-in-Ok-clause-asked c =
    subst (λ words. Asks words c.in-Ok.task.ask c.in-Ok.task.encoding)
    (sym (are (goal.at.returns-in-Ok-clause-asked c).After-as_str-in-len2-2)) c.in-Ok.ensures.asked

pub returns-in-Ok-clause-wrong : goal.returns-in-Ok-clause-wrong
returns-in-Ok-clause-wrong c =
    subst (λ words. (false ≡ true) ↔ (request_of words ≡ None))
    (sym (are (goal.at.returns-in-Ok-clause-wrong c).After-as_str-in-len2-2)) c.in-Ok.ensures.wrong

pub returns-in-Err-clause-wrong : goal.returns-in-Err-clause-wrong
returns-in-Err-clause-wrong c =
    subst (λ words. (true ≡ true) ↔ (request_of words ≡ None))
    (sym (are (goal.at.returns-in-Err-clause-wrong c).After-as_str-in-len2-2))
    c.in-Err.ensures.wrong

pub returns-in-Err-clause-fault : goal.returns-in-Err-clause-fault
returns-in-Err-clause-fault c =
    subst (λ words. IsWrong words c.in-Err.fault)
    (sym (are (goal.at.returns-in-Err-clause-fault c).After-as_str-in-len2-2))
    c.in-Err.ensures.fault

pub returns-in_default-clause-asked : goal.returns-in_default-clause-asked
returns-in_default-clause-asked c = tt

pub returns-in_default-clause-wrong : goal.returns-in_default-clause-wrong
returns-in_default-clause-wrong c = (λ err. grind (arith, common_steps), λ none. refl)
