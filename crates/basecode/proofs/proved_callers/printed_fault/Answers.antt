use Rattle.std.proofs.Common.{rules, ◌≡◌, ℕ, List, [], ◌∷◌, ◌++◌, ◌∙◌, ap, sym, refl, subst, codes, get_or, is_some, string_bytes, IsSome, None}
use Rattle.std.proofs.lemmas.Bool.{false≢true}
use Rattle.std.proofs.lemmas.Result.{IfOk-weaker}
use Rattle.std.specs.declared.string.String.{String}
use Rattle.std.specs.declared.alloc.Global.{Global}
use Rattle.basecode.specs.Faults.{printed_word_fault}
use Rattle.data_encoding.specs.Named.{fields_named}
use Rattle.basecode.specs.Arguments.{AreRequest, IsWrong, ask_of, texts}
use Rattle.basecode.specs.declared.fault.WordFault.{WordFault}
use Rattle.basecode.specs.declared.fault.WordFault.TheVariants.{Usage, UnknownName}
use Rattle.basecode.proofs.ArgumentLemmas.{name_requested, printed_name}
use Rattle.basecode.proofs.proved_callers.printed_fault.Goals as goal

pub returns-in-Ok-clause-no_name : goal.returns-in-Ok-clause-no_name
returns-in-Ok-clause-no_name c = λ some unknown.
    let known : AreRequest (c.args.verb.now ∷ c.args.name.now ∷ []) c.in-Ok.field-0 =
    search rules in
    absurd (name_requested c.args.verb.now c.args.name.now _ known unknown)

pub returns-clause-no_name : goal.returns-clause-no_name
returns-clause-no_name c =
    let wrong : IsWrong (c.args.verb.now ∷ c.args.name.now ∷ []) c.in-Err.fault =
    search rules in
    let IsPrinted : String Global → Type 0 =
    λ line. string_bytes line ≡ printed_word_fault c.in-Err.fault in
    let IsName : String Global → Type 0 =
    λ line. IsSome (ask_of c.args.verb.now) → fields_named c.args.name.now ≡ None
    → string_bytes line ≡ codes "unknown encoding: " ++ c.args.name.now in
    IfOk-weaker _ IsPrinted IsName
    (λ line printed some unknown. printed ∙ printed_name _ _ _ wrong some) c.format.ensures.ok

-- what is printed where nothing is asked
printed_usage : (word name : List ℕ) (fault : WordFault) → IsWrong (word ∷ name ∷ []) fault
    → ask_of word ≡ None → printed_word_fault fault ≡ printed_word_fault Usage
printed_usage word name Usage wrong none = refl
printed_usage word name (UnknownName given) wrong none =
    let asked = ap (λ words. is_some (ask_of (get_or words 0 word))) wrong.1 ∙ wrong.2 in
    absurd (false≢true (sym (ap is_some none) ∙ asked))

pub returns-clause-no_verb : goal.returns-clause-no_verb
returns-clause-no_verb c =
    let are = ap texts c.deref.ensures.value ∙ c.in_ok-words.ensures in
    let wrong = subst (λ words. IsWrong words c.in-Err.fault) are c.in-Err.ensures.fault in
    let IsPrinted : String Global → Type 0 =
    λ line. string_bytes line ≡ printed_word_fault c.in-Err.fault in
    let IsUsage : String Global → Type 0 =
    λ line. ask_of c.args.verb.now ≡ None → string_bytes line ≡ printed_word_fault Usage in
    IfOk-weaker _ IsPrinted IsUsage
    (λ line printed none. printed ∙ printed_usage _ _ _ wrong none) c.format.ensures.ok
