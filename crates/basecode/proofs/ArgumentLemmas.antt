-- Lemmas on the arguments of a command line.
use Rattle.std.proofs.Common.{◌↔◌, ◌≡◌, ℕ, ◌<◌, ◌≤◌, List, [], ◌∷◌, length, ◌++◌, codes, get_or, is_some, IsSome, Bool, true, false, Option, None, Some, option_map, ap, subst, refl, sym, ◌∙◌, arith, string_bytes, inl, inr}
use Rattle.std.proofs.lemmas.Bool.{false≢true}
use Rattle.std.proofs.lemmas.Option.{none-some, same_Some}
use Rattle.std.specs.Io.KnownBytes.{IsAtEnd}
use Rattle.std.specs.Result.{result_ok}
use Rattle.std.specs.declared.string.String.{String}
use Rattle.std.specs.declared.alloc.Global.{Global}
use Rattle.data_encoding.specs.Fields.{Fields, base_of}
use Rattle.data_encoding.specs.Base.{Base}
use Rattle.data_encoding.specs.Canonical.{IsCanonical}
use Rattle.data_encoding.specs.Named.{fields_named, IsNamed}
use Rattle.encoding_stream.specs.Watch.{from_to}
use Rattle.basecode.specs.Faults.{printed_word_fault}
use Rattle.basecode.specs.Arguments.{AreRequest, Asks, IsWrong, Names, Of, Request, Task, ask_of, both, texts}
use Rattle.basecode.specs.Run.{Answers, Begins, Begun, ByAnswer, ByReply, Done, Fulfils, OfNames, OfQuestion, Replies, IsCanonicalLine, truth}
use Rattle.basecode.specs.declared.command.Ask.{Ask}
use Rattle.basecode.specs.declared.command.Ask.TheVariants.{Conversion, Question}
use Rattle.basecode.specs.declared.command.Request.{Request as Requested}
use Rattle.basecode.specs.declared.command.Request.TheVariants.{List as ListRequested, Of as OfRequested}
use Rattle.basecode.specs.declared.command.Task.{Task as Asked}
use Rattle.basecode.specs.declared.command.Verb.{Verb}
use Rattle.basecode.specs.declared.fault.WordFault.{WordFault}
use Rattle.basecode.specs.declared.fault.WordFault.TheVariants.{Usage, UnknownName}

-- a list of two is its two items
two_is : {X : Type 0} (xs : List X) (x y : X) → 2 ≤ length xs → length xs < 3
    → x ≡ get_or xs 0 x → y ≡ get_or xs 1 y → xs ≡ x ∷ y ∷ []
two_is [] x y least below first second = absurd (omega arith)
two_is (a ∷ []) x y least below first second = absurd (omega arith)
two_is (a ∷ b ∷ []) x y least below first second = λ i. sym first i ∷ sym second i ∷ []
two_is (a ∷ b ∷ c ∷ xs) x y least below first second = absurd (omega arith)

-- the bytes of two arguments, or of one
pub texts_of_two : (words : List (String Global)) (x y : String Global) (first second : List ℕ)
    → 2 ≤ length words → length words < 3 → x ≡ get_or words 0 x → y ≡ get_or words 1 y
    → first ≡ string_bytes x → second ≡ string_bytes y → texts words ≡ first ∷ second ∷ []
texts_of_two words x y first second least below is_x is_y of_x of_y =
    ap texts (two_is words x y least below is_x is_y) ∙ (λ i. sym of_x i ∷ sym of_y i ∷ [])

pub texts_of_one : (words : List (String Global)) (x : String Global) (first : List ℕ)
    → 1 ≤ length words → length words < 2 → x ≡ get_or words 0 x
    → first ≡ string_bytes x → texts words ≡ first ∷ []
texts_of_one [] x first least below is_x of_x = absurd (omega arith)
texts_of_one (a ∷ []) x first least below is_x of_x =
    λ i. (ap string_bytes (sym is_x) ∙ sym of_x) i ∷ []
texts_of_one (a ∷ b ∷ words) x first least below is_x of_x = absurd (omega arith)

abbrev task_in : Option Request → Option Task
task_in (Some (Of task)) = Some task
task_in _ = None

task_in-Of : (t : Option Task) → task_in (option_map Of t) ≡ t
task_in-Of (Some task) = refl
task_in-Of None = refl

both_ask : (v : Option Ask) (f : Option Fields) (given : Ask) (task : Task)
    → v ≡ Some given → both v f ≡ Some task → task.ask ≡ given
both_ask (Some v) (Some f) given task is both_is =
    sym (ap (λ (t : Task). t.ask) (same_Some _ _ both_is)) ∙ same_Some _ _ is
both_ask (Some v) None given task is both_is = absurd (none-some _ both_is)
both_ask None f given task is both_is = absurd (none-some _ is)

both_fields : (v : Option Ask) (f : Option Fields) (given : Fields) (task : Task)
    → f ≡ Some given → both v f ≡ Some task → task.fields ≡ given
both_fields (Some v) (Some f) given task is both_is =
    sym (ap (λ (t : Task). t.fields) (same_Some _ _ both_is)) ∙ same_Some _ _ is
both_fields (Some v) None given task is both_is = absurd (none-some _ both_is)
both_fields None f given task is both_is = absurd (none-some _ both_is)

no_fields : (v : Option Ask) (f : Option Fields) (task : Task)
    → f ≡ None → both v f ≡ Some task → ⊥
no_fields (Some v) (Some f) task none both_is = none-some _ (sym none)
no_fields (Some v) None task none both_is = none-some _ both_is
no_fields None f task none both_is = none-some _ both_is

-- the names are asked for by one argument
names_by_two : (t : Option Task) → option_map Of t ≡ Some Names → ⊥
names_by_two (Some task) is = absurd (none-some _ (sym (ap task_in is)))
names_by_two None is = absurd (none-some _ is)

-- A request that asks this about an encoding asks it about its base.
pub Asks-request : (words : List (List ℕ)) (request : Requested) (task : Asked) (ask : Ask)
    → request ≡ OfRequested task → task.ask ≡ ask → AreRequest words request
    → Asks words ask task.encoding
Asks-request words request task ask is asks are =
    subst (λ a. Asks words a task.encoding) asks (subst (AreRequest words) is are)

abbrev verb_in : Verb → Ask → Verb
verb_in other (Conversion verb) = verb
verb_in other Question = other

abbrev is_question : Ask → Bool
is_question (Conversion verb) = false
is_question Question = true

module _ (word name : List ℕ) (ask : Ask) (base : Base)
    (asked : Asks (word ∷ name ∷ []) ask base) where
  is_task : both (ask_of word) (fields_named name)
      ≡ Some (record { ask = ask; fields = asked.fields })
  is_task = sym (task_in-Of (both (ask_of word) (fields_named name))) ∙ ap task_in asked.is_request

  -- what two arguments ask
  ask_asked : (given : Ask) → ask_of word ≡ Some given → ask ≡ given
  ask_asked given is = both_ask _ _ given _ is is_task

  -- the base that two arguments ask about
  pub base_asked : (named : Base) → IsNamed name named → base ≡ named
  base_asked named known =
      let same = both_fields _ _ known.fields _ known.is_known is_task in
      same_Some _ _ (ap result_ok (sym asked.is_built ∙ ap base_of same ∙ known.is_built))

  -- a name that is asked for is known
  name_asked : fields_named name ≡ None → ⊥
  name_asked unknown = no_fields _ _ _ unknown is_task

-- a name in a request is known
pub name_requested : (word name : List ℕ) (request : Requested)
    → AreRequest (word ∷ name ∷ []) request → fields_named name ≡ None → ⊥
name_requested word name ListRequested are unknown =
    names_by_two (both (ask_of word) (fields_named name)) are
name_requested word name (OfRequested task) are unknown =
    name_asked word name task.ask task.encoding are unknown

-- the conversion that two arguments ask for
pub verb_asked : (word name : List ℕ) (verb : Verb) (base : Base)
    → Asks (word ∷ name ∷ []) (Conversion verb) base
    → (given : Verb) → ask_of word ≡ Some (Conversion given) → verb ≡ given
verb_asked word name verb base asked given is =
    ap (verb_in given) (ask_asked word name (Conversion verb) base asked (Conversion given) is)

-- two arguments that ask for a conversion
module _ (word name : List ℕ) (given : Verb) (asks : ask_of word ≡ Some (Conversion given)) where
  -- no reply is asked for
  no_reply : (old new : Option (List ℕ)) (output : List ℕ)
      → Replies (word ∷ name ∷ []) old new output → ⊥
  no_reply old new output (OfQuestion its asked keeps is) =
      false≢true (sym (ap is_question
      (ask_asked word name Question its asked (Conversion given) asks)))
  no_reply old new output (OfNames is keeps listed) =
      names_by_two (both (ask_of word) (fields_named name)) is

  -- what holds for the verb that is asked for holds for this one
  pub same_verb : (P : Verb → Type 0) (verb : Verb) (base : Base)
      → Asks (word ∷ name ∷ []) (Conversion verb) base → P verb → P given
  same_verb P verb base asked = subst P (verb_asked word name verb base asked given asks)

  -- and what holds for the base too, for the base with that name
  pub same_task : (P : Verb → Base → Type 0) (verb : Verb) (other : Base)
      → Asks (word ∷ name ∷ []) (Conversion verb) other → P verb other
      → (base : Base) → IsNamed name base → P given base
  same_task P verb other asked holds base known =
      same_verb (λ v. P v base) verb other asked
      (subst (P verb) (base_asked word name (Conversion verb) other asked base known) holds)

  -- what fulfils the arguments was read to its end
  pub fulfilled_whole : (old new : Option (List ℕ)) (output : List ℕ)
      → Fulfils (word ∷ name ∷ []) old new output → IsAtEnd new
  fulfilled_whole old new output (ByAnswer verb other asked answers) = answers.at_end
  fulfilled_whole old new output (ByReply replies) = absurd (no_reply old new output replies)

  -- and is its answer
  pub fulfilled : (old new : Option (List ℕ)) (output : List ℕ)
      → Fulfils (word ∷ name ∷ []) old new output
      → (base : Base) → IsNamed name base → Answers given base old new output
  fulfilled old new output (ByAnswer verb other asked answers) =
      same_task (λ v b. Answers v b old new output) verb other asked answers
  fulfilled old new output (ByReply replies) = absurd (no_reply old new output replies)

  -- what has begun is that conversion
  pub begun : (read_old read_new written_old written_new : Option (List ℕ))
      → Begun (word ∷ name ∷ []) (from_to read_old read_new) (from_to written_old written_new)
      → (base : Base) → IsNamed name base
      → Begins given base (from_to read_old read_new) (from_to written_old written_new)
  begun read_old read_new written_old written_new has =
      elim has.is_begun [
        | inl answer ↦
            same_task (λ v b. Begins v b (from_to read_old read_new)
            (from_to written_old written_new)) answer.verb
            answer.base answer.asked answer.begins
        | inr reply ↦ absurd (no_reply read_old read_new reply.output reply.replies)
      ]

-- the arguments ask whether data has one text only, in the encoding with a name
module _ (name : List ℕ) (base : Base) (known : IsNamed name base) where
  fulfilled_answered : (old new : Option (List ℕ)) (output : List ℕ)
      → Fulfils (codes "canonical" ∷ name ∷ []) old new output → IsCanonicalLine base output
  fulfilled_answered old new output (ByAnswer verb other asked answers) =
      absurd (false≢true (ap is_question
      (ask_asked (codes "canonical") name (Conversion verb) other asked Question refl)))
  fulfilled_answered old new output (ByReply (OfQuestion other asked keeps answered)) =
      subst (λ b. IsCanonicalLine b output)
      (base_asked (codes "canonical") name Question other asked base known) answered
  fulfilled_answered old new output (ByReply (OfNames is keeps listed)) =
      absurd (names_by_two (both (Some Question) (fields_named name)) is)

  -- what was written says so
  pub canonical_answered : (old new : Option (List ℕ)) (line : List ℕ)
      → Done (codes "canonical" ∷ name ∷ []) (from_to old new) (from_to (Some []) (Some line))
      → IsCanonicalLine base line
  canonical_answered old new line done =
      subst (IsCanonicalLine base) (sym done.written)
      (fulfilled_answered old new done.output done.fulfils)

-- and a line is read as it was written
pub line_read : (base : Base) (line : List ℕ) → IsCanonicalLine base line
    → (line ≡ truth true) ↔ IsCanonical base
line_read base line (inl (is, shown)) = (λ same. is, λ is_so. shown)
line_read base line (inr (is_not, shown)) =
    (λ same. absurd (false_line (sym shown ∙ same)), λ is. absurd (is_not is)) where
      false_line : truth false ≡ truth true → ⊥
      false_line same = cc

-- what is printed for a name that is not known
pub printed_name : (word name : List ℕ) (fault : WordFault) → IsWrong (word ∷ name ∷ []) fault
    → IsSome (ask_of word) → printed_word_fault fault ≡ codes "unknown encoding: " ++ name
printed_name word name Usage wrong some =
    absurd (false≢true (sym (ap is_some (wrong word name refl)) ∙ some))
printed_name word name (UnknownName given) wrong some =
    let given_is = ap (λ words. get_or words 1 name) wrong.1 in
    ap (λ text. codes "unknown encoding: " ++ text) (sym given_is)
