use Rattle.std.proofs.Common.{◌≡◌, ◌%◌, false, length, Ok, sym, ap, ◌∙◌, rules, tests}
use Rattle.std.proofs.lemmas.Iterator.{YieldsList-from_slice}
use Rattle.std.proofs.lemmas.Iterator.Search.{position_from_yields_List}
use Rattle.data_encoding.specs.Base.{Base}
use Rattle.data_encoding.specs.Fields.{base_of}
use Rattle.data_encoding.specs.Predefined.{hexlower_fields}
use Rattle.data_encoding.specs.Told.{first_other, is_other, told_by}
use Rattle.conformance.proofs.KeyLemmas.{even-length}
use Rattle.conformance.proofs.RewrittenLemmas.{specified_by}
use Rattle.conformance.proofs.BuiltLemmas.{same_built}
use Rattle.conformance.proofs.callers.keys.first_wrong.Goals as goal

found : (c : goal.After-position) (base : Base) → base_of hexlower_fields ≡ Ok base
    → c.position.result ≡ first_other base c.args.text.now
found c base is =
    position_from_yields_List (is_other c.hexlower-encoding.result) _ _ c.position.result
    c.position.ensures.ran (YieldsList-from_slice c.args.text.now cc)
    (λ x b q h. search (rules, tests))
    ∙ ap (λ b. first_other b c.args.text.now) (same_built (base_of hexlower_fields)
    c.hexlower-encoding.result base c.hexlower-encoding.ensures is)

pub returns-clause-symbol : goal.returns-clause-symbol
returns-clause-symbol c = λ base is index.
    let has = c.eighteen.ensures.hexlower base is in
    let law = c.fault_told.ensures.symbol base (specified_by hexlower_fields base is) has.padding
    has.ignores c.args.text.now
    (even-length base has (length c.args.text.now) c.requires.even) index in
    ((λ h. law.1 (sym (found c base is) ∙ h)), (λ h. found c base is ∙ law.0 h))

pub returns-clause-none : goal.returns-clause-none
returns-clause-none c = λ base is h.
    let has = c.eighteen.ensures.hexlower base is in
    c.fault_told.ensures.whole base (specified_by hexlower_fields base is)
    (ap (λ width. 8 % width) has.width) has.ignores c.args.text.now
    (even-length base has (length c.args.text.now) c.requires.even)
    ∙ ap (λ o. told_by o false 0) (sym (found c base is) ∙ h)
