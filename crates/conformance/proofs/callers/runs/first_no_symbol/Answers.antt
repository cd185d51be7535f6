use Rattle.std.proofs.Common.{◌≡◌, sym, subst, rules, tests}
use Rattle.std.proofs.lemmas.Iterator.{YieldsList-from_slice}
use Rattle.std.proofs.lemmas.Iterator.Search.{position_from_yields_List}
use Rattle.data_encoding.specs.Layers.{TellsSymbols}
use Rattle.data_encoding.specs.Told.{first_other, is_other}
use Rattle.conformance.proofs.callers.runs.first_no_symbol.Goals as goal

found : (c : goal.After-position)
    → c.position.result ≡ first_other c.args.encoding.now c.args.group.now
found c =
    position_from_yields_List (is_other c.args.encoding.now) _ _ c.position.result
    c.position.ensures.ran (YieldsList-from_slice c.args.group.now cc)
    (λ x b q h. search (rules, tests))

pub returns : goal.returns
returns c = λ valid.
    subst (TellsSymbols c.args.encoding.now c.args.group.now) (sym (found c))
    (c.symbols_told.ensures c.args.encoding.now c.bit_width-width.ensures.base c.args.group.now
    valid)
