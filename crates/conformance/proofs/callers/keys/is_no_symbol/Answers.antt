use Rattle.std.proofs.Common.{◌≡◌, Bool, not, is_some, refl, sym, ap, ◌∙◌, arith}
use Rattle.data_encoding.specs.declared.encoding.Character.{Character}
use Rattle.data_encoding.specs.declared.encoding.Character.TheVariants.{Symbol, Padding, Ignored, Invalid}
use Rattle.data_encoding.specs.Base.{is_symbol, meaning, value_of}
use Rattle.conformance.proofs.callers.keys.is_no_symbol.Goals as goal

tested : (m : Character) → is_symbol m ≡ is_some (value_of m)
tested (Symbol value) = refl
tested Padding = refl
tested Ignored = refl
tested Invalid = refl

turned : (a b : Bool) → a ≡ not b → b ≡ not a
turned a b h = grind arith

pub returns : goal.returns
returns c =
    let m = meaning c.args.encoding.now c.args.byte in
    turned (is_symbol m) c.is_none.result
    (tested m ∙ ap is_some (sym (c.is_symbol.ensures ∙ ap value_of c.interpret_byte.ensures))
    ∙ c.is_none.ensures)
