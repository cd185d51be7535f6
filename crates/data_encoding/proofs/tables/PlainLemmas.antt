-- The rules of tables are a proposition, as a ghost field holds one.
use Rattle.std.proofs.Common.{ℕ, zero, suc, List, Option, Some, None}
use Rattle.std.proofs.Props.{props}
use mathlib.Core.Logic.{∥∥₁_elim}
use Rattle.data_encoding.specs.Encoding.{EncodingTables, KeepsPadding, KeepsRules, KeepsWrapping}

KeepsPadding-prop : (padding : Option ℕ) (width : ℕ) (values : List ℕ)
    → IsProp (KeepsPadding padding width values)
KeepsPadding-prop None width values = hlevel props
KeepsPadding-prop (Some character) width values = hlevel props

KeepsWrapping-prop : (column : ℕ) (separator : List ℕ) (width : ℕ) (values : List ℕ)
    → IsProp (KeepsWrapping column separator width values)
KeepsWrapping-prop zero separator width values = hlevel props
KeepsWrapping-prop (suc n) separator width values = hlevel props

KeepsRules-prop : (tables : EncodingTables) → IsProp (KeepsRules tables)
KeepsRules-prop tables = hlevel (props, KeepsPadding-prop, KeepsWrapping-prop)

pub kept-rules : (tables : EncodingTables) → ∥ KeepsRules tables ∥₁ → KeepsRules tables
kept-rules tables kept = ∥∥₁_elim kept (KeepsRules-prop tables) (λ rules. rules)
