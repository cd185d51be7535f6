use Rattle.std.proofs.Common.{rules, ◌≡◌, refl}
use Rattle.std.proofs.lemmas.Bool.Decides.{same_from_decides}
use Rattle.std.proofs.lemmas.Slice.Eq.{bytes_eq-Decides}
use Rattle.std.specs.Bool.{Decides}
use denote.Enum.Bare.{sameb}
use Rattle.data_encoding_meaning.specs.contracts.encoding.BitOrder.{the_type}
use Rattle.data_encoding_meaning.specs.declared.encoding.BitOrder.{BitOrder}
use Rattle.data_encoding_meaning.specs.declared.encoding.BitOrder.TheVariants.{MostSignificantFirst, LeastSignificantFirst}
use Rattle.data_encoding_meaning.specs.specification.Layout.{layout}
use Rattle.data_encoding.proofs.tables.EqualityLemmas.{base-Decides, layout-Decides}
use Rattle.data_encoding.proofs.encoding.equality.EncodingPartialEq.eq.Goals as goal

orders-Decides : (o p : BitOrder) → Decides (sameb the_type o p) (o ≡ p)
orders-Decides MostSignificantFirst MostSignificantFirst = (λ h. refl, λ h. refl)
orders-Decides LeastSignificantFirst LeastSignificantFirst = (λ h. refl, λ h. refl)
orders-Decides MostSignificantFirst LeastSignificantFirst = (λ h. cc, λ h. cc)
orders-Decides LeastSignificantFirst MostSignificantFirst = (λ h. cc, λ h. cc)

pub returns-then-eq-3-clause-base : goal.returns-then-eq-3-clause-base
returns-then-eq-3-clause-base c =
    base-Decides c.self.invariant c.other.invariant c.self.view_is c.other.view_is
    (orders-Decides _ _) (search rules)

pub returns-then-eq-3-clause-same : goal.returns-then-eq-3-clause-same
returns-then-eq-3-clause-same c =
    layout-Decides c.self.invariant c.other.invariant c.self.view_is c.other.view_is
    (returns-then-eq-3-clause-base c)

pub returns-then-eq-3-clause-value : goal.returns-then-eq-3-clause-value
returns-then-eq-3-clause-value c =
    same_from_decides c.eq-then-eq-3.result _ (returns-then-eq-3-clause-same c)
    (bytes_eq-Decides (layout c.args.self.now) (layout c.args.other.now))

pub returns-else-eq-3-clause-base : goal.returns-else-eq-3-clause-base
returns-else-eq-3-clause-base c =
    base-Decides c.self.invariant c.other.invariant c.self.view_is c.other.view_is
    (orders-Decides _ _) (search rules)

pub returns-else-eq-3-clause-same : goal.returns-else-eq-3-clause-same
returns-else-eq-3-clause-same c =
    layout-Decides c.self.invariant c.other.invariant c.self.view_is c.other.view_is
    (returns-else-eq-3-clause-base c)

pub returns-else-eq-3-clause-value : goal.returns-else-eq-3-clause-value
returns-else-eq-3-clause-value c =
    same_from_decides c.if-eq-2.value _ (returns-else-eq-3-clause-same c)
    (bytes_eq-Decides (layout c.args.self.now) (layout c.args.other.now))
