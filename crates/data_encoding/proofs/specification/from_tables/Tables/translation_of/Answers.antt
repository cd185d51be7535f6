use Rattle.std.proofs.Common.{rules, tests}
use Rattle.data_encoding.proofs.specification.from_tables.Tables.translation_of.Goals as goal

pub returns-in_default-clause-variant : goal.returns-in_default-clause-variant
returns-in_default-clause-variant c = λ base has.
    rw (← c.own_character.ensures base has) (rw c.in-Some.is (search (rules, tests)))
