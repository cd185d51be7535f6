use Rattle.std.proofs.Common.{ap, subst, ◌∙◌}
use Rattle.data_encoding.specs.Encoding.{base_of_tables, KeepsRules}
use Rattle.data_encoding.specs.PlainTables.{plain_tables}
use Rattle.data_encoding.proofs.encoding.Encoding.to_plain.Goals as goal

pub invariant_of-result : goal.invariant_of-result
invariant_of-result c = record {
  kept =
      ∣ subst (λ separator. KeepsRules (plain_tables c.self.inside.fields separator))
      (cc (c.as_slice.ensures.value, c.filled.ensures)) c.self.invariant ∣₁;
}

pub returns : goal.returns
returns c =
    ap (λ separator. base_of_tables (plain_tables c.self.inside.fields separator))
    (cc (c.as_slice.ensures.value, c.filled.ensures))
    ∙ c.self.view_is
