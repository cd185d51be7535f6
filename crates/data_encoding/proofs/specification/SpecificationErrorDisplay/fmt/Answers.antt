use Rattle.data_encoding.proofs.specification.SpecificationErrorDisplay.fmt.Goals as goal

pub returns-in-FromTo-clause-writes : goal.returns-in-FromTo-clause-writes
returns-in-FromTo-clause-writes g c = rw c.in-FromTo.is c.write_str-in-FromTo.ensures.writes
