use Rattle.data_encoding.proofs.specification.borrowed_specification.SpecificationParts.encoding.Goals as goal

pub returns-in-Ok-clause-refused : goal.returns-in-Ok-clause-refused
returns-in-Ok-clause-refused c = tt
