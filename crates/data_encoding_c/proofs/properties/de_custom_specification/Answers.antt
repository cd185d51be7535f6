use Rattle.data_encoding_c.proofs.properties.de_custom_specification.Goals as goal

pub returns : goal.returns
returns c = rw c.by_ref.ensures at c.specification.ensures
