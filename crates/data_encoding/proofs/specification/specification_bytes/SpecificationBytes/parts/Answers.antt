use Rattle.data_encoding.proofs.specification.specification_bytes.SpecificationBytes.parts.Goals as goal

pub returns : goal.returns
returns c = cc
