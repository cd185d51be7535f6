use Rattle.data_encoding.proofs.specification.Specification.new.Goals as goal

pub returns : goal.returns
returns c = cc
