use Rattle.data_encoding.proofs.encoding.Encoding.concatenates.Goals as goal

pub returns : goal.returns
returns c = cc
