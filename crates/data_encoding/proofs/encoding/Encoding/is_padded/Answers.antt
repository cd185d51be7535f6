use Rattle.data_encoding.proofs.encoding.Encoding.is_padded.Goals as goal

pub returns : goal.returns
returns c = cc
