use Rattle.data_encoding.proofs.encoding.Encoding.checks_trailing_bits.Goals as goal

pub returns : goal.returns
returns c = cc
