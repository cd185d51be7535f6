use Rattle.data_encoding.proofs.encoder.RefEncodingEncodes.by_ref.Goals as goal

pub returns : goal.returns
returns c = cc
