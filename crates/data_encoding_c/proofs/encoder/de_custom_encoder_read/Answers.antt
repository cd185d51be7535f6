use Rattle.data_encoding_c.proofs.encoder.de_custom_encoder_read.Goals as goal

pub returns : goal.returns
returns c = rw c.by_ref.ensures at c.encoder_read.ensures
