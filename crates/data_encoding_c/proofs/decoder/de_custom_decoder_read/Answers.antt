use Rattle.data_encoding_c.proofs.decoder.de_custom_decoder_read.Goals as goal

pub returns : goal.returns
returns c = rw c.by_ref.ensures at c.decoder_read.ensures
