use Rattle.data_encoding.proofs.encoding.Encoding.specification_bytes.Goals as goal

pub returns : goal.returns
returns c = rw (← c.by_ref.ensures) c.specification_bytes.ensures
