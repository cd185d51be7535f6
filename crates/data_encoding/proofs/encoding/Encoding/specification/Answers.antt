use Rattle.data_encoding.proofs.encoding.Encoding.specification.Goals as goal

pub returns : goal.returns
returns c = rw (← c.by_ref.ensures) c.specification.ensures
