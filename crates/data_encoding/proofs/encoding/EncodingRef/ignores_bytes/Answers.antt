use Rattle.data_encoding.proofs.encoding.EncodingRef.ignores_bytes.Goals as goal

pub returns : goal.returns
returns c = rw (← c.self.view_is) c.self.invariant.ignores
