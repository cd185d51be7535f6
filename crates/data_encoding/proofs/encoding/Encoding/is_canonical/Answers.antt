use Rattle.data_encoding.proofs.encoding.Encoding.is_canonical.Goals as goal

pub returns-clause-canonical : goal.returns-clause-canonical
returns-clause-canonical c = rw (← c.by_ref.ensures) c.is_canonical.ensures.canonical

pub returns-clause-causes : goal.returns-clause-causes
returns-clause-causes c = rw (← c.by_ref.ensures) c.is_canonical.ensures.causes
