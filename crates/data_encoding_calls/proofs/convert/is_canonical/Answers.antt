use Rattle.data_encoding_calls.proofs.convert.is_canonical.Goals as goal

pub returns-clause-canonical : goal.returns-clause-canonical
returns-clause-canonical c = c.is_canonical.ensures.canonical
