use Rattle.encoding_stream.proofs.error.StreamFaultDisplay.fmt.Goals as goal

pub returns-in-Read-clause-writes : goal.returns-in-Read-clause-writes
returns-in-Read-clause-writes g c = rw c.in-Read.is c.write_str.ensures.writes
