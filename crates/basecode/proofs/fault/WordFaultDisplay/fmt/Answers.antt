use Rattle.basecode.proofs.fault.WordFaultDisplay.fmt.Goals as goal

pub returns-in-UnknownName-clause-writes : goal.returns-in-UnknownName-clause-writes
returns-in-UnknownName-clause-writes g c = rw c.in-UnknownName.is c.write.ensures.writes
