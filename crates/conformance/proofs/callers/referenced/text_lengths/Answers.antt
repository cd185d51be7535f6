use Rattle.conformance.proofs.callers.referenced.text_lengths.Goals as goal

pub returns-clause-one : goal.returns-clause-one
returns-clause-one c = rw (← c.lend-lent.ensures, ← c.by_ref.ensures) c.encode_len.ensures.length

pub returns-clause-other : goal.returns-clause-other
returns-clause-other c =
    rw (← c.lend-lent.ensures, ← c.by_ref-2.ensures) c.encode_len-2.ensures.length
