use Rattle.encoding_stream.proofs.buffer_encoder.BufferEncoder.resumed.Goals as goal

pub returns-clause-kept : goal.returns-clause-kept
returns-clause-kept c = c.resumed_by_ref.ensures.kept

pub returns-clause-short : goal.returns-clause-short
returns-clause-short c = rw c.by_ref.ensures at c.resumed_by_ref.ensures.short

pub returns-clause-few : goal.returns-clause-few
returns-clause-few c = c.resumed_by_ref.ensures.few

pub returns-clause-refused : goal.returns-clause-refused
returns-clause-refused c = rw c.by_ref.ensures at c.resumed_by_ref.ensures.refused
