use Rattle.encoding_stream.proofs.buffer_decoder.BufferDecoder.resumed.Goals as goal

pub returns-clause-goes_on : goal.returns-clause-goes_on
returns-clause-goes_on c = rw (← c.by_ref.ensures) c.resumed_by_ref.ensures.goes_on

pub returns-clause-tested : goal.returns-clause-tested
returns-clause-tested c = rw (← c.by_ref.ensures) c.resumed_by_ref.ensures.tested

pub returns-clause-resumes : goal.returns-clause-resumes
returns-clause-resumes c = rw (← c.by_ref.ensures) c.resumed_by_ref.ensures.resumes
