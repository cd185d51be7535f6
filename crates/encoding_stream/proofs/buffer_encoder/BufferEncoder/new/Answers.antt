use Rattle.encoding_stream.proofs.buffer_encoder.BufferEncoder.new.Goals as goal

pub returns-clause-nothing : goal.returns-clause-nothing
returns-clause-nothing c = rw (← c.by_ref.ensures) c.new_by_ref.ensures.nothing

pub returns-clause-specified : goal.returns-clause-specified
returns-clause-specified c = rw (← c.by_ref.ensures) c.new_by_ref.ensures.specified
