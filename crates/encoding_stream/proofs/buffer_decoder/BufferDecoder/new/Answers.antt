use Rattle.encoding_stream.proofs.buffer_decoder.BufferDecoder.new.Goals as goal

pub returns-clause-base : goal.returns-clause-base
returns-clause-base c = rw (← c.by_ref.ensures) c.new_by_ref.ensures.base

pub returns-clause-nothing : goal.returns-clause-nothing
returns-clause-nothing c = rw (← c.by_ref.ensures) c.new_by_ref.ensures.nothing

pub returns-clause-no_bytes : goal.returns-clause-no_bytes
returns-clause-no_bytes c = rw (← c.by_ref.ensures) c.new_by_ref.ensures.no_bytes

pub returns-clause-specified : goal.returns-clause-specified
returns-clause-specified c = rw (← c.by_ref.ensures) c.new_by_ref.ensures.specified
