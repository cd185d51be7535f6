use Rattle.encoding_stream.proofs.buffer_encoder.BufferEncoder.due.Goals as goal

pub returns : goal.returns
returns c = record { value = rw c.by_ref-encoding.ensures at c.due_len.ensures.total }
