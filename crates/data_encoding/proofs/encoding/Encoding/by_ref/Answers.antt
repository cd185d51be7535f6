use Rattle.data_encoding.proofs.encoding.Encoding.by_ref.Goals as goal

pub invariant_of-result : goal.invariant_of-result
invariant_of-result c = rw c.as_slice.ensures.value c.self.invariant

pub returns : goal.returns
returns c = rw c.as_slice.ensures.value c.self.view_is
