use Rattle.std.proofs.Common.{◌∙◌, inl, inr, sym, rules}
use Rattle.encoding_stream.proofs.buffer_decoder.BufferDecoder.is_of_whole_group.Goals as goal

pub returns-then-not-ignores_bytes : goal.returns-then-not-ignores_bytes
returns-then-not-ignores_bytes c = λ _. record {
  not_length = search rules;
  joins =
      sym (rw c.by_ref-encoding.ensures at c.concatenates.ensures)
      ∙ c.if-not-concatenates.false;
  whole =
      let none =
      sym (rw c.by_ref-encoding.ensures at c.ignores_bytes.ensures) ∙ c.if-not-ignores_bytes.true in
      inl (none, c.requires.whole none);
}

pub returns-else-not-ignores_bytes : goal.returns-else-not-ignores_bytes
returns-else-not-ignores_bytes c = λ is. record {
  not_length = search rules;
  joins =
      sym (rw c.by_ref-encoding.ensures at c.concatenates.ensures)
      ∙ c.if-not-concatenates.false;
  whole = inr (search rules);
}
