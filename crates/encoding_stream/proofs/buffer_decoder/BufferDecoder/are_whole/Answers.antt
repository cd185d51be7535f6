use Rattle.std.proofs.Common.{eqb-true, inl, sym, ◌∙◌}
use Rattle.encoding_stream.specs.BufferDecoder.{base_of_pieces}
use Rattle.encoding_stream.proofs.ReadByteLemmas.{is-specified}
use Rattle.encoding_stream.proofs.ReadRunLemmas.{fills-by_bytes, fills-by_padding}
use Rattle.encoding_stream.proofs.buffer_decoder.BufferDecoder.are_whole.Goals as goal

pub returns-then-is_padded-clause-whole : goal.returns-then-is_padded-clause-whole
returns-then-is_padded-clause-whole c = λ _ text bytes _ means.
    let s = c.args.self.now in
    s.laws.whole (base_of_pieces s) (is-specified s) text bytes means
    (inl (sym (rw c.by_ref-encoding.ensures at c.is_padded.ensures) ∙ c.if-is_padded.true))

pub returns-then-is_padded-clause-few : goal.returns-then-is_padded-clause-few
returns-then-is_padded-clause-few c = λ _ read most.
    fills-by_padding (base_of_pieces c.args.self.now)
    (sym (rw c.by_ref-encoding.ensures at c.is_padded.ensures) ∙ c.if-is_padded.true)
    read c.args.written most

pub returns-else-is_padded-clause-whole : goal.returns-else-is_padded-clause-whole
returns-else-is_padded-clause-whole c = λ test text bytes same means.
    let s = c.args.self.now in
    let value = rw c.by_ref-encoding.ensures at c.group_bytes.ensures.value in
    s.laws.by_bytes (base_of_pieces s) (is-specified s) text bytes means
    (rw (same, ← value) (eqb-true _ _ test))

pub returns-else-is_padded-clause-few : goal.returns-else-is_padded-clause-few
returns-else-is_padded-clause-few c = λ test read most.
    let s = c.args.self.now in
    let value = rw c.by_ref-encoding.ensures at c.group_bytes.ensures.value in
    fills-by_bytes (base_of_pieces s) s.width read c.args.written
    (rw (← value) (eqb-true _ _ test)) most
