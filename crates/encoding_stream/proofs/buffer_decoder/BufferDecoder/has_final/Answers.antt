use Rattle.std.proofs.Common.{◌%◌, ◌==◌, ◌&&◌, not, length, ap, sym, ◌∙◌}
use Rattle.data_encoding.specs.Base.{group_bytes}
use Rattle.data_encoding.specs.Grammar.{groups}
use Rattle.encoding_stream.specs.BufferDecoder.{base_of_pieces}
use Rattle.encoding_stream.proofs.ReadByteLemmas.{is-specified}
use Rattle.encoding_stream.proofs.buffer_decoder.BufferDecoder.has_final.Goals as goal

pub returns-then-not-concatenates-clause-ends : goal.returns-then-not-concatenates-clause-ends
returns-then-not-concatenates-clause-ends c = λ text bytes same means.
    let s = c.args.self.now in
    let base = base_of_pieces s in
    s.laws.ends base (is-specified s) text bytes means
    ∙ ap (λ joins. not joins && not (length bytes % group_bytes base.width == 0))
    (sym (rw c.by_ref-encoding.ensures at c.concatenates.ensures) ∙ c.if-not-concatenates.true)
    ∙ ap (λ n. not (n % group_bytes base.width == 0)) same
    ∙ ap (λ n. not (c.args.written % n == 0))
    (sym (rw c.by_ref-encoding.ensures at c.group_bytes.ensures.value))

pub returns-else-not-concatenates-clause-ends : goal.returns-else-not-concatenates-clause-ends
returns-else-not-concatenates-clause-ends c = λ text _ _ _.
    let base = base_of_pieces c.args.self.now in
    c.args.self.now.laws.ends_nowhere base
    (sym (rw c.by_ref-encoding.ensures at c.concatenates.ensures) ∙ c.if-not-concatenates.false)
    (groups base text)
    ∙ ap not (sym c.if-not-concatenates.false)

pub returns-then-not-concatenates-clause-goes_on :
    goal.returns-then-not-concatenates-clause-goes_on
returns-then-not-concatenates-clause-goes_on c = λ no text bytes same means whole.
    record {
      whole = whole;
      not_final = returns-then-not-concatenates-clause-ends c text bytes same means ∙ no;
    }

pub returns-else-not-concatenates-clause-goes_on :
    goal.returns-else-not-concatenates-clause-goes_on
returns-else-not-concatenates-clause-goes_on c = λ no text bytes same means whole.
    record {
      whole = whole;
      not_final = returns-else-not-concatenates-clause-ends c text bytes same means ∙ no;
    }
