use Rattle.std.proofs.Common.{sym, ap, ◌∙◌, subst}
use Rattle.data_encoding_meaning.specs.text.Base.{Base, group_symbols}
use Rattle.data_encoding_meaning.specs.text.Lengths.{IsBlockLength}
use Rattle.data_encoding.proofs.tables.TableRuleLemmas.{is_base_of}
use Rattle.data_encoding_meaning.proofs.text.BlockLemmas.{IsBlockLength-group, IsBlockLength-line}
use Rattle.data_encoding.proofs.text.LineTableLemmas.{IsRuled-seen, unwrapped-seen, wrapping-seen}
use Rattle.data_encoding.proofs.encoding.EncodingRef.block_len.Goals as goal

pub returns-then-self-eq0-clause-length : goal.returns-then-self-eq0-clause-length
returns-then-self-eq0-clause-length c =
    let seen = c.args.self.now in
    subst (IsBlockLength seen)
    (ap (λ (b : Base). group_symbols b.width) (sym c.self.view_is)
    ∙ sym c.group_symbols.ensures.value)
    (IsBlockLength-group seen (IsRuled-seen _ c.self.invariant seen c.self.view_is)
    (unwrapped-seen _ c.self.invariant seen c.self.view_is c.if-self-eq0.true))

pub returns-clause-length : goal.returns-clause-length
returns-clause-length c =
    let seen = c.args.self.now in
    IsBlockLength-line seen (IsRuled-seen _ c.self.invariant seen c.self.view_is) _
    (wrapping-seen _ c.self.invariant seen c.self.view_is c.if-self-eq0.false)

pub returns-then-self-eq0-clause-base : goal.returns-then-self-eq0-clause-base
returns-then-self-eq0-clause-base c =
    rw (← c.self.view_is) (is_base_of _ c.self.invariant)

pub returns-clause-base : goal.returns-clause-base
returns-clause-base c = rw (← c.self.view_is) (is_base_of _ c.self.invariant)
