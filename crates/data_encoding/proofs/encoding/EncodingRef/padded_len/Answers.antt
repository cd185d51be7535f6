use Rattle.std.proofs.Common.{◌*◌, sym, ap, ◌∙◌, arith}
use Rattle.std.proofs.Math.Nat.{div-eq_of_lt}
use Rattle.data_encoding_meaning.specs.text.Base.{Base, group_bytes, group_symbols, is_padded}
use Rattle.data_encoding_meaning.proofs.lists.RunLemmas.{run_count}
use Rattle.data_encoding.proofs.tables.TableLemmas.{IsWidth-seen}
use Rattle.data_encoding_meaning.proofs.text.PaddedTextLemmas.{length-padded, length-unpadded}
use Rattle.data_encoding.proofs.encoding.EncodingRef.padded_len.Goals as goal

pub returns-clause-length : goal.returns-clause-length
returns-clause-length c bytes h =
    let seen = c.args.self.now in
    let width = IsWidth-seen _ c.self.invariant seen c.self.view_is in
    let none = ap is_padded (sym c.self.view_is) ∙ sym c.is_padded.ensures ∙ c.if-is_padded.false in
    length-unpadded seen bytes width none
    ∙ ap (λ n. run_count seen.width (8 * n)) h
    ∙ ap (λ (b : Base). run_count b.width (8 * c.args.len)) (sym c.self.view_is)
    ∙ sym c.symbol_count.ensures

pub returns-then-is_padded-clause-length : goal.returns-then-is_padded-clause-length
returns-then-is_padded-clause-length c bytes h =
    let seen = c.args.self.now in
    let width = IsWidth-seen _ c.self.invariant seen c.self.view_is in
    let some = ap is_padded (sym c.self.view_is) ∙ sym c.is_padded.ensures ∙ c.if-is_padded.true in
    length-padded seen bytes width some
    ∙ ap (λ n. run_count (group_bytes seen.width) n * group_symbols seen.width) h
    ∙ ap (λ (b : Base). run_count (group_bytes b.width) c.args.len * group_symbols b.width)
    (sym c.self.view_is)
    ∙ sym c.filled_count.ensures.value

pub filled_count-requires-clause-width : goal.filled_count-requires-clause-width
filled_count-requires-clause-width c =
    c.self.invariant.is_width

pub symbol_count-requires-clause-width : goal.symbol_count-requires-clause-width
symbol_count-requires-clause-width c =
    c.self.invariant.is_width

pub returns-then-is_padded-clause-empty : goal.returns-then-is_padded-clause-empty
returns-then-is_padded-clause-empty c =
    c.filled_count.ensures.empty

pub returns-clause-empty : goal.returns-clause-empty
returns-clause-empty c =
    λ none.
    c.symbol_count.ensures
    ∙ div-eq_of_lt (omega (arith, none, c.self.invariant.is_width.some))
