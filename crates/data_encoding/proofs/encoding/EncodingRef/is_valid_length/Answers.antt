use Rattle.std.proofs.Common.{◌*◌, ◌%◌, ◌==◌, nat_lt, true, false, sym, ap, ◌∙◌}
use Rattle.data_encoding_meaning.specs.text.Base.{is_padded}
use Rattle.data_encoding_meaning.proofs.grammar.LengthLemmas.{is_valid_length-by, whole_bits}
use Rattle.data_encoding.proofs.tables.TableLemmas.{IsWidth-seen}
use Rattle.data_encoding.proofs.encoding.EncodingRef.is_valid_length.Goals as goal

pub returns-then-is_padded : goal.returns-then-is_padded
returns-then-is_padded c =
    let seen = c.args.self.now in
    let width = IsWidth-seen _ c.self.invariant seen c.self.view_is in
    let some = ap is_padded (sym c.self.view_is) ∙ sym c.is_padded.ensures ∙ c.if-is_padded.true in
    ap (λ w. w * c.args.len % 8 == 0) c.bit_width-width.ensures.value
    ∙ whole_bits seen.width width c.args.len
    ∙ sym (is_valid_length-by seen c.args.len true some)

pub returns : goal.returns
returns c =
    let seen = c.args.self.now in
    let none = ap is_padded (sym c.self.view_is) ∙ sym c.is_padded.ensures ∙ c.if-is_padded.false in
    ap (λ w. nat_lt (w * c.args.len % 8) w) c.bit_width-width.ensures.value
    ∙ sym (is_valid_length-by seen c.args.len false none)
