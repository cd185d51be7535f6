use Rattle.std.proofs.Common.{◌++◌, is_some, length, sym, ap, ◌∙◌, arith, append-nil}
use Rattle.std.proofs.lemmas.List.{drop_all}
use Rattle.data_encoding_meaning.specs.text.Base.{is_padded}
use Rattle.data_encoding_meaning.specs.text.Text.{plain_text}
use Rattle.data_encoding.proofs.tables.TableLemmas.{IsWidth-seen}
use Rattle.data_encoding.proofs.text.PadLemmas.{pads-eight, pads-four, pads-none, symbols-inside}
use Rattle.data_encoding_meaning.proofs.text.PaddedTextLemmas.{length-unpadded, padded_text-unpadded}
use Rattle.data_encoding.proofs.encoding.EncodingRef.pad.Goals as goal

pub returns-in_default-clause-count : goal.returns-in_default-clause-count
returns-in_default-clause-count c =
    let seen = c.args.self.now in
    let none = ap is_padded (sym c.self.view_is)
    ∙ ap is_some (sym c.padding_character.ensures ∙ c.in_default.is) in
    c.requires.exact
    ∙ length-unpadded seen c.args.input.now
    (IsWidth-seen _ c.self.invariant seen c.self.view_is) none

pub returns-in_default-clause-padding : goal.returns-in_default-clause-padding
returns-in_default-clause-padding c =
    let seen = c.args.self.now in
    let none = ap is_padded (sym c.self.view_is)
    ∙ ap is_some (sym c.padding_character.ensures ∙ c.in_default.is) in
    let text = plain_text seen c.args.input.now in
    padded_text-unpadded seen c.args.input.now
    (IsWidth-seen _ c.self.invariant seen c.self.view_is) none
    ∙ sym (append-nil text)
    ∙ ap (λ l. text ++ l)
    (sym (drop_all (length c.args.output.now) c.args.output.now (omega arith)))

pub returns-then-len-ge8-clause-inside : goal.returns-then-len-ge8-clause-inside
returns-then-len-ge8-clause-inside c =
    symbols-inside c.self.invariant c.self.view_is c.args.input.now _ c.requires.exact _
    c.symbol_count-count.ensures

pub returns-then-len-ge8-clause-padding : goal.returns-then-len-ge8-clause-padding
returns-then-len-ge8-clause-padding c =
    pads-eight c.self.invariant c.self.view_is c.args.input.now _ c.requires.exact _
    c.symbol_count-count.ensures c.in-Some.character
    (sym c.padding_character.ensures ∙ c.in-Some.is) _
    (c.fill.ensures.after (λ y same. same))

pub returns-then-len-ge4-clause-inside : goal.returns-then-len-ge4-clause-inside
returns-then-len-ge4-clause-inside c =
    symbols-inside c.self.invariant c.self.view_is c.args.input.now _ c.requires.exact _
    c.symbol_count-count.ensures

pub returns-then-len-ge4-clause-padding : goal.returns-then-len-ge4-clause-padding
returns-then-len-ge4-clause-padding c =
    pads-four c.self.invariant c.self.view_is c.args.input.now _ c.requires.exact _
    c.symbol_count-count.ensures c.in-Some.character
    (sym c.padding_character.ensures ∙ c.in-Some.is)
    (omega arith) _ (c.fill-then-len-ge4.ensures.after (λ y same. same))

pub returns-else-len-ge4-clause-inside : goal.returns-else-len-ge4-clause-inside
returns-else-len-ge4-clause-inside c =
    symbols-inside c.self.invariant c.self.view_is c.args.input.now _ c.requires.exact _
    c.symbol_count-count.ensures

pub returns-else-len-ge4-clause-padding : goal.returns-else-len-ge4-clause-padding
returns-else-len-ge4-clause-padding c =
    pads-none c.self.invariant c.self.view_is c.args.input.now _ c.requires.exact _
    c.symbol_count-count.ensures c.in-Some.character
    (sym c.padding_character.ensures ∙ c.in-Some.is)
    (omega arith)
