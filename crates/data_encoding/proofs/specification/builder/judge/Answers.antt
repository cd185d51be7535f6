use Rattle.std.proofs.Common.{Err, arith}
use Rattle.std.proofs.lemmas.Result.{err_from_is_err_and}
use Rattle.data_encoding.specs.Specification.{fields_of_parts}
use Rattle.data_encoding.proofs.judgement.BuilderLemmas.{after-ignored, after-padding, after-symbols, after-translation, after-wrapping}
use Rattle.data_encoding_meaning.proofs.digits.WidthLemmas.{symbols-few}
use Rattle.data_encoding.proofs.specification.builder.judge.Goals as goal

pub define_symbols-requires : goal.define_symbols-requires
define_symbols-requires c =
    let few = symbols-few c.args.width c.requires.width in
    omega (arith, few, c.requires.count)

pub returns-in_err-define_symbols-clause-refused : goal.returns-in_err-define_symbols-clause-refused
returns-in_err-define_symbols-clause-refused c =
    let p = err_from_is_err_and c.from_residual.result c.from_residual.ensures.1 in
    rw (p.1, p.2) (after-symbols c.args.width (fields_of_parts c.args.parts.now)
    c.new-meanings.ensures (Err c.in_err-define_symbols.field-0.0)
    c.in_err-define_symbols.ensures.refused)

pub returns-in_err-define_padding-clause-refused : goal.returns-in_err-define_padding-clause-refused
returns-in_err-define_padding-clause-refused c =
    let p = err_from_is_err_and c.from_residual-in_err-define_padding.result
    c.from_residual-in_err-define_padding.ensures.1 in
    rw (p.1, p.2) (after-padding c.args.width (fields_of_parts c.args.parts.now)
    c.new-meanings.ensures c.in_ok-define_symbols.ensures.defined
    (Err c.in_err-define_padding.field-0.0)
    c.in_err-define_padding.ensures.refused)

pub returns-in_err-define_ignored-clause-refused : goal.returns-in_err-define_ignored-clause-refused
returns-in_err-define_ignored-clause-refused c =
    let p = err_from_is_err_and c.from_residual-in_err-define_ignored.result
    c.from_residual-in_err-define_ignored.ensures.1 in
    rw (p.1, p.2) (after-ignored c.args.width (fields_of_parts c.args.parts.now)
    c.new-meanings.ensures c.in_ok-define_symbols.ensures.defined
    c.in_ok-define_padding.ensures.defined
    (Err c.in_err-define_ignored.field-0.0)
    c.in_err-define_ignored.ensures.refused)

pub returns-in_err-define_wrapping-clause-refused :
    goal.returns-in_err-define_wrapping-clause-refused
returns-in_err-define_wrapping-clause-refused c =
    let p = err_from_is_err_and c.from_residual-in_err-define_wrapping.result
    c.from_residual-in_err-define_wrapping.ensures.1 in
    rw (p.1, p.2) (after-wrapping c.args.width (fields_of_parts c.args.parts.now)
    c.new-meanings.ensures c.in_ok-define_symbols.ensures.defined
    c.in_ok-define_padding.ensures.defined
    c.in_ok-define_ignored.ensures.defined
    (Err c.in_err-define_wrapping.field-0.0)
    c.in_err-define_wrapping.ensures.refused)

pub returns-in_err-translate-clause-refused : goal.returns-in_err-translate-clause-refused
returns-in_err-translate-clause-refused c =
    let p = err_from_is_err_and c.from_residual-in_err-translate.result
    c.from_residual-in_err-translate.ensures.1 in
    rw (p.1, p.2) (after-translation c.args.width (fields_of_parts c.args.parts.now)
    c.new-meanings.ensures c.in_ok-define_symbols.ensures.defined
    c.in_ok-define_padding.ensures.defined
    c.in_ok-define_ignored.ensures.defined
    (Err c.in_err-translate.field-0.0)
    c.in_ok-define_wrapping.ensures.defined
    c.in_err-translate.ensures.refused)

pub returns-clause-meanings : goal.returns-clause-meanings
returns-clause-meanings c =
    after-translation c.args.width (fields_of_parts c.args.parts.now) c.new-meanings.ensures
    c.in_ok-define_symbols.ensures.defined c.in_ok-define_padding.ensures.defined
    c.in_ok-define_ignored.ensures.defined _ c.in_ok-define_wrapping.ensures.defined
    c.in_ok-translate.ensures.defined
