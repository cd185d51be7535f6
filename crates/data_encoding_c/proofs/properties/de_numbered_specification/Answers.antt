use Rattle.std.proofs.Common.{refl}
use Rattle.data_encoding.specs.Base.{Base}
use Rattle.data_encoding_calls.specs.Facts.{GivesBack}
use Rattle.data_encoding_calls.proofs.NumberLemmas.{by-known, by-unknown}
use Rattle.data_encoding_c.proofs.properties.de_numbered_specification.Goals as goal

pub returns-in_default : goal.returns-in_default
returns-in_default c = by-unknown (c.in_default.ensures.unknown.0 refl) (refl, refl, refl)

pub returns : goal.returns
returns c =
    let Does = λ (b : Base).
    GivesBack b
    (record {
      form = c.args.form.now;
      lengths = c.args.lengths.now;
      texts = c.args.texts.now;
    })
    (record {
      form = c.specification.new.form;
      lengths = c.specification.new.lengths;
      texts = c.specification.new.texts;
    }) c.specification.result in
    by-known Does c.in-Some.ensures.known c.specification.ensures
