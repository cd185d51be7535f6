use Rattle.std.proofs.Common.{◌∙◌, refl, sym, ap}
use Rattle.data_encoding.specs.Named.{number_named}
use Rattle.data_encoding_calls.proofs.NameLemmas.{named-utf8}
use Rattle.data_encoding_calls.proofs.names.named_number.Goals as goal

pub returns-in_default : goal.returns-in_default
returns-in_default c = record {
  known = λ found is.
      absurd (c.in_default.ensures.cases.0 (named-utf8 c.args.name.now found is));
  unknown = λ _. (refl, refl);
}

pub returns-in_default-predefined_number : goal.returns-in_default-predefined_number
returns-in_default-predefined_number c =
    let none =
    sym (ap number_named c.in-Ok.ensures.cases.0) ∙ sym c.predefined_number.ensures
    ∙ c.in_default-predefined_number.is in
    record {
      known = λ found is. absurd (cc (none, is));
      unknown = λ _. (refl, refl);
    }
