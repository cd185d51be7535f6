use Rattle.std.proofs.Common.{None, IsSome, sym, ap, ◌∙◌, subst, arith}
use Rattle.data_encoding.specs.Base.{Base}
use Rattle.data_encoding.specs.Layout.{layout}
use Rattle.data_encoding_calls.proofs.stored.custom_read.Goals as goal

pub returns-in-Some : goal.returns-in-Some
returns-in-Some c =
    let here = c.in-Some.ensures in
    let ok = c.accepted.ensures.status in
    record {
      known = λ base is same. (
        ok,
        c.accepted.ensures.held
            ∙ c.one_layout.ensures.one c.in-Some.encoding base here.base is
            (here.layout ∙ sym same),
      );
      is_layout = λ _. ap layout c.accepted.ensures.held ∙ here.layout;
      status = λ refused. absurd (refused ok);
    }

pub returns-in-None : goal.returns-in-None
returns-in-None c = record {
  known = λ base is same.
      let some : IsSome {T = Base} None =
      subst IsSome c.in-None.is (c.internal_new.ensures.accepted base is same) in
      absurd (cc some);
  is_layout = λ is. absurd (omega (arith, c.refused.ensures.status, is));
  status = λ _. c.refused.ensures.status;
}
