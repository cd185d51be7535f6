use Rattle.std.proofs.Common.{lit<}
use Rattle.data_encoding.specs.Predefined.{base32_dnssec_fields}
use Rattle.conformance.proofs.LowerLemmas.{sorts_alike}
use Rattle.conformance.proofs.callers.rewritten.sorts_before.Goals as goal

pub returns : goal.returns
returns c = λ base is bytes others means more.
    sorts_alike base is c.translated.ensures.text c.order.ensures.data c.unpadded.ensures
    (c.order.ensures.sixteen.0 5 base32_dnssec_fields (lit< tt) base is) c.is_before.result
    c.args.one.now c.args.other.now _ _ bytes others (c.to_lower_case.ensures base is)
    (c.to_lower_case-2.ensures base is) c.is_before.ensures means more
