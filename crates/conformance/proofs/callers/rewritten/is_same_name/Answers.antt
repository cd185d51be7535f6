use Rattle.std.proofs.Common.{◌≡◌, false, true, refl, sym, ◌∙◌, arith, rules}
use Rattle.std.proofs.lemmas.Bool.{false≢true}
use Rattle.conformance.proofs.RewrittenLemmas.{all_alike, lengths_alike, more_alike, one_alike, same_name}
use Rattle.conformance.proofs.callers.rewritten.is_same_name.Goals as goal

pub returns-then-one-other : goal.returns-then-one-other
returns-then-one-other c = λ base is bytes others.
    let encoding = c.base32_dnssec-encoding.result in
    let laws = c.translated.ensures in
    same_name base is c.one_meaning.ensures laws.same laws.own_form laws.own_forms
    encoding c.base32_dnssec-encoding.ensures c.args.one.now c.args.other.now false (
      (λ h. absurd (false≢true h)),
      (λ same. absurd
          (c.if-one-other.true (lengths_alike encoding c.args.one.now c.args.other.now same))),
    )
    bytes others

pub returns-then-ne : goal.returns-then-ne
returns-then-ne c = λ base is bytes others.
    let encoding = c.base32_dnssec-encoding.result in
    let laws = c.translated.ensures in
    let apart : c.interpret_byte.result ≡ c.interpret_byte-in-loop-i.result → ⊥ =
    λ h. search rules in
    same_name base is c.one_meaning.ensures laws.same laws.own_form laws.own_forms
    encoding c.base32_dnssec-encoding.ensures c.args.one.now c.args.other.now false (
      (λ h. absurd (false≢true h)),
      (λ same. absurd (apart (c.interpret_byte.ensures ∙
          one_alike encoding c.args.one.now c.args.other.now c.loop-i.i (omega arith)
          c.if-one-other.false same
          ∙ sym c.interpret_byte-in-loop-i.ensures))),
    )
    bytes others

pub loop-i-preserved : goal.loop-i-preserved
loop-i-preserved c =
    let same : c.interpret_byte.result ≡ c.interpret_byte-in-loop-i.result = search rules in
    more_alike c.base32_dnssec-encoding.result c.args.one.now c.args.other.now c.loop-i.i
    (omega arith)
    c.if-one-other.false c.loop-i.invariant
    (sym c.interpret_byte.ensures ∙ same ∙ c.interpret_byte-in-loop-i.ensures)

pub returns : goal.returns
returns c = λ base is bytes others.
    let encoding = c.base32_dnssec-encoding.result in
    let laws = c.translated.ensures in
    same_name base is c.one_meaning.ensures laws.same laws.own_form laws.own_forms
    encoding c.base32_dnssec-encoding.ensures c.args.one.now c.args.other.now true (
      (λ h. all_alike encoding c.args.one.now c.args.other.now c.loop-i.i
          (omega arith) c.if-one-other.false c.loop-i.invariant),
      (λ same. refl),
    )
    bytes others
