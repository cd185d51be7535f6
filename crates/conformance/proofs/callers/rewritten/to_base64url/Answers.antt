use Rattle.std.proofs.Common.{◌≡◌, Ok, sym, ap, ◌∙◌, arith, subst}
use Rattle.data_encoding.specs.Base.{Base}
use Rattle.data_encoding.specs.Fault.{fault_of}
use Rattle.data_encoding.specs.Fields.{base_of}
use Rattle.data_encoding.specs.Grammar.{Means}
use Rattle.data_encoding.specs.Predefined.{base64_fields, base64url_fields}
use Rattle.data_encoding.specs.SameMeaning.{exchanged, exchanged_text}
use Rattle.conformance.proofs.RewrittenLemmas.{differ-in-symbols, exchanged-all, exchanged-more, invalid-in-both, specified_by}
use Rattle.conformance.proofs.callers.rewritten.to_base64url.Goals as goal
use Rattle.conformance.proofs.callers.rewritten.to_base64url.Goals.{After-loop-byte}

pub loop-byte-preserved : goal.loop-byte-preserved
loop-byte-preserved c = λ base url is also.
    exchanged-more (exchanged base url) c.loop-byte.text c.args.text.now c.loop-byte.byte-index
    c.url_byte.result (c.loop-byte.invariant base url is also) (omega arith)
    (c.url_byte.ensures base url is also)

-- each character was exchanged
exchanged-is : (c : After-loop-byte) (base url : Base) → base_of base64_fields ≡ Ok base
    → base_of base64url_fields ≡ Ok url
    → c.loop-byte.text ≡ exchanged_text base url c.args.text.now
exchanged-is c base url is also =
    c.loop-byte.invariant base url is also
    ∙ exchanged-all (exchanged base url) c.loop-byte.byte-index c.args.text.now (omega arith)

pub returns-clause-text : goal.returns-clause-text
returns-clause-text c = λ base url is also bytes text.
    exchanged-is c base url is also
    ∙ ap (exchanged_text base url) text
    ∙ sym (c.same_but_symbols.ensures.text base url (specified_by base64_fields base is)
    (differ-in-symbols base url is also c.eighteen.ensures).in_symbols bytes)

pub returns-clause-means : goal.returns-clause-means
returns-clause-means c = λ base url is also bytes means.
    subst (λ text. Means url text bytes) (sym (exchanged-is c base url is also))
    (c.same_but_symbols.ensures.means base url (specified_by base64_fields base is)
    (specified_by base64url_fields url also) (differ-in-symbols base url is also c.eighteen.ensures)
    c.args.text.now bytes means)

pub returns-clause-fault : goal.returns-clause-fault
returns-clause-fault c = λ base url is also apart.
    c.same_but_symbols.ensures.fault base url (specified_by base64_fields base is)
    (specified_by base64url_fields url also) (differ-in-symbols base url is also c.eighteen.ensures)
    c.args.text.now (λ k d within. invalid-in-both base url is also _ (apart k d within))
    ∙ ap (fault_of url) (sym (exchanged-is c base url is also))
