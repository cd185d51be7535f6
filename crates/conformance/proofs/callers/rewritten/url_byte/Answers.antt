use Rattle.std.proofs.Common.{rules}
use Rattle.conformance.proofs.RewrittenLemmas.{other-byte-same}
use Rattle.conformance.proofs.callers.rewritten.url_byte.Goals as goal

pub returns-in_default : goal.returns-in_default
returns-in_default c = λ base url is also.
    other-byte-same base url is also c.args.byte (λ h. search rules) (λ h. search rules)
