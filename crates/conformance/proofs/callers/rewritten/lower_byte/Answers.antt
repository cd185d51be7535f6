use Rattle.std.proofs.Common.{arith}
use Rattle.conformance.proofs.LowerLemmas.{own-other, own-upper}
use Rattle.conformance.proofs.callers.rewritten.lower_byte.Goals as goal

pub returns-in-65-to-86 : goal.returns-in-65-to-86
returns-in-65-to-86 c = λ base is. own-upper base is c.args.byte (omega arith) (omega arith)

pub returns-in_default : goal.returns-in_default
returns-in_default c = λ base is. own-other base is c.args.byte (λ low high. omega arith)

pub returns-in_default-2 : goal.returns-in_default-2
returns-in_default-2 c = λ base is. own-other base is c.args.byte (λ low high. omega arith)
