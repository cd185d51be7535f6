use Rattle.std.proofs.Common.{refl}
use Rattle.data_encoding.proofs.specification.predefined.named.predefined.Goals as goal

pub returns-in-None-clause-known : goal.returns-in-None-clause-known
returns-in-None-clause-known c = tt

pub returns-in-None-clause-unknown : goal.returns-in-None-clause-unknown
returns-in-None-clause-unknown c =
    (λ _. rw (← c.predefined_number.ensures) (rw c.in-None.is refl), λ _. refl)
