use Rattle.std.proofs.Common.{refl}
use Rattle.data_encoding.proofs.encoding.plain_encoding.PlainFields.order.Goals as goal

pub returns-then-self : goal.returns-then-self
returns-then-self c = rw c.if-self.true refl

pub returns-else-self : goal.returns-else-self
returns-else-self c = rw c.if-self.false refl
