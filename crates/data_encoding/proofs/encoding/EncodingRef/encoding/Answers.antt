use Rattle.data_encoding.proofs.tables.TableRuleLemmas.{separator-short}
use Rattle.data_encoding.proofs.encoding.EncodingRef.encoding.Goals as goal

pub copied-requires : goal.copied-requires
copied-requires c = separator-short _ c.self.invariant

pub invariant_of-result : goal.invariant_of-result
invariant_of-result c = rw c.copied.ensures c.self.invariant

pub returns : goal.returns
returns c = rw c.copied.ensures c.self.view_is
