use Rattle.std.proofs.Common.{ap, ◌∙◌}
use Rattle.data_encoding_meaning.specs.text.Base.{Base, group_bytes}
use Rattle.data_encoding.proofs.tables.TableRuleLemmas.{is_base_of}
use Rattle.data_encoding.proofs.encoding.EncodingRef.group_bytes.Goals as goal

pub returns : goal.returns
returns c = record {
  value = c.group_bytes.ensures.value ∙ ap (λ (b : Base). group_bytes b.width) c.self.view_is;
  some = c.group_bytes.ensures.some;
  few = c.group_bytes.ensures.few;
  base = rw (← c.self.view_is) (is_base_of _ c.self.invariant);
}
