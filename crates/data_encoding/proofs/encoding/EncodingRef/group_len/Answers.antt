use Rattle.std.proofs.Common.{ap, ◌∙◌}
use Rattle.data_encoding_meaning.specs.text.Base.{Base, group_symbols}
use Rattle.data_encoding.proofs.tables.TableLemmas.{IsWidth-seen}
use Rattle.data_encoding.proofs.tables.TableRuleLemmas.{is_base_of}
use Rattle.data_encoding.proofs.encoding.EncodingRef.group_len.Goals as goal

pub returns : goal.returns
returns c =
    let seen = c.args.self.now in
    let width = ap (λ (b : Base). b.width) c.self.view_is in
    record {
      value = c.group_symbols.ensures.value ∙ ap group_symbols width;
      width = IsWidth-seen _ c.self.invariant seen c.self.view_is;
      base = rw (← c.self.view_is) (is_base_of _ c.self.invariant);
    }
