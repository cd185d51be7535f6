use Rattle.std.proofs.Common.{sym, ap, subst}
use Rattle.data_encoding_meaning.specs.text.Base.{Base, IsWidth}
use Rattle.data_encoding.proofs.tables.TableLemmas.{IsWidth-seen}
use Rattle.data_encoding.proofs.tables.TableRuleLemmas.{is_base_of}
use Rattle.data_encoding.proofs.encoding.EncodingRef.bit_width.Goals as goal

pub returns : goal.returns
returns c =
    let seen = c.args.self.now in
    let value = ap (λ (b : Base). b.width) c.self.view_is in
    record {
      value = value;
      width = subst IsWidth (sym value) (IsWidth-seen _ c.self.invariant seen c.self.view_is);
      base = rw (← c.self.view_is) (is_base_of _ c.self.invariant);
    }
