use Rattle.std.proofs.Common.{◌++◌, drop, refl, sym, ap, ◌∙◌}
use Rattle.data_encoding.proofs.tables.TableLemmas.{Writes-tables}
use Rattle.data_encoding.proofs.encoding.EncodingRef.encode_padded.Goals as goal

pub returns : goal.returns
returns c =
    let seen = c.args.self.now in
    ap (λ l. l ++ drop c.pad-count.result c.pad-count.new.output)
    (c.encode_plain.ensures seen
    (rw c.order.ensures (Writes-tables _ c.self.invariant seen c.self.view_is _ refl)))
    ∙ sym c.pad-count.ensures.padding
