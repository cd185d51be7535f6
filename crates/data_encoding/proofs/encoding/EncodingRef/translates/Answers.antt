use Rattle.std.proofs.Common.{◌==◌, not, length, ap, ◌∙◌}
use Rattle.data_encoding.proofs.encoding.EncodingRef.translates.Goals as goal

pub returns : goal.returns
returns c =
    ap (λ n. not (n == 0))
    (c.len.ensures.value
    ∙ ap length (c.translations.ensures.from c.args.self.now c.tables.ensures.tables))
