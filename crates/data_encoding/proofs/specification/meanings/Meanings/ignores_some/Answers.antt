use Rattle.std.proofs.Common.{take, ◌∙◌}
use Rattle.data_encoding_meaning.proofs.tables.LayoutLemmas.{any-ignored}
use Rattle.data_encoding.proofs.specification.meanings.Meanings.ignores_some.Goals as goal

pub returns : goal.returns
returns c =
    rw (← c.self.view_is) (c.contains.ensures.value ∙ any-ignored (take 128 c.self.inside.values))
