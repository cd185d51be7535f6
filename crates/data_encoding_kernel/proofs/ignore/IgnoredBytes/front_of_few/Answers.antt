use Rattle.std.proofs.Common.{◌≡◌, true, slice_index, sym, ◌∙◌}
use borrow.Author.Count.{below_more}
use Rattle.data_encoding_meaning.specs.text.Base.{is_ignored, meaning}
use Rattle.data_encoding_kernel.proofs.ignore.IgnoredBytes.front_of_few.Goals as goal

pub loop-index-preserved : goal.loop-index-preserved
loop-index-preserved c = λ base held.
    below_more (λ k. is_ignored (meaning base (slice_index c.args.rest.now k)) ≡ true)
    c.loop-index.index (c.loop-index.invariant base held)
    (sym (c.contains.ensures base held) ∙ c.if-not-contains.false)
