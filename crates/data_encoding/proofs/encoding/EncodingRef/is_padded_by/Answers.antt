use Rattle.std.proofs.Common.{◌<◌, sym, ap, subst, ◌∙◌, arith}
use Rattle.std.proofs.lemmas.Bool.Decides.{nat_tests}
use Rattle.data_encoding_meaning.specs.text.Base.{group_symbols, is_padded, is_padding, meaning}
use Rattle.data_encoding.proofs.decoding.ShortLemmas.{padding-means, padding-some}
use Rattle.data_encoding.proofs.encoding.EncodingRef.is_padded_by.Goals as goal

pub returns : goal.returns
returns c =
    λ h.
    let base = c.args.self.now in
    let joins = c.requires.join in
    record {
      padded = ap is_padded (sym c.self.view_is) ∙ sym c.is_padded.ensures
          ∙ c.if-not-is_padded.false;
      few = subst (λ n. c.args.count < n) (c.group_symbols.ensures ∙ ap group_symbols
          joins.width_is)
          c.if-count-group_symbols.false;
      valid = rw (← joins.width_is) (grind (arith, nat_tests, c.if-join-front.false));
      are = λ k less.
          ap (λ byte. is_padding (meaning base byte))
          (c.count_alike.ensures.alike k (grind (arith, nat_tests, h, less)))
          ∙ padding-means _ c.self.invariant base c.self.view_is _
          (padding-some _ (sym c.is_padded.ensures ∙ c.if-not-is_padded.false));
    }
