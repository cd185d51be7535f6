-- An ignored byte gives a second text.
use Rattle.std.proofs.Common.{not, cond, [], ◌∷◌, refl, sym, ap, ◌∙◌, arith}
use Rattle.data_encoding_meaning.specs.text.Base.{Base, group_symbols}
use Rattle.data_encoding_meaning.specs.laws.Canonical.{IgnoredIsSecond}
use Rattle.data_encoding_meaning.specs.text.Grammar.{Means, Positioned}
use Rattle.data_encoding_meaning.proofs.digits.WidthLemmas.{group_symbols-pos}
use Rattle.data_encoding_meaning.proofs.grammar.SameBytesLemmas.{bytes-kept_in, Means-same}
use Rattle.data_encoding_meaning.proofs.lists.RunLemmas.{runs-nil}
use Rattle.data_encoding_meaning.proofs.judgement.RuleLemmas.{IsRuled}

module _ (base : Base) (ruled : IsRuled base) where
  -- the empty text means no bytes
  Means-nil : Means base [] []
  Means-nil =
      rw (runs-nil {X = Positioned} (group_symbols base.width)
      (group_symbols-pos base.width ruled.is_width)) refl

  pub ignored-second : IgnoredIsSecond base
  ignored-second byte is = record {
    differ = λ same. cc;
    one_is_short = omega arith;
    other_is_short = omega arith;
    one_means = Means-nil;
    other_means =
        Means-same base ruled.is_width [] (byte ∷ []) []
        (sym (bytes-kept_in base 0 (byte ∷ []) ∙ ap (λ b. cond (not b) (byte ∷ []) []) is))
        Means-nil;
  }
