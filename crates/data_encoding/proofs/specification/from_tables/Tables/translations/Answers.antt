use Rattle.std.proofs.Common.{◌≡◌, ◌++◌, ◌∷◌, [], map, sym, ap, ◌∙◌, arith}
use Rattle.data_encoding_meaning.specs.specification.Layout.{own_byte}
use Rattle.data_encoding_meaning.proofs.judgement.TranslationLemmas.{filter-fails, filter-passes, is_translated_byte, own-more, translated_below}
use Rattle.data_encoding.proofs.specification.from_tables.Tables.translations.Goals as goal
use Rattle.data_encoding.proofs.specification.from_tables.Tables.translations.Goals.{in-Some, in_default}

pub loop-byte-preserved : goal.loop-byte-preserved
loop-byte-preserved c =
    let n = c.loop-byte.byte in
    let before = c.loop-byte.invariant in
    elim c.match-translation_of.branch [
      | in-Some w ↦
          rw (w.from-is, w.to-is) (record {
            few = omega (arith, w.push.ensures.len, before.few);
            as_many =
                omega (arith, w.push.ensures.len, w.push-in-Some.ensures.len, before.as_many);
            from = λ base has.
                let is = sym (w.in-Some.ensures.variant base has) in
                w.push.ensures.items ∙ ap (λ l. l ++ n ∷ []) (before.from base has)
                ∙ sym (filter-passes (is_translated_byte base) n is);
            to = λ base has.
                let is = sym (w.in-Some.ensures.variant base has) in
                w.push-in-Some.ensures.items
                ∙ (λ i. before.to base has i ++ w.in-Some.ensures.some base has i ∷ [])
                ∙ sym (own-more base n is);
          })
      | in_default w ↦
          rw (w.from-is, w.to-is) (record {
            few = omega (arith, before.few);
            as_many = before.as_many;
            from = λ base has.
                let is = sym (w.in_default.ensures.variant base has) in
                before.from base has ∙ sym (filter-fails (is_translated_byte base) n is);
            to = λ base has.
                let is = sym (w.in_default.ensures.variant base has) in
                before.to base has
                ∙ ap (map (own_byte base)) (sym (filter-fails (is_translated_byte base) n is));
          })
    ]

pub returns-clause-from : goal.returns-clause-from
returns-clause-from c =
    let last : c.loop-byte.byte ≡ 128 = omega arith in
    λ base has. c.loop-byte.invariant.from base has ∙ ap (translated_below base) last

pub returns-clause-to : goal.returns-clause-to
returns-clause-to c =
    let last : c.loop-byte.byte ≡ 128 = omega arith in
    λ base has. c.loop-byte.invariant.to base has
    ∙ ap (λ n. map (own_byte base) (translated_below base n)) last
