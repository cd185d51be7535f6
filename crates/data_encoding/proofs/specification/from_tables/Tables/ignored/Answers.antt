use Rattle.std.proofs.Common.{◌≡◌, ◌<◌, ◌++◌, ◌∷◌, [], length, ap, sym, ◌∙◌, arith}
use Rattle.std.proofs.lemmas.Bool.{eq-eqb, ne_eqb}
use Rattle.std.specs.List.{filter, range_with_len}
use Rattle.data_encoding_meaning.specs.text.Base.{is_ignored, meaning}
use Rattle.data_encoding_meaning.proofs.judgement.TranslationLemmas.{filter-fails, filter-passes}
use Rattle.data_encoding.proofs.tables.ReadTableLemmas.{ignored-at}
use Rattle.data_encoding.proofs.specification.from_tables.Tables.ignored.Goals as goal
use Rattle.data_encoding.proofs.specification.from_tables.Tables.ignored.Goals.{then-self-byte, else-self-byte}

pub loop-byte-preserved : goal.loop-byte-preserved
loop-byte-preserved c =
    let n = c.loop-byte.byte in
    let tables = c.args.self.now in
    let before = c.loop-byte.invariant in
    let within : n < length tables.values.now = omega (arith, c.requires) in
    elim c.if-self-byte.branch [
      | then-self-byte w ↦
          rw w.bytes-is (record {
            few = omega (arith, w.push.ensures.len, before.few);
            are = λ base has. w.push.ensures.items ∙ ap (λ l. l ++ n ∷ []) (before.are base has)
                ∙ sym (filter-passes (λ byte. is_ignored (meaning base byte)) n
                (ignored-at base tables has n within ∙ eq-eqb _ _ w.if-self-byte.true));
          })
      | else-self-byte w ↦
          rw w.bytes-is (record {
            few = omega (arith, before.few);
            are = λ base has. before.are base has
                ∙ sym (filter-fails (λ byte. is_ignored (meaning base byte)) n
                (ignored-at base tables has n within ∙ ne_eqb _ _ w.if-self-byte.false));
          })
    ]

pub returns : goal.returns
returns c =
    let last : c.loop-byte.byte ≡ 128 = omega arith in
    λ base has. c.loop-byte.invariant.are base has
    ∙ ap (λ n. filter (λ byte. is_ignored (meaning base byte)) (range_with_len 0 n)) last
