use Rattle.std.proofs.Common.{◌≡◌, ◌*◌, ◌/◌, true, false, sym, ◌∙◌, subst, arith, div-le_self}
use Rattle.std.proofs.lemmas.Nat.{mul-le}
use Rattle.data_encoding.specs.Encoding.{base_of_tables}
use Rattle.data_encoding_meaning.specs.text.Lengths.{most_bytes}
use Rattle.data_encoding.specs.PlainTables.{plain_tables}
use Rattle.data_encoding_meaning.proofs.grammar.LengthLemmas.{most_bytes-by}
use Rattle.data_encoding.proofs.encoding.EncodingRef.most_bytes.Goals as goal

pub returns-then-is_padded : goal.returns-then-is_padded
returns-then-is_padded c =
    let seen =
    base_of_tables (plain_tables c.self.inside.fields.now c.self.inside.separator.now) in
    subst
    (λ b. c.args.len / c.group_symbols-symbols.result * c.group_bytes.result
    ≡ most_bytes b c.args.len)
    c.self.view_is
    ((λ i. c.args.len / c.group_symbols-symbols.ensures.value i * c.group_bytes.ensures.value i)
    ∙ sym (most_bytes-by seen c.args.len true
    (sym c.is_padded.ensures ∙ c.if-is_padded.true)))

pub returns : goal.returns
returns c =
    let seen =
    base_of_tables (plain_tables c.self.inside.fields.now c.self.inside.separator.now) in
    rw (← c.self.view_is)
    (sym (most_bytes-by seen c.args.len false
    (sym c.is_padded.ensures ∙ c.if-is_padded.false)))

pub overflow_mul-result : goal.overflow_mul-result
overflow_mul-result c =
    omega (
      arith,
      mul-le (c.args.len / c.group_symbols-symbols.result) c.group_bytes.result
          2305843009213693951 5
          (omega (
            arith,
            div-le_self c.args.len c.group_symbols-symbols.result,
            c.requires.limit,
          ))
          c.group_bytes.ensures.few,
    )

pub overflow_mul-result-2 : goal.overflow_mul-result-2
overflow_mul-result-2 c =
    omega (
      arith,
      mul-le c.self.inside.fields.now.width c.args.len 6 2305843009213693951
          c.self.invariant.is_width.few c.requires.limit,
    )
