use Rattle.std.proofs.Common.{◌≡◌, ◌*◌, ◌/◌, ◌%◌, true, false, sym, ap, ◌∙◌, subst, arith, div-mul-le_self, le_of_mul-le-mul_right, mul_comm}
use Rattle.std.proofs.lemmas.Nat.{mul-le}
use Rattle.data_encoding.specs.Encoding.{base_of_tables}
use Rattle.data_encoding_meaning.specs.text.Lengths.{greatest_valid_length}
use Rattle.data_encoding.specs.PlainTables.{plain_tables}
use Rattle.data_encoding_meaning.proofs.decoding.GreatestLengthLemmas.{greatest-least, greatest-less}
use Rattle.data_encoding_meaning.proofs.grammar.LengthLemmas.{greatest_valid_length-by}
use Rattle.data_encoding.proofs.tables.TableLemmas.{IsWidth-seen}
use Rattle.data_encoding.proofs.encoding.EncodingRef.greatest_valid_length.Goals as goal

pub returns-then-is_padded-clause-value : goal.returns-then-is_padded-clause-value
returns-then-is_padded-clause-value c =
    let seen =
    base_of_tables (plain_tables c.self.inside.fields.now c.self.inside.separator.now) in
    subst
    (λ b. c.args.len / c.group_symbols-symbols.result * c.group_symbols-symbols.result
    ≡ greatest_valid_length b c.args.len)
    c.self.view_is
    (ap (λ n. c.args.len / n * n) c.group_symbols-symbols.ensures.value
    ∙ sym (greatest_valid_length-by seen
    c.args.len true (sym c.is_padded.ensures ∙ c.if-is_padded.true)))

pub returns-clause-value : goal.returns-clause-value
returns-clause-value c =
    let seen =
    base_of_tables (plain_tables c.self.inside.fields.now c.self.inside.separator.now) in
    rw (← c.self.view_is)
    (sym (greatest_valid_length-by seen
    c.args.len false (sym c.is_padded.ensures ∙ c.if-is_padded.false)))

pub returns-then-is_padded-clause-most : goal.returns-then-is_padded-clause-most
returns-then-is_padded-clause-most c =
    let seen = c.args.self.now in
    let width = IsWidth-seen _ c.self.invariant seen c.self.view_is in
    rw (returns-then-is_padded-clause-value c) (greatest-least seen width c.args.len)

pub returns-then-is_padded-clause-less : goal.returns-then-is_padded-clause-less
returns-then-is_padded-clause-less c = λ invalid.
    let seen = c.args.self.now in
    let width = IsWidth-seen _ c.self.invariant seen c.self.view_is in
    rw (returns-then-is_padded-clause-value c) (greatest-less seen width c.args.len invalid)

pub returns-clause-less : goal.returns-clause-less
returns-clause-less c = λ invalid.
    let seen = c.args.self.now in
    let width = IsWidth-seen _ c.self.invariant seen c.self.view_is in
    rw (returns-clause-value c) (greatest-less seen width c.args.len invalid)

pub returns-clause-most : goal.returns-clause-most
returns-clause-most c =
    let seen = c.args.self.now in
    let width = IsWidth-seen _ c.self.invariant seen c.self.view_is in
    rw (returns-clause-value c) (greatest-least seen width c.args.len)

pub overflow_mul-result : goal.overflow_mul-result
overflow_mul-result c =
    omega (arith, div-mul-le_self c.args.len c.group_symbols-symbols.result)

pub overflow_mul-result-2 : goal.overflow_mul-result-2
overflow_mul-result-2 c =
    omega (
      arith,
      mul-le c.self.inside.fields.now.width c.args.len 6 2305843009213693951
          c.self.invariant.is_width.few c.requires.limit,
    )

pub overflow_sub-result : goal.overflow_sub-result
overflow_sub-result c =
    let width = c.self.inside.fields.now.width in
    le_of_mul-le-mul_right {k = width}
    (omega (arith, div-mul-le_self (width * c.args.len % 8) width, mul_comm width c.args.len))
    c.self.invariant.is_width.some
