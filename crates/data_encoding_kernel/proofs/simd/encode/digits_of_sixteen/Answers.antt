use Rattle.std.proofs.Common.{◌≡◌, ℕ, ◌^◌, ◌<◌, List, sym, ◌∙◌, subst, arith}
use Rattle.std.specs.List.{AllByRecursion}
use Rattle.data_encoding_kernel.proofs.text.SixteenSymbolLemmas.{width-front}
use Rattle.data_encoding_kernel.proofs.simd.encode.digits_of_sixteen.Goals as goal

below-found : (found : List ℕ) (w width : ℕ) → w ≡ width
    → AllByRecursion (λ digit. digit < 2 ^ w) found
    → AllByRecursion (λ digit. digit < 2 ^ width) found
below-found found w width is = subst (λ v. AllByRecursion (λ digit. digit < 2 ^ v) found) is

pub returns-then-width-eq3-clause-digits : goal.returns-then-width-eq3-clause-digits
returns-then-width-eq3-clause-digits g c =
    width-front c.args.order c.args.input.now c.octal_digits_of_four.result g.G.GroupSize.is_group 3
    4 (sym c.if-width-eq3.true ∙ c.WIDTH-width.ensures) (omega arith)
    c.octal_digits_of_four.ensures.digits

pub returns-then-width-eq3-clause-below : goal.returns-then-width-eq3-clause-below
returns-then-width-eq3-clause-below g c =
    below-found c.octal_digits_of_four.result 3 g.G.GroupSize.WIDTH
    (sym c.if-width-eq3.true ∙ c.WIDTH-width.ensures) c.octal_digits_of_four.ensures.below

pub returns-then-width-eq5-clause-digits : goal.returns-then-width-eq5-clause-digits
returns-then-width-eq5-clause-digits g c =
    width-front c.args.order c.args.input.now c.digits_of_two.result g.G.GroupSize.is_group 5 2
    (sym c.if-width-eq5.true ∙ c.WIDTH-width.ensures) (omega arith) c.digits_of_two.ensures.digits

pub returns-then-width-eq5-clause-below : goal.returns-then-width-eq5-clause-below
returns-then-width-eq5-clause-below g c =
    below-found c.digits_of_two.result 5 g.G.GroupSize.WIDTH
    (sym c.if-width-eq5.true ∙ c.WIDTH-width.ensures) c.digits_of_two.ensures.below

pub returns-then-width-eq6-clause-digits : goal.returns-then-width-eq6-clause-digits
returns-then-width-eq6-clause-digits g c =
    width-front c.args.order c.args.input.now c.digits_of_four.result g.G.GroupSize.is_group 6 4
    (sym c.if-width-eq6.true ∙ c.WIDTH-width.ensures) (omega arith) c.digits_of_four.ensures.digits

pub returns-then-width-eq6-clause-below : goal.returns-then-width-eq6-clause-below
returns-then-width-eq6-clause-below g c =
    below-found c.digits_of_four.result 6 g.G.GroupSize.WIDTH
    (sym c.if-width-eq6.true ∙ c.WIDTH-width.ensures) c.digits_of_four.ensures.below

pub returns-then-width-eq1-clause-digits : goal.returns-then-width-eq1-clause-digits
returns-then-width-eq1-clause-digits g c =
    width-front c.args.order c.args.input.now c.one_bit_digits.result g.G.GroupSize.is_group 1 8
    (sym c.if-width-eq1.true ∙ c.WIDTH-width.ensures) (omega arith) c.one_bit_digits.ensures.digits

pub returns-then-width-eq1-clause-below : goal.returns-then-width-eq1-clause-below
returns-then-width-eq1-clause-below g c =
    below-found c.one_bit_digits.result 1 g.G.GroupSize.WIDTH
    (sym c.if-width-eq1.true ∙ c.WIDTH-width.ensures) c.one_bit_digits.ensures.below

pub returns-then-width-eq2-clause-digits : goal.returns-then-width-eq2-clause-digits
returns-then-width-eq2-clause-digits g c =
    width-front c.args.order c.args.input.now c.two_bit_digits.result g.G.GroupSize.is_group 2 8
    (sym c.if-width-eq2.true ∙ c.WIDTH-width.ensures) (omega arith) c.two_bit_digits.ensures.digits

pub returns-then-width-eq2-clause-below : goal.returns-then-width-eq2-clause-below
returns-then-width-eq2-clause-below g c =
    below-found c.two_bit_digits.result 2 g.G.GroupSize.WIDTH
    (sym c.if-width-eq2.true ∙ c.WIDTH-width.ensures) c.two_bit_digits.ensures.below

pub returns-clause-digits : goal.returns-clause-digits
returns-clause-digits g c =
    width-front c.args.order c.args.input.now c.four_bit_digits.result g.G.GroupSize.is_group 4 8
    (omega (
      arith,
      g.G.GroupSize.is_group.is_width.some,
      g.G.GroupSize.is_group.is_width.few,
      c.WIDTH-width.ensures,
      c.if-width-eq3.false,
      c.if-width-eq5.false,
      c.if-width-eq6.false,
      c.if-width-eq1.false,
      c.if-width-eq2.false,
    ))
    (omega arith) c.four_bit_digits.ensures.digits

pub returns-clause-below : goal.returns-clause-below
returns-clause-below g c =
    below-found c.four_bit_digits.result 4 g.G.GroupSize.WIDTH
    (omega (
      arith,
      g.G.GroupSize.is_group.is_width.some,
      g.G.GroupSize.is_group.is_width.few,
      c.WIDTH-width.ensures,
      c.if-width-eq3.false,
      c.if-width-eq5.false,
      c.if-width-eq6.false,
      c.if-width-eq1.false,
      c.if-width-eq2.false,
    ))
    c.four_bit_digits.ensures.below
