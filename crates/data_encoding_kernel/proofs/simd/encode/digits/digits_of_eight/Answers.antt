use Rattle.std.proofs.Common.{◌≡◌, ℕ, ◌+◌, ◌*◌, ◌≤◌, List, refl, sym, ◌∙◌, subst, arith}
use Rattle.data_encoding_meaning.specs.declared.encoding.BitOrder.{BitOrder}
use Rattle.data_encoding_meaning.specs.text.Base.{group_bytes, group_symbols, IsGroup}
use Rattle.data_encoding_kernel.proofs.digits.JoinLemmas.{HasDigits}
use Rattle.data_encoding_kernel.proofs.simd.encode.digits.digits_of_eight.Goals as goal

-- and a width that equals theirs has these sizes
digits-at : (order : BitOrder) (input lanes : List ℕ) {width bytes symbols k : ℕ}
    → IsGroup width bytes symbols → width ≡ k
    → HasDigits order input lanes k (group_bytes k) (group_symbols k)
    → HasDigits order input lanes width bytes symbols
digits-at order input lanes {width} {bytes} {symbols} {k} group is has =
    rw (group.has_symbols, group.has_bytes, is) has

bytes-at : (n : ℕ) {width bytes symbols k w : ℕ} → IsGroup width bytes symbols → w ≡ width → w ≡ k
    → 10 * bytes ≤ n + 2 → 10 * group_bytes k ≤ n + 2
bytes-at n group is at enough =
    subst (λ w. 10 * group_bytes w ≤ n + 2) (sym is ∙ at)
    (subst (λ b. 10 * b ≤ n + 2) group.has_bytes enough)

pub one_bit_digits-requires : goal.one_bit_digits-requires
one_bit_digits-requires g c =
    let enough = bytes-at _ g.G.GroupSize.is_group c.WIDTH-width.ensures c.if-width-eq1.true
    c.requires.bytes in
    omega arith

pub returns-then-width-eq1 : goal.returns-then-width-eq1
returns-then-width-eq1 g c =
    digits-at c.args.order c.args.input.now c.one_bit_digits.result g.G.GroupSize.is_group
    (sym c.WIDTH-width.ensures ∙ c.if-width-eq1.true) c.one_bit_digits.ensures

pub two_bit_digits-requires : goal.two_bit_digits-requires
two_bit_digits-requires g c =
    let enough = bytes-at _ g.G.GroupSize.is_group c.WIDTH-width.ensures c.if-width-eq2.true
    c.requires.bytes in
    omega arith

pub returns-then-width-eq2 : goal.returns-then-width-eq2
returns-then-width-eq2 g c =
    digits-at c.args.order c.args.input.now c.two_bit_digits.result g.G.GroupSize.is_group
    (sym c.WIDTH-width.ensures ∙ c.if-width-eq2.true) c.two_bit_digits.ensures

pub three_bit_digits-requires : goal.three_bit_digits-requires
three_bit_digits-requires g c =
    let enough = bytes-at _ g.G.GroupSize.is_group c.WIDTH-width.ensures c.if-width-eq3.true
    c.requires.bytes in
    omega arith

pub returns-then-width-eq3 : goal.returns-then-width-eq3
returns-then-width-eq3 g c =
    digits-at c.args.order c.args.input.now c.three_bit_digits.result g.G.GroupSize.is_group
    (sym c.WIDTH-width.ensures ∙ c.if-width-eq3.true) c.three_bit_digits.ensures

pub four_bit_digits-requires : goal.four_bit_digits-requires
four_bit_digits-requires g c =
    let enough = bytes-at _ g.G.GroupSize.is_group c.WIDTH-width.ensures c.if-width-eq4.true
    c.requires.bytes in
    omega arith

pub returns-then-width-eq4 : goal.returns-then-width-eq4
returns-then-width-eq4 g c =
    digits-at c.args.order c.args.input.now c.four_bit_digits.result g.G.GroupSize.is_group
    (sym c.WIDTH-width.ensures ∙ c.if-width-eq4.true) c.four_bit_digits.ensures

pub five_bit_digits-requires : goal.five_bit_digits-requires
five_bit_digits-requires g c =
    let enough = bytes-at _ g.G.GroupSize.is_group c.WIDTH-width.ensures c.if-width-eq5.true
    c.requires.bytes in
    omega arith

pub returns-then-width-eq5 : goal.returns-then-width-eq5
returns-then-width-eq5 g c =
    digits-at c.args.order c.args.input.now c.five_bit_digits.result g.G.GroupSize.is_group
    (sym c.WIDTH-width.ensures ∙ c.if-width-eq5.true) c.five_bit_digits.ensures

pub six_bit_digits-requires : goal.six_bit_digits-requires
six_bit_digits-requires g c =
    let is : g.G.GroupSize.WIDTH ≡ 6 =
    omega (arith, g.G.GroupSize.is_group.is_width.some, g.G.GroupSize.is_group.is_width.few) in
    omega (arith, bytes-at _ g.G.GroupSize.is_group refl is c.requires.bytes)

pub returns : goal.returns
returns g c =
    let is : g.G.GroupSize.WIDTH ≡ 6 =
    omega (arith, g.G.GroupSize.is_group.is_width.some, g.G.GroupSize.is_group.is_width.few) in
    digits-at c.args.order c.args.input.now c.six_bit_digits.result g.G.GroupSize.is_group is
    c.six_bit_digits.ensures
