use Rattle.std.proofs.Common.{◌≤◌, ◌^◌, ◌∙◌, arith}
use Rattle.std.proofs.Math.Pow.{pow_mono}
use Rattle.data_encoding_kernel.proofs.digits.RowLemmas.{by_value}
use Rattle.data_encoding_meaning.proofs.digits.WidthLemmas.{symbols-few}
use Rattle.data_encoding_kernel.proofs.simd.encode.look_up.Goals as goal

pub returns-then-width-eq6 : goal.returns-then-width-eq6
returns-then-width-eq6 g c =
    let width = g.G.GroupSize.WIDTH in
    c.look_in_sixty_four.ensures
    ∙ by_value c.args.symbols.now c.args.values 64 (2 ^ width)
    (symbols-few width g.G.GroupSize.is_group.is_width) c.requires.below

pub returns-then-width-eq5 : goal.returns-then-width-eq5
returns-then-width-eq5 g c =
    let width = g.G.GroupSize.WIDTH in
    let few : 2 ^ width ≤ 2 ^ 5 =
    pow_mono {i = width} {j = 5} (omega (arith, c.WIDTH-width.ensures, c.if-width-eq5.true)) in
    c.look_in_thirty_two.ensures
    ∙ by_value c.args.symbols.now c.args.values 32 (2 ^ width) few c.requires.below

pub returns : goal.returns
returns g c =
    let width = g.G.GroupSize.WIDTH in
    let few : 2 ^ width ≤ 2 ^ 4 =
    pow_mono {i = width} {j = 4} (omega (
      arith,
      g.G.GroupSize.is_group.is_width.few,
      c.WIDTH-width.ensures,
      c.if-width-eq6.false,
      c.if-width-eq5.false,
    )) in
    c.look_in_sixteen.ensures
    ∙ by_value c.args.symbols.now c.args.values 16 (2 ^ width) few c.requires.below
