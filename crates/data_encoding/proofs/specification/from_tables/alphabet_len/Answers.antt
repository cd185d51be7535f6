use Rattle.std.proofs.Common.{◌^◌, ◌≤◌, arith}
use Rattle.std.proofs.Math.Pow.{pow_mono}
use Rattle.data_encoding.proofs.specification.from_tables.alphabet_len.Goals as goal

pub returns-clause-few : goal.returns-clause-few
returns-clause-few c =
    let few : 2 ^ c.args.width ≤ 2 ^ 6 = pow_mono c.requires in
    omega arith
