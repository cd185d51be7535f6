use Rattle.std.proofs.Common.{ℕ, ◌+◌, ◌*◌, ◌-◌, ◌<◌, ◌≤◌, arith}
use Rattle.std.proofs.Math.Nat.{mul-le-mul_left}
use Rattle.data_encoding_kernel.proofs.words.weight_at.Goals as goal

digit-within : (size count k : ℕ) → k < count → size * k + size ≤ size * count
digit-within size count k h =
    let up : size * (k + 1) ≤ size * count = mul-le-mul_left size (omega (arith, h)) in
    omega (arith, up)

pub overflow_mul-result : goal.overflow_mul-result
overflow_mul-result c = record {
  fits = omega (
    arith,
    digit-within c.args.size c.args.count (c.args.count - 1 - c.args.index) (omega arith),
  );
}

pub overflow_mul-result-in-LeastSignificantFirst : goal.overflow_mul-result-in-LeastSignificantFirst
overflow_mul-result-in-LeastSignificantFirst c = record {
  fits = omega (arith, digit-within c.args.size c.args.count c.args.index c.requires.inside);
}

pub returns-in-MostSignificantFirst-clause-inside :
    goal.returns-in-MostSignificantFirst-clause-inside
returns-in-MostSignificantFirst-clause-inside c =
    digit-within c.args.size c.args.count (c.args.count - 1 - c.args.index) (omega arith)

pub returns-in-LeastSignificantFirst-clause-inside :
    goal.returns-in-LeastSignificantFirst-clause-inside
returns-in-LeastSignificantFirst-clause-inside c =
    digit-within c.args.size c.args.count c.args.index c.requires.inside
