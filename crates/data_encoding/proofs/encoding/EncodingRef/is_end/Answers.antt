use Rattle.std.proofs.Common.{refl, arith}
use Rattle.std.proofs.Math.Nat.{mul-le-mul_left, mul-le-mul_right}
use Rattle.data_encoding.proofs.encoding.EncodingRef.is_end.Goals as goal

pub bytes_len-requires : goal.bytes_len-requires
bytes_len-requires c = record {
  fits = omega (
    arith,
    mul-le-mul_right c.args.join.now.width c.requires.front.few,
    c.requires.join.is_join.few,
  );
}

pub bounds-front-bytes_len : goal.bounds-front-bytes_len
bounds-front-bytes_len c =
    omega (
      arith,
      c.bytes_len.ensures,
      mul-le-mul_left c.args.join.now.width c.requires.front.few,
      c.requires.join.is_join.few,
    )

pub returns-else-not-self-clause-end : goal.returns-else-not-self-clause-end
returns-else-not-self-clause-end c = λ is. c.if-not-ends_at.ensures refl

pub returns-then-not-self-clause-end : goal.returns-then-not-self-clause-end
returns-then-not-self-clause-end c = λ is. c.if-not-ends_at.ensures refl
