use Rattle.std.proofs.Common.{◌≡◌, arith}
use Rattle.data_encoding_kernel.proofs.encode.encode_plain.Goals as goal

pub returns-in-1 : goal.returns-in-1
returns-in-1 c = rw c.in-1.is c.encode_by_width.ensures

pub returns-in-2 : goal.returns-in-2
returns-in-2 c = rw c.in-2.is c.encode_by_width-in-2.ensures

pub returns-in-3 : goal.returns-in-3
returns-in-3 c = rw c.in-3.is c.encode_by_width-in-3.ensures

pub returns-in-4 : goal.returns-in-4
returns-in-4 c = rw c.in-4.is c.encode_by_width-in-4.ensures

pub returns-in-5 : goal.returns-in-5
returns-in-5 c = rw c.in-5.is c.encode_by_width-in-5.ensures

pub returns-in_default : goal.returns-in_default
returns-in_default c =
    let is : c.args.width ≡ 6 = omega arith in
    rw is c.encode_by_width-in_default.ensures
