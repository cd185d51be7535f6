use Rattle.std.proofs.Common.{◌-◌, length, drop, sym, arith}
use Rattle.std.proofs.lemmas.List.{drop_all, length-drop, take_all}
use Rattle.data_encoding.proofs.specification.layout.separator_of.Goals as goal

pub returns-then-bytes-le515 : goal.returns-then-bytes-le515
returns-then-bytes-le515 c = sym (drop_all 515 c.args.bytes.now (omega arith))

pub returns : goal.returns
returns c =
    take_all (length c.args.bytes.now - 515) (drop 515 c.args.bytes.now)
    (omega (arith, length-drop 515 c.args.bytes.now))
