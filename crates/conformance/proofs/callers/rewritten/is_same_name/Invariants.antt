use Rattle.std.proofs.Common.{◌≡◌, map, take}
use Rattle.data_encoding.specs.Base.{meaning}
use Rattle.conformance.proofs.callers.rewritten.is_same_name.Given as goal

abbrev pub invariant-loop-i : goal.invariant-loop-i
invariant-loop-i l =
    map (meaning l.encoding) (take l.i l.one) ≡ map (meaning l.encoding) (take l.i l.other)
