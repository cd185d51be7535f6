use Rattle.std.proofs.Common.{◌≡◌, ◌+◌, length, take}
use Rattle.data_encoding_meaning.specs.text.Grammar.{kept}
use Rattle.data_encoding.proofs.encoding.EncodingRef.kept_position.Given as goal

abbrev pub invariant-loop-position : goal.invariant-loop-position
invariant-loop-position l = length (kept l.self (take l.position l.part)) + l.left ≡ l.index
