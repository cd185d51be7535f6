use Rattle.std.proofs.Common.{◌≡◌, take}
use Rattle.data_encoding.specs.SameMeaning.{kept_bytes}
use Rattle.conformance.proofs.callers.rewritten.kept.Given as goal

abbrev pub invariant-loop-byte : goal.invariant-loop-byte
invariant-loop-byte l = l.bytes.items ≡ kept_bytes l.encoding (take l.byte-index l.text)
