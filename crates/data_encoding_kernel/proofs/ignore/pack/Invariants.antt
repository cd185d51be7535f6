use Rattle.std.proofs.Common.{◌≡◌, ◌*◌, ◌≤◌, length, take}
use Rattle.std.specs.List.{filter}
use Rattle.data_encoding_meaning.specs.text.Base.{Base}
use Rattle.data_encoding_kernel.specs.Ignore.{HoldsIgnored}
use Rattle.data_encoding_kernel.proofs.packing.KeptLemmas.{keeps}
use Rattle.data_encoding_kernel.proofs.ignore.pack.Given as goal

abbrev pub invariant-loop-turn : goal.invariant-loop-turn
invariant-loop-turn l =
    (l.count ≤ 16 * l.turn)
    × (l.count ≤ length l.room)
    × ((base : Base) → HoldsIgnored base l.ignored
    → take l.count l.room ≡ filter (keeps base) (take (16 * l.turn) l.part))
