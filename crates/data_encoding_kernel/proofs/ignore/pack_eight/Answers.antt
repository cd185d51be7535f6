use Rattle.std.proofs.Common.{◌+◌, ◌<◌, ◌≡◌, ap, subst, arith, length, take}
use Rattle.std.specs.Int.RustNames.{count_ones}
use Rattle.std.specs.List.{AllByRecursion, range_with_len}
use Rattle.std.specs.Simd.Lanes.{digits_l}
use Rattle.std.proofs.lemmas.Nat.{ones-le}
use Rattle.data_encoding_kernel.specs.Ignore.{picked}
use Rattle.data_encoding_kernel.proofs.packing.PackLemmas.{packed-eight, places-ok}
use Rattle.data_encoding_kernel.proofs.ignore.pack_eight.Goals as goal

pub swizzle : goal.swizzle
swizzle c =
    places-ok (c.moves.result + 0) (omega (arith, c.moves.type_inv))
    (subst (λ row. AllByRecursion (λ place. place < 8) (digits_l 256 8 row)) (omega arith)
    c.moves.ensures.few)

pub returns-clause-few : goal.returns-clause-few
returns-clause-few c = ones-le 8 c.args.mask c.requires.mask

pub returns-clause-packed : goal.returns-clause-packed
returns-clause-packed c flags eight is =
    packed-eight flags (c.moves.result + 0) c.args.bytes c.args.room.now eight c.fits-bytes.0
    c.requires.room
    (subst (λ row. AllByRecursion (λ place. place < 8) (digits_l 256 8 row)) (omega arith)
    c.moves.ensures.few)
    (subst (λ row. take (length (picked flags (range_with_len 0 8))) (digits_l 256 8 row)
    ≡ picked flags (range_with_len 0 8)) (omega arith) (c.moves.ensures.begins flags eight is))
    (count_ones c.args.mask) (ap count_ones is)
