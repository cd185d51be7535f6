use Rattle.std.proofs.Common.{◌∙◌, w8, arith}
use Rattle.std.proofs.lemmas.Simd.{below_from_Fits}
use Rattle.data_encoding_meaning.proofs.lists.PartLemmas.{length-part}
use Rattle.data_encoding_kernel.proofs.packing.KeptLemmas.{count-at_most, flags-from-sixteen, flags_from, mask-below, mask-is, packed-more}
use Rattle.data_encoding_kernel.proofs.ignore.pack_more.Goals as goal

pub pack_sixteen-requires-clause-mask : goal.pack_sixteen-requires-clause-mask
pack_sixteen-requires-clause-mask c =
    mask-below c.args.ignored.now c.args.bytes c.args.first c.fits-bytes.0 c.requires.first
    c.kept_mask.ensures

pub overflow_add-result : goal.overflow_add-result
overflow_add-result c = omega (arith, c.pack_sixteen.ensures.few, c.requires.room)

pub returns-clause-few : goal.returns-clause-few
returns-clause-few c =
    let ignored = c.args.ignored.now in
    let bytes = c.args.bytes in
    let first = c.args.first in
    let long = c.fits-bytes.0 in
    let few = c.requires.first in
    let rest = count-at_most ignored bytes first long few c.pack_sixteen.result
    c.pack_sixteen.new.room
    (c.pack_sixteen.ensures.packed (flags_from ignored bytes first long few)
    (flags-from-sixteen ignored bytes first long few)
    (mask-is ignored bytes first long few c.kept_mask.ensures)) in
    omega (arith, rest)

pub returns-clause-kept : goal.returns-clause-kept
returns-clause-kept c base held =
    let ignored = c.args.ignored.now in
    let bytes = c.args.bytes in
    let first = c.args.first in
    let long = c.fits-bytes.0 in
    let few = c.requires.first in
    let room = c.args.room.now in
    packed-more ignored bytes first long few base held
    (below_from_Fits w8 bytes c.fits-bytes.1) c.args.start c.pack_sixteen.result room
    c.pack_sixteen.new.room c.requires.room
    (c.pack_sixteen.auto.room ∙ length-part c.args.start 16 room c.requires.room)
    c.pack_sixteen.ensures.few
    (c.pack_sixteen.ensures.packed (flags_from ignored bytes first long few)
    (flags-from-sixteen ignored bytes first long few)
    (mask-is ignored bytes first long few c.kept_mask.ensures))
