use Rattle.std.proofs.Common.{◌++◌, ◌∙◌, length, take, drop, ap, sym, subst, arith, length-append, length-take-le}
use Rattle.std.proofs.lemmas.List.{length-drop, take_all}
use Rattle.std.proofs.lemmas.Simd.{put_chunk_whole}
use Rattle.data_encoding_meaning.proofs.lists.PartLemmas.{length-part}
use Rattle.data_encoding_kernel.specs.Ignore.{IsPacked}
use Rattle.data_encoding_kernel.proofs.packing.PackLemmas.{first-eight, first-mask, packed-sixteen, second-eight, second-lanes, second-mask}
use Rattle.data_encoding_kernel.proofs.packing.PickedLemmas.{picked-all}
use Rattle.data_encoding_kernel.proofs.ignore.pack_sixteen.Goals as goal

pub overflow_add-count : goal.overflow_add-count
overflow_add-count c = omega (arith, c.pack_eight-count.ensures.few)

pub slice_bounds-pack_eight-end-3 : goal.slice_bounds-pack_eight-end-3
slice_bounds-pack_eight-end-3 c =
    omega (arith, c.pack_eight-count.ensures.few, c.pack_eight-count.auto.room, c.requires.room)

pub overflow_add-result : goal.overflow_add-result
overflow_add-result c =
    omega (arith, c.pack_eight-count.ensures.few, c.pack_eight.ensures.few)

pub returns-clause-few : goal.returns-clause-few
returns-clause-few c =
    omega (arith, c.pack_eight-count.ensures.few, c.pack_eight.ensures.few)

pub returns-clause-packed : goal.returns-clause-packed
returns-clause-packed c flags sixteen is =
    let room = c.args.room.now in
    let first = c.pack_eight-count.new.room in
    let count = c.pack_eight-count.result in
    let first_len = c.pack_eight-count.auto.room
    ∙ length-take-le 8 room (omega (arith, c.requires.room)) in
    let whole = first ++ drop 8 room in
    let second_len = c.pack_eight.auto.room
    ∙ length-part count 8 whole
    (omega (
      arith,
      length-append first (drop 8 room),
      length-drop 8 room,
      first_len,
      c.requires.room,
      c.pack_eight-count.ensures.few,
    )) in
    packed-sixteen flags sixteen c.args.bytes first (drop 8 room) c.pack_eight.new.room _
    count c.pack_eight.result c.fits-bytes.0 first_len second_len
    c.pack_eight-count.ensures.few c.pack_eight.ensures.few
    (c.pack_eight-count.ensures.packed (take 8 flags) (first-eight flags sixteen)
    (first-mask flags sixteen c.args.mask is))
    (subst (λ l. IsPacked (drop 8 flags) l c.pack_eight.result c.pack_eight.new.room)
    (second-lanes c.args.bytes c.fits-bytes.0)
    (c.pack_eight.ensures.packed (drop 8 flags) (second-eight flags sixteen)
    (second-mask flags sixteen c.args.mask is)))

pub returns-then-mask-eq65535-clause-packed : goal.returns-then-mask-eq65535-clause-packed
returns-then-mask-eq65535-clause-packed c flags sixteen mask_is =
    let bytes = c.args.bytes in
    let long = c.fits-bytes.0 in
    let all = picked-all flags bytes (omega (arith, sixteen, long))
    (rw sixteen (omega (arith, mask_is, c.if-mask-eq65535.true))) in
    record {
      number = omega (arith, ap length all, long);
      are = ap (take 16) (put_chunk_whole c.args.room.now bytes
          (omega (arith, c.requires.room, long)))
          ∙ take_all 16 bytes (omega (arith, long)) ∙ sym all;
    }
