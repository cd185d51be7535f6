use Rattle.std.proofs.Common.{append_assoc}
use Rattle.data_encoding_calls.proofs.specification_of_encoding.joined.Goals as goal

pub returns : goal.returns
returns c =
    let one = rw c.unwrap.ensures at c.try_extend_from_slice.ensures.ok in
    let two = rw c.unwrap-2.ensures at c.try_extend_from_slice-2.ensures.ok in
    let three = rw c.unwrap-3.ensures at c.try_extend_from_slice-3.ensures.ok in
    let four = rw c.unwrap-4.ensures at c.try_extend_from_slice-4.ensures.ok in
    let five = rw c.unwrap-5.ensures at c.try_extend_from_slice-5.ensures.ok in
    rw (
      five,
      c.as_slice-5.ensures.value,
      four,
      c.as_slice-4.ensures.value,
      three,
      c.as_slice-3.ensures.value,
      two,
      c.as_slice-2.ensures.value,
      one,
      c.as_slice.ensures.value,
      c.new-bytes.ensures,
    ) (simp append_assoc)
