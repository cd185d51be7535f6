use Rattle.std.proofs.Common.{◌≡◌, ◌+◌, ◌-◌, ◌*◌, ◌/◌, length, sym, ap, arith}
use Rattle.data_encoding_meaning.proofs.lists.PartLemmas.{IsWhole-group, whole-group}
use Rattle.data_encoding_kernel.proofs.encode.EncodeOneEncodeTurn.encode.Goals as goal

pub encode_group-requires-clause-exact : goal.encode_group-requires-clause-exact
encode_group-requires-clause-exact g c =
    let width = g.G.GroupSize.WIDTH in
    let whole = IsWhole-group width _ _ g.G.GroupSize.is_group in
    let bytes : length c.args.input.now ≡ g.G.GroupSize.BYTES = omega arith in
    omega (
      arith,
      ap (λ n. (8 * n + (width - 1)) / width) bytes,
      whole-group 8 width _ _ (width - 1) (sym whole.same_bits)
          (omega (arith, whole.is_width.some)),
    )
