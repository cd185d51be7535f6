-- The sizes of a whole group, as a join has them.
use Rattle.std.proofs.Common.{refl}
use Rattle.data_encoding_meaning.specs.text.Base.{IsGroup, IsWidth, group_bytes, group_symbols}
use Rattle.data_encoding_kernel.specs.declared.simd.decode.last_symbols.Join.{Join}
use Rattle.data_encoding_kernel.specs.Joins.{IsJoin}

pub join-width : {join : Join} → IsJoin join → IsWidth join.width
join-width is = record { some = is.some; few = is.few }

pub join-group : {join : Join} → IsJoin join
    → IsGroup join.width (group_bytes join.width) (group_symbols join.width)
join-group is = record { is_width = join-width is; has_bytes = refl; has_symbols = refl }
