use Rattle.std.proofs.Common.{bit_and, replicate, w8, ap, sym, ◌∙◌}
use Rattle.std.proofs.lemmas.List.{append-nil}
use Rattle.std.proofs.lemmas.Simd.{swz_l}
use Rattle.std.specs.Simd.Lanes.{zip2}
use Rattle.data_encoding_kernel.proofs.digits.GatherRowLemmas.{low_places-ok, row-looked_up}
use Rattle.data_encoding_kernel.proofs.simd.decode.table_rows.in_row_16.Goals as goal

pub swizzle : goal.swizzle
swizzle c = low_places-ok 1 c.args.bytes c.fits-bytes.0 c.fits-bytes.1

pub returns : goal.returns
returns c = λ values start is_row.
    ap (λ l. swz_l w8 16 l 0 (zip2 bit_and c.args.bytes (replicate 16 143)))
    (sym (append-nil c.args.row))
    ∙ row-looked_up 1 c.args.bytes c.fits-bytes.0 c.fits-bytes.1 values c.args.row start
    c.fits-row.0 is_row
