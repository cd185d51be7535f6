use Rattle.std.proofs.Common.{bit_and, bit_or, w8}
use Rattle.std.proofs.lemmas.Simd.{zip2_splat, zip2_of_maps, below_from_Fits}
use Rattle.data_encoding_kernel.proofs.digits.GatherRowLemmas.{entries-are, of_byte, of_byte-is, of_rows}
use Rattle.data_encoding_kernel.proofs.simd.decode.table_rows.entries_16.Goals as goal

pub returns : goal.returns
returns c = λ values rows.
    let bytes = c.args.bytes in
    let first = c.by_bit-first.ensures _ _ (c.in_row_16.ensures values 16 rows.second)
    (c.in_row_16-2.ensures values 0 rows.first) in
    let second = c.by_bit-second.ensures _ _ (c.in_row_16-3.ensures values 48 rows.fourth)
    (c.in_row_16-4.ensures values 32 rows.third) in
    let third = c.by_bit-third.ensures _ _ (c.in_row_16-5.ensures values 80 rows.sixth)
    (c.in_row_16-6.ensures values 64 rows.fifth) in
    let fourth = c.by_bit-fourth.ensures _ _ (c.in_row_16-7.ensures values 112 rows.eighth)
    (c.in_row_16-8.ensures values 96 rows.seventh) in
    let whole = c.by_bit.ensures _ _ (c.by_bit-above.ensures _ _ fourth third)
    (c.by_bit-below.ensures _ _ second first) in
    let all = zip2_of_maps bit_or (of_rows values) (λ byte. bit_and byte 128) bytes whole
    (zip2_splat bit_and bytes 16 128 c.fits-bytes.0) in
    entries-are (of_byte values) values bytes _ all
    (below_from_Fits w8 bytes c.fits-bytes.1) (of_byte-is values rows.ascii)
