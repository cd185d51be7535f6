use Rattle.data_encoding_kernel.proofs.digits.AffineLemmas.{row-bytes}
use Rattle.data_encoding_kernel.proofs.simd.decode.affine.bytes_of_row.Goals as goal

pub returns : goal.returns
returns c = row-bytes c.args.row c.requires
