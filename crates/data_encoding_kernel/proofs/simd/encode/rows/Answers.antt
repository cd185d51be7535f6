use Rattle.data_encoding_kernel.proofs.digits.RowLemmas.{rows-are}
use Rattle.data_encoding_kernel.proofs.simd.encode.rows.Goals as goal

pub returns : goal.returns
returns c = rows-are c.args.entries.now c.requires
