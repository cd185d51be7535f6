use Rattle.data_encoding_kernel.proofs.packing.IgnoredLemmas.{row-added}
use Rattle.data_encoding_kernel.proofs.ignore.with_row.Goals as goal

pub returns : goal.returns
returns c entry flags few entries rows =
    row-added entry flags few c.args.entries c.args.rows entries rows
