use Rattle.std.proofs.Common.{refl}
use Rattle.data_encoding_kernel.specs.declared.ignore.moves.TheConstants.{MOVES}
use Rattle.data_encoding_kernel.proofs.packing.MoveLemmas.{row-begins, row-below}
use Rattle.data_encoding_kernel.proofs.ignore.moves.moves.Goals as goal

pub returns-clause-few : goal.returns-clause-few
returns-clause-few c = row-below MOVES refl c.args.mask c.requires

pub returns-clause-begins : goal.returns-clause-begins
returns-clause-begins c = row-begins MOVES refl c.args.mask c.requires
