use Rattle.data_encoding_meaning.proofs.decoding.PlainRunLemmas.{run-fault, run-same}
use Rattle.data_encoding_meaning.proofs.laws.run_told.Goals as goal

pub returns-clause-fault : goal.returns-clause-fault
returns-clause-fault c base is = run-fault base

pub returns-clause-same : goal.returns-clause-same
returns-clause-same c base is = run-same base
