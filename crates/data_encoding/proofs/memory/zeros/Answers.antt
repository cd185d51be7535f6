use Rattle.std.proofs.lemmas.Bool.{false≢true}
use Rattle.data_encoding.proofs.memory.zeros.Goals as goal

pub returns-in_err-bytes-clause-none : goal.returns-in_err-bytes-clause-none
returns-in_err-bytes-clause-none c =
    λ none. absurd (false≢true (c.in_err-bytes.ensures.succeeds none))
