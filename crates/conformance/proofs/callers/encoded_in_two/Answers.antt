use Rattle.std.proofs.Common.{◌≡◌, false, rules, Result, Ok, Err, OnOk, is_err}
use Rattle.std.proofs.lemmas.Result.{IfOk-at_ok}
use Rattle.conformance.proofs.callers.encoded_in_two.Goals as goal

-- a property of Ok holds if there is no error
where_ok : {T E P : Type 0} (result : Result T E) → false ≡ is_err result → OnOk result P → P
where_ok (Ok x) none holds = holds
where_ok (Err error) none holds = cc

pub returns-in-Ok : goal.returns-in-Ok
returns-in-Ok c =
    let start = c.new_encoder-encoder.ensures.pieces in
    let once =
    where_ok c.append.result c.if-is_err.ensures.value c.append.ensures.pieces _ _ start in
    let twice =
    where_ok c.append-else-is_err.result c.if-is_err-2.ensures.value
    c.append-else-is_err.ensures.pieces _ _ once in
    let written = IfOk-at_ok _ c.in-Ok.is c.finalize.follows.holds-at-none _ _ twice in
    search rules
