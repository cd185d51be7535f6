use Rattle.std.proofs.Common.{◌∙◌, Err, ap, arith}
use Rattle.conformance.proofs.callers.names.data_of_body.Goals as goal

pub place_of-requires : goal.place_of-requires
place_of-requires c =
    let is = c.in-Err-Error.is ∙ ap Err c.in-Err-Error.field-0-is in
    record { within = omega (arith, c.decode.ensures.position c.in-Err-Error.error is) }
