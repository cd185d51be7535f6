use Rattle.data_encoding_calls.proofs.make.custom_new.Goals as goal

pub returns-in-Ok : goal.returns-in-Ok
returns-in-Ok c =
    let ordered = rw c.bit_order.ensures at c.in-Ok.ensures.is_built in
    let built = rw c.padding.ensures at ordered in
    rw built (c.accepted.ensures.status, c.accepted.ensures.held)
