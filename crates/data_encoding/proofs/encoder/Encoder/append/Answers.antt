use Rattle.std.proofs.Common.{Result, Ok, Err, ap, refl}
use Rattle.std.specs.Result.{OnErr}
use Rattle.data_encoding.specs.Encoder.{IsUnchanged}
use Rattle.data_encoding.specs.KeptData.{held_data}
use Rattle.data_encoding.proofs.encoder.Encoder.append.Goals as goal

-- what follows from three facts of a refusal holds of it too
on_err : {T E P Q R S : Type 0} (r : Result T E)
    → OnErr r P → OnErr r Q → OnErr r R → (P → Q → R → S) → OnErr r S
on_err (Ok _) p q r f = p
on_err (Err _) p q r f = f p q r

pub returns-clause-pieces : goal.returns-clause-pieces
returns-clause-pieces g c = rw (← c.by_ref.ensures) c.append_blocks.ensures.pieces

pub returns-clause-unchanged : goal.returns-clause-unchanged
returns-clause-unchanged g c =
    let is = c.append_blocks.ensures in
    on_err {S = IsUnchanged c.args.self.now _} c.append_blocks.result
    is.unchanged is.capacity is.kept
    (λ written capacity kept. record {
      written = written;
      capacity = capacity;
      held = ap held_data kept;
      base = refl;
      output = refl;
    })
