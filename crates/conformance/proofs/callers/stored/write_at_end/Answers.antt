use Rattle.std.proofs.Common.{◌≡◌, ◌++◌}
use Rattle.std.proofs.lemmas.Fmt.{contents_after_writes}
use Rattle.std.proofs.lemmas.Result.{on_ok_weaker}
use Rattle.std.specs.String.{string_bytes}
use Rattle.conformance.proofs.callers.stored.write_at_end.Goals as goal

pub returns : goal.returns
returns c =
    on_ok_weaker c.encode_write.result
    (contents_after_writes (λ s bs t. string_bytes t ≡ string_bytes s ++ bs) string_bytes
    (λ w bs v h. h) _ _ _)
    c.encode_write.ensures.written
