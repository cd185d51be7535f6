use Rattle.std.proofs.Common.{◌++◌, ◌∷◌, [], ap, sym, ◌∙◌, arith}
use Rattle.std.proofs.Math.ListN.{get_or}
use Rattle.std.proofs.lemmas.List.{take_all, take_more}
use Rattle.data_encoding.proofs.specification.ascii_text.Goals as goal

pub loop-byte-preserved : goal.loop-byte-preserved
loop-byte-preserved c =
    let bytes = c.args.bytes.now in
    let i = c.loop-byte.byte-index in
    c.in_ok-push_ascii.ensures ∙ ap (λ l. l ++ get_or bytes i 0 ∷ []) c.loop-byte.invariant
    ∙ sym (take_more bytes i 0 c.loop-byte-test.true)

pub returns : goal.returns
returns c =
    c.loop-byte.invariant
    ∙ take_all c.loop-byte.byte-index c.args.bytes.now (omega (arith, c.loop-byte-test.false))
