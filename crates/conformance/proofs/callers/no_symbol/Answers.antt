use Rattle.std.proofs.Common.{◌≡◌, codes}
use Rattle.data_encoding.specs.Fault.{sound_bytes}
use Rattle.data_encoding.specs.declared.error.DecodeKind.TheVariants.{Symbol}
use Rattle.conformance.proofs.FaultLemmas.{error_at, hexlower-symbol, refused}
use Rattle.conformance.proofs.callers.no_symbol.Goals as goal

pub returns : goal.returns
returns c =
    let base = c.hexlower.result in
    refused base (codes "4G") (error_at Symbol 1)
    (λ bytes. sound_bytes base (codes "4G") ≡ bytes.items) c.decode.result
    (hexlower-symbol base c.hexlower.ensures) c.decode.ensures.sound
    c.decode.ensures.refusal
