use Rattle.std.proofs.Common.{◌≡◌, codes}
use Rattle.data_encoding.specs.Fault.{sound_bytes}
use Rattle.data_encoding.specs.declared.error.DecodeKind.TheVariants.{Length}
use Rattle.conformance.proofs.FaultLemmas.{error_at, hexlower-length, refused-length}
use Rattle.conformance.proofs.callers.odd_length.Goals as goal

pub returns : goal.returns
returns c =
    let base = c.hexlower.result in
    refused-length base (codes "4G4") (error_at Length 2)
    (λ bytes. sound_bytes base (codes "4G4") ≡ bytes.items) c.decode.result
    (hexlower-length base c.hexlower.ensures) c.decode.ensures.sound
    c.decode.ensures.refusal
