use Rattle.std.proofs.Common.{◌≡◌, ◌∙◌, ◌&&◌, length, is_some, Some, Err, ap, sym, eq-eqb}
use denote.Enum.Bare.{true_same}
use Rattle.data_encoding.specs.contracts.error.DecodeKind.{the_type}
use Rattle.data_encoding.specs.declared.error.DecodeError.{DecodeError}
use Rattle.data_encoding.specs.declared.error.DecodeFault.TheVariants.{Error}
use Rattle.data_encoding.specs.Fault.{sound_bytes}
use Rattle.data_encoding.specs.Lengths.{length_fault, most_bytes}
use Rattle.conformance.proofs.FaultLemmas.{length-of-refusal, refused-length}
use Rattle.conformance.proofs.callers.is_refused_alike.Goals as goal
use Rattle.conformance.proofs.callers.is_refused_alike.Goals.{in-Ok-decode, in-Err-Error, in-Err-OutOfMemory}

pub returns-after-decode : goal.returns-after-decode
returns-after-decode c =
    let base = c.args.encoding.now in
    let text = c.args.text.now in
    let error = c.in-Err.error in
    let fault : length_fault base (length text) ≡ Some error =
    length-of-refusal (length_fault base (length text)) (most_bytes base (length text)) error
    (sym c.in-Err.ensures.value) in
    let answer : c.decode.result ≡ Err (Error error) =
    refused-length base text error (λ bytes. sound_bytes base text ≡ bytes.items) c.decode.result
    fault c.decode.ensures.sound c.decode.ensures.refusal in
    elim c.match-decode.branch [
      | in-Ok-decode w ↦ absurd (cc)
      | in-Err-Error w ↦
          let other = w.in-Err-Error.other in
          let same : other ≡ error = cc in
          let position = eq-eqb other.position error.position
          (ap (λ (e : DecodeError). e.position) same) in
          let kind = true_same the_type other.kind error.kind
          (ap (λ (e : DecodeError). e.kind) same) in
          w.result-is ∙ w.eq.ensures ∙ (λ i. position i && kind i)
          ∙ sym (ap is_some fault)
      | in-Err-OutOfMemory w ↦ absurd (cc)
    ]
