use Rattle.std.proofs.Common.{refl}
use Rattle.basecode.specs.declared.command.Verb.TheVariants.{Encode, Decode}
use Rattle.basecode.proofs.ConversionLemmas.{explained}
use Rattle.basecode.proofs.run.convert.Goals as goal

pub returns-in-Encode-clause-done : goal.returns-in-Encode-clause-done
returns-in-Encode-clause-done g c = rw c.in-Encode.is assumption

pub returns-in-Encode-clause-fault : goal.returns-in-Encode-clause-fault
returns-in-Encode-clause-fault g c =
    rw c.in-Encode.is
    (explained Encode _ _ _ c.encode_stream.result
    (λ error is. absurd (c.encode_stream.ensures.no_text error is))
    c.encode_stream.ensures.too_long)

pub returns-in-Decode-clause-done : goal.returns-in-Decode-clause-done
returns-in-Decode-clause-done g c = rw c.in-Decode.is c.decode_stream.ensures.all.whole

pub returns-in-Decode-clause-fault : goal.returns-in-Decode-clause-fault
returns-in-Decode-clause-fault g c =
    rw c.in-Decode.is
    (explained Decode _ _ _ c.decode_stream.result
    (λ error is. (refl, c.decode_stream.ensures.all.faulty error is))
    c.decode_stream.ensures.too_long)

pub returns-in-Decode-clause-read : goal.returns-in-Decode-clause-read
returns-in-Decode-clause-read g c = c.decode_stream.ensures.read

pub returns-in-Decode-clause-write : goal.returns-in-Decode-clause-write
returns-in-Decode-clause-write g c = c.decode_stream.ensures.write

pub returns-in-Decode-clause-begun : goal.returns-in-Decode-clause-begun
returns-in-Decode-clause-begun g c = rw c.in-Decode.is assumption
