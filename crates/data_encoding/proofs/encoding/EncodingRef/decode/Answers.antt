use Rattle.std.proofs.Common.{◌≡◌, ◌≤◌, ℕ, Ok, Err, length, take, refl, sym, ap, inl, ◌∙◌, ◌<◌, subst, arith}
use Rattle.std.specs.Prelude.{Result}
use Rattle.std.specs.declared.vec.Vec.{Vec}
use Rattle.std.proofs.lemmas.List.{length-replicate, take-append-le, take-take}
use Rattle.data_encoding_meaning.specs.declared.error.DecodeError.{DecodeError}
use Rattle.data_encoding_meaning.specs.declared.error.DecodeFault.{DecodeFault}
use Rattle.data_encoding_meaning.specs.declared.error.DecodeFault.TheVariants.{Error}
use Rattle.data_encoding_meaning.proofs.decoding.StopLemmas.{fault-partial}
use Rattle.std.proofs.lemmas.Bool.{false≢true}
use Rattle.data_encoding.proofs.encoding.EncodingRef.decode.Goals as goal

-- a result with bytes is no fault
never-err : {A : Type 0} {bytes : Vec ℕ A} {fault : DecodeFault}
    → ◌≡◌ {A = Result (Vec ℕ A) DecodeFault} (Ok bytes) (Err fault) → ⊥
never-err is = absurd (cc is)

-- the same refusal names the same error
same-error : {A : Type 0} {one other : DecodeError}
    → ◌≡◌ {A = Result (Vec ℕ A) DecodeFault} (Err (Error one)) (Err (Error other)) → one ≡ other
same-error is = cc

pub returns-in-Ok : goal.returns-in-Ok
returns-in-Ok c =
    let new = c.decode_mut.new.output in
    let count = c.in-Ok.count in
    let decoded = c.in-Ok.ensures in
    let few : count ≤ length new = decoded.decoded.0 in
    let items : c.truncate.new.self.items ≡ take count new =
    c.truncate.ensures.items
    ∙ take-take count c.in_ok-output.output.len _
    (omega (arith, few, decoded.len, c.deref_mut.ensures.len))
    ∙ take-append-le count new _ few in
    record {
      means = rw items decoded.decoded.1;
      sound = rw items decoded.sound;
      refusal = cc;
      accepted = λ bytes means. inl refl;
      position = λ error is. absurd (never-err is);
    }

pub returns-in-Err : goal.returns-in-Err
returns-in-Err c =
    let decoded = c.in-Err.ensures in
    record {
      means = cc;
      sound = cc;
      refusal = fault-partial c.args.self.now c.args.input.now c.in-Err.partial decoded.fault;
      accepted = λ bytes means. absurd (false≢true (decoded.accepted bytes means));
      position = λ error is.
          subst (λ e. e.position < length c.args.input.now) (same-error is) decoded.bounds.1;
    }

pub decode_mut-requires-clause-exact : goal.decode_mut-requires-clause-exact
decode_mut-requires-clause-exact c =
    let len : length c.deref_mut.result.now ≡ c.in_ok-len.len =
    ap length (c.deref_mut.ensures.value ∙ c.in_ok-output.ensures.items)
    ∙ length-replicate c.in_ok-len.len 0 in
    sym c.decode_len.ensures.value ∙ c.in_ok-len.was ∙ ap Ok (sym len)
