use Rattle.std.proofs.Common.{◌≡◌, ℕ, inr, length, take, drop, refl, sym, ◌∙◌, arith, subst, ap}
use Rattle.std.proofs.lemmas.List.{length-append, length-take-le, take-append-le}
use Rattle.data_encoding.specs.Fault.{fault_of, sound_bytes}
use Rattle.data_encoding.specs.Grammar.{Means}
use Rattle.data_encoding_calls.proofs.DecodeLemmas.{after-due, fault-stopped, front-fits, length-faulty, some-one, status-faulty, status-known}
use Rattle.data_encoding_calls.proofs.convert.decode.Goals as goal

pub returns-in-Ok-decode_mut-clause-means : goal.returns-in-Ok-decode_mut-clause-means
returns-in-Ok-decode_mut-clause-means c = λ _.
    let decoded = c.in-Ok-decode_mut.ensures.decoded in
    rw (take-append-le c.in-Ok-decode_mut.written c.decode_mut.new.output
    (drop c.in-Ok.most c.args.output.now) decoded.0) decoded.1

pub returns-in-Ok-decode_mut-clause-end : goal.returns-in-Ok-decode_mut-clause-end
returns-in-Ok-decode_mut-clause-end c = λ _. refl

pub returns-in-Ok-decode_mut-clause-after : goal.returns-in-Ok-decode_mut-clause-after
returns-in-Ok-decode_mut-clause-after c = λ most is.
    after-due c.in-Ok.most most c.decode_mut.new.output c.args.output.now
    (sym c.decode_len.ensures.value ∙ c.in-Ok.is) is c.decode_mut.ensures.len
    (omega (arith, c.if-output-most.false))

pub returns-in-Err-decode_mut-clause-after : goal.returns-in-Err-decode_mut-clause-after
returns-in-Err-decode_mut-clause-after c = λ most is.
    after-due c.in-Ok.most most c.decode_mut.new.output c.args.output.now
    (sym c.decode_len.ensures.value ∙ c.in-Ok.is) is c.decode_mut.ensures.len
    (omega (arith, c.if-output-most.false))

pub returns-in-Err-clause-status : goal.returns-in-Err-clause-status
returns-in-Err-clause-status c =
    let base = c.args.encoding.now in
    let text = c.args.input.now in
    let room : ℕ = length c.args.output.now in
    c.status_of_kind.ensures
    ∙ status-faulty (fault_of base text) (length (sound_bytes base text)) room c.in-Err.error
    (length-faulty base text c.in-Err.error (sym c.decode_len.ensures.value ∙ c.in-Err.is))
    ∙ status-known base text room (omega (arith, c.if-input-gt-DECODE_LIMIT.false))

pub returns-in-Err-decode_mut-clause-status : goal.returns-in-Err-decode_mut-clause-status
returns-in-Err-decode_mut-clause-status c =
    let base = c.args.encoding.now in
    let text = c.args.input.now in
    let room : ℕ = length c.args.output.now in
    let partial = c.in-Err-decode_mut.partial in
    c.status_of_kind-in-Err-decode_mut.ensures
    ∙ status-faulty (fault_of base text) (length (sound_bytes base text)) room partial.error
    (fault-stopped base text partial c.in-Err-decode_mut.ensures.fault)
    ∙ status-known base text room (omega (arith, c.if-input-gt-DECODE_LIMIT.false))

pub returns-in-Err-decode_mut-clause-within : goal.returns-in-Err-decode_mut-clause-within
returns-in-Err-decode_mut-clause-within c = λ _.
    let base = c.args.encoding.now in
    let partial = c.in-Err-decode_mut.partial in
    let new = c.decode_mut.new.output in
    let few =
    front-fits base partial.read partial.written (length c.args.input.now) c.in-Ok.most
    (omega (arith, c.in-Err-decode_mut.ensures.bounds.0, c.in-Err-decode_mut.ensures.bounds.1))
    (sym c.decode_len.ensures.value ∙ c.in-Ok.is) c.in-Err-decode_mut.ensures.most in
    let all =
    length-take-le c.in-Ok.most c.args.output.now (omega (arith, c.if-output-most.false)) in
    inr (omega (
      arith,
      few,
      all,
      c.decode_mut.ensures.len,
      length-append new (drop c.in-Ok.most c.args.output.now),
    ))

pub returns-in-Err-decode_mut-clause-fault : goal.returns-in-Err-decode_mut-clause-fault
returns-in-Err-decode_mut-clause-fault c = λ partial most long due fits is.
    let base = c.args.encoding.now in
    let returned = c.in-Err-decode_mut.partial in
    let new = c.decode_mut.new.output in
    let same : returned ≡ partial = some-one (sym c.in-Err-decode_mut.ensures.fault ∙ is) in
    let few =
    front-fits base returned.read returned.written (length c.args.input.now) c.in-Ok.most
    (omega (arith, c.in-Err-decode_mut.ensures.bounds.0, c.in-Err-decode_mut.ensures.bounds.1))
    (sym c.decode_len.ensures.value ∙ c.in-Ok.is) c.in-Err-decode_mut.ensures.most in
    let all =
    length-take-le c.in-Ok.most c.args.output.now (omega (arith, c.if-output-most.false)) in
    record {
      read = ap (λ p. p.read) same;
      written = ap (λ p. p.written) same;
      position = ap (λ p. p.error.position) same;
      means =
          subst (λ bytes. Means base (take returned.read c.args.input.now) bytes)
          (sym (take-append-le returned.written new (drop c.in-Ok.most c.args.output.now)
          (omega (arith, few, all, c.decode_mut.ensures.len))))
          c.in-Err-decode_mut.ensures.partial;
    }
