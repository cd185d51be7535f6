use Rattle.std.proofs.Common.{◌≡◌, length, replicate, Ok, arith, lit<, refl, sym, ◌∙◌, subst}
use Rattle.std.proofs.lemmas.Bool.{false≢true}
use Rattle.std.proofs.lemmas.List.{take_all}
use Rattle.data_encoding.specs.Base.{Base}
use Rattle.data_encoding.specs.Fields.{base_of}
use Rattle.data_encoding.specs.Grammar.{Means}
use Rattle.data_encoding.specs.Predefined.{base64url_nopad_fields}
use Rattle.data_encoding.specs.Text.{text_of}
use Rattle.conformance.proofs.NameLemmas.{seen-holds}
use Rattle.conformance.proofs.RewrittenLemmas.{specified_by}
use Rattle.conformance.proofs.BuiltLemmas.{same_built}
use Rattle.conformance.proofs.callers.keys.key_of.Goals as goal

pub returns-then-token-ne22-clause-some : goal.returns-then-token-ne22-clause-some
returns-then-token-ne22-clause-some c = λ base is. (
  (λ never. absurd (false≢true never)),
  (λ key.
      let has = c.eighteen.ensures.base64url_nopad base is in
      absurd (c.if-token-ne22.true (c.tight.ensures.fixed base
      (specified_by base64url_nopad_fields base is) has.padding has.ignores c.args.token.now key.0
      (replicate 16 0) key.1 (sym key.2)
      ∙ seen-holds (λ b. length (text_of b (replicate 16 0)) ≡ 22) base64url_nopad_fields base is
      refl))),
)

-- the key is all that was decoded
means : (c : goal.In-Ok) (base : Base) → base_of base64url_nopad_fields ≡ Ok base
    → Means base c.args.token.now c.decode_mut.new.output
means c base is =
    let seen = c.base64url_nopad-encoding.result in
    let is_built = c.base64url_nopad-encoding.ensures in
    let has = c.eighteen.ensures.base64url_nopad seen is_built in
    subst (λ b. Means b c.args.token.now c.decode_mut.new.output)
    (same_built (base_of base64url_nopad_fields) seen base is_built is)
    (subst (Means seen c.args.token.now) (take_all c.in-Ok.field-0 c.decode_mut.new.output
    (omega (arith, c.in-Ok.ensures.full has.padding has.ignores))) c.in-Ok.ensures.decoded.1)

pub returns-in-Ok-clause-text : goal.returns-in-Ok-clause-text
returns-in-Ok-clause-text c = λ base is.
    let specified = specified_by base64url_nopad_fields base is in
    c.canonical.ensures.only base specified ((c.canonical.ensures.causes base specified).1
    (c.canonical.ensures.eighteen.0 5 base64url_nopad_fields (lit< tt) base is))
    c.args.token.now c.decode_mut.new.output (means c base is)

pub returns-in-Ok-clause-some : goal.returns-in-Ok-clause-some
returns-in-Ok-clause-some c = λ base is.
    ((λ _. (c.decode_mut.new.output, means c base is, c.decode_mut.ensures.len)), (λ _. refl))

pub returns-in-Err-clause-some : goal.returns-in-Err-clause-some
returns-in-Err-clause-some c = λ base is. (
  (λ never. absurd (false≢true never)),
  (λ key. c.in-Err.ensures.accepted key.0
      (subst (λ b. Means b c.args.token.now key.0) (same_built (base_of base64url_nopad_fields) base
      c.base64url_nopad-encoding.result is c.base64url_nopad-encoding.ensures) key.1)),
)
