use Rattle.std.proofs.Common.{◌≡◌, Result, Ok, Err, sym, ap, ◌∙◌}
use Rattle.data_encoding.specs.declared.specification.meanings.Refusal.{Refusal}
use Rattle.data_encoding.specs.Base.{Base}
use Rattle.data_encoding.specs.Fields.{base_of}
use Rattle.conformance.proofs.callers.kept.made_again.Goals as goal

Ok-injective : {one other : Base} → ◌≡◌ {A = Result Base Refusal} (Ok one) (Ok other) → one ≡ other
Ok-injective is = cc

Err-not-Ok : {refusal : Refusal} {base : Base}
    → ◌≡◌ {A = Result Base Refusal} (Err refusal) (Ok base) → ⊥
Err-not-Ok is = absurd (cc is)

pub unreachable-requires : goal.unreachable-requires
unreachable-requires c =
    Err-not-Ok (sym c.in-Err.ensures.refused
    ∙ ap base_of (c.parts.ensures ∙ c.specification_bytes-given.ensures)
    ∙ c.specification_again.ensures c.args.encoding.now c.group_len.ensures.base)

pub returns : goal.returns
returns c =
    Ok-injective (sym c.in-Ok.ensures.is_built
    ∙ ap base_of (c.parts.ensures ∙ c.specification_bytes-given.ensures)
    ∙ c.specification_again.ensures c.args.encoding.now c.group_len.ensures.base)
