use Rattle.std.proofs.Common.{◌≡◌, ℕ, Bool, true, false, List, Option, None, cond, refl, sym, ap, ◌∙◌}
use Rattle.std.proofs.lemmas.Slice.Eq.{bytes_eq-Decides}
use Rattle.std.proofs.lemmas.Iterator.Adapters.{position_from-zero}
use Rattle.std.specs.List.{position_from}
use Rattle.std.specs.Str.{bytes_eq}
use Rattle.data_encoding_meaning.specs.specification.Named.{names, number_named}
use Rattle.data_encoding.proofs.specification.predefined.named.predefined_number.Goals as goal

pub returns-in-HEXLOWER : goal.returns-in-HEXLOWER
returns-in-HEXLOWER c = ap number_named (sym c.in-HEXLOWER.is)

pub returns-in-HEXLOWER_PERMISSIVE : goal.returns-in-HEXLOWER_PERMISSIVE
returns-in-HEXLOWER_PERMISSIVE c = ap number_named (sym c.in-HEXLOWER_PERMISSIVE.is)

pub returns-in-HEXUPPER : goal.returns-in-HEXUPPER
returns-in-HEXUPPER c = ap number_named (sym c.in-HEXUPPER.is)

pub returns-in-HEXUPPER_PERMISSIVE : goal.returns-in-HEXUPPER_PERMISSIVE
returns-in-HEXUPPER_PERMISSIVE c = ap number_named (sym c.in-HEXUPPER_PERMISSIVE.is)

pub returns-in-BASE32 : goal.returns-in-BASE32
returns-in-BASE32 c = ap number_named (sym c.in-BASE32.is)

pub returns-in-BASE32_NOPAD : goal.returns-in-BASE32_NOPAD
returns-in-BASE32_NOPAD c = ap number_named (sym c.in-BASE32_NOPAD.is)

pub returns-in-BASE32_NOPAD_NOCASE : goal.returns-in-BASE32_NOPAD_NOCASE
returns-in-BASE32_NOPAD_NOCASE c = ap number_named (sym c.in-BASE32_NOPAD_NOCASE.is)

pub returns-in-BASE32_NOPAD_VISUAL : goal.returns-in-BASE32_NOPAD_VISUAL
returns-in-BASE32_NOPAD_VISUAL c = ap number_named (sym c.in-BASE32_NOPAD_VISUAL.is)

pub returns-in-BASE32HEX : goal.returns-in-BASE32HEX
returns-in-BASE32HEX c = ap number_named (sym c.in-BASE32HEX.is)

pub returns-in-BASE32HEX_NOPAD : goal.returns-in-BASE32HEX_NOPAD
returns-in-BASE32HEX_NOPAD c = ap number_named (sym c.in-BASE32HEX_NOPAD.is)

pub returns-in-BASE32_DNSSEC : goal.returns-in-BASE32_DNSSEC
returns-in-BASE32_DNSSEC c = ap number_named (sym c.in-BASE32_DNSSEC.is)

pub returns-in-BASE32_DNSCURVE : goal.returns-in-BASE32_DNSCURVE
returns-in-BASE32_DNSCURVE c = ap number_named (sym c.in-BASE32_DNSCURVE.is)

pub returns-in-BASE64 : goal.returns-in-BASE64
returns-in-BASE64 c = ap number_named (sym c.in-BASE64.is)

pub returns-in-BASE64_NOPAD : goal.returns-in-BASE64_NOPAD
returns-in-BASE64_NOPAD c = ap number_named (sym c.in-BASE64_NOPAD.is)

pub returns-in-BASE64_MIME : goal.returns-in-BASE64_MIME
returns-in-BASE64_MIME c = ap number_named (sym c.in-BASE64_MIME.is)

pub returns-in-BASE64_MIME_PERMISSIVE : goal.returns-in-BASE64_MIME_PERMISSIVE
returns-in-BASE64_MIME_PERMISSIVE c = ap number_named (sym c.in-BASE64_MIME_PERMISSIVE.is)

pub returns-in-BASE64URL : goal.returns-in-BASE64URL
returns-in-BASE64URL c = ap number_named (sym c.in-BASE64URL.is)

pub returns-in-BASE64URL_NOPAD : goal.returns-in-BASE64URL_NOPAD
returns-in-BASE64URL_NOPAD c = ap number_named (sym c.in-BASE64URL_NOPAD.is)

-- what is another name is not found at it
other : (name one : List ℕ) (found : Option ℕ) {rest : Option ℕ} → (name ≡ one → ⊥) → None ≡ rest
    → None ≡ cond (bytes_eq name one) found rest
other name one found {rest} not none = by (bytes_eq name one) (bytes_eq-Decides name one).0 where
  by : (is : Bool) → (is ≡ true → name ≡ one) → None ≡ cond is found rest
  by true same = absurd (not (same refl))
  by false same = none

pub returns-in_default : goal.returns-in_default
returns-in_default c =
    let not = c.in_default in
    let name = c.args.name.now in
    let none : None ≡ position_from (bytes_eq name) 0 names =
    other name _ _ not.not-HEXLOWER (
    other name _ _ not.not-HEXLOWER_PERMISSIVE (
    other name _ _ not.not-HEXUPPER (
    other name _ _ not.not-HEXUPPER_PERMISSIVE (
    other name _ _ not.not-BASE32 (
    other name _ _ not.not-BASE32_NOPAD (
    other name _ _ not.not-BASE32_NOPAD_NOCASE (
    other name _ _ not.not-BASE32_NOPAD_VISUAL (
    other name _ _ not.not-BASE32HEX (
    other name _ _ not.not-BASE32HEX_NOPAD (
    other name _ _ not.not-BASE32_DNSSEC (
    other name _ _ not.not-BASE32_DNSCURVE (
    other name _ _ not.not-BASE64 (
    other name _ _ not.not-BASE64_NOPAD (
    other name _ _ not.not-BASE64_MIME (
    other name _ _ not.not-BASE64_MIME_PERMISSIVE (
    other name _ _ not.not-BASE64URL (
    other name _ _ not.not-BASE64URL_NOPAD (
    refl
    )))))))))))))))))) in
    none ∙ sym (position_from-zero (bytes_eq name) names)
