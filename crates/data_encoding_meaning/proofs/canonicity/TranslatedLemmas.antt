-- Whether a byte is translated.
use Rattle.std.proofs.Common.{◌≡◌, ℕ, ◌<◌, ◌==◌, Bool, true, false, not, ◌&&◌, [], length, sym, ap, ◌∙◌, subst, arith}
use Rattle.std.specs.List.{AllByRecursion}
use Rattle.data_encoding_meaning.specs.text.Base.{Base, is_padded, ignores_some}
use Rattle.data_encoding_meaning.specs.laws.Canonical.{has_one_text}
use Rattle.data_encoding_meaning.specs.specification.Layout.{translated_bytes}
use Rattle.data_encoding_meaning.proofs.lists.EachLemmas.{at_in_range}
use Rattle.data_encoding_meaning.proofs.judgement.TranslationLemmas.{is_translated_byte}

-- if the list is empty, no byte is translated
pub not_translated : (base : Base) → translated_bytes base ≡ [] → (byte : ℕ) → byte < 128
    → is_translated_byte base byte ≡ true → ⊥
not_translated base none byte below is =
    at_in_range (λ _. ⊥) (is_translated_byte base) 0 128 byte
    (subst (AllByRecursion (λ _. ⊥)) (sym none) tt) (omega arith) (omega (arith, below)) is

not_not : (b : Bool) → not (not b) ≡ b
not_not b = grind arith

-- if there is no other cause of a second text, the translated bytes decide
pub has_one_text-by : (base : Base) (translates : Bool)
    → translates ≡ not (length (translated_bytes base) == 0)
    → true ≡ (base.checks_trailing_bits && not (is_padded base && base.concatenates)
    && not (ignores_some base))
    → not translates ≡ has_one_text base
has_one_text-by base translates is others =
    ap not is ∙ not_not (length (translated_bytes base) == 0)
    ∙ ap (λ b. b && (length (translated_bytes base) == 0)) others

-- and if there is one, the base has it
pub not_one_text : (base : Base)
    → false ≡ (base.checks_trailing_bits && not (is_padded base && base.concatenates)
    && not (ignores_some base))
    → false ≡ has_one_text base
not_one_text base others = ap (λ b. b && (length (translated_bytes base) == 0)) others
