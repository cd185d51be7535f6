use Rattle.std.proofs.Common.{◌≡◌, ◌≢◌, ℕ, ◌+◌, ◌-◌, ◌*◌, ◌/◌, refl, ◌∙◌, arith}
use Rattle.data_encoding_meaning.specs.text.Base.{IsWidth, group_bytes, group_symbols}
use Rattle.data_encoding_meaning.proofs.digits.WidthLemmas.{by_width}
use Rattle.data_encoding.proofs.encode.filled_count.Goals as goal

-- groups of one byte
whole_bytes : (width : ℕ) → IsWidth width → width ≢ 3 → width ≢ 5 → width ≢ 6 → (len : ℕ)
    → (8 * len + (width - 1)) / width
    ≡ (len + (group_bytes width - 1)) / group_bytes width * group_symbols width
whole_bytes =
    by_width (λ w. w ≢ 3 → w ≢ 5 → w ≢ 6 → (len : ℕ)
    → (8 * len + (w - 1)) / w ≡ (len + (group_bytes w - 1)) / group_bytes w * group_symbols w)
    (λ a b c len. omega arith) (λ a b c len. omega arith) (λ a b c len. absurd (a refl))
    (λ a b c len. omega arith) (λ a b c len. absurd (b refl)) (λ a b c len. absurd (c refl))

pub returns-in_default-clause-value : goal.returns-in_default-clause-value
returns-in_default-clause-value c =
    c.symbol_count.ensures
    ∙ whole_bytes c.args.width c.requires.width (λ e. omega arith) (λ e. omega arith)
    (λ e. omega arith) c.args.len
