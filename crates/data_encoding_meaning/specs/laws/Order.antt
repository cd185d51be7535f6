-- Comparing texts in place of data.
use Rattle.std.specs.Prelude.{◌≡◌, ℕ, ◌+◌, ◌-◌, ◌*◌, ◌^◌, ◌<◌, ◌⊎◌, List, [], ◌∷◌, All, AllPairs, Some}
use Rattle.std.specs.Option.{ForSome}
use Rattle.data_encoding_meaning.specs.declared.encoding.BitOrder.TheVariants.{MostSignificantFirst, LeastSignificantFirst}
use Rattle.data_encoding_meaning.specs.text.Base.{Base, symbol}
use Rattle.data_encoding_meaning.specs.text.Text.{text_of}

-- The first list comes before the second: it is less at their first difference, or it is a proper
-- prefix.
abbrev pub IsBefore : List ℕ → List ℕ → Type 0
IsBefore xs [] = ⊥
IsBefore [] (y ∷ ys) = Unit {0}
IsBefore (x ∷ xs) (y ∷ ys) = (x < y) ⊎ ((x ≡ y) × IsBefore xs ys)

-- The base keeps the order of data: data in order has texts in order.
abbrev pub KeepsOrder : Base → Type 0
KeepsOrder base =
    (bytes others : List ℕ) → All (λ byte. byte < 256) bytes → All (λ byte. byte < 256) others
    → IsBefore bytes others → IsBefore (text_of base bytes) (text_of base others)

-- The base is ordered: its most significant bit comes first, its symbols ascend, and its padding
-- comes before each symbol.
pub record IsOrdered (base : Base) : Type 0 where
  pub most_significant_first : base.order ≡ MostSignificantFirst
  pub ascending : AllPairs (λ a b. a < b) base.symbols
  pub padding_first : ForSome base.padding (λ character. All (λ s. character < s) base.symbols)

-- The data `bytes` and `others` is in order, and its texts are not.
pub record BreaksOrder (base : Base) (bytes others : List ℕ) : Type 0 where
  pub are_bytes : All (λ byte. byte < 256) bytes
  pub others_are_bytes : All (λ byte. byte < 256) others
  pub in_order : IsBefore bytes others
  pub not_in_order : IsBefore (text_of base bytes) (text_of base others) → ⊥

-- For each of the three conditions that fails, there is data in order with texts that are not in
-- order.
pub record IsBroken (base : Base) : Type 0 where
  pub least_significant_first : base.order ≡ LeastSignificantFirst
      → BreaksOrder base (0 ∷ []) (1 ∷ [])
      ⊎ BreaksOrder base (1 ∷ []) (2 ^ base.width ∷ [])
  pub descending : base.order ≡ MostSignificantFirst
      → (value : ℕ) → value + 1 < 2 ^ base.width
      → symbol base (value + 1) < symbol base value
      → BreaksOrder base (value * 2 ^ (8 - base.width) ∷ [])
      ((value + 1) * 2 ^ (8 - base.width) ∷ [])
  pub padding_later : (character : ℕ) → base.padding ≡ Some character → symbol base 0 < character
      → BreaksOrder base (0 ∷ []) (0 ∷ 0 ∷ [])
