-- What a text means follows from what its bytes that are not ignored mean, whatever their
-- positions.
use Rattle.std.proofs.Common.{◌≡◌, ℕ, Bool, not, List, map, ap, ◌∙◌, subst}
use Rattle.std.specs.List.{filter}
use Rattle.data_encoding_meaning.specs.text.Base.{Base, IsWidth, meaning, is_ignored, group_symbols}
use Rattle.data_encoding_meaning.specs.text.Bits.{runs}
use Rattle.data_encoding_meaning.specs.text.Grammar.{GroupsMean, Means, Positioned, bytes_in, kept, kept_in, meanings_in, positioned_from}
use Rattle.data_encoding_meaning.proofs.digits.WidthLemmas.{group_symbols-pos}
use Rattle.data_encoding_meaning.proofs.grammar.PositionLemmas.{bytes-positioned_from, runs-meanings}
use Rattle.data_encoding_meaning.proofs.lists.ListLemmas.{map-filter}

-- the bytes that are kept, whatever their positions
pub bytes-kept_in : (base : Base) (start : ℕ) (part : List ℕ)
    → bytes_in (kept_in base start part)
    ≡ filter (λ byte. not (is_ignored (meaning base byte))) part
bytes-kept_in base start part =
    let byte_of : Positioned → ℕ = λ k. k.byte in
    let keeps : ℕ → Bool = λ byte. not (is_ignored (meaning base byte)) in
    map-filter byte_of keeps (positioned_from start part)
    ∙ ap (filter keeps) (bytes-positioned_from start part)

module _ (base : Base) (width : IsWidth base.width) where
  pub runs-alike : (ks js : List Positioned) → meanings_in base ks ≡ meanings_in base js
      → map (meanings_in base) (runs (group_symbols base.width) ks)
      ≡ map (meanings_in base) (runs (group_symbols base.width) js)
  runs-alike ks js alike =
      let some = group_symbols-pos base.width width in
      rw (← (runs-meanings base _ ks some), ← (runs-meanings base _ js some), alike)

  -- texts whose kept bytes mean the same mean the same
  pub Means-alike : (text other bytes : List ℕ)
      → meanings_in base (kept base text) ≡ meanings_in base (kept base other)
      → Means base text bytes → Means base other bytes
  Means-alike text other bytes alike =
      subst (λ gs. GroupsMean base gs bytes)
      (runs-alike (kept base text) (kept base other) alike)

  -- and so do texts of the same kept bytes
  pub Means-same : (text other bytes : List ℕ)
      → bytes_in (kept base text) ≡ bytes_in (kept base other) → Means base text bytes
      → Means base other bytes
  Means-same text other bytes same = Means-alike text other bytes (ap (map (meaning base)) same)
