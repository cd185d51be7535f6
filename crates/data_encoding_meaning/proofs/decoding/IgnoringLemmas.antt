-- The base with each ignored byte invalid judges groups as the base does.
use Rattle.std.proofs.Common.{◌≡◌, ℕ, ◌≤◌, true, false, not, cond, List, [], ◌∷◌, length, map, replicate, None, refl, sym, ap, ◌∙◌, subst, arith}
use Rattle.std.proofs.Math.ListN.{get_or-map}
use Rattle.std.proofs.lemmas.List.{length-map, take-map}
use Rattle.std.specs.List.{cons_option, filter_map, list_any, prefix_len}
use Rattle.data_encoding_meaning.specs.declared.encoding.Character.{Character}
use Rattle.data_encoding_meaning.specs.declared.encoding.Character.TheVariants.{Symbol, Padding, Invalid}
use Rattle.data_encoding_meaning.specs.text.Base.{Base, meaning, is_symbol, value_of, is_padding, is_ignored, ignores_some, group_symbols, IsWidth}
use Rattle.data_encoding_meaning.specs.text.Grammar.{Positioned, bytes_in, meanings_in}
use Rattle.data_encoding_meaning.specs.decoding.Fault.{character_fault, count_before_padding, group_fault}
use Rattle.data_encoding_meaning.specs.decoding.Partial.{ignoring_nothing}
use Rattle.data_encoding_meaning.proofs.lists.EachLemmas.{map-twice, all_joined, all_replicate}
use Rattle.data_encoding_meaning.proofs.lists.EndLemmas.{AllSo, count_before_end, count_before_end-map}
use Rattle.data_encoding_meaning.proofs.grammar.PositionLemmas.{length-meanings}
use Rattle.data_encoding_meaning.proofs.grammar.GroupLemmas.{GroupMeans-sound}

-- a meaning with ignored ones invalid
abbrev pub strict : Character → Character
strict m = cond (is_ignored m) Invalid m

-- the strict meaning is what the meaning is, and is never ignored
pub strict_as : (m : Character)
    → (is_symbol (strict m) ≡ is_symbol m) × (value_of (strict m) ≡ value_of m)
    × (is_padding (strict m) ≡ is_padding m) × (is_ignored (strict m) ≡ false)
strict_as m = (grind arith, grind arith, grind arith, grind arith)

none_strict : (ms : List Character) → list_any is_ignored (map strict ms) ≡ false
none_strict [] = refl
none_strict (m ∷ ms) = rw (strict_as m).3 (none_strict ms)

-- what is found for strict meanings is what is found for the meanings
symbols-strict : (ms : List Character)
    → prefix_len (λ m. not (not (is_symbol m))) (map strict ms)
    ≡ prefix_len (λ m. not (not (is_symbol m))) ms
symbols-strict [] = refl
symbols-strict (m ∷ ms) = rw ((strict_as m).0, symbols-strict ms)

pub values-strict : (ms : List Character)
    → filter_map value_of (map strict ms) ≡ filter_map value_of ms
values-strict [] = refl
values-strict (m ∷ ms) = λ i. cons_option ((strict_as m).1 i) (values-strict ms i)

paddings-strict : (ms : List Character)
    → count_before_padding (map strict ms) ≡ count_before_padding ms
paddings-strict ms =
    count_before_end-map is_padding strict ms
    ∙ ap (λ test. count_before_end test ms) (λ i m. (strict_as m).2 i)

module _ (base : Base) where
  -- nothing is ignored
  pub ignores_none-strict : ignores_some (ignoring_nothing base) ≡ false
  ignores_none-strict = none_strict base.meanings

  characters-strict : (ms : List Character)
      → character_fault base (map strict ms) ≡ character_fault base ms
  characters-strict ms =
      rw (paddings-strict ms) (simp (take-map, symbols-strict, values-strict, length-map))

  -- what bytes mean
  pub meanings-strict : (bytes : List ℕ)
      → map (meaning (ignoring_nothing base)) bytes ≡ map strict (map (meaning base) bytes)
  meanings-strict bytes =
      ap (λ means. map means bytes) (λ i byte. get_or-map strict base.meanings byte Invalid i)
      ∙ sym (map-twice strict (meaning base) bytes)

  -- a group has the same fault
  pub group_fault-strict : (bytes : List ℕ)
      → group_fault (ignoring_nothing base) bytes ≡ group_fault base bytes
  group_fault-strict bytes =
      ap (character_fault base) (meanings-strict bytes)
      ∙ characters-strict (map (meaning base) bytes)

-- none of them is ignored
abbrev AreKept : List Character → Type 0
AreKept meanings = AllSo (λ m. not (is_ignored m)) meanings

-- symbols are kept
symbols_kept : (values : List ℕ) → AreKept (map (λ value. Symbol value) values)
symbols_kept [] = tt
symbols_kept (value ∷ values) = (refl, symbols_kept values)

bytes_kept : (base : Base) (ks : List Positioned)
    → AreKept (meanings_in base ks)
    → AllSo (λ k. not (is_ignored (meaning base k.byte))) ks
bytes_kept base [] h = tt
bytes_kept base (k ∷ ks) h = (h.0, bytes_kept base ks h.1)

-- each byte of a group without a fault is kept
pub group-kept : (base : Base) → IsWidth base.width → (group : List Positioned)
    → length group ≤ group_symbols base.width → group_fault base (bytes_in group) ≡ None
    → AllSo (λ k. not (is_ignored (meaning base k.byte))) group
group-kept base width [] few h = tt
group-kept base width (k ∷ ks) few h =
    let meant = meanings_in base (k ∷ ks) in
    let len = length-meanings base (k ∷ ks) in
    let means = GroupMeans-sound base width meant (omega arith) (omega (arith, few, len)) h in
    bytes_kept base (k ∷ ks) (subst AreKept (sym means.is_group)
    (all_joined (λ m. not (is_ignored m) ≡ true) means.symbols (replicate means.padding Padding)
    (rw means.means.are_symbols (symbols_kept means.means.values))
    (all_replicate (λ m. not (is_ignored m) ≡ true) means.padding Padding refl)))
