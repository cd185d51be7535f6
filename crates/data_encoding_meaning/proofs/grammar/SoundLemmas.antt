-- Groups without a fault, one after another.
use Rattle.std.proofs.Common.{◌≡◌, ℕ, Bool, false, not, ◌&&◌, List, [], ◌∷◌, ◌++◌, map, Option, None, refl, arith}
use Rattle.std.proofs.lemmas.List.{append-nil}
use Rattle.std.proofs.lemmas.List.Concat.{flat_map-append}
use Rattle.std.specs.Prelude.{flat_map}
use Rattle.std.specs.List.{list_any}
use Rattle.std.proofs.Math.Bool.{and-false}
use Rattle.data_encoding_meaning.specs.declared.error.DecodeError.{DecodeError}
use Rattle.data_encoding_meaning.specs.declared.encoding.Character.{Character}
use Rattle.data_encoding_meaning.specs.declared.encoding.Character.TheVariants.{Symbol}
use Rattle.data_encoding_meaning.specs.text.Base.{Base, is_padding}
use Rattle.data_encoding_meaning.specs.text.Grammar.{Positioned, bytes_in, is_final}
use Rattle.data_encoding_meaning.specs.decoding.Fault.{bytes_of_group, fault_after, first_after, group_fault, or_else, sound_after, AreSound}
use Rattle.data_encoding_meaning.proofs.lists.ListLemmas.{list_any-none}
use Rattle.data_encoding_meaning.proofs.grammar.GroupLemmas.{symbols_alone}

-- whether one is final after them, sound or not
abbrev pub ends_after : Base → Bool → List (List Positioned) → Bool
ends_after base begun [] = begun
ends_after base begun (group ∷ others) = ends_after base (is_final base group) others

-- a group without a fault follows none that is final
pub fault_after-none : (base : Base) (begun : Bool) (group : List Positioned)
    → fault_after begun base group ≡ None
    → (begun ≡ false) × (group_fault base (bytes_in group) ≡ None)
fault_after-none base begun group h = (grind arith, grind arith)

-- symbols are not final
pub symbols-not_final : (base : Base) (group : List Character) (values : List ℕ)
    → group ≡ map (λ value. Symbol value) values
    → (not base.concatenates && list_any is_padding group) ≡ false
symbols-not_final base group values h =
    rw (h, list_any-none is_padding _ (symbols_alone values)) (and-false (not base.concatenates))

pub neither_fault : (o p : Option DecodeError) → or_else o p ≡ None → (o ≡ None) × (p ≡ None)
neither_fault o p h = grind arith

module _ (base : Base) where
  pub AreSound-append : (begun middle ended : Bool) (groups others : List (List Positioned))
      → AreSound base begun groups middle → AreSound base middle others ended
      → AreSound base begun (groups ++ others) ended
  AreSound-append begun middle ended [] others h k = rw h k
  AreSound-append begun middle ended (group ∷ groups) others h k =
      (h.0, AreSound-append (is_final base group) middle ended groups others h.1 k)

  -- the others decide
  pub first-AreSound : (begun ended : Bool) (groups others : List (List Positioned))
      → AreSound base begun groups ended
      → first_after begun base (groups ++ others) ≡ first_after ended base others
  first-AreSound begun ended [] others h = rw h
  first-AreSound begun ended (group ∷ groups) others h =
      rw h.0 (first-AreSound (is_final base group) ended groups others h.1)

  pub sound-AreSound : (begun ended : Bool) (groups others : List (List Positioned))
      → AreSound base begun groups ended
      → sound_after begun base (groups ++ others) ≡ groups ++ sound_after ended base others
  sound-AreSound begun ended [] others h = rw h
  sound-AreSound begun ended (group ∷ groups) others h =
      rw (h.0, sound-AreSound (is_final base group) ended groups others h.1)

  -- and their bytes follow
  pub bytes-AreSound : (begun ended : Bool) (groups others : List (List Positioned))
      → AreSound base begun groups ended
      → flat_map (bytes_of_group base) (sound_after begun base (groups ++ others))
      ≡ flat_map (bytes_of_group base) groups
      ++ flat_map (bytes_of_group base) (sound_after ended base others)
  bytes-AreSound begun ended groups others h =
      rw (sound-AreSound begun ended groups others h)
      (flat_map-append (bytes_of_group base) groups (sound_after ended base others))

  pub first-none : (begun ended : Bool) (groups : List (List Positioned))
      → AreSound base begun groups ended → first_after begun base groups ≡ None
  first-none begun ended groups h = simp append-nil at (first-AreSound begun ended groups [] h)

  pub sound-all : (begun ended : Bool) (groups : List (List Positioned))
      → AreSound base begun groups ended → sound_after begun base groups ≡ groups
  sound-all begun ended groups h = simp append-nil at (sound-AreSound begun ended groups [] h)

  -- groups are sound if none has a fault
  pub AreSound-none : (begun : Bool) (groups : List (List Positioned))
      → first_after begun base groups ≡ None
      → AreSound base begun groups (ends_after base begun groups)
  AreSound-none begun [] h = refl
  AreSound-none begun (group ∷ groups) h =
      let both = neither_fault (fault_after begun base group) _ h in
      (both.0, AreSound-none (is_final base group) groups both.1)
