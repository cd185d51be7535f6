-- A run in which no byte is ignored is decoded as if ignored bytes were invalid.
use Rattle.std.proofs.Common.{◌≡◌, ℕ, ◌+◌, Bool, true, false, not, cond, ◌&&◌, List, [], ◌∷◌, length, map, take, drop, Option, Some, None, is_none, is_some, refl, sym, ap, ◌∙◌, take-append-drop, subst}
use Rattle.std.proofs.lemmas.List.Elements.{recursion_from_All}
use Rattle.std.specs.Prelude.{flat_map}
use Rattle.std.specs.List.{AllByRecursion, list_any}
use Rattle.data_encoding_meaning.specs.declared.encoding.Character.{Character}
use Rattle.data_encoding_meaning.specs.declared.encoding.Character.TheVariants.{Symbol, Padding, Ignored, Invalid}
use Rattle.data_encoding_meaning.specs.declared.error.DecodeError.{DecodeError}
use Rattle.data_encoding_meaning.specs.declared.error.DecodeKind.TheVariants.{Padding as PaddingFault}
use Rattle.data_encoding_meaning.specs.text.Base.{Base, group_symbols, is_ignored, is_padding, meaning}
use Rattle.data_encoding_meaning.specs.text.Bits.{runs}
use Rattle.data_encoding_meaning.specs.text.Grammar.{Positioned, bytes_in, groups, is_final, meanings_in, positioned, positioned_from}
use Rattle.data_encoding_meaning.specs.text.Lengths.{greatest_valid_length, is_valid_length, length_fault}
use Rattle.data_encoding_meaning.specs.decoding.Fault.{bytes_of_group, fault_after, fault_at, fault_of, first_after, first_fault, located, or_else, sound_after, sound_bytes, sound_groups}
use Rattle.data_encoding_meaning.specs.decoding.Partial.{ignoring_nothing, is_length_fault, partial_at, partial_by, partial_of, position_after, read_len, sound_len}
use Rattle.data_encoding_meaning.specs.laws.Layers.{IgnoresNone}
use Rattle.data_encoding_meaning.proofs.decoding.IgnoringLemmas.{group_fault-strict, ignores_none-strict, meanings-strict, strict, strict_as, values-strict}
use Rattle.data_encoding_meaning.proofs.grammar.LengthLemmas.{length_fault-none}
use Rattle.data_encoding_meaning.proofs.grammar.PositionLemmas.{filter-plain}
use Rattle.data_encoding_meaning.proofs.lists.EachLemmas.{all_parts}
use Rattle.data_encoding_meaning.proofs.lists.ListLemmas.{filter-all}

-- strict meanings have padding where the meanings have it
paddings-any : (ms : List Character) → list_any is_padding (map strict ms) ≡ list_any is_padding ms
paddings-any [] = refl
paddings-any (m ∷ ms) = rw ((strict_as m).2, paddings-any ms)

strict-twice : (m : Character) → strict (strict m) ≡ strict m
strict-twice (Symbol value) = refl
strict-twice Padding = refl
strict-twice Ignored = refl
strict-twice Invalid = refl

all-twice : (ms : List Character) → map strict (map strict ms) ≡ map strict ms
all-twice [] = refl
all-twice (m ∷ ms) = λ i. strict-twice m i ∷ all-twice ms i

module _ (base : Base) where
  abbrev plain : Base
  plain = ignoring_nothing base

  plain-twice : ignoring_nothing plain ≡ plain
  plain-twice = λ i. record base { meanings = all-twice base.meanings i }

  -- groups are judged alike
  final-alike : (group : List Positioned) → is_final plain group ≡ is_final base group
  final-alike group =
      ap (λ ms. not base.concatenates && list_any is_padding ms)
      (meanings-strict base (bytes_in group))
      ∙ ap (λ b. not base.concatenates && b) (paddings-any (meanings_in base group))

  after-alike : (ended : Bool) (group : List Positioned)
      → fault_after ended plain group ≡ fault_after ended base group
  after-alike ended group =
      ap (λ o. cond ended (fault_at PaddingFault group 0) (located group o))
      (group_fault-strict base (bytes_in group))

  first-alike : (ended : Bool) (gs : List (List Positioned))
      → first_after ended plain gs ≡ first_after ended base gs
  first-alike ended [] = refl
  first-alike ended (group ∷ gs) =
      (λ i. or_else (after-alike ended group i) (first_after (final-alike group i) plain gs))
      ∙ ap (or_else (fault_after ended base group)) (first-alike (is_final base group) gs)

  sound-alike : (ended : Bool) (gs : List (List Positioned))
      → sound_after ended plain gs ≡ sound_after ended base gs
  sound-alike ended [] = refl
  sound-alike ended (group ∷ gs) =
      (λ i. cond (is_some (after-alike ended group i)) []
      (group ∷ sound_after (final-alike group i) plain gs))
      ∙ ap (λ l. cond (is_some (fault_after ended base group)) [] (group ∷ l))
      (sound-alike (is_final base group) gs)

  bytes-alike : (group : List Positioned) → bytes_of_group plain group ≡ bytes_of_group base group
  bytes-alike group = rw (meanings-strict base (bytes_in group), values-strict)

  all-bytes-alike : (gs : List (List Positioned))
      → flat_map (bytes_of_group plain) gs ≡ flat_map (bytes_of_group base) gs
  all-bytes-alike gs = ap (λ f. flat_map f gs) (λ i group. bytes-alike group i)

  groups-plain : (run : List ℕ)
      → groups plain run ≡ runs (group_symbols base.width) (positioned run)
  groups-plain run =
      ap (runs (group_symbols base.width))
      (filter-plain plain (ignores_none-strict base) (positioned run))

  pub run-fault : (run : List ℕ)
      → fault_of plain run
      ≡ or_else (length_fault plain (length run))
      (first_fault base (runs (group_symbols base.width) (positioned run)))
  run-fault run =
      ap (or_else (length_fault plain (length run)))
      (ap (first_fault plain) (groups-plain run)
      ∙ first-alike false (runs (group_symbols base.width) (positioned run)))

  -- each byte of the run is kept
  abbrev AreKept : List ℕ → Type 0
  AreKept run = AllByRecursion (λ byte. is_ignored (meaning base byte) ≡ false) run

  each-kept : (position : ℕ) (run : List ℕ) → AreKept run
      → AllByRecursion (λ (k : Positioned). not (is_ignored (meaning base k.byte)) ≡ true)
      (positioned_from position run)
  each-kept position [] h = tt
  each-kept position (byte ∷ run) h = (ap not h.0, each-kept (position + 1) run h.1)

  groups-alike : (run : List ℕ) → AreKept run → groups plain run ≡ groups base run
  groups-alike run all =
      groups-plain run
      ∙ ap (runs (group_symbols base.width))
      (sym (filter-all (λ (k : Positioned). not (is_ignored (meaning base k.byte)))
      (positioned run) (each-kept 0 run all)))

  sound-groups-alike : (run : List ℕ) → AreKept run
      → sound_groups plain (groups plain run) ≡ sound_groups base (groups base run)
  sound-groups-alike run all =
      ap (sound_groups plain) (groups-alike run all) ∙ sound-alike false (groups base run)

  sound-bytes-alike : (run : List ℕ) → AreKept run → sound_bytes plain run ≡ sound_bytes base run
  sound-bytes-alike run all =
      ap (flat_map (bytes_of_group plain)) (sound-groups-alike run all)
      ∙ all-bytes-alike (sound_groups base (groups base run))

  front-kept : (count : ℕ) (run : List ℕ) → AreKept run → AreKept (take count run)
  front-kept count run all =
      (all_parts (λ byte. is_ignored (meaning base byte) ≡ false) (take count run) (drop count run)
      (subst AreKept (sym (take-append-drop count run)) all)).0

  module _ (run : List ℕ) (all : AreKept run) where
    reads-alike : (error : DecodeError) → read_len plain run error ≡ read_len base run error
    reads-alike error =
        let len : sound_len plain run ≡ sound_len base run =
        ap (λ gs. position_after (flat_map (λ group. group) gs)) (sound-groups-alike run all) in
        (λ i. cond (is_length_fault error.kind
        && is_none (fault_of (plain-twice i)
        (take (greatest_valid_length base (length (drop (len i) run))) (drop (len i) run))))
        error.position (len i))

    partial-alike : (error : DecodeError) → partial_at plain run error ≡ partial_at base run error
    partial-alike error =
        let bytes : (count : ℕ) → length (sound_bytes plain (take count run))
        ≡ length (sound_bytes base (take count run)) =
        λ count. ap length (sound-bytes-alike (take count run) (front-kept count run all)) in
        let read = reads-alike error in
        let written = ap (λ n. length (sound_bytes plain (take n run))) read
        ∙ bytes (read_len base run error) in
        λ i. record { read = read i; written = written i; error = error }

    partials-alike : (o : Option DecodeError) → partial_by plain run o ≡ partial_by base run o
    partials-alike None = refl
    partials-alike (Some error) = ap (λ p. Some p) (partial-alike error)

    module _ (valid : is_valid_length base (length run) ≡ true) where
      fault-alike : fault_of plain run ≡ fault_of base run
      fault-alike =
          let none : length_fault base (length run) ≡ None =
          length_fault-none base (length run) (λ h. valid) in
          let none_plain : length_fault plain (length run) ≡ None =
          length_fault-none plain (length run) (λ h. valid) in
          (λ i. or_else (none_plain i) (first_fault plain (groups plain run)))
          ∙ ap (first_fault plain) (groups-alike run all) ∙ first-alike false (groups base run)
          ∙ (λ i. or_else (sym none i) (first_fault base (groups base run)))

      abbrev Alike : Type 0
      Alike =
          (fault_of base run ≡ fault_of plain run) × (partial_of base run ≡ partial_of plain run)
          × (sound_bytes base run ≡ sound_bytes plain run)

      run-alike : Alike
      run-alike = (
        sym fault-alike,
        sym (ap (partial_by plain run) fault-alike ∙ partials-alike (fault_of base run)),
        sym (sound-bytes-alike run all),
      )

-- the law
pub run-same : (base : Base) (run : List ℕ) → IgnoresNone base run
    → is_valid_length base (length run) ≡ true
    → (fault_of base run ≡ fault_of (ignoring_nothing base) run)
    × (partial_of base run ≡ partial_of (ignoring_nothing base) run)
    × (sound_bytes base run ≡ sound_bytes (ignoring_nothing base) run)
run-same base run all valid =
    run-alike base run
    (recursion_from_All (λ byte. is_ignored (meaning base byte) ≡ false) run all) valid
