-- Whole groups of symbols only.
use Rattle.std.proofs.Common.{◌≡◌, ℕ, zero, suc, ◌+◌, ◌*◌, true, false, not, List, [], ◌∷◌, length, map, take, drop, None, refl, sym, ap, ◌∙◌, arith, take-append-drop, length-take-le}
use Rattle.std.proofs.Math.Nat.{zero-mul, suc-mul}
use Rattle.std.proofs.lemmas.List.{length-map, length-drop, drop_all, nil_from_length}
use Rattle.std.proofs.lemmas.List.Folds.{flat_map-map}
use Rattle.std.specs.Prelude.{flat_map}
use Rattle.std.specs.List.{filter_map, position}
use Rattle.std.proofs.Math.Bool.{and-false}
use Rattle.data_encoding_meaning.specs.declared.encoding.Character.{Character}
use Rattle.data_encoding_meaning.specs.declared.encoding.Character.TheVariants.{Symbol}
use Rattle.data_encoding_meaning.specs.text.Base.{Base, meaning, is_symbol, group_symbols, group_bytes, value_of, IsWidth}
use Rattle.data_encoding_meaning.specs.text.Bits.{runs}
use Rattle.data_encoding_meaning.specs.text.Grammar.{Positioned, bytes_in, is_final, kept_in, meanings_in, positioned_from}
use Rattle.data_encoding_meaning.specs.text.Lengths.{is_valid_count}
use Rattle.data_encoding_meaning.specs.decoding.Fault.{bytes_of_group, group_fault, located, plain_fault, symbol_bits, symbol_bytes, trailing_bits, AreSound}
use Rattle.data_encoding_meaning.specs.decoding.Decoding.{run_bytes}
use Rattle.data_encoding_meaning.proofs.digits.WidthLemmas.{group_bits, group_symbols-pos}
use Rattle.data_encoding_meaning.proofs.lists.EachLemmas.{all_parts}
use Rattle.data_encoding_meaning.proofs.lists.EndLemmas.{AllSo}
use Rattle.data_encoding_meaning.proofs.lists.ListLemmas.{AllFail, position-none}
use Rattle.data_encoding_meaning.proofs.lists.RunLemmas.{runs-nil, runs-first}
use Rattle.data_encoding_meaning.proofs.grammar.UnpaddedGroupLemmas.{are_symbols, length-bits_of_values, PlainMeans-sound}
use Rattle.data_encoding_meaning.proofs.grammar.GroupLemmas.{whole-valid, GroupMeans-no_fault, GroupMeans-symbols}
use Rattle.data_encoding_meaning.proofs.grammar.PositionLemmas.{bytes-positioned_from, length-meanings, runs-meanings}
use Rattle.data_encoding_meaning.proofs.grammar.SoundLemmas.{symbols-not_final}

none_other : (base : Base) (ks : List Positioned) → AllSo (λ k. is_symbol (meaning base k.byte)) ks
    → AllFail (λ m. not (is_symbol m)) (meanings_in base ks)
none_other base [] h = tt
none_other base (k ∷ ks) h = (ap not h.0, none_other base ks h.1)

module _ (base : Base) (width : IsWidth base.width) (group : List Positioned)
    (len : length group ≡ group_symbols base.width)
    (symbols : AllSo (λ k. is_symbol (meaning base k.byte)) group) where
  abbrev meant : List Character
  meant = meanings_in base group

  abbrev values : List ℕ
  values = filter_map value_of meant

  meant_len : length meant ≡ group_symbols base.width
  meant_len = length-meanings base group ∙ len

  none : position (λ m. not (is_symbol m)) meant ≡ None
  none = position-none (λ m. not (is_symbol m)) meant (none_other base group symbols)

  meanings : meant ≡ map (λ value. Symbol value) values
  meanings = are_symbols meant none

  plain : plain_fault base meant ≡ None
  plain =
      let many : length values ≡ group_symbols base.width =
      simp length-map at (ap length (sym meanings)) ∙ len in
      let bits : length (symbol_bits base meant) ≡ 8 * group_bytes base.width =
      rw (length-bits_of_values base.order base.width values, many) (group_bits base.width width) in
      let rest : trailing_bits base meant ≡ [] =
      drop_all _ (symbol_bits base meant) (omega arith) in
      let valid : is_valid_count base.width (length meant) ≡ true =
      rw meant_len (whole-valid base.width width) in
      rw (valid, none, rest, and-false base.checks_trailing_bits)

  -- a whole group of symbols has no fault, and may be followed
  pub group_fault-symbols : group_fault base (bytes_in group) ≡ None
  group_fault-symbols =
      GroupMeans-no_fault base width meant (symbol_bytes base meant)
      (GroupMeans-symbols base meant (symbol_bytes base meant)
      (omega (arith, meant_len, group_symbols-pos base.width width)) (λ padded. meant_len)
      (PlainMeans-sound base width meant plain))

  pub is_final-symbols : is_final base group ≡ false
  is_final-symbols = symbols-not_final base meant values meanings

pub symbols-positioned : (base : Base) (start : ℕ) (part : List ℕ)
    → AllSo (λ byte. is_symbol (meaning base byte)) part
    → AllSo (λ k. is_symbol (meaning base k.byte)) (positioned_from start part)
symbols-positioned base start [] h = tt
symbols-positioned base start (byte ∷ part) h = (h.0, symbols-positioned base (start + 1) part h.1)

-- no symbol is left out
pub kept_in-symbols : (base : Base) (start : ℕ) (part : List ℕ)
    → AllSo (λ byte. is_symbol (meaning base byte)) part
    → kept_in base start part ≡ positioned_from start part
kept_in-symbols base start [] h = refl
kept_in-symbols base start (byte ∷ part) h =
    grind (arith, h.0, kept_in-symbols base (start + 1) part h.1)

-- whole groups of symbols are sound
pub AreSound-symbols : (base : Base) → IsWidth base.width → (count : ℕ) (ks : List Positioned)
    → length ks ≡ count * group_symbols base.width
    → AllSo (λ k. is_symbol (meaning base k.byte)) ks
    → AreSound base false (runs (group_symbols base.width) ks) false
AreSound-symbols base width zero ks len symbols =
    let none = nil_from_length ks (len ∙ zero-mul (group_symbols base.width)) in
    rw (none, runs-nil {X = Positioned} _ (group_symbols-pos base.width width))
AreSound-symbols base width (suc count) ks len symbols =
    let size = group_symbols base.width in
    let front = take size ks in
    let back = drop size ks in
    let more : length ks ≡ count * size + size = len ∙ suc-mul count size in
    let front_len : length front ≡ size = length-take-le size ks (omega (arith, more)) in
    let back_len : length back ≡ count * size = length-drop size ks ∙ omega (arith, more) in
    let parts = all_parts (λ (k : Positioned). is_symbol (meaning base k.byte) ≡ true) front back
    (rw take-append-drop symbols) in
    let pos = group_symbols-pos base.width width in
    rw (runs-first size ks pos (omega (arith, more, pos))) (
      ap (located front) (group_fault-symbols base width front front_len parts.0),
      rw (is_final-symbols base width front front_len parts.0)
          (AreSound-symbols base width count back back_len parts.1),
    )

-- the bytes of a run are those of its groups, whatever its position
pub run_bytes-positioned : (base : Base) → IsWidth base.width → (start : ℕ) (part : List ℕ)
    → run_bytes base part
    ≡ flat_map (bytes_of_group base) (runs (group_symbols base.width) (positioned_from start part))
run_bytes-positioned base width start part =
    let size = group_symbols base.width in
    let ks = positioned_from start part in
    ap (run_bytes base) (sym (bytes-positioned_from start part))
    ∙ ap (flat_map (symbol_bytes base))
    (runs-meanings base size ks (group_symbols-pos base.width width))
    ∙ flat_map-map (symbol_bytes base) (meanings_in base) (runs size ks)
