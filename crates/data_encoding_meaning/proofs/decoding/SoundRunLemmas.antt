-- Whether the longest prefix of valid length means something without ignoring any byte.
use Rattle.std.proofs.Common.{◌≡◌, ℕ, ◌<◌, ◌≤◌, true, false, List, ◌∷◌, length, take, drop, Option, None, is_none, sym, ap, ◌∙◌, arith, length-take-le}
use Rattle.std.proofs.lemmas.List.{take-map}
use Rattle.data_encoding_meaning.specs.declared.error.DecodeError.{DecodeError}
use Rattle.data_encoding_meaning.specs.text.Base.{Base, group_symbols, IsWidth}
use Rattle.data_encoding_meaning.specs.text.Bits.{runs}
use Rattle.data_encoding_meaning.specs.text.Grammar.{Positioned, positioned, bytes_in}
use Rattle.data_encoding_meaning.specs.text.Lengths.{is_valid_length, greatest_valid_length, length_fault}
use Rattle.data_encoding_meaning.specs.decoding.Fault.{group_fault, fault_of, first_after, fault_after}
use Rattle.data_encoding_meaning.specs.decoding.Partial.{ignoring_nothing, is_sound_run}
use Rattle.data_encoding_meaning.proofs.digits.WidthLemmas.{group_symbols-pos}
use Rattle.data_encoding_meaning.proofs.lists.RunLemmas.{runs-nil, runs-short, runs-first}
use Rattle.data_encoding_meaning.proofs.grammar.PositionLemmas.{filter-plain, length-positioned_from, bytes-positioned_from}
use Rattle.data_encoding_meaning.proofs.grammar.LengthLemmas.{length_fault-none}
use Rattle.data_encoding_meaning.proofs.grammar.SoundLemmas.{neither_fault, fault_after-none}
use Rattle.data_encoding_meaning.proofs.decoding.GreatestLengthLemmas.{greatest-least, greatest-valid}
use Rattle.data_encoding_meaning.proofs.decoding.IgnoringLemmas.{ignores_none-strict, group_fault-strict}

is_none-none : (o : Option DecodeError) → is_none o ≡ true → o ≡ None
is_none-none o h = grind arith

module _ (base : Base) (width : IsWidth base.width) (bytes : List ℕ) where
  abbrev size : ℕ
  size = group_symbols base.width

  abbrev len : ℕ
  len = greatest_valid_length base (length bytes)

  abbrev front : List ℕ
  front = take len bytes

  abbrev strict : Base
  strict = ignoring_nothing base

  front_len : length (positioned front) ≡ len
  front_len =
      length-positioned_from 0 front
      ∙ length-take-le len bytes (greatest-least base width (length bytes))

  strict_fault : fault_of strict front
      ≡ first_after false strict (runs size (positioned front))
  strict_fault =
      let valid : length_fault strict (length front) ≡ None =
      length_fault-none strict (length front)
      (λ none. ap (is_valid_length base) (sym (length-positioned_from 0 front) ∙ front_len)
      ∙ greatest-valid base width (length bytes)) in
      rw (valid, filter-plain strict (ignores_none-strict base) (positioned front))

  -- no bytes mean no bytes
  pub sound_run-none : len ≡ 0 → is_sound_run base bytes ≡ true
  sound_run-none none =
      let nil = runs-nil {X = Positioned} size (group_symbols-pos base.width width) in
      rw (strict_fault, none, nil)

  module _ (some : 0 < len) where
    -- a group without a fault means something
    pub sound_run-group : len ≤ size → group_fault base front ≡ None
        → is_sound_run base bytes ≡ true
    sound_run-group few sound =
        let short = runs-short size (positioned front) (omega (arith, front_len, some))
        (omega (arith, front_len, few)) in
        let same = group_fault-strict base front in
        rw (strict_fault, short, bytes-positioned_from 0 front, same, sound)

    -- and what means something starts with one
    pub sound_run-first : is_sound_run base bytes ≡ true
        → group_fault base (take size front) ≡ None
    sound_run-first h =
        let group = take size (positioned front) in
        let first = runs-first size (positioned front) (group_symbols-pos base.width width)
        (omega (arith, front_len, some)) in
        let none : first_after false strict (group ∷ runs size (drop size (positioned front)))
        ≡ None =
        is_none-none _ (rw (strict_fault, first) at h) in
        let sound = neither_fault (fault_after false strict group) _ none in
        rw (← bytes-positioned_from 0 front, take-map, ← group_fault-strict base (bytes_in group))
        (fault_after-none strict false group sound.0).1
