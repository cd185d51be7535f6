-- The bytes of a group as a text of their own.
use Rattle.std.proofs.Common.{◌≡◌, ℕ, ◌+◌, ◌<◌, ◌≤◌, Bool, true, false, not, cond, ◌&&◌, List, [], ◌∷◌, length, Option, Some, None, refl, sym, ap, ◌∙◌, arith}
use Rattle.std.proofs.lemmas.List.{append-nil, length-map}
use Rattle.std.specs.List.{AllByRecursion}
use Rattle.data_encoding_meaning.proofs.decoding.GroupJudgementLemmas.{fault-length}
use Rattle.data_encoding_meaning.specs.declared.error.GroupFault.{GroupFault}
use Rattle.data_encoding_meaning.specs.declared.error.DecodeError.{DecodeError}
use Rattle.data_encoding_meaning.specs.declared.error.DecodeKind.TheVariants.{Length as LengthFault}
use Rattle.data_encoding_meaning.specs.text.Base.{Base, IsWidth, meaning, is_ignored, ignores_some, group_symbols}
use Rattle.data_encoding_meaning.specs.decoding.Fault.{bytes_of_group, fault_after, fault_at, fault_of, group_fault, located, or_else, sound_bytes}
use Rattle.data_encoding_meaning.specs.text.Grammar.{Positioned, groups, positioned, positioned_from, bytes_in}
use Rattle.data_encoding_meaning.specs.text.Lengths.{greatest_valid_length, is_valid_length, length_fault}
use Rattle.data_encoding_meaning.specs.decoding.Pieces.{fault_in}
use Rattle.data_encoding_meaning.proofs.decoding.GreatestLengthLemmas.{greatest-less}
use Rattle.data_encoding_meaning.proofs.decoding.PieceLemmas.{or_none}
use Rattle.data_encoding_meaning.proofs.grammar.GroupLemmas.{IsInside, group_fault-inside}
use Rattle.data_encoding_meaning.proofs.grammar.PositionLemmas.{bytes-positioned_from, length-positioned_from, position_of-positioned_from}
use Rattle.data_encoding_meaning.proofs.lists.ListLemmas.{filter-all}
use Rattle.data_encoding_meaning.proofs.lists.RunLemmas.{runs-short}

-- a length has its fault only if it is not valid
invalid_from : (ignores valid : Bool) (fault error : DecodeError)
    → cond (not ignores && not valid) (Some fault) None ≡ Some error
    → (valid ≡ false) × (Some fault ≡ Some error)
invalid_from ignores valid fault error h = (grind arith, grind arith)

module _ (base : Base) (width : IsWidth base.width) (group : List Positioned)
    (plain : AllByRecursion (λ k. is_ignored (meaning base k.byte) ≡ false) group)
    (some : 0 < length group) (few : length group ≤ group_symbols base.width) where
  abbrev size : ℕ
  size = group_symbols base.width

  abbrev bytes : List ℕ
  bytes = bytes_in group

  abbrev alone : List Positioned
  alone = positioned bytes

  count : length bytes ≡ length group
  count = length-map group (λ (k : Positioned). k.byte)

  alone_count : length alone ≡ length bytes
  alone_count = length-positioned_from 0 bytes

  each_kept : (position : ℕ) (ks : List Positioned)
      → AllByRecursion (λ k. is_ignored (meaning base k.byte) ≡ false) ks
      → AllByRecursion (λ k. not (is_ignored (meaning base k.byte)) ≡ true)
      (positioned_from position (bytes_in ks))
  each_kept position [] h = tt
  each_kept position (k ∷ ks) h = (ap not h.0, each_kept (position + 1) ks h.1)

  one_group : groups base bytes ≡ alone ∷ []
  one_group =
      rw (filter-all (λ (k : Positioned). not (is_ignored (meaning base k.byte))) alone
      (each_kept 0 group plain))
      (runs-short size alone (omega (arith, count, alone_count, some))
      (omega (arith, count, alone_count, few)))

  -- a group without a valid length has the fault of the length of the text
  length-group : is_valid_length base (length bytes) ≡ false
      → located alone (group_fault base bytes)
      ≡ Some (record { position = greatest_valid_length base (length bytes); kind = LengthFault })
  length-group invalid =
      let index = greatest_valid_length base (length bytes) in
      let start : 0 + index ≡ index = omega arith in
      rw (fault-length base width bytes (omega (arith, some, count)) (omega (arith, few, count))
      invalid)
      (rw (position_of-positioned_from 0 bytes index (greatest-less base width _ invalid), start))

  -- the text has the fault of the group
  fault_of-alone : fault_of base bytes ≡ located alone (group_fault base bytes)
  fault_of-alone =
      rw (one_group, or_none, bytes-positioned_from)
      (by (length_fault base (length bytes)) refl) where
        by : (o : Option DecodeError) → length_fault base (length bytes) ≡ o
            → or_else o (located alone (group_fault base bytes))
            ≡ located alone (group_fault base bytes)
        by None h = refl
        by (Some error) h =
            let found = invalid_from (ignores_some base) (is_valid_length base (length bytes)) _
            error h in
            sym (length-group found.0 ∙ found.1)

  located-alone : (o : Option GroupFault) → IsInside (length group) o
      → located group o ≡ fault_in group (located alone o)
  located-alone None inside = refl
  located-alone (Some fault) inside =
      let start : 0 + fault.index ≡ fault.index = omega arith in
      ap (fault_at fault.kind group)
      (sym (position_of-positioned_from 0 bytes fault.index (omega (arith, count, inside)) ∙ start))

  pub fault-alone : fault_after false base group ≡ fault_in group (fault_of base bytes)
  fault-alone =
      rw fault_of-alone
      (located-alone (group_fault base bytes) (group_fault-inside base width group some few))

  -- and its bytes
  pub bytes-alone : fault_of base bytes ≡ None → bytes_of_group base group ≡ sound_bytes base bytes
  bytes-alone none =
      let sound = rw fault_of-alone at none in
      let same = bytes-positioned_from 0 bytes in
      rw (one_group, same, sound, append-nil, same)
