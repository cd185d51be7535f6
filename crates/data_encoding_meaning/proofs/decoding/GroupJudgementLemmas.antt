-- The results of judging a group: its symbols, its fault, or its bytes.
use Rattle.std.proofs.Common.{◌≡◌, ℕ, zero, suc, ◌-◌, ◌*◌, ◌/◌, ◌%◌, ◌<◌, ◌≤◌, ◌==◌, nat_lt, Bool, true, false, not, cond, ◌||◌, List, [], ◌∷◌, length, map, take, slice_index, Option, Some, is_some, refl, sym, ◌∙◌, arith}
use Rattle.std.proofs.lemmas.Bool.Decides.{nat_tests}
use Rattle.std.proofs.Math.Nat.{le-div_iff_mul-le, div-eq_of_lt, mul-le-mul_left, zero-mul}
use Rattle.std.proofs.lemmas.Nat.{mul-le}
use Rattle.std.proofs.lemmas.List.{take_all, length-map, take-map}
use Rattle.data_encoding_meaning.proofs.grammar.LengthLemmas.{greatest_valid_length-by, is_valid_length-by, whole-less}
use Rattle.data_encoding_meaning.specs.declared.encoding.Character.{Character}
use Rattle.data_encoding_meaning.specs.declared.error.GroupFault.{GroupFault}
use Rattle.data_encoding_meaning.specs.declared.error.DecodeError.{DecodeError}
use Rattle.data_encoding_meaning.specs.declared.error.DecodeKind.TheVariants.{Length as LengthFault, Padding as PaddingFault}
use Rattle.data_encoding_meaning.specs.text.Base.{Base, IsWidth, meaning, is_padded, group_symbols, IsGroup}
use Rattle.data_encoding_meaning.specs.decoding.Decoding.{HasFault, HasSymbols}
use Rattle.data_encoding_meaning.specs.decoding.Fault.{count_before_padding, faulty_at, group_fault, located, symbols_fault}
use Rattle.data_encoding_meaning.specs.text.Grammar.{Positioned, positioned_from}
use Rattle.data_encoding_meaning.specs.text.Lengths.{is_valid_count, greatest_valid_length, is_valid_length}
use Rattle.data_encoding_meaning.proofs.digits.SizeLemmas.{IsSmall-group}
use Rattle.data_encoding_meaning.proofs.grammar.PositionLemmas.{bytes-positioned_from}
use Rattle.data_encoding_meaning.proofs.grammar.GroupLemmas.{inside-padding}
use Rattle.data_encoding_meaning.proofs.grammar.UnpaddedGroupLemmas.{plain_fault-valid}

-- the symbols of a group have few bits
pub few-bits : {w bytes symbols width : ℕ} → IsGroup w bytes symbols → width ≡ w → (count : ℕ)
    → count ≤ symbols → width * count ≤ 48
few-bits {width} group same count few =
    mul-le width count 6 8 (omega (arith, same, group.is_width.few))
    (omega (arith, (IsSmall-group group).few_symbols, few))

-- if there is room for more of them, there is room for these
pub room-symbols : {w width count len room : ℕ} → width ≡ w → count ≤ len → w * len / 8 ≤ room
    → width * count / 8 ≤ room
room-symbols {w} same few fits = rw same (omega (arith, mul-le-mul_left w few, fits))

-- the fault of the bytes of a group is its fault if no final group came before
pub HasFault-own : {base : Base} {group : List ℕ} {fault : GroupFault}
    → fault.index < length group → group_fault base group ≡ Some fault
    → HasFault base false group fault
HasFault-own {base} inside is = record {
  inside = inside;
  is_fault = λ placed same. rw (same, is);
}

located-some : (placed : List Positioned) (o : Option GroupFault) (error : DecodeError)
    → located placed o ≡ Some error → is_some o ≡ true
located-some placed o error h = grind arith

-- so its bytes have one
pub HasFault-some : {base : Base} {group : List ℕ} {fault : GroupFault}
    → HasFault base false group fault → is_some (group_fault base group) ≡ true
HasFault-some {base} {group} has =
    let fault = has.is_fault (positioned_from 0 group) (bytes-positioned_from 0 group) in
    rw bytes-positioned_from at (located-some (positioned_from 0 group) _ _ fault)

module _ (base : Base) (group : List ℕ) where
  abbrev meant : List Character
  meant = map (meaning base) group

  length_is : length meant ≡ length group
  length_is = length-map group (meaning base)

  module _ (unpadded : is_padded base ≡ false) where
    -- without padding a number of symbols may be invalid
    fault-invalid : (width : ℕ) → base.width ≡ width → is_valid_count width (length group) ≡ false
        → group_fault base group
        ≡ faulty_at LengthFault (length group - width * length group % 8 / width)
    fault-invalid width width_is known = rw (unpadded, length_is, width_is, known)

    pub length-invalid : 0 < length group → (width : ℕ) → base.width ≡ width → 0 < width
        → width ≤ width * length group % 8
        → HasFault base false group (record {
          index = length group - width * length group % 8 / width;
          kind = LengthFault;
        })
    length-invalid some width width_is pos large =
        let least : 1 ≤ width * length group % 8 / width =
        (le-div_iff_mul-le {k = width} {x = 1} {y = width * length group % 8} pos).1
        (omega (arith, large)) in
        HasFault-own (omega (arith, least, some))
        (fault-invalid width width_is (grind (arith, nat_tests, large)))

    -- or else each byte may be a symbol
    pub symbols-all : is_valid_count base.width (length group) ≡ true
        → HasSymbols base group (length group)
    symbols-all valid = record {
      count_is = rw unpadded;
      within = omega arith;
      valid = valid;
      fault_is = rw (unpadded, take_all (length group) group (omega arith))
          (plain_fault-valid base meant (rw length_is valid));
    }

  module _ (padded : is_padded base ≡ true) where
    -- a padded group is whole
    fault-short : length group < group_symbols base.width
        → group_fault base group ≡ faulty_at LengthFault 0
    fault-short short =
        let less : nat_lt (length group) (group_symbols base.width) ≡ true =
        grind (arith, nat_tests) in
        rw (padded, length_is, less)

    pub group-short : 0 < length group → length group < group_symbols base.width
        → HasFault base false group (record { index = 0; kind = LengthFault })
    group-short some short = HasFault-own some (fault-short short)

    module _ (whole : length group ≡ group_symbols base.width) (count : ℕ)
        (count_is : count ≡ count_before_padding meant) where
      full : nat_lt (length meant) (group_symbols base.width) ≡ false
      full = grind (arith, nat_tests, whole, length_is)

      whole-group : group_fault base group
          ≡ cond (count == 0 || not (is_valid_count base.width count))
          (faulty_at PaddingFault count) (symbols_fault base (take count meant))
      whole-group = rw (padded, ← count_is, full)

      pub padding-invalid : IsWidth base.width → 0 < length group → count ≤ length group
          → (count == 0 || not (is_valid_count base.width count)) ≡ true
          → HasFault base false group (record { index = count; kind = PaddingFault })
      padding-invalid width some within bad =
          let inside = inside-padding base width meant (omega (arith, some, length_is))
          (omega (arith, whole, length_is)) full count (omega (arith, within, length_is)) bad in
          HasFault-own (omega (arith, inside, length_is)) (whole-group ∙ rw bad)

      pub symbols-before : count ≤ length group → (count == 0) ≡ false
          → is_valid_count base.width count ≡ true → HasSymbols base group count
      symbols-before within begun valid =
          record {
            count_is = rw padded count_is;
            within = within;
            valid = valid;
            fault_is = whole-group ∙ rw (begun, valid, take-map);
          }

-- a group without a valid length has the fault of its length
pub fault-length : (base : Base) → IsWidth base.width → (group : List ℕ) → 0 < length group
    → length group ≤ group_symbols base.width → is_valid_length base (length group) ≡ false
    → group_fault base group ≡ faulty_at LengthFault (greatest_valid_length base (length group))
fault-length base width group some few invalid = by (is_padded base) refl where
  by : (b : Bool) → is_padded base ≡ b
      → group_fault base group ≡ faulty_at LengthFault (greatest_valid_length base (length group))
  by true is =
      let short = whole-less base width (length group) few invalid in
      rw (greatest_valid_length-by base (length group) true is, div-eq_of_lt short, zero-mul)
      (fault-short base group is short)
  by false is =
      rw (greatest_valid_length-by base (length group) false is)
      (fault-invalid base group is base.width refl
      (sym (is_valid_length-by base (length group) false is) ∙ invalid))

-- the bytes of a prefix are bytes
pub part_bytes : (group : List ℕ) → ((k : ℕ) → slice_index group k < 256) → (count k : ℕ)
    → slice_index (take count group) k < 256
part_bytes group h zero k = omega arith
part_bytes [] h (suc count) k = omega arith
part_bytes (byte ∷ group) h (suc count) zero = h 0
part_bytes (byte ∷ group) h (suc count) (suc k) = part_bytes group (λ n. h (suc n)) count k
