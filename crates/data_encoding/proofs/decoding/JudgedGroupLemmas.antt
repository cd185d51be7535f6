-- The judgement of a group: where its padding starts, its fault, or its bytes.
use Rattle.std.proofs.Common.{◌≡◌, ℕ, zero, suc, ◌-◌, ◌*◌, ◌/◌, ◌<◌, ◌≤◌, ◌==◌, ◌≢◌, nat_lt, Some, Bool, true, false, not, ◌&&◌, List, [], ◌∷◌, ◌++◌, length, map, take, drop, replicate, slice_index, None, refl, sym, ap, subst, ◌∙◌, arith, length-take-le, take-append-drop, ⊎_elim}
use Rattle.std.proofs.lemmas.Bool.{cases_lt}
use Rattle.std.proofs.lemmas.Bool.Decides.{nat_tests}
use Rattle.std.proofs.lemmas.List.{get_or-take, drop-map, drop_all, get_or-drop, length-drop, length-map, take-map}
use Rattle.std.proofs.lemmas.List.Folds.{list_any-append}
use Rattle.std.proofs.lemmas.List.Sums.{position_or_len_is}
use Rattle.std.proofs.Math.ListN.{get_or-map}
use Rattle.std.specs.List.{filter_map, list_any, position, prefix_len}
use Rattle.data_encoding_meaning.specs.declared.encoding.Character.{Character}
use Rattle.data_encoding_meaning.specs.declared.encoding.Character.TheVariants.{Symbol, Ignored, Invalid, Padding as PaddingCharacter}
use Rattle.data_encoding_meaning.specs.declared.error.DecodeKind.TheVariants.{Symbol as SymbolFault, Trailing as TrailingFault}
use Rattle.data_encoding_meaning.specs.text.Base.{Base, group_symbols, meaning, is_padded, is_padding, is_symbol, value_of}
use Rattle.data_encoding_meaning.specs.decoding.Decoding.{HasFault, HasSymbols, IsDecodedGroup}
use Rattle.data_encoding_meaning.specs.decoding.Fault.{count_before_padding, group_fault, symbol_bytes, trailing_bits, trailing_fault}
use Rattle.data_encoding_kernel.specs.Fronts.{IsFront}
use Rattle.data_encoding_kernel.specs.Joins.{IsJoin}
use Rattle.data_encoding_kernel.specs.Tables.{HoldsValues}
use Rattle.data_encoding_kernel.specs.declared.simd.decode.last_symbols.Join.{Join}
use Rattle.data_encoding_kernel.proofs.decoding.JoinSizeLemmas.{join-group}
use Rattle.data_encoding_meaning.proofs.lists.EndLemmas.{AllSo, count_before_end-at, count_before_end-map, end-passes}
use Rattle.data_encoding_meaning.proofs.lists.ListLemmas.{list_any-none, position-none}
use Rattle.data_encoding_meaning.proofs.grammar.GroupLemmas.{all_padding, any_padding, bytes_before_padding, symbols_alone}
use Rattle.data_encoding_meaning.proofs.grammar.UnpaddedGroupLemmas.{are_symbols}
use Rattle.data_encoding_meaning.proofs.decoding.GroupJudgementLemmas.{HasFault-own, few-bits}
use Rattle.data_encoding.proofs.decoding.FrontLemmas.{AreSymbols, all_symbols}

-- the first byte that is not a symbol
first-other : (base : Base) (group : List ℕ) (index : ℕ) → index < length group
    → ((k : ℕ) → k < index → is_symbol (meaning base (slice_index group k)) ≡ true)
    → is_symbol (meaning base (slice_index group index)) ≡ false
    → position (λ m. not (is_symbol m)) (map (meaning base) group) ≡ Some index
first-other base group index inside before there =
    let len : prefix_len (λ m. not (not (is_symbol m))) (map (meaning base) group) ≡ index =
    position_or_len_is (λ m. not (is_symbol m)) (map (meaning base) group) index (meaning base 0)
    (omega (arith, length-map group (meaning base), inside))
    (λ k less. rw (get_or-map (meaning base) group k 0) (ap not (before k less)))
    (λ _. rw (get_or-map (meaning base) group index 0) (ap not there)) in
    rw (len, length-map group (meaning base)) (grind (arith, nat_tests))

-- where the padding of a group starts, by its table
pub count-before : (base : Base) (values : List ℕ) → HoldsValues base values → (group : List ℕ)
    → ((k : ℕ) → slice_index group k < 256) → (count : ℕ) → count ≤ length group
    → ((k : ℕ) → count ≤ k → k < length group
    → slice_index values (slice_index group k) ≡ 130)
    → (0 < count → slice_index values (slice_index group (count - 1)) ≢ 130)
    → count ≡ count_before_padding (map (meaning base) group)
count-before base values holds group are_bytes count within all stops =
    let pads : ℕ → Bool = λ byte. is_padding (meaning base byte) in
    let at : (k : ℕ) → pads (slice_index group k)
    ≡ (slice_index values (slice_index group k) == 130) =
    λ k. holds.paddings (slice_index group k) (are_bytes k) in
    sym (count_before_end-map is_padding (meaning base) group
    ∙ count_before_end-at pads group 0 count within
    (λ k from inside. at k ∙ rw (all k from inside))
    (λ some. let other = stops some in at (count - 1) ∙ grind (arith, nat_tests)))

-- padding is not a symbol
not-both : (m : Character) → is_padding m ≡ true → is_symbol m ≡ true → ⊥
not-both (Symbol v) h k = absurd (cc h)
not-both PaddingCharacter h k = absurd (cc k)
not-both Ignored h k = absurd (cc h)
not-both Invalid h k = absurd (cc h)

-- so the bytes of padding have no symbol at their start
padding-first : (base : Base) (bytes : List ℕ) → AllSo is_padding (map (meaning base) bytes)
    → 0 < length bytes → is_symbol (meaning base (slice_index bytes 0)) ≡ true → ⊥
padding-first base [] pads some h = absurd (omega (arith, some))
padding-first base (byte ∷ bytes) pads some h = not-both (meaning base byte) pads.0 h

-- a byte that is not zero
pub set-byte : (byte : ℕ) → (byte ≡ 0 → ⊥) → not (byte == 0) ≡ true
set-byte zero other = absurd (other refl)
set-byte (suc n) other = grind (arith, nat_tests)

-- the bits of the symbols of a group
pub symbol-bits : {join : Join} {width count len : ℕ} → IsJoin join → join.width ≡ width
    → count ≤ len → len ≤ group_symbols width → join.width * count ≤ 48
symbol-bits {count = count} is same within few =
    few-bits (join-group is) refl count (omega (arith, within, few, ap group_symbols same))

-- trailing bits have a symbol
pub some-trailing : (base : Base) (group : List ℕ) (n : ℕ) (bytes : List ℕ)
    → IsFront base group n bytes
    → (slice_index bytes (base.width * n / 8) ≡ 0 → ⊥) → 0 < n
some-trailing base group zero bytes front other =
    absurd (other (grind (arith, nat_tests, front.next)))
some-trailing base group (suc n) bytes front other = omega arith

-- A group with this many bytes that must be symbols.
module _ (base : Base) (group : List ℕ) (count : ℕ) (has : HasSymbols base group count) where
  abbrev symbols : List ℕ
  symbols = take count group

  abbrev judged : List Character
  judged = map (meaning base) symbols

  few : length symbols ≡ count
  few = length-take-le count group has.within

  abbrev all : List Character
  all = map (meaning base) group

  rest_pads : AllSo is_padding (drop count all)
  rest_pads = by (is_padded base) refl where
    by : (b : Bool) → is_padded base ≡ b → AllSo is_padding (drop count all)
    by true is = rw (has.count_is, is) (end-passes is_padding all)
    by false is =
        let few : length all ≤ length group = omega (arith, length-map group (meaning base)) in
        rw (has.count_is, is, drop_all (length group) all few) tt

  -- no more bytes at the start are symbols
  pub front-few : (n : ℕ) → n ≤ length group
      → ((k : ℕ) → k < n → is_symbol (meaning base (slice_index group k)) ≡ true) → n ≤ count
  front-few n within are =
      ⊎_elim (λ (more : count < n).
      absurd (padding-first base (drop count group)
      (subst (AllSo is_padding) (drop-map (meaning base) count group) rest_pads)
      (omega (arith, length-drop count group, more, within))
      (subst (λ byte. is_symbol (meaning base byte) ≡ true)
      (ap (slice_index group) (omega arith) ∙ sym (get_or-drop count group 0 0)) (are count more))))
      (λ (enough : n ≤ count). enough) (cases_lt count n)

  -- so if there are as many, there are no more
  pub front-is : (n : ℕ) (bytes : List ℕ) → n ≤ length group → count ≤ n
      → IsFront base group n bytes → IsFront base group count bytes
  front-is n bytes within enough front =
      subst (λ m. IsFront base group m bytes)
      (omega (arith, enough, front-few n within front.are_symbols)) front

  -- the first that is not a symbol is the fault
  pub symbol-fault : (index : ℕ) → index < count
      → ((k : ℕ) → k < index → is_symbol (meaning base (slice_index group k)) ≡ true)
      → is_symbol (meaning base (slice_index group index)) ≡ false
      → HasFault base false group (record { index = index; kind = SymbolFault })
  symbol-fault index inside before there =
      let here : (k : ℕ) → k < count → slice_index symbols k ≡ slice_index group k =
      λ k less. get_or-take count group k 0 less in
      HasFault-own (omega (arith, inside, has.within))
      (has.fault_is ∙ rw (first-other base symbols index (omega (arith, inside, few))
      (λ k less. ap (λ byte. is_symbol (meaning base byte)) (here k (omega (arith, less, inside)))
      ∙ before k less)
      (ap (λ byte. is_symbol (meaning base byte)) (here index inside) ∙ there)))

  -- symbols at the start of the group
  pub front-symbols : (bytes : List ℕ) → IsFront base group count bytes → AreSymbols judged
  front-symbols bytes front =
      all_symbols base symbols (λ k less.
      let inside : k < count = omega (arith, less, few) in
      ap (λ byte. is_symbol (meaning base byte)) (get_or-take count group k 0 inside)
      ∙ front.are_symbols k inside)

  module _ (are : AreSymbols judged) where
    no_symbol : position (λ m. not (is_symbol m)) judged ≡ None
    no_symbol = position-none (λ m. not (is_symbol m)) judged are

    fault-symbols : group_fault base group ≡ trailing_fault base judged
    fault-symbols = has.fault_is ∙ rw no_symbol

    -- or else the trailing bits
    pub trailing-fault : base.checks_trailing_bits ≡ true
        → list_any (λ bit. not (bit == 0)) (trailing_bits base judged) ≡ true
        → 0 < count
        → HasFault base false group (record { index = count - 1; kind = TrailingFault })
    trailing-fault checks some begun =
        HasFault-own (omega (arith, begun, has.within))
        (fault-symbols ∙ rw (checks, some, length-map symbols (meaning base), few))

    later : all ≡ judged ++ replicate (length (drop count all)) PaddingCharacter
    later =
        sym (take-append-drop count all)
        ∙ (λ i. take-map (meaning base) count group i ++ all_padding (drop count all) rest_pads i)

    has_padding : list_any is_padding all ≡ nat_lt count (length group)
    has_padding =
        let padding = length (drop count all) in
        let none : list_any is_padding judged ≡ false = rw (are_symbols judged no_symbol)
        (list_any-none is_padding _ (symbols_alone (filter_map value_of judged))) in
        let some : nat_lt 0 (length group - count) ≡ nat_lt count (length group) =
        grind (arith, nat_tests) in
        ap (list_any is_padding) later
        ∙ rw (list_any-append, none, any_padding padding, length-drop, length-map, some)

    -- the padding means no bytes
    pub symbols-bytes : symbol_bytes base all ≡ symbol_bytes base judged
    symbols-bytes = rw later (bytes_before_padding base judged (length (drop count all)))

    module _ (quiet : (base.checks_trailing_bits
        && list_any (λ bit. not (bit == 0)) (trailing_bits base judged)) ≡ false) where
      -- without trailing bits there is no fault
      pub symbols-sound : group_fault base group ≡ None
      symbols-sound = fault-symbols ∙ rw quiet refl

      -- and the group is decoded
      pub group-sound : (new : List ℕ)
          → take (base.width * count / 8) new ≡ symbol_bytes base judged
          → IsDecodedGroup base group count new
      group-sound new bytes = record {
        within = has.within;
        sound = symbols-sound;
        final = has_padding;
        bytes = bytes ∙ sym symbols-bytes;
      }
