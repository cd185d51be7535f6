-- A group of any base: the index of its fault, and that it means something if and only if it has
-- none.
use Rattle.std.proofs.Common.{◌≡◌, ℕ, zero, suc, ◌+◌, ◌*◌, ◌%◌, ◌<◌, ◌≤◌, ◌==◌, nat_lt, Bool, true, false, not, cond, ◌||◌, List, [], ◌∷◌, ◌++◌, length, map, take, drop, replicate, Option, Some, None, refl, sym, ap, ◌∙◌, subst, arith, length-append, take-append-drop, length-take-le}
use Rattle.std.proofs.lemmas.Bool.Decides.{nat_tests}
use Rattle.std.proofs.lemmas.List.{length-replicate, take_at, append-nil}
use Rattle.std.proofs.lemmas.List.Elements.{filter_map-append}
use Rattle.std.proofs.lemmas.List.Folds.{list_any-append}
use Rattle.std.proofs.lemmas.Nat.{le-div}
use Rattle.std.specs.List.{filter_map, list_any}
use Rattle.data_encoding_meaning.specs.declared.error.GroupFault.{GroupFault}
use Rattle.data_encoding_meaning.specs.declared.encoding.Character.{Character}
use Rattle.data_encoding_meaning.specs.declared.encoding.Character.TheVariants.{Symbol, Padding}
use Rattle.data_encoding_meaning.specs.declared.error.DecodeError.{DecodeError}
use Rattle.data_encoding_meaning.specs.text.Base.{Base, is_padding, is_padded, value_of, group_symbols, IsWidth}
use Rattle.data_encoding_meaning.specs.text.Grammar.{Positioned, PlainMeans, GroupMeans, bytes_in, meanings_in}
use Rattle.data_encoding_meaning.specs.laws.Laws.{shifted}
use Rattle.data_encoding_meaning.specs.text.Lengths.{is_valid_count}
use Rattle.data_encoding_meaning.specs.decoding.Fault.{character_fault, count_before_padding, group_fault, located, padded_fault_at, plain_fault, position_of, symbol_bytes, symbols_fault}
use Rattle.data_encoding_meaning.proofs.grammar.LengthLemmas.{widths}
use Rattle.data_encoding_meaning.proofs.grammar.PositionLemmas.{length-meanings}
use Rattle.data_encoding_meaning.proofs.grammar.UnpaddedGroupLemmas.{plain_fault-valid, PlainMeans-sound, PlainMeans-valid, PlainMeans-bytes, PlainMeans-no_fault}
use Rattle.data_encoding_meaning.proofs.lists.EachLemmas.{all_replicate}
use Rattle.data_encoding_meaning.proofs.lists.ListLemmas.{AllFail, list_any-none}
use Rattle.data_encoding_meaning.proofs.lists.EndLemmas.{AllSo, count_before_end-is, end-passes}

-- a fault that is found has an index below a count
abbrev pub IsInside : ℕ → Option GroupFault → Type 0
IsInside count None = Unit {0}
IsInside count (Some fault) = fault.index < count

inside-symbols : (base : Base) (group : List Character) → 0 < length group
    → IsInside (length group) (symbols_fault base group)
inside-symbols base group some = grind (arith, nat_tests)

-- all symbols of a whole group are a valid number
pub whole-valid : (width : ℕ) → IsWidth width → is_valid_count width (group_symbols width) ≡ true
whole-valid width is = grind (arith, nat_tests, widths width is)

module _ (base : Base) (width : IsWidth base.width) (group : List Character)
    (some : 0 < length group) (few : length group ≤ group_symbols base.width) where
  -- padding of an invalid number begins in the group
  pub inside-padding : nat_lt (length group) (group_symbols base.width) ≡ false → (count : ℕ)
      → count ≤ length group → (count == 0 || not (is_valid_count base.width count)) ≡ true
      → count < length group
  inside-padding whole count most h =
      grind (arith, nat_tests, whole-valid base.width width, some, few)

  inside-characters : IsInside (length group) (character_fault base group)
  inside-characters =
      let count = count_before_padding group in
      let plain = le-div 1 (base.width * length group % 8) base.width width.some in
      let front = length-take-le count group in
      let fewer = inside-symbols base (take count group) in
      grind (arith, nat_tests, inside-symbols base group some, fewer, plain, front, inside-padding)

-- the fault of a group is at one of its members
pub group_fault-inside : (base : Base) → IsWidth base.width → (group : List Positioned)
    → 0 < length group → length group ≤ group_symbols base.width
    → IsInside (length group) (group_fault base (bytes_in group))
group_fault-inside base width group some few =
    let len = length-meanings base group in
    subst (λ n. IsInside n (group_fault base (bytes_in group))) len
    (inside-characters base width (meanings_in base group) (omega arith) (omega arith))

pub located-inside : (group : List Positioned) (o : Option GroupFault) (error : DecodeError)
    → IsInside (length group) o → located group o ≡ Some error
    → (index : ℕ) × (index < length group) × (error.position ≡ position_of group index)
located-inside group None error inside e = cc
located-inside group (Some fault) error inside e = (fault.index, inside, cc)

-- or with an offset, if each byte of one group is that far after that of the other
pub located-shifted : (ks js : List Positioned) (count : ℕ) (o : Option GroupFault)
    → IsInside (length ks) o
    → ((index : ℕ) → index < length ks → position_of js index ≡ count + position_of ks index)
    → located js o ≡ shifted count (located ks o)
located-shifted ks js count None inside later = refl
located-shifted ks js count (Some fault) inside later = rw (later fault.index inside)

-- symbols are a group: a whole one, or any if there is no padding
pub GroupMeans-symbols : (base : Base) (group : List Character) (bytes : List ℕ)
    → 0 < length group → (is_padded base ≡ true → length group ≡ group_symbols base.width)
    → PlainMeans base group bytes → GroupMeans base group bytes
GroupMeans-symbols base group bytes some whole means = record {
  symbols = group;
  padding = 0;
  is_group = sym (append-nil group);
  is_whole = whole;
  is_plain = λ e. refl;
  is_begun = some;
  means = means;
}

-- and if there is no padding, a group is symbols only
pub GroupMeans-plain : (base : Base) (group : List Character) (bytes : List ℕ)
    → is_padded base ≡ false → GroupMeans base group bytes → PlainMeans base group bytes
GroupMeans-plain base group bytes unpadded means =
    rw (means.is_group, means.is_plain unpadded, append-nil means.symbols) means.means

-- Groups with padding.

padding_only : (m : Character) → is_padding m ≡ true → m ≡ Padding
padding_only m h = grind arith

pub all_padding : (meanings : List Character) → AllSo is_padding meanings
    → meanings ≡ replicate (length meanings) Padding
all_padding [] h = refl
all_padding (m ∷ meanings) h = λ i. padding_only m h.0 i ∷ all_padding meanings h.1 i

-- and is found if there is some
pub any_padding : (count : ℕ) → list_any is_padding (replicate count Padding) ≡ nat_lt 0 count
any_padding zero = refl
any_padding (suc count) = grind (arith, nat_tests)

-- padding has no value
no_values : (count : ℕ) → filter_map value_of (replicate count Padding) ≡ []
no_values zero = refl
no_values (suc count) = no_values count

pub symbols_alone : (values : List ℕ)
    → AllFail is_padding (map (λ value. Symbol value) values)
symbols_alone [] = tt
symbols_alone (value ∷ values) = (refl, symbols_alone values)

-- and no bytes
pub bytes_before_padding : (base : Base) (symbols : List Character) (count : ℕ)
    → symbol_bytes base (symbols ++ replicate count Padding) ≡ symbol_bytes base symbols
bytes_before_padding base symbols count = simp (filter_map-append, no_values, append-nil)

-- the symbols of a group, and the padding after them
padding-after : (group : List Character)
    → group ≡ take (count_before_padding group) group
    ++ replicate (length (drop (count_before_padding group) group)) Padding
padding-after group =
    rw (← (all_padding (drop (count_before_padding group) group) (end-passes is_padding group)))
    (sym (take-append-drop (count_before_padding group) group))

module _ (base : Base) (group : List Character) (bytes : List ℕ)
    (means : GroupMeans base group bytes)
  where
    -- how many members it has, and whether one is padding
    pub GroupMeans-length : is_padded base ≡ true
        → length means.symbols + means.padding ≡ group_symbols base.width
    GroupMeans-length padded =
        let len = simp (length-append, length-replicate) at (ap length means.is_group) in
        omega (arith, means.is_whole padded)

    symbols_fail : AllFail is_padding means.symbols
    symbols_fail = rw means.means.are_symbols (symbols_alone means.means.values)

    pub GroupMeans-padding : list_any is_padding group ≡ nat_lt 0 means.padding
    GroupMeans-padding =
        rw (means.is_group, list_any-append, list_any-none is_padding means.symbols symbols_fail)
        (any_padding means.padding)

module _ (base : Base) (width : IsWidth base.width) (group : List Character) where
  -- a group without a fault means its bytes
  pub GroupMeans-sound : 0 < length group → length group ≤ group_symbols base.width
      → character_fault base group ≡ None → GroupMeans base group (symbol_bytes base group)
  GroupMeans-sound some few = by (is_padded base) refl where
    by : (b : Bool) → is_padded base ≡ b
        → cond b (padded_fault_at base group (count_before_padding group)) (plain_fault base group)
        ≡ None
        → GroupMeans base group (symbol_bytes base group)
    by false is h =
        GroupMeans-symbols base group (symbol_bytes base group) some (λ padded. cc)
        (PlainMeans-sound base width group h)
    by true is h =
        let count = count_before_padding group in
        let symbols = take count group in
        let judged : (group_symbols base.width ≤ length group) × (0 < count)
        × (is_valid_count base.width count ≡ true) × (symbols_fault base symbols ≡ None) =
        grind (arith, nat_tests) in
        let len : length symbols ≡ count = length-take-le count group (omega arith) in
        let sound : plain_fault base symbols ≡ None =
        plain_fault-valid base symbols (rw len judged.2) ∙ judged.3 in
        let same : symbol_bytes base group ≡ symbol_bytes base symbols =
        ap (symbol_bytes base) (padding-after group) ∙ bytes_before_padding base symbols _ in
        record {
          symbols = symbols;
          padding = length (drop count group);
          is_group = padding-after group;
          is_whole = λ padded. omega arith;
          is_plain = λ unpadded. cc;
          is_begun = omega arith;
          means = rw same (PlainMeans-sound base width symbols sound);
        }

  module _ (bytes : List ℕ) (means : GroupMeans base group bytes) where
    pub GroupMeans-bytes : symbol_bytes base group ≡ bytes
    GroupMeans-bytes =
        rw (means.is_group, bytes_before_padding base means.symbols means.padding)
        (PlainMeans-bytes base width means.symbols bytes means.means)

    count_is : count_before_padding group ≡ length means.symbols
    count_is =
        count_before_end-is is_padding group means.symbols (replicate means.padding Padding)
        means.is_group
        (symbols_fail base group bytes means)
        (all_replicate (λ m. is_padding m ≡ true) means.padding Padding refl)

    -- and one that means something has no fault
    pub GroupMeans-no_fault : character_fault base group ≡ None
    GroupMeans-no_fault = by (is_padded base) refl where
      by : (b : Bool) → is_padded base ≡ b
          → cond b (padded_fault_at base group (count_before_padding group))
          (plain_fault base group) ≡ None
      by false is =
          PlainMeans-no_fault base width group bytes (GroupMeans-plain base group bytes is means)
      by true is =
          let valid = PlainMeans-valid base width means.symbols bytes means.means in
          let sound = PlainMeans-no_fault base width _ bytes means.means in
          let front : take (length means.symbols) group ≡ means.symbols =
          rw means.is_group (take_at _ _ _ refl) in
          rw (count_is, front) (grind (arith, nat_tests, valid, sound, means.is_whole))
