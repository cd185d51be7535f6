-- The fault of a text without padding and ignored bytes follows from its bytes.
use Rattle.std.proofs.Common.{◌≡◌, ◌↔◌, ℕ, ◌+◌, ◌-◌, ◌*◌, ◌/◌, ◌%◌, ◌<◌, ◌≤◌, ◌⊎◌, inl, inr, Bool, true, false, not, ◌&&◌, cond, List, [], ◌∷◌, ◌++◌, length, map, take, drop, Option, Some, None, refl, sym, ap, ◌∙◌, arith, length-append, take-append-drop, length-take-le, ⊎_elim}
use Rattle.std.proofs.lemmas.Bool.{cases_lt}
use Rattle.std.proofs.lemmas.Bool.Decides.{nat_tests}
use Rattle.std.proofs.lemmas.List.{length-map, length-drop, map-append, drop_all}
use Rattle.std.proofs.lemmas.List.Elements.{filter_map-append}
use Rattle.std.proofs.lemmas.List.Concat.{flat_map-append}
use Rattle.std.proofs.lemmas.Iterator.Adapters.{position_from-zero}
use Rattle.std.proofs.Math.Bool.{and-false}
use Rattle.std.proofs.Math.Seq.{drop-append-add}
use Rattle.std.specs.List.{list_any, filter_map, position, position_from}
use Rattle.data_encoding_meaning.specs.declared.encoding.Character.{Character}
use Rattle.data_encoding_meaning.specs.declared.error.DecodeError.{DecodeError}
use Rattle.data_encoding_meaning.specs.declared.error.DecodeKind.TheVariants.{Symbol as SymbolFault, Trailing as TrailingFault}
use Rattle.data_encoding_meaning.specs.text.Base.{Base, IsWidth, meaning, is_padded, is_padding, is_symbol, ignores_some, group_symbols, group_bytes, value_of}
use Rattle.data_encoding_meaning.specs.text.Bits.{runs}
use Rattle.data_encoding_meaning.specs.text.Grammar.{Positioned, is_final, meanings_in, positioned_from}
use Rattle.data_encoding_meaning.specs.text.Lengths.{is_valid_count, length_fault}
use Rattle.data_encoding_meaning.specs.decoding.Fault.{fault_of, fault_after, fault_at_first, faulty_at, first_after, located, or_else, symbol_bits, symbols_fault, trailing_bits}
use Rattle.data_encoding_meaning.specs.laws.Told.{first_other, is_other, leaves_bits, told_by, told_fault}
use Rattle.data_encoding_meaning.proofs.decoding.PieceLemmas.{or_none}
use Rattle.data_encoding_meaning.proofs.digits.WidthLemmas.{by_width, group_bits, group_symbols-pos}
use Rattle.data_encoding_meaning.proofs.grammar.GroupLemmas.{whole-valid}
use Rattle.data_encoding_meaning.proofs.grammar.LengthLemmas.{length_fault-valid}
use Rattle.data_encoding_meaning.proofs.grammar.PositionLemmas.{bytes-positioned_from, filter-plain, length-positioned_from, position_of-positioned_from, positioned_from-append}
use Rattle.data_encoding_meaning.proofs.grammar.UnpaddedGroupLemmas.{are_symbols, length-bits_of_values, plain_fault-valid}
use Rattle.data_encoding_meaning.proofs.lists.ListLemmas.{AllFail, position-none}
use Rattle.data_encoding_meaning.proofs.lists.RunLemmas.{by_runs, runs-append, runs-nil, runs-short}

-- a position further on, and the first of two
abbrev added : ℕ → Option ℕ → Option ℕ
added count None = None
added count (Some index) = Some (count + index)

abbrev or_later : Option ℕ → Option ℕ → Option ℕ
or_later None later = later
or_later (Some index) later = Some index

-- The first that passes a test, in a list counted from a position.
module _ {X : Type 0} (test : X → Bool) where
  from-later : (b : Bool) (start index : ℕ) (o p : Option ℕ) → o ≡ added start p
      → cond b (Some (start + index)) o ≡ added start (cond b (Some index) p)
  from-later true start index o p h = refl
  from-later false start index o p h = h

  from-start : (start index : ℕ) (xs : List X)
      → position_from test (start + index) xs ≡ added start (position_from test index xs)
  from-start start index [] = refl
  from-start start index (x ∷ xs) =
      let next : start + index + 1 ≡ start + (index + 1) = omega arith in
      from-later (test x) start index (position_from test (start + index + 1) xs)
      (position_from test (index + 1) xs)
      (ap (λ n. position_from test n xs) next ∙ from-start start (index + 1) xs)

  from-both : (b : Bool) (start : ℕ) (o p q : Option ℕ) → o ≡ or_later p q
      → cond b (Some start) o ≡ or_later (cond b (Some start) p) q
  from-both true start o p q h = refl
  from-both false start o p q h = h

  from-append : (start : ℕ) (xs ys : List X)
      → position_from test start (xs ++ ys)
      ≡ or_later (position_from test start xs) (position_from test (start + length xs) ys)
  from-append start [] ys = ap (λ n. position_from test n ys) (omega arith)
  from-append start (x ∷ xs) ys =
      let next : start + 1 + length xs ≡ start + length (x ∷ xs) = omega arith in
      from-both (test x) start (position_from test (start + 1) (xs ++ ys))
      (position_from test (start + 1) xs) (position_from test (start + length (x ∷ xs)) ys)
      (from-append (start + 1) xs ys
      ∙ ap (λ n. or_later (position_from test (start + 1) xs) (position_from test n ys)) next)

  none-here : (b : Bool) (start : ℕ) (o : Option ℕ) → cond b (Some start) o ≡ None
      → (b ≡ false) × (o ≡ None)
  none-here true start o h = cc
  none-here false start o h = (refl, h)

  from-none : (start : ℕ) (xs : List X) → position_from test start xs ≡ None → AllFail test xs
  from-none start [] h = tt
  from-none start (x ∷ xs) h =
      let both = none-here (test x) start (position_from test (start + 1) xs) h in
      (both.0, from-none (start + 1) xs both.1)

  some-here : (b : Bool) (start index : ℕ) (o : Option ℕ) → cond b (Some start) o ≡ Some index
      → (index ≡ start) ⊎ (o ≡ Some index)
  some-here true start index o h = inl cc
  some-here false start index o h = inr h

  from-within : (start index : ℕ) (xs : List X) → position_from test start xs ≡ Some index
      → index < start + length xs
  from-within start index [] h = cc
  from-within start index (x ∷ xs) h =
      ⊎_elim (λ (here : index ≡ start). omega (arith, here))
      (λ (later : position_from test (start + 1) xs ≡ Some index).
      omega (arith, from-within (start + 1) index xs later))
      (some-here (test x) start index (position_from test (start + 1) xs) h)

from-map : {X Y : Type 0} (f : X → Y) (test : Y → Bool) (start : ℕ) (xs : List X)
    → position_from test start (map f xs) ≡ position_from (λ x. test (f x)) start xs
from-map f test start [] = refl
from-map f test start (x ∷ xs) =
    ap (cond (test (f x)) (Some start)) (from-map f test (start + 1) xs)

-- the first byte that is no symbol, by what the bytes mean
pub first_other-meanings : (base : Base) (text : List ℕ)
    → position (λ m. not (is_symbol m)) (map (meaning base) text) ≡ first_other base text
first_other-meanings base text =
    position_from-zero (λ m. not (is_symbol m)) (map (meaning base) text)
    ∙ from-map (meaning base) (λ m. not (is_symbol m)) 0 text
    ∙ sym (position_from-zero (is_other base) text)

-- a position after a prefix
drop-past : {X : Type 0} (front back : List X) (len count : ℕ) → length front ≡ len
    → drop (len + count) (front ++ back) ≡ drop count back
drop-past front back len count same =
    ap (λ n. drop (n + count) (front ++ back)) (sym same) ∙ drop-append-add front back count

module _ (base : Base) where
  -- symbols have as many bits as they should
  pub symbols-long : (ms : List Character) → AllFail (λ m. not (is_symbol m)) ms
      → length (symbol_bits base ms) ≡ base.width * length ms
  symbols-long ms all =
      let values = filter_map value_of ms in
      let is = are_symbols ms (position-none (λ m. not (is_symbol m)) ms all) in
      let count : length ms ≡ length values = simp length-map at (ap length is) in
      rw count (length-bits_of_values base.order base.width values)

  fail-map : (text : List ℕ) → AllFail (is_other base) text
      → AllFail (λ m. not (is_symbol m)) (map (meaning base) text)
  fail-map [] h = tt
  fail-map (byte ∷ text) h = (h.0, fail-map text h.1)

  -- bits of whole bytes leave no trailing bits
  trailing-whole : (ms : List Character) (whole : ℕ) → length (symbol_bits base ms) ≡ 8 * whole
      → trailing_bits base ms ≡ []
  trailing-whole ms whole len = drop_all _ (symbol_bits base ms) (omega (arith, len))

  -- nor do they change the trailing bits of what follows
  pub trailing-after : (ms ns : List Character) (whole : ℕ)
      → length (symbol_bits base ms) ≡ 8 * whole
      → trailing_bits base (ms ++ ns) ≡ trailing_bits base ns
  trailing-after ms ns whole len =
      let front = symbol_bits base ms in
      let back = symbol_bits base ns in
      let joined : symbol_bits base (ms ++ ns) ≡ front ++ back =
      simp (filter_map-append, flat_map-append) in
      let count : length (front ++ back) / 8 * 8 ≡ 8 * whole + length back / 8 * 8 =
      omega (arith, length-append front back, len) in
      rw (joined, count) (drop-past front back (8 * whole) (length back / 8 * 8) len)

  leaves-after : (text after : List ℕ) (whole : ℕ) → base.width * length text ≡ 8 * whole
      → AllFail (is_other base) text
      → (leaves_bits base (text ++ after) ≡ leaves_bits base after)
      × (leaves_bits base text ≡ false)
  leaves-after text after whole bits all =
      let ms = map (meaning base) text in
      let long : length (symbol_bits base ms) ≡ 8 * whole =
      symbols-long ms (fail-map text all)
      ∙ ap (λ n. base.width * n) (length-map text (meaning base))
      ∙ bits in (
        rw (map-append, trailing-after ms (map (meaning base) after) whole long),
        rw (trailing-whole ms whole long, and-false base.checks_trailing_bits),
      )

  -- the fault that follows from the bytes of a text from a position on
  abbrev fault_from : ℕ → List ℕ → Option DecodeError
  fault_from start text =
      told_by (position_from (is_other base) start text) (leaves_bits base text)
      (start + length text)

  -- that of whole groups, and of what follows them
  fault_from-append : (start : ℕ) (text after : List ℕ) (whole : ℕ)
      → base.width * length text ≡ 8 * whole
      → fault_from start (text ++ after)
      ≡ or_else (fault_from start text) (fault_from (start + length text) after)
  fault_from-append start text after whole bits =
      let first = position_from (is_other base) start text in
      let later = position_from (is_other base) (start + length text) after in
      let len : start + length (text ++ after) ≡ start + length text + length after =
      omega (arith, length-append text after) in
      rw (from-append (is_other base) start text after, len)
      (by first later (leaves_bits base (text ++ after)) (leaves_bits base text)
      (leaves_bits base after) (start + length text) (start + length text + length after)
      (λ none. leaves-after text after whole bits (from-none (is_other base) start text none)))
    where
      by : (o p : Option ℕ) (both here there : Bool) (middle end : ℕ)
          → (o ≡ None → (both ≡ there) × (here ≡ false))
          → told_by (or_later o p) both end
          ≡ or_else (told_by o here middle) (told_by p there end)
      by None p both here there middle end h = rw ((h refl).0, (h refl).1)
      by (Some index) p both here there middle end h = refl

  -- Consecutive bytes from a position on are judged as their fault says.
  module _ (start : ℕ) (text : List ℕ) (some : 0 < length text) where
    located-first : (o : Option ℕ) (leaves : Bool)
        → ((index : ℕ) → o ≡ Some index → index < length text)
        → located (positioned_from start text)
        (fault_at_first o (cond leaves (faulty_at TrailingFault (length text - 1)) None))
        ≡ told_by (added start o) leaves (start + length text)
    located-first (Some index) leaves within =
        rw (position_of-positioned_from start text index (within index refl))
    located-first None true within =
        let last : start + (length text - 1) ≡ start + length text - 1 = omega (arith, some) in
        rw (position_of-positioned_from start text (length text - 1) (omega (arith, some)), last)
    located-first None false within = refl

    located-symbols : located (positioned_from start text)
        (symbols_fault base (map (meaning base) text))
        ≡ fault_from start text
    located-symbols =
        let other : Character → Bool = λ m. not (is_symbol m) in
        let first = position_from (is_other base) 0 text in
        let is : position other (map (meaning base) text) ≡ first =
        position_from-zero other (map (meaning base) text) ∙ from-map (meaning base) other 0 text in
        let begins : start ≡ start + 0 = omega arith in
        let further : position_from (is_other base) start text ≡ added start first =
        ap (λ n. position_from (is_other base) n text) begins
        ∙ from-start (is_other base) start 0 text in
        rw (is, length-map text (meaning base), further)
        (located-first first (leaves_bits base text)
        (λ index h. omega (arith, from-within (is_other base) 0 index text h)))

    module _ (unpadded : is_padded base ≡ false)
        (valid : is_valid_count base.width (length text) ≡ true)
      where
        fault_after-from : fault_after false base (positioned_from start text)
            ≡ fault_from start text
        fault_after-from =
            let meant = map (meaning base) text in
            let bytes = bytes-positioned_from start text in
            rw (bytes, unpadded)
            (rw (plain_fault-valid base meant (rw (length-map text (meaning base)) valid))
            located-symbols)

-- a valid number of symbols less those of a group
valid-less : (width : ℕ) → IsWidth width → (len : ℕ) → group_symbols width ≤ len
    → is_valid_count width len ≡ true → is_valid_count width (len - group_symbols width) ≡ true
valid-less =
    by_width (λ w. (len : ℕ) → group_symbols w ≤ len → is_valid_count w len ≡ true
    → is_valid_count w (len - group_symbols w) ≡ true)
    (λ len h v. grind (arith, nat_tests)) (λ len h v. grind (arith, nat_tests))
    (λ len h v. grind (arith, nat_tests)) (λ len h v. grind (arith, nat_tests))
    (λ len h v. grind (arith, nat_tests)) (λ len h v. grind (arith, nat_tests))

-- if eight bits are whole symbols, the bits of a valid number are whole bytes
whole-eight : (width : ℕ) → IsWidth width → 8 % width ≡ 0 → (len : ℕ)
    → is_valid_count width len ≡ true → width * len ≡ 8 * (width * len / 8)
whole-eight =
    by_width (λ w. 8 % w ≡ 0 → (len : ℕ) → is_valid_count w len ≡ true
    → w * len ≡ 8 * (w * len / 8))
    (λ h len v. grind (arith, nat_tests)) (λ h len v. grind (arith, nat_tests))
    (λ h len v. absurd (omega (arith, h))) (λ h len v. grind (arith, nat_tests))
    (λ h len v. absurd (omega (arith, h))) (λ h len v. absurd (omega (arith, h)))

module _ (base : Base) (width : IsWidth base.width) (unpadded : is_padded base ≡ false)
    (joins : base.concatenates ≡ true) where
  abbrev size : ℕ
  size = group_symbols base.width

  size-pos : 0 < size
  size-pos = group_symbols-pos base.width width

  never_final : (group : List Positioned) → is_final base group ≡ false
  never_final group = ap (λ b. not b && list_any is_padding (meanings_in base group)) joins

  -- the groups of a text from a position on
  first_after-from : (text : List ℕ) (start : ℕ) → is_valid_count base.width (length text) ≡ true
      → first_after false base (runs size (positioned_from start text)) ≡ fault_from base start text
  first_after-from =
      by_runs size size-pos
      (λ text. (start : ℕ) → is_valid_count base.width (length text) ≡ true
      → first_after false base (runs size (positioned_from start text))
      ≡ fault_from base start text)
      (λ start valid. rw (runs-nil {X = Positioned} size size-pos)
      (rw (and-false base.checks_trailing_bits)))
      (λ text some others start valid.
      let ks = positioned_from start text in
      ⊎_elim
      (λ (short : length text < size).
      let len = length-positioned_from start text in
      rw (runs-short size ks (omega (arith, len, some)) (omega (arith, len, short)))
      (or_none (fault_after false base ks) ∙ fault_after-from base start text some unpadded valid))
      (λ (long : size ≤ length text).
      let front = take size text in
      let back = drop size text in
      let len : length front ≡ size = length-take-le size text long in
      let back_len = length-drop size text in
      let placed = positioned_from start front in
      let further = positioned_from (start + length front) back in
      let parts : ks ≡ placed ++ further =
      ap (positioned_from start) (sym (take-append-drop size text))
      ∙ positioned_from-append start front back in
      let front_valid : is_valid_count base.width (length front) ≡ true =
      rw len (whole-valid base.width width) in
      let back_valid : is_valid_count base.width (length back) ≡ true =
      rw back_len (valid-less base.width width (length text) long valid) in
      let bits : base.width * length front ≡ 8 * group_bytes base.width =
      rw len (group_bits base.width width) in
      let cut : runs size ks ≡ placed ∷ runs size further =
      ap (runs size) parts
      ∙ runs-append size placed further size-pos (length-positioned_from start front ∙ len) in
      let judged = fault_after-from base start front (omega (arith, len, size-pos)) unpadded
      front_valid in
      ap (first_after false base) cut
      ∙ (λ i. or_else (judged i) (first_after (never_final placed i) base (runs size further)))
      ∙ ap (or_else (fault_from base start front)) (others (start + length front) back_valid)
      ∙ sym (fault_from-append base start front back (group_bytes base.width) bits)
      ∙ ap (fault_from base start) (take-append-drop size text))
      (cases_lt (length text) size))

  -- the law
  module _ (none : ignores_some base ≡ false) (text : List ℕ)
      (no_fault : length_fault base (length text) ≡ None) where
    valid : is_valid_count base.width (length text) ≡ true
    valid = rw unpadded at (length_fault-valid base (length text) no_fault none)

    pub fault_of-bytes : fault_of base text ≡ told_fault base text
    fault_of-bytes =
        let first : position_from (is_other base) 0 text ≡ first_other base text =
        sym (position_from-zero (is_other base) text) in
        let begins : 0 + length text ≡ length text = omega arith in
        rw (
          no_fault,
          filter-plain base none (positioned_from 0 text),
          first_after-from text 0 valid,
        )
        (λ i. told_by (first i) (leaves_bits base text) (begins i))

    -- If eight bits are whole symbols, no bits are left.
    module _ (eight : 8 % base.width ≡ 0) where
      none-left : first_other base text ≡ None → leaves_bits base text ≡ false
      none-left alone =
          let all = from-none (is_other base) 0 text
          (sym (position_from-zero (is_other base) text) ∙ alone) in
          (leaves-after base text [] (base.width * length text / 8)
          (whole-eight base.width width eight (length text) valid) all).1

      pub fault_of-whole : fault_of base text ≡ told_by (first_other base text) false 0
      fault_of-whole =
          fault_of-bytes ∙ by (first_other base text) (leaves_bits base text) none-left where
            by : (o : Option ℕ) (leaves : Bool) → (o ≡ None → leaves ≡ false)
                → told_by o leaves (length text) ≡ told_by o false 0
            by None leaves h = rw (h refl)
            by (Some index) leaves h = refl

same_error : (error other : DecodeError) → Some error ≡ Some other → error ≡ other
same_error error other h = cc

-- The position of the fault, by its kind.
pub symbol-fault : (o : Option ℕ) (leaves : Bool) (len index : ℕ)
    → (told_by o leaves len ≡ Some (record { position = index; kind = SymbolFault }))
    ↔ (o ≡ Some index)
symbol-fault (Some place) leaves len index = (
  (λ h.
      let at : place ≡ index = ap (λ e. e.position) (same_error _ _ h) in ap (λ n. Some n) at),
  (λ h. cc),
)
symbol-fault None true len index = (
  (λ h.
      let kind : TrailingFault ≡ SymbolFault = ap (λ e. e.kind) (same_error _ _ h) in absurd cc),
  (λ h. cc),
)
symbol-fault None false len index = ((λ h. cc), (λ h. cc))

pub trailing-fault : (o : Option ℕ) (leaves : Bool) (len index : ℕ) → (leaves ≡ true → 0 < len)
    → (told_by o leaves len ≡ Some (record { position = index; kind = TrailingFault }))
    ↔ ((o ≡ None) × (leaves ≡ true) × (index + 1 ≡ len))
trailing-fault (Some place) leaves len index some = (
  (λ h.
      let kind : SymbolFault ≡ TrailingFault = ap (λ e. e.kind) (same_error _ _ h) in absurd cc),
  (λ h. absurd (cc h.0)),
)
trailing-fault None false len index some = ((λ h. cc), (λ h. absurd (cc h.1)))
trailing-fault None true len index some = (
  (λ h.
      let at : len - 1 ≡ index = ap (λ e. e.position) (same_error _ _ h) in
      (refl, refl, omega (arith, at, some refl))),
  (λ h.
      let at : len - 1 ≡ index = omega (arith, h.2) in
      ap (λ n. Some (record { position = n; kind = TrailingFault })) at),
)

-- no text leaves no bits
pub leaves-some : (base : Base) (text : List ℕ) → leaves_bits base text ≡ true → 0 < length text
leaves-some base [] h = cc (h, and-false base.checks_trailing_bits)
leaves-some base (byte ∷ text) h = omega arith
