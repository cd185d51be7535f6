-- The end of a text: the last symbols, the padding of their group, and ignored bytes.
use Rattle.std.proofs.Common.{◌≡◌, ℕ, suc, ◌+◌, ◌-◌, ◌*◌, ◌/◌, ◌%◌, ◌<◌, ◌≤◌, ◌==◌, ◌&&◌, ◌⊎◌, Bool, not, nat_lt, true, false, List, [], ◌∷◌, ◌++◌, length, map, take, drop, get_or, slice_index, None, refl, sym, ap, ◌∙◌, arith, subst, inl, inr, length-take-le, ⊎_elim}
use Rattle.std.proofs.Math.Nat.{mul-le-mul_left}
use Rattle.std.proofs.Math.Seq.{take-append-add}
use Rattle.std.proofs.lemmas.Bool.{cases_lt, eqb-true, false≢true}
use Rattle.std.proofs.lemmas.Bool.Decides.{nat_tests}
use Rattle.std.proofs.lemmas.List.{append-nil, append_assoc, drop-drop, drop_all, get_or-drop, get_or-take, length-drop, length-map, take-take}
use Rattle.std.proofs.lemmas.Nat.{div-add-mod'}
use Rattle.std.specs.List.{list_any}
use Rattle.data_encoding_meaning.specs.declared.encoding.Character.{Character}
use Rattle.data_encoding_meaning.specs.declared.encoding.Character.TheVariants.{Symbol, Padding as PaddingCharacter, Ignored, Invalid}
use Rattle.data_encoding_meaning.specs.declared.error.DecodeKind.{DecodeKind}
use Rattle.data_encoding_meaning.specs.text.Base.{Base, IsWidth, group_bytes, group_symbols, ignores_some, is_ignored, is_padded, is_padding, is_symbol, meaning}
use Rattle.data_encoding_meaning.specs.text.Grammar.{Positioned, bytes_in, is_final, kept, kept_from, kept_in, positioned_from}
use Rattle.data_encoding_meaning.specs.text.Lengths.{is_valid_count, is_valid_length}
use Rattle.data_encoding_meaning.specs.decoding.Decoding.{HasDecodedTo, HasSymbols, IsDecoded, IsGathered, run_bytes}
use Rattle.data_encoding_meaning.specs.decoding.Fault.{bytes_of_group, count_before_padding, group_fault, symbol_bytes, trailing_bits}
use Rattle.data_encoding_meaning.proofs.decoding.GatherLemmas.{bytes-next, is-next, next_bytes}
use Rattle.data_encoding_meaning.proofs.decoding.GroupJudgementLemmas.{symbols-all, symbols-before}
use Rattle.data_encoding_meaning.proofs.decoding.IgnoredFrontLemmas.{nothing-kept_in}
use Rattle.data_encoding_meaning.proofs.decoding.ProgressLemmas.{after-group}
use Rattle.data_encoding_meaning.proofs.decoding.WholeLengthLemmas.{whole_bytes}
use Rattle.data_encoding_meaning.proofs.digits.WidthLemmas.{by_width, group_symbols-pos}
use Rattle.data_encoding_meaning.proofs.grammar.JoinFaultLemmas.{valid_after}
use Rattle.data_encoding_meaning.proofs.grammar.LengthLemmas.{decoded_len-counted, is_valid_length-by, length_fault-valid, whole_bits}
use Rattle.data_encoding_meaning.proofs.grammar.PositionLemmas.{filter-plain, length-kept_plain, length-positioned_from}
use Rattle.data_encoding_meaning.proofs.grammar.KeptLemmas.{kept-split}
use Rattle.data_encoding_meaning.proofs.lists.EndLemmas.{count_before_end-at, count_before_end-map}
use Rattle.data_encoding_kernel.specs.Fronts.{IsFront}
use Rattle.data_encoding_kernel.specs.declared.simd.decode.last_symbols.Front.{Front}
use Rattle.data_encoding.specs.Endings.{EndsAfter, HasBegun, HasReachedTo, IsFrontOf, IsPaddedBy}
use Rattle.data_encoding.specs.Groups.{NoneIgnored}
use Rattle.data_encoding.proofs.decoding.FrontLemmas.{AreSymbols, all_symbols, first-few, front-bytes, front-run, front-trailing}
use Rattle.data_encoding.proofs.decoding.JudgedGroupLemmas.{symbols-bytes, symbols-sound}
use Rattle.data_encoding.proofs.decoding.ReadGroupLemmas.{plain-at, plain-bytes, plain-sound}
use Rattle.data_encoding.proofs.decoding.ShortLemmas.{run-reached}
use Rattle.data_encoding.proofs.decoding.StepLemmas.{IsUnderWay, decoded, decoded-all, room-group_of, under_way}

-- a symbol is not padding
symbol-plain : (m : Character) → is_symbol m ≡ true → is_padding m ≡ false
symbol-plain (Symbol value) h = refl
symbol-plain PaddingCharacter h = cc
symbol-plain Ignored h = refl
symbol-plain Invalid h = refl

-- the bytes of whole groups, and of the symbols after them
split-count : (width : ℕ) → IsWidth width → (n left : ℕ)
    → width * (n * group_symbols width + left) / 8 ≡ n * group_bytes width + width * left / 8
split-count =
    by_width (λ w. (n left : ℕ)
    → w * (n * group_symbols w + left) / 8 ≡ n * group_bytes w + w * left / 8)
    (omega arith) (omega arith) (omega arith) (omega arith) (omega arith) (omega arith)

-- whole groups do not change whether a count is valid
valid-split : (width : ℕ) → IsWidth width → (n left : ℕ)
    → width * (n * group_symbols width + left) % 8 ≡ width * left % 8
valid-split =
    by_width (λ w. (n left : ℕ) → w * (n * group_symbols w + left) % 8 ≡ w * left % 8)
    (omega arith) (omega arith) (omega arith) (omega arith) (omega arith) (omega arith)

-- padding that is shorter than a group completes the last group, or there is none
padding-none : (width : ℕ) → IsWidth width → (n padding : ℕ) → padding < group_symbols width
    → (n * group_symbols width + padding) % group_symbols width ≡ 0 → padding ≡ 0
padding-none =
    by_width (λ w. (n padding : ℕ) → padding < group_symbols w
    → (n * group_symbols w + padding) % group_symbols w ≡ 0 → padding ≡ 0)
    (omega arith) (omega arith) (omega arith) (omega arith) (omega arith) (omega arith)

padding-all : (width : ℕ) → IsWidth width → (n left padding : ℕ) → 0 < left
    → left < group_symbols width → padding < group_symbols width
    → (n * group_symbols width + left + padding) % group_symbols width ≡ 0
    → left + padding ≡ group_symbols width
padding-all =
    by_width (λ w. (n left padding : ℕ) → 0 < left → left < group_symbols w
    → padding < group_symbols w
    → (n * group_symbols w + left + padding) % group_symbols w ≡ 0
    → left + padding ≡ group_symbols w)
    (omega arith) (omega arith) (omega arith) (omega arith) (omega arith) (omega arith)

-- the symbols of a valid length are a valid number
count-valid : (base : Base) → IsWidth base.width → (len : ℕ) → is_valid_length base len ≡ true
    → is_valid_count base.width len ≡ true
count-valid base width len valid = by (is_padded base) refl where
  by : (b : Bool) → is_padded base ≡ b → is_valid_count base.width len ≡ true
  by true is =
      let whole = whole_bits base.width width len
      ∙ sym (is_valid_length-by base len true is) ∙ valid in
      let none : base.width * len % 8 ≡ 0 = eqb-true (base.width * len % 8) 0 whole in
      rw none (grind (arith, nat_tests, width.some))
  by false is = sym (is_valid_length-by base len false is) ∙ valid

-- ignored bytes are not kept
none-kept_in : (base : Base) (start : ℕ) (bytes : List ℕ)
    → ((k : ℕ) → k < length bytes → is_ignored (meaning base (slice_index bytes k)) ≡ true)
    → kept_in base start bytes ≡ []
none-kept_in base start [] h = refl
none-kept_in base start (byte ∷ bytes) h =
    let here : is_ignored (meaning base byte) ≡ true = h 0 (omega arith) in
    let more = none-kept_in base (start + 1) bytes (λ k less. h (suc k) (omega (arith, less))) in
    grind arith

pub none-kept : (base : Base) (bytes : List ℕ)
    → ((k : ℕ) → k < length bytes → is_ignored (meaning base (slice_index bytes k)) ≡ true)
    → kept base bytes ≡ []
none-kept base bytes h = none-kept_in base 0 bytes h

-- a text may end with the symbols, if these tests pass
pub ends-after : {base : Base} → IsWidth base.width → {rest : List ℕ} {front : Front}
    → IsFrontOf base rest front → length rest ≤ 16 → (padding : ℕ)
    → front.symbols + padding ≤ length rest → is_valid_length base (front.symbols + padding) ≡ true
    → (padding ≡ 0) ⊎ IsPaddedBy base front padding
    → kept base (drop (front.symbols + padding) rest) ≡ []
    → EndsAfter base rest front.symbols padding
ends-after {base} width {rest} {front} is short padding within valid (inl none) ignored =
    let all : front.symbols + padding ≡ front.symbols = omega (arith, none) in
    record {
      within = within;
      valid = rw all at (count-valid base width (front.symbols + padding) valid);
      whole = λ padded. eqb-true ((front.symbols + padding) % group_symbols base.width) 0
          (sym (is_valid_length-by base (front.symbols + padding) true padded) ∙ valid);
      plain = λ _. none;
      few = omega (arith, none, group_symbols-pos base.width width);
      are = λ k less. absurd (omega (arith, less, none));
      ignored = ignored;
    }
ends-after {base} width {rest} {front} is short padding within valid (inr padded) ignored =
    record {
      within = within;
      valid = padded.valid;
      whole = λ is_padded. eqb-true ((front.symbols + padding) % group_symbols base.width) 0
          (sym (is_valid_length-by base (front.symbols + padding) true is_padded) ∙ valid);
      plain = λ unpadded. absurd (false≢true (sym unpadded ∙ padded.padded));
      few = padded.few;
      are = λ k less.
          let inside : front.symbols + k < length rest = omega (arith, less, within) in
          subst (λ byte. is_padding (meaning base byte) ≡ true)
          (sym (get_or-take (length rest) front.text (front.symbols + k) 0 inside)
          ∙ ap (λ l. get_or l (front.symbols + k) 0) (is.text short))
          (padded.are k less);
      ignored = ignored;
    }

zero-valid : (width : ℕ) → IsWidth width → is_valid_count width 0 ≡ true
zero-valid = by_width (λ w. is_valid_count w 0 ≡ true) refl refl refl refl refl refl

-- so may it if nothing follows the padding
pub ends-full : {base : Base} → IsWidth base.width → {rest : List ℕ} {front : Front}
    → IsFrontOf base rest front → length rest ≤ 16 → (padding : ℕ)
    → front.symbols + padding ≡ length rest → is_valid_length base (length rest) ≡ true →
    (padding ≡ 0) ⊎ IsPaddedBy base front padding
    → EndsAfter base rest front.symbols padding
ends-full {base} width {rest} {front} is short padding all valid how =
    let nothing : drop (front.symbols + padding) rest ≡ [] =
    drop_all (front.symbols + padding) rest (omega (arith, all)) in
    ends-after width is short padding (omega (arith, all)) (ap (is_valid_length base) all ∙ valid)
    how
    (ap (kept base) nothing)

-- if nothing is ignored, the length of what is left is valid
pub rest-valid : {base : Base} → IsWidth base.width → {text output : List ℕ} {read written : ℕ}
    → HasReachedTo base text read written output → ignores_some base ≡ false
    → is_valid_length base (length (drop read text)) ≡ true
rest-valid {base} width {text} {output} {read} at none =
    by at.so_far.whole where
      few : read ≤ length text
      few = at.so_far.within

      sum : read + length (drop read text) ≡ length text
      sum = omega (arith, length-drop read text, few)

      all : is_valid_length base (length text) ≡ true
      all =
          length_fault-valid base (length text)
          (decoded_len-counted base (length text) (length output) at.exact.len).0 none

      by : (length (kept base (take read text)) % group_symbols base.width ≡ 0)
          ⊎ ((kept_from base read text ≡ []) × (is_padded base ≡ false))
          → is_valid_length base (length (drop read text)) ≡ true
      by (inl whole) =
          let read_len : length (kept base (take read text)) ≡ read =
          length-kept_plain base (take read text) none ∙ length-take-le read text few in
          let exact : read % group_symbols base.width ≡ 0 = rw read_len at whole in
          sym (valid_after base width read (length (drop read text)) exact)
          ∙ ap (is_valid_length base) sum ∙ all
      by (inr nothing) =
          let kept_len : length (kept_from base read text) ≡ length (drop read text) =
          ap length (filter-plain base none (positioned_from read (drop read text)))
          ∙ length-positioned_from read (drop read text) in
          let empty : length (drop read text) ≡ 0 =
          omega (arith, kept_len, ap length nothing.0) in
          rw empty (is_valid_length-by base 0 false nothing.1 ∙ zero-valid base.width width)

-- the text is decoded if nothing is left of it
pub begun-reached : {base : Base} → IsWidth base.width → {text output : List ℕ} {read written : ℕ}
    → HasReachedTo base text read written output → (index : ℕ) (kind : DecodeKind) (b : Bool)
    → (length text - read == 0) ≡ b
    → HasBegun base text output
    (record { read = read; written = written; index = index; kind = kind }) b
begun-reached {base} width {text} {read = read} at index kind true all =
    decoded-all (under_way width at.exact at.so_far)
    (omega (arith, eqb-true (length text - read) 0 all))
begun-reached width at index kind false more = at

module _ {base : Base} (width : IsWidth base.width) {text output : List ℕ} {read written : ℕ}
    (at : HasReachedTo base text read written output) {front : Front}
    (is : IsFrontOf base (drop read text) front) {padding : ℕ}
    (ends : EndsAfter base (drop read text) front.symbols padding) where
  abbrev rest : List ℕ
  rest = drop read text

  abbrev count : ℕ
  count = front.symbols

  abbrev dec : ℕ
  dec = group_symbols base.width

  abbrev enc : ℕ
  enc = group_bytes base.width

  abbrev m : ℕ
  m = base.width * count / 8

  under : IsUnderWay base text read written false output
  under = under_way width at.exact at.so_far

  -- there is room for the bytes
  pub last-room : m ≤ length output - written
  last-room =
      let all = room-group_of under (count + padding)
      (omega (arith, ends.within, length-drop read text)) ends.whole in
      let more : count ≤ count + padding = omega arith in
      omega (arith, all, mul-le-mul_left base.width more)

  own : IsFront base rest count front.bytes
  own = is.symbols

  abbrev n : ℕ
  n = count / dec

  abbrev left : ℕ
  left = count % dec

  sum : n * dec + left ≡ count
  sum = omega (arith, div-add-mod' count dec)

  left-less : left < dec
  left-less = omega (arith, group_symbols-pos base.width width)

  abbrev last : List ℕ
  last = take left (drop (n * dec) rest)

  no_padding : left ≡ 0 → padding ≡ 0
  no_padding none = by (is_padded base) refl where
    by : (b : Bool) → is_padded base ≡ b → padding ≡ 0
    by true padded =
        let all : n * dec ≡ count = omega (arith, sum, none) in
        padding-none base.width width n padding ends.few
        (ap (λ k. (k + padding) % dec) all ∙ ends.whole padded)
    by false unpadded = ends.plain unpadded

  module _ (new : List ℕ) (new_len : length new ≡ length output)
      (writes : take (written + m) new ≡ take written output ++ take m front.bytes) where
    kept_len : length (take written output) ≡ written
    kept_len = length-take-le written output at.so_far.fits

    groups-written : take (written + n * enc) new
        ≡ take written output ++ run_bytes base (take (n * dec) rest)
    groups-written =
        let few = first-few base width own is.within n left sum in
        sym (take-take (written + n * enc) (written + m) new (omega (arith, few)))
        ∙ ap (take (written + n * enc)) writes
        ∙ ap (λ k. take (k + n * enc) (take written output ++ take m front.bytes)) (sym kept_len)
        ∙ take-append-add (take written output) (take m front.bytes) (n * enc)
        ∙ ap (λ l. take written output ++ l)
        (take-take (n * enc) m front.bytes few ∙ front-run base width own is.within n left sum)

    reached : HasReachedTo base text (read + n * dec) (written + n * enc) new
    reached =
        run-reached width at new new_len n
        (omega (arith, sum, is.within, length-drop read text))
        (λ k less. own.are_symbols k (omega (arith, less, sum))) groups-written

    -- nothing follows
    none-after : (stop : ℕ) → stop ≡ read + (count + padding) → kept_from base stop text ≡ []
    none-after stop place =
        rw (place, ← (drop-drop (count + padding) read text))
        (nothing-kept_in base (read + (count + padding)) (drop (count + padding) rest) ends.ignored)

    whole-decoded : left ≡ 0 → IsDecoded base text (written + m) new
    whole-decoded none =
        let all : n * dec ≡ count = omega (arith, sum, none) in
        let bytes : n * enc ≡ m =
        sym (whole_bytes base width n) ∙ ap (λ k. base.width * k / 8) all in
        let end : read + n * dec ≡ read + (count + padding) =
        omega (arith, all, no_padding none) in
        rw bytes at (decoded (under_way width reached.exact reached.so_far)
        (none-after (read + n * dec) end))

    -- the last group
    module _ (some : 0 < left)
        (quiet : (base.checks_trailing_bits && not (slice_index front.bytes m == 0)) ≡ false) where
      abbrev part : List ℕ
      part = drop (n * dec) rest

      abbrev span : ℕ
      span = left + padding

      abbrev group : List ℕ
      group = take span part

      span-within : span ≤ length part
      span-within = omega (arith, length-drop (n * dec) rest, ends.within, sum)

      group_len : length group ≡ span
      group_len = length-take-le span part span-within

      front-group : take left group ≡ last
      front-group = take-take left span part (omega arith)

      byte-at : (k : ℕ) → k < span → get_or group k 0 ≡ get_or rest (n * dec + k) 0
      byte-at k inside = get_or-take span part k 0 inside ∙ get_or-drop (n * dec) rest k 0

      symbol-at : (k : ℕ) → k < left → is_symbol (meaning base (get_or group k 0)) ≡ true
      symbol-at k less =
          subst (λ byte. is_symbol (meaning base byte) ≡ true)
          (sym (byte-at k (omega (arith, less))))
          (own.are_symbols (n * dec + k) (omega (arith, less, sum)))

      group-symbols : AreSymbols (map (meaning base) (take left group))
      group-symbols =
          all_symbols base (take left group)
          (λ k less.
          let inside : k < left = omega (
            arith,
            less,
            length-take-le left group (omega (
              arith,
              group_len,
            )),
          ) in
          subst (λ byte. is_symbol (meaning base byte) ≡ true)
          (sym (get_or-take left group k 0 inside)) (symbol-at k inside))

      padding-at : (k : ℕ) → left ≤ k → k < length group
          → is_padding (meaning base (get_or group k 0)) ≡ true
      padding-at k from inside =
          let place : count + (k - left) ≡ n * dec + k = omega (arith, from, sum) in
          subst (λ byte. is_padding (meaning base byte) ≡ true)
          (ap (λ j. get_or rest j 0) place ∙ sym (byte-at k (omega (arith, inside, group_len))))
          (ends.are (k - left) (omega (arith, from, inside, group_len)))

      count_is : left ≡ count_before_padding (map (meaning base) group)
      count_is =
          let pads : ℕ → Bool = λ byte. is_padding (meaning base byte) in
          sym (count_before_end-map is_padding (meaning base) group
          ∙ count_before_end-at pads group 0 left (omega (arith, group_len)) padding-at
          (λ begun. symbol-plain _ (symbol-at (left - 1) (omega (arith, begun)))))

      valid : is_valid_count base.width left ≡ true
      valid =
          ap (λ k. nat_lt k base.width) (sym (valid-split base.width width n left))
          ∙ ap (λ k. nat_lt (base.width * k % 8) base.width) sum ∙ ends.valid

      has : HasSymbols base group left
      has = by (is_padded base) refl where
        by : (b : Bool) → is_padded base ≡ b → HasSymbols base group left
        by true padded =
            let whole : (n * dec + left + padding) % dec ≡ 0 =
            ap (λ k. (k + padding) % dec) sum ∙ ends.whole padded in
            let full = padding-all base.width width n left padding some left-less ends.few whole in
            symbols-before base group padded (group_len ∙ full) left count_is
            (omega (arith, group_len)) (grind (arith, nat_tests, some)) valid
        by false unpadded =
            let alone : length group ≡ left = omega (arith, group_len, ends.plain unpadded) in
            subst (HasSymbols base group) alone
            (symbols-all base group unpadded (rw alone valid))

      sound : group_fault base group ≡ None
      sound =
          symbols-sound base group left has group-symbols
          (ap (λ l. base.checks_trailing_bits
          && list_any (λ bit. not (bit == 0)) (trailing_bits base (map (meaning base) l)))
          front-group
          ∙ ap (λ l. base.checks_trailing_bits && list_any (λ bit. not (bit == 0)) l)
          (sym (front-trailing base width own is.within n left sum))
          ∙ ap (λ b. base.checks_trailing_bits && b) own.next ∙ quiet)

      span-few : span ≤ dec
      span-few = by (is_padded base) refl where
        by : (b : Bool) → is_padded base ≡ b → span ≤ dec
        by true padded =
            let whole : (n * dec + left + padding) % dec ≡ 0 =
            ap (λ k. (k + padding) % dec) sum ∙ ends.whole padded in
            omega (arith, padding-all base.width width n left padding some left-less ends.few whole)
        by false unpadded = omega (arith, ends.plain unpadded, left-less)

      plain : NoneIgnored base group
      plain =
          plain-sound base width group (omega (arith, group_len, some))
          (omega (arith, group_len, span-few)) sound

      kept-all : length (kept base part) ≡ length group
      kept-all =
          let byte_of : Positioned → ℕ = λ k. k.byte in
          let place : n * dec + span ≡ count + padding = omega (arith, sum) in
          let none : kept base (drop span part) ≡ [] =
          ap (kept base) (drop-drop span (n * dec) rest ∙ ap (λ k. drop k rest) place)
          ∙ ends.ignored in
          let nothing : kept_from base span part ≡ [] =
          nothing-kept_in base span (drop span part) none in
          ap length (kept-split base span part span-within
          ∙ ap (λ l. kept base group ++ l) nothing ∙ append-nil (kept base group))
          ∙ sym (length-map (kept base group) byte_of)
          ∙ ap length (plain-bytes base group plain)

      gathered : IsGathered base dec (drop (read + n * dec) text) group span
      gathered =
          rw (← (drop-drop (n * dec) read text)) (record {
            within = span-within;
            bytes_are = plain-bytes base group plain;
            ends = λ begun.
                rw (get_or-take span part (span - 1) 0 (omega (arith, begun))) at
                (plain-at base group (span - 1) plain (omega (arith, begun, group_len)));
            few = omega (arith, group_len, span-few);
            last = inr kept-all;
          })

      within : read + n * dec ≤ length text
      within = reached.so_far.within

      abbrev placed : List Positioned
      placed = next_bytes base text (read + n * dec) span

      placed-is : bytes_in placed ≡ group
      placed-is = bytes-next base width text (read + n * dec) within gathered

      placed-bytes : bytes_of_group base placed ≡ symbol_bytes base (map (meaning base) last)
      placed-bytes =
          ap (λ l. symbol_bytes base (map (meaning base) l)) placed-is
          ∙ symbols-bytes base group left has group-symbols
          ∙ ap (λ l. symbol_bytes base (map (meaning base) l)) front-group

      all-bytes : written + n * enc + base.width * left / 8 ≡ written + m
      all-bytes =
          let split = sym (split-count base.width width n left)
          ∙ ap (λ k. base.width * k / 8) sum in
          omega (arith, split)

      group-written : take (written + n * enc + base.width * left / 8) new
          ≡ take (written + n * enc) new ++ bytes_of_group base placed
      group-written =
          ap (λ k. take k new) all-bytes ∙ writes
          ∙ ap (λ l. take written output ++ l) (front-bytes base width own is.within n left sum)
          ∙ sym (append_assoc (take written output) (run_bytes base (take (n * dec) rest))
          (symbol_bytes base (map (meaning base) last)))
          ∙ (λ i. sym groups-written i ++ sym placed-bytes i)

      after : HasDecodedTo base text (read + n * dec + span)
          (written + n * enc + base.width * left / 8) (is_final base placed) new
      after =
          after-group base width text (base.width * left / 8) new reached.so_far
          (is-next base width text (read + n * dec) within gathered
          (omega (arith, group_len, some)))
          (rw (placed-is, sound) refl)
          (omega (arith, all-bytes, last-room, new_len, at.so_far.fits))
          group-written

      group-decoded : IsDecoded base text (written + m) new
      group-decoded =
          rw all-bytes at (decoded (under_way width reached.exact after)
          (none-after (read + n * dec + span) (omega (arith, sum))))

    pub last-decoded : (base.checks_trailing_bits && not (slice_index front.bytes m == 0)) ≡ false
        → IsDecoded base text (written + m) new
    last-decoded quiet =
        ⊎_elim {C = IsDecoded base text (written + m) new}
        (λ (none : left < 1). whole-decoded (omega (arith, none)))
        (λ (some : 1 ≤ left). group-decoded (omega (arith, some)) quiet)
        (cases_lt left 1)
