-- The bytes of the symbols at the start of a text: those of whole groups, and of the symbols after
-- them.
use Rattle.std.proofs.Common.{◌≡◌, ℕ, zero, suc, ◌+◌, ◌*◌, ◌/◌, ◌<◌, ◌≤◌, not, true, false, List, [], ◌∷◌, ◌++◌, length, map, take, drop, slice_index, refl, sym, ap, ◌∙◌, arith, length-append, length-take-le, take-append-drop, flat_map}
use Rattle.std.proofs.Math.Nat.{mul-le-mul_left, suc-mul, zero-mul}
use Rattle.std.proofs.Math.Seq.{take-add, take-append-add}
use Rattle.std.proofs.lemmas.List.{get_or-take, length-drop, length-map, map-append, nil_from_length, take-take, take_all, take_at}
use Rattle.std.proofs.lemmas.List.Concat.{flat_map-append}
use Rattle.std.proofs.lemmas.List.Elements.{filter_map-append}
use Rattle.data_encoding_meaning.specs.declared.encoding.Character.{Character}
use Rattle.data_encoding_meaning.specs.text.Base.{Base, IsWidth, group_bytes, group_symbols, is_symbol, meaning}
use Rattle.data_encoding_meaning.specs.text.Bits.{number_of, runs}
use Rattle.data_encoding_meaning.specs.decoding.Decoding.{run_bytes}
use Rattle.data_encoding_meaning.specs.decoding.Fault.{symbol_bits, symbol_bytes, trailing_bits}
use Rattle.data_encoding_meaning.proofs.decoding.ByteFaultLemmas.{symbols-long, trailing-after}
use Rattle.data_encoding_meaning.proofs.decoding.WholeLengthLemmas.{whole_bytes}
use Rattle.data_encoding_meaning.proofs.digits.WidthLemmas.{by_width, group_symbols-pos}
use Rattle.data_encoding_meaning.proofs.lists.EachLemmas.{all_parts}
use Rattle.data_encoding_meaning.proofs.lists.ListLemmas.{AllFail}
use Rattle.data_encoding_meaning.proofs.lists.RunLemmas.{length-runs, run_count-whole, runs-first, runs-join, runs-nil}
use Rattle.data_encoding_kernel.specs.Fronts.{IsFront}

-- each character is a symbol
abbrev pub AreSymbols : List Character → Type 0
AreSymbols ms = AllFail (λ m. not (is_symbol m)) ms

-- so are those of symbols
pub all_symbols : (base : Base) (part : List ℕ)
    → ((k : ℕ) → k < length part → is_symbol (meaning base (slice_index part k)) ≡ true)
    → AreSymbols (map (meaning base) part)
all_symbols base [] h = tt
all_symbols base (byte ∷ part) h =
    (ap not (h 0 (omega arith)), all_symbols base part (λ k less. h (suc k) (omega (arith, less))))

-- whole groups of symbols are whole bytes
group-bits : (width : ℕ) → IsWidth width → (n : ℕ)
    → width * (n * group_symbols width) ≡ 8 * (n * group_bytes width)
group-bits =
    by_width (λ w. (n : ℕ) → w * (n * group_symbols w) ≡ 8 * (n * group_bytes w)) (omega arith)
    (omega arith) (omega arith) (omega arith) (omega arith) (omega arith)

module _ (base : Base) where
  bytes-after : (ms ns : List Character) (whole : ℕ) → length (symbol_bits base ms) ≡ 8 * whole
      → symbol_bytes base (ms ++ ns) ≡ symbol_bytes base ms ++ symbol_bytes base ns
  bytes-after ms ns whole len =
      let front = symbol_bits base ms in
      let back = symbol_bits base ns in
      let joined : symbol_bits base (ms ++ ns) ≡ front ++ back =
      simp (filter_map-append, flat_map-append) in
      let more = length back / 8 * 8 in
      let count : length (front ++ back) / 8 * 8 ≡ length front + more =
      omega (arith, length-append front back, len) in
      let split : take (length (front ++ back) / 8 * 8) (front ++ back) ≡ front ++ take more back =
      rw count (take-append-add front back more) in
      let all : take (length front / 8 * 8) front ≡ front =
      take_all (length front / 8 * 8) front (omega (arith, len)) in
      let number = number_of base.order in
      ap (λ bits. map number (runs 8 (take (length bits / 8 * 8) bits))) joined
      ∙ ap (λ l. map number (runs 8 l)) split
      ∙ ap (map number) (runs-join 8 front (take more back) (omega arith) (omega (arith, len)))
      ∙ map-append number (runs 8 front) (runs 8 (take more back))
      ∙ ap (λ l. map number (runs 8 l) ++ symbol_bytes base ns) (sym all)

  bytes-count : (ms : List Character) (whole : ℕ) → length (symbol_bits base ms) ≡ 8 * whole
      → length (symbol_bytes base ms) ≡ whole
  bytes-count ms whole len =
      let bits = symbol_bits base ms in
      let all : take (length bits / 8 * 8) bits ≡ bits =
      take_all (length bits / 8 * 8) bits (omega (arith, len)) in
      let many : length bits ≡ whole * 8 = omega (arith, len) in
      ap (λ l. length (map (number_of base.order) (runs 8 l))) all
      ∙ length-map (runs 8 bits) (number_of base.order)
      ∙ length-runs 8 bits ∙ rw many (run_count-whole 8 whole (omega arith))

  module _ (width : IsWidth base.width) where
    abbrev dec : ℕ
    dec = group_symbols base.width

    abbrev enc : ℕ
    enc = group_bytes base.width

    long : (n : ℕ) (ms : List Character) → AreSymbols ms → length ms ≡ n * dec
        → length (symbol_bits base ms) ≡ 8 * (n * enc)
    long n ms all len =
        symbols-long base ms all ∙ ap (λ k. base.width * k) len ∙ group-bits base.width width n

    groups-bytes : (n : ℕ) (ms : List Character) → AreSymbols ms → length ms ≡ n * dec
        → flat_map (symbol_bytes base) (runs dec ms) ≡ symbol_bytes base ms
    groups-bytes zero ms all len =
        let none = nil_from_length ms (len ∙ zero-mul dec) in
        let pos = group_symbols-pos base.width width in
        rw (none, runs-nil {X = Character} dec pos) refl
    groups-bytes (suc n) ms all len =
        let first = take dec ms in
        let others = drop dec ms in
        let pos = group_symbols-pos base.width width in
        let more : length ms ≡ n * dec + dec = len ∙ suc-mul n dec in
        let first_len : length first ≡ dec = length-take-le dec ms (omega (arith, more)) in
        let one : length first ≡ 1 * dec = omega (arith, first_len) in
        let parts = all_parts (λ m. not (is_symbol m) ≡ false) first others
        (rw (take-append-drop dec ms) all) in
        ap (flat_map (symbol_bytes base)) (runs-first dec ms pos (omega (arith, more, pos)))
        ∙ ap (λ l. symbol_bytes base first ++ l)
        (groups-bytes n others parts.1 (length-drop dec ms ∙ omega (arith, more)))
        ∙ sym (bytes-after first others (1 * enc) (long 1 first parts.0 one))
        ∙ ap (symbol_bytes base) (take-append-drop dec ms)

    -- The first groups of the symbols at the start of a text.
    module _ {text : List ℕ} {count : ℕ} {bytes : List ℕ} (front : IsFront base text count bytes)
        (within : count ≤ length text) (n left : ℕ) (sum : n * dec + left ≡ count) where
      abbrev first : List ℕ
      first = take (n * dec) text

      abbrev last : List ℕ
      last = take left (drop (n * dec) text)

      parts : map (meaning base) (take count text)
          ≡ map (meaning base) first ++ map (meaning base) last
      parts =
          ap (λ k. map (meaning base) (take k text)) (sym sum)
          ∙ ap (map (meaning base)) (take-add (n * dec) left text)
          ∙ map-append (meaning base) first last

      first_len : length first ≡ n * dec
      first_len = length-take-le (n * dec) text (omega (arith, sum, within))

      first_symbols : AreSymbols (map (meaning base) first)
      first_symbols =
          all_symbols base first
          (λ k less.
          let inside : k < n * dec = omega (arith, less, first_len) in
          rw (get_or-take (n * dec) text k 0 inside)
          (front.are_symbols k (omega (arith, inside, sum))))

      bits : length (symbol_bits base (map (meaning base) first)) ≡ 8 * (n * enc)
      bits =
          long n (map (meaning base) first) first_symbols
          (length-map first (meaning base) ∙ first_len)

      first_bytes : run_bytes base first ≡ symbol_bytes base (map (meaning base) first)
      first_bytes =
          groups-bytes n (map (meaning base) first) first_symbols
          (length-map first (meaning base) ∙ first_len)

      -- their bytes and those of the others
      pub front-bytes : take (base.width * count / 8) bytes
          ≡ run_bytes base first ++ symbol_bytes base (map (meaning base) last)
      front-bytes =
          front.whole ∙ ap (symbol_bytes base) parts
          ∙ bytes-after (map (meaning base) first) (map (meaning base) last) (n * enc) bits
          ∙ ap (λ l. l ++ symbol_bytes base (map (meaning base) last)) (sym first_bytes)

      -- only the others have trailing bits
      pub front-trailing : trailing_bits base (map (meaning base) (take count text))
          ≡ trailing_bits base (map (meaning base) last)
      front-trailing =
          ap (trailing_bits base) parts
          ∙ trailing-after base (map (meaning base) first) (map (meaning base) last) (n * enc) bits

      pub first-count : length (run_bytes base first) ≡ n * enc
      first-count = ap length first_bytes ∙ bytes-count (map (meaning base) first) (n * enc) bits

      -- how many bytes they have
      pub first-few : n * enc ≤ base.width * count / 8
      first-few =
          let less : n * dec ≤ count = omega (arith, sum) in
          omega (arith, mul-le-mul_left base.width less, whole_bytes base width n)

      -- the bytes of the groups alone
      pub front-run : take (n * enc) bytes ≡ run_bytes base first
      front-run =
          sym (take-take (n * enc) (base.width * count / 8) bytes first-few)
          ∙ ap (take (n * enc)) front-bytes
          ∙ take_at (run_bytes base first) _ (n * enc) first-count
