-- The symbols of one group: the bytes that they mean, and their fault.
use Rattle.std.proofs.Common.{◌≡◌, ℕ, ◌+◌, ◌*◌, ◌/◌, ◌%◌, ◌<◌, ◌==◌, true, false, not, List, [], ◌∷◌, ◌++◌, length, map, take, None, refl, sym, ap, ◌∙◌, arith, length-append, take-append-drop, length-take-le}
use Rattle.std.proofs.lemmas.Bool.Decides.{nat_tests}
use Rattle.std.proofs.lemmas.List.{length-map, length-drop, take_at, drop_at}
use Rattle.std.specs.Prelude.{flat_map}
use Rattle.std.specs.List.{AllByRecursion, list_any, filter_map, position}
use Rattle.std.proofs.lemmas.List.Elements.{All-from_recursion, recursion_from_All}
use Rattle.data_encoding_meaning.specs.declared.encoding.BitOrder.{BitOrder}
use Rattle.data_encoding_meaning.specs.declared.encoding.Character.{Character}
use Rattle.data_encoding_meaning.specs.declared.encoding.Character.TheVariants.{Symbol}
use Rattle.data_encoding_meaning.specs.text.Base.{Base, is_symbol, value_of, IsWidth}
use Rattle.data_encoding_meaning.specs.text.Bits.{bits_of, number_of, bits_of_bytes}
use Rattle.data_encoding_meaning.specs.text.Grammar.{PlainMeans}
use Rattle.data_encoding_meaning.specs.text.Lengths.{is_valid_count}
use Rattle.data_encoding_meaning.specs.decoding.Fault.{symbol_bits, trailing_bits, symbol_bytes, plain_fault, symbols_fault, trailing_fault}
use Rattle.data_encoding_meaning.proofs.digits.BitLemmas.{AreBits-take, AreBits-flat_map, AreBits-bits_of, length-bits_of, length-pieces, number_of-bits_of}
use Rattle.data_encoding_meaning.proofs.digits.ValueLemmas.{AreValuesOf-runs}
use Rattle.data_encoding_meaning.proofs.lists.EachLemmas.{all_replicate, all_weaker}
use Rattle.data_encoding_meaning.proofs.lists.ListLemmas.{AllFail, position-none, AllFail-position, list_any-none, AllFail-list_any, zeros}
use Rattle.data_encoding_meaning.proofs.lists.RunLemmas.{runs-flat_map}

numbers_back : (order : BitOrder) (bytes : List ℕ) → AllByRecursion (λ byte. byte < 256) bytes
    → map (number_of order) (map (bits_of order 8) bytes) ≡ bytes
numbers_back order [] h = refl
numbers_back order (byte ∷ bytes) h =
    (λ i. number_of-bits_of order 8 byte (omega (arith, h.0)) i ∷ numbers_back order bytes h.1 i)

pub length-bits_of_bytes : (order : BitOrder) (bytes : List ℕ)
    → length (bits_of_bytes order bytes) ≡ 8 * length bytes
length-bits_of_bytes order bytes = length-pieces 8 (bits_of order 8) bytes (length-bits_of order 8)

pub length-bits_of_values : (order : BitOrder) (width : ℕ) (values : List ℕ)
    → length (flat_map (bits_of order width) values) ≡ width * length values
length-bits_of_values order width values =
    length-pieces width (bits_of order width) values (length-bits_of order width)

symbols-values : (values : List ℕ)
    → filter_map value_of (map (λ value. Symbol value) values) ≡ values
symbols-values [] = refl
symbols-values (value ∷ values) = ap (λ l. value ∷ l) (symbols-values values)

symbols_pass : (values : List ℕ)
    → AllFail (λ m. not (is_symbol m)) (map (λ value. Symbol value) values)
symbols_pass [] = tt
symbols_pass (value ∷ values) = (refl, symbols_pass values)

-- symbols have the values that were found
values-symbols : (meanings : List Character) → AllFail (λ m. not (is_symbol m)) meanings
    → meanings ≡ map (λ value. Symbol value) (filter_map value_of meanings)
values-symbols [] h = refl
values-symbols (m ∷ meanings) h = grind (arith, values-symbols meanings h.1)

pub are_symbols : (meanings : List Character) → position (λ m. not (is_symbol m)) meanings ≡ None
    → meanings ≡ map (λ value. Symbol value) (filter_map value_of meanings)
are_symbols meanings h =
    values-symbols meanings (AllFail-position (λ m. not (is_symbol m)) meanings h)

-- a group of a valid number has the fault of its symbols
pub plain_fault-valid : (base : Base) (group : List Character)
    → is_valid_count base.width (length group) ≡ true
    → plain_fault base group ≡ symbols_fault base group
plain_fault-valid base group h = rw h

module _ (base : Base) (width : IsWidth base.width) (group : List Character) where
  -- a group with no fault means its bytes
  pub PlainMeans-sound : plain_fault base group ≡ None
      → PlainMeans base group (symbol_bytes base group)
  PlainMeans-sound h =
      let values = filter_map value_of group in
      let bits = symbol_bits base group in
      let whole = length bits / 8 * 8 in
      let rest = trailing_bits base group in
      let judged : (base.width * length group % 8 < base.width)
      × (position (λ m. not (is_symbol m)) group ≡ None)
      × (base.checks_trailing_bits ≡ true → list_any (λ bit. not (bit == 0)) rest ≡ false) =
      grind (arith, nat_tests) in
      let are_bits = AreBits-flat_map (bits_of base.order base.width) values
      (AreBits-bits_of base.order base.width) in
      let bytes = AreValuesOf-runs (length bits / 8) base.order 8 (take whole bits) (omega arith)
      (AreBits-take whole bits are_bits) (omega (arith, length-take-le whole bits (omega arith))) in
      let symbols = are_symbols group judged.1 in
      let count : length group ≡ length values = simp length-map at (ap length symbols) in
      let bits_len : length bits ≡ base.width * length group =
      rw count (length-bits_of_values base.order base.width values) in
      record {
        values = values;
        rest = rest;
        are_symbols = symbols;
        same_bits = sym (take-append-drop whole bits) ∙ rw bytes.same_bits;
        rest_is_short = omega (arith, length-drop whole bits, judged.0, bits_len);
        rest_is_zero =
            λ e. zeros rest (all_weaker (λ bit. not (bit == 0) ≡ false) (λ bit. bit ≡ 0)
            (λ bit h. grind (arith, nat_tests)) rest
            (AllFail-list_any (λ bit. not (bit == 0)) rest (judged.2 e)));
        are_bytes = All-from_recursion (λ byte. byte < 256) (symbol_bytes base group) bytes.below;
      }

  module _ (bytes : List ℕ) (means : PlainMeans base group bytes) where
    bits_are : symbol_bits base group ≡ bits_of_bytes base.order bytes ++ means.rest
    bits_are = rw (means.are_symbols, symbols-values means.values) means.same_bits

    -- they are bytes and a short rest
    split : (take (length (symbol_bits base group) / 8 * 8) (symbol_bits base group)
        ≡ bits_of_bytes base.order bytes)
        × (trailing_bits base group ≡ means.rest)
    split =
        let front = bits_of_bytes base.order bytes in
        let len = simp length-append at (ap length bits_are) in
        let whole : length (symbol_bits base group) / 8 * 8 ≡ length front =
        omega (arith, length-bits_of_bytes base.order bytes) in (
          rw (whole, bits_are) (take_at front means.rest (length front) refl),
          rw (whole, bits_are) (drop_at front means.rest (length front) refl),
        )

    -- symbols have the bits of their bytes, and those that are left
    pub PlainMeans-count : base.width * length group ≡ 8 * length bytes + length means.rest
    PlainMeans-count =
        rw (simp length-map at (ap length means.are_symbols))
        (simp (length-append, length-bits_of_values, length-bits_of_bytes)
        at (ap length means.same_bits))

    pub PlainMeans-valid : is_valid_count base.width (length group) ≡ true
    PlainMeans-valid =
        grind (arith, nat_tests, PlainMeans-count, means.rest_is_short, width.few)

    pub PlainMeans-bytes : symbol_bytes base group ≡ bytes
    PlainMeans-bytes =
        rw split.0
        (rw (runs-flat_map 8 _ bytes (omega arith) (length-bits_of base.order 8))
        (numbers_back base.order bytes (recursion_from_All _ bytes means.are_bytes)))

    no_trailing : trailing_fault base group ≡ None
    no_trailing =
        let zero_bits = list_any-none (λ bit. not (bit == 0)) _
        (all_replicate (λ bit. not (bit == 0) ≡ false) (length means.rest) 0 refl) in
        grind (arith, split.1, means.rest_is_zero, zero_bits)

    -- what means something has no fault
    pub PlainMeans-no_fault : plain_fault base group ≡ None
    PlainMeans-no_fault =
        let found : position (λ m. not (is_symbol m)) group ≡ None =
        rw means.are_symbols (position-none (λ m. not (is_symbol m)) _ (symbols_pass means.values))
        in rw (PlainMeans-valid, found) no_trailing
