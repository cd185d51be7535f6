-- The text and the bytes of a group, from its word.
use Rattle.std.proofs.Common.{◌≡◌, ℕ, suc, ◌+◌, ◌-◌, ◌*◌, ◌/◌, ◌%◌, ◌^◌, ◌<◌, ◌≤◌, List, [], ◌∷◌, ◌++◌, length, map, take, drop, replicate, slice_index, refl, sym, ap, ◌∙◌, arith, length-append, append_assoc, take-append-drop, length-take-le}
use Rattle.std.proofs.lemmas.List.{length-replicate, length-map, replicate-append-replicate}
use Rattle.std.proofs.lemmas.Nat.{mul-le, pow_pos}
use Rattle.std.proofs.Math.Nat.{mod-lt}
use Rattle.std.proofs.Math.Pow.{mod-mod-pow}
use Rattle.std.specs.Prelude.{flat_map}
use Rattle.std.specs.List.{range_with_len, filter_map, cons_option}
use Rattle.std.specs.Simd.{first_chunks}
use Rattle.data_encoding_meaning.specs.declared.encoding.BitOrder.{BitOrder}
use Rattle.data_encoding_meaning.specs.text.Base.{Base, meaning, symbol, value_of, IsGroup}
use Rattle.data_encoding_meaning.specs.text.Bits.{bits_of, number_of, bits_of_bytes, missing, runs}
use Rattle.data_encoding_meaning.specs.decoding.Fault.{symbol_bytes}
use Rattle.data_encoding_kernel.specs.Tables.{HoldsValues, Reads, Writes}
use Rattle.data_encoding_meaning.specs.text.Text.{plain_text}
use Rattle.data_encoding_kernel.specs.Words.{digit, low_byte, weight, zeros_to, word_of}
use Rattle.data_encoding_meaning.proofs.digits.BitLemmas.{AreBits, AreBits-flat_map, AreBits-bits_of}
use Rattle.data_encoding_meaning.proofs.grammar.UnpaddedGroupLemmas.{length-bits_of_bytes, length-bits_of_values}
use Rattle.data_encoding_meaning.proofs.lists.RunLemmas.{first_chunks-append, run_count, run_count-few}
use Rattle.data_encoding_meaning.proofs.text.PlainTextLemmas.{filled_count, text_by, run_count-missing}
use Rattle.data_encoding_meaning.proofs.lists.PartLemmas.{IsWhole-group}
use Rattle.data_encoding_kernel.proofs.digits.WordLemmas.{digits-runs, map-range-same}
use Rattle.data_encoding_meaning.proofs.lists.EachLemmas.{map-twice}

-- whole runs of bits and zeros, however many zeros there are
pub first_chunks-zeros : (size n a b : ℕ) (bits : List ℕ) → size * n ≤ length bits + a → a ≤ b
    → first_chunks size n (bits ++ replicate b 0) ≡ first_chunks size n (bits ++ replicate a 0)
first_chunks-zeros size n a b bits h k =
    let rest : a + (b - a) ≡ b = omega arith in
    let more : bits ++ replicate b 0 ≡ (bits ++ replicate a 0) ++ replicate (b - a) 0 =
    ap (λ m. bits ++ replicate m 0) (sym rest)
    ∙ ap (λ l. bits ++ l) (sym (replicate-append-replicate a (b - a) 0))
    ∙ sym (append_assoc bits (replicate a 0) (replicate (b - a) 0)) in
    let len : length (bits ++ replicate a 0) ≡ length bits + a =
    simp (length-append, length-replicate) in
    ap (first_chunks size n) more
    ∙ first_chunks-append size n (bits ++ replicate a 0) (replicate (b - a) 0) (omega arith)

-- the lowest bits of a byte
pub lowest_bits : (n width : ℕ) → width ≤ 8 → n % 2 ^ 8 % 2 ^ width ≡ n % 2 ^ width
lowest_bits n width h =
    let whole : 8 - width + width ≡ 8 = omega arith in
    ap (λ m. n % 2 ^ m % 2 ^ width) (sym whole) ∙ mod-mod-pow n (8 - width) width

-- the symbols of the first digits of a word of bytes are the text of these
text_by-word : (base : Base) (order : BitOrder) (width bytes count : ℕ)
    (symbols input : List ℕ) → 0 < width → width * count ≡ 8 * bytes → length input ≤ bytes
    → ((byte : ℕ) → byte < 256 → symbol base (byte % 2 ^ width) ≡ slice_index symbols byte)
    → width ≤ 8
    → map (λ k. slice_index symbols (low_byte order width count (word_of order 8 bytes input) k))
    (range_with_len 0 (run_count width (8 * length input)))
    ≡ text_by base width order (bits_of_bytes order input)
text_by-word base order width bytes count symbols input some same few at narrow =
    let bits = bits_of_bytes order input in
    let len : length bits ≡ 8 * length input = length-bits_of_bytes order input in
    let n = run_count width (8 * length input) in
    let many : n ≡ run_count width (length bits) = ap (run_count width) (sym len) in
    let extra = missing width (length bits) in
    let filled : length bits + extra ≡ width * n =
    filled_count width (length bits) some ∙ ap (λ k. width * k) (sym many) in
    let most : n ≤ count = run_count-few width (8 * length input) count some (omega arith) in
    let bound : width * n ≤ width * count = mul-le width n width count (omega arith) most in
    let are : AreBits bits = AreBits-flat_map (bits_of order 8) input (AreBits-bits_of order 8) in
    let word = number_of order (zeros_to (width * count) bits) in
    let show = map (λ run. symbol base (number_of order run)) in
    let runs_len : length (bits ++ replicate extra 0) ≡ length bits + extra =
    simp (length-append, length-replicate) in
    let count_of : run_count width (length (bits ++ replicate extra 0)) ≡ n =
    ap (run_count width) runs_len ∙ run_count-missing width (length bits) some ∙ sym many in
    ap (λ m. map (λ k. slice_index symbols (low_byte order width count
    (number_of order (zeros_to m bits)) k)) (range_with_len 0 n)) (sym same)
    ∙ map-range-same (λ k. slice_index symbols (low_byte order width count word k))
    (λ k. symbol base (digit order width count word k)) n
    (λ k below. sym (at (low_byte order width count word k) (mod-lt _ (pow_pos 8)))
    ∙ ap (symbol base) (lowest_bits (word / 2 ^ weight order width count k) width narrow))
    ∙ sym (map-twice (symbol base) (digit order width count word) (range_with_len 0 n))
    ∙ ap (map (symbol base)) (digits-runs order width count n bits are (omega arith) most)
    ∙ map-twice (symbol base) (number_of order)
    (first_chunks width n (zeros_to (width * count) bits))
    ∙ ap show (first_chunks-zeros width n extra (width * count - length bits) bits (omega arith)
    (omega arith))
    ∙ ap (λ m. show (first_chunks width m (bits ++ replicate extra 0))) (sym count_of)

-- the same for a base
pub plain_text-word : (base : Base) (order : BitOrder) (width bytes count : ℕ)
    (symbols input : List ℕ) → IsGroup width bytes count → length input ≤ bytes
    → Writes base symbols width order
    → map (λ k. slice_index symbols (low_byte order width count (word_of order 8 bytes input) k))
    (range_with_len 0 ((8 * length input + (width - 1)) / width))
    ≡ plain_text base input
plain_text-word base order width bytes count symbols input group few writes =
    let same = (IsWhole-group width bytes count group).same_bits in
    text_by-word base order width bytes count symbols input group.is_width.some same few
    (rw writes.width_is at writes.holds.at_byte) (omega (arith, group.is_width.few))
    ∙ sym (λ i. text_by base (writes.width_is i) (writes.order_is i)
    (bits_of_bytes (writes.order_is i) input))

-- the bytes of the bits of values
abbrev pub bytes_by : BitOrder → ℕ → List ℕ → List ℕ
bytes_by order width values =
    map (number_of order)
    (runs 8 (take (length (flat_map (bits_of order width) values) / 8 * 8)
    (flat_map (bits_of order width) values)))

-- the first bytes of a word of values are the bytes of their bits
bytes_by-word : (order : BitOrder) (width bytes count n : ℕ) (values : List ℕ)
    → width * count ≡ 8 * bytes → length values ≤ count → n ≡ width * length values / 8
    → map (digit order 8 bytes (word_of order width count values)) (range_with_len 0 n)
    ≡ bytes_by order width values
bytes_by-word order width bytes count n values same few is =
    let bits = flat_map (bits_of order width) values in
    let len : length bits ≡ width * length values = length-bits_of_values order width values in
    let whole = length bits / 8 * 8 in
    let bound : width * length values ≤ width * count =
    mul-le width (length values) width count (omega arith) few in
    let are : AreBits bits =
    AreBits-flat_map (bits_of order width) values (AreBits-bits_of order width) in
    let front = take whole bits in
    let front_len : length front ≡ whole = length-take-le whole bits (omega arith) in
    let zeros : List ℕ = replicate (8 * bytes - length bits) 0 in
    let parts : zeros_to (8 * bytes) bits ≡ front ++ (drop whole bits ++ zeros) =
    ap (λ l. l ++ zeros) (sym (take-append-drop whole bits))
    ∙ append_assoc front (drop whole bits) zeros in
    let eighth : n ≡ length bits / 8 = is ∙ ap (λ k. k / 8) (sym len) in
    let count_of : run_count 8 (length front) ≡ n = omega arith in
    ap (λ m. map (digit order 8 bytes (number_of order (zeros_to m bits))) (range_with_len 0 n))
    same
    ∙ digits-runs order 8 bytes n bits are (omega arith) (omega arith)
    ∙ ap (λ l. map (number_of order) (first_chunks 8 n l)) parts
    ∙ ap (map (number_of order))
    (first_chunks-append 8 n front (drop whole bits ++ zeros) (omega arith))
    ∙ ap (λ m. map (number_of order) (first_chunks 8 m front)) (sym count_of)

-- the values of symbols are their entries in the table
pub values_in-table : (base : Base) (values input : List ℕ) → HoldsValues base values
    → ((k : ℕ) → slice_index input k < 256)
    → ((k : ℕ) → k < length input → slice_index values (slice_index input k) < 128)
    → filter_map value_of (map (meaning base) input) ≡ map (slice_index values) input
values_in-table base values [] holds fits low = refl
values_in-table base values (byte ∷ input) holds fits low =
    ap (λ m. cons_option (value_of m) (filter_map value_of (map (meaning base) input)))
    (holds.symbols byte (fits 0) (low 0 (omega arith)))
    ∙ ap (λ l. slice_index values byte ∷ l)
    (values_in-table base values input holds (λ j. fits (suc j))
    (λ j below. low (suc j) (omega arith)))

-- the first bytes of the word of symbols are the bytes of these
pub symbol_bytes-word : (base : Base) (order : BitOrder) (width bytes count n : ℕ)
    (values input : List ℕ) → IsGroup width bytes count
    → length input ≤ count → n ≡ width * length input / 8
    → ((k : ℕ) → slice_index input k < 256)
    → ((k : ℕ) → k < length input → slice_index values (slice_index input k) < 128)
    → Reads base values width order
    → map (digit order 8 bytes (word_of order width count (map (slice_index values) input)))
    (range_with_len 0 n)
    ≡ symbol_bytes base (map (meaning base) input)
symbol_bytes-word base order width bytes count n values input group few is fits low reads =
    let same = (IsWhole-group width bytes count group).same_bits in
    let len : length (map (slice_index values) input) ≡ length input =
    length-map input (slice_index values) in
    let found = values_in-table base values input reads.holds fits low in
    bytes_by-word order width bytes count n (map (slice_index values) input) same (omega arith)
    (is ∙ ap (λ m. width * m / 8) (sym len))
    ∙ sym (λ i. bytes_by (reads.order_is i) (reads.width_is i) (found i))

-- entries below 128 are values
pub entries_below : (base : Base) (width : ℕ) (values input : List ℕ)
    → ((k : ℕ) → slice_index input k < 256)
    → ((k : ℕ) → k < length input → slice_index values (slice_index input k) < 128)
    → base.width ≡ width → HoldsValues base values
    → (k : ℕ) → k < length input → slice_index values (slice_index input k) < 2 ^ width
entries_below base width values input fits low w holds k below =
    rw w at (holds.below (slice_index input k) (fits k) (low k below))
