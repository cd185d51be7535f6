-- Groups of symbols that are decoded together.
use Rattle.std.proofs.Common.{◌≡◌, ℕ, zero, suc, ◌+◌, ◌*◌, ◌/◌, ◌^◌, ◌<◌, ◌≤◌, List, [], ◌∷◌, ◌++◌, length, length-take-le, map, take, drop, slice_index, refl, sym, ap, ◌∙◌, subst, arith, flat_map}
use Rattle.std.proofs.lemmas.List.{drop-map, ext_get_or, get_or-drop, get_or-map, get_or-take, length-drop, length-map, nil_from_length, take-map, take_all}
use Rattle.std.proofs.lemmas.List.Elements.{All-from_get_or, recursion_from_All}
use Rattle.std.proofs.lemmas.List.FromFn.{length-map-range_with_len}
use Rattle.std.proofs.Math.Nat.{zero-mul, mul-le-mul_right}
use Rattle.std.proofs.Math.Seq.{take-append-add}
use Rattle.std.specs.List.{AllByRecursion, range_with_len}
use Rattle.std.specs.Simd.{first_chunks}
use Rattle.data_encoding_meaning.specs.declared.encoding.Character.{Character}
use Rattle.data_encoding_meaning.specs.declared.encoding.BitOrder.{BitOrder}
use Rattle.data_encoding_meaning.specs.text.Base.{Base, group_bytes, group_symbols, is_symbol, meaning, IsGroup}
use Rattle.data_encoding_meaning.specs.text.Bits.{runs}
use Rattle.data_encoding_kernel.specs.Runs.{IsRun}
use Rattle.data_encoding_kernel.specs.Values.{AreExact, AreValues, IsExact}
use Rattle.data_encoding_meaning.specs.decoding.Fault.{symbol_bytes}
use Rattle.data_encoding_kernel.specs.Tables.{Reads}
use Rattle.data_encoding_kernel.specs.Words.{digit, word_of}
use Rattle.data_encoding_kernel.proofs.digits.GatherRowLemmas.{none-exact}
use Rattle.data_encoding_kernel.proofs.digits.GatherStoreLemmas.{bytes_of_words}
use Rattle.data_encoding_kernel.proofs.digits.FrontWordLemmas.{groups-front}
use Rattle.data_encoding_kernel.proofs.digits.KernelLemmas.{symbol_bytes-word}
use Rattle.data_encoding_kernel.proofs.decoding.SymbolRunLemmas.{groups-at_most, run-front}
use Rattle.data_encoding_meaning.proofs.digits.WidthLemmas.{by_width}
use Rattle.data_encoding_meaning.proofs.decoding.GroupJudgementLemmas.{part_bytes}
use Rattle.data_encoding_meaning.proofs.lists.PartLemmas.{IsWhole, IsWhole-group, groups-within}
use Rattle.data_encoding_meaning.proofs.lists.RunLemmas.{runs-first, runs-nil}

-- the bytes of the first words
bytes-front : (show : ℕ → List ℕ) (size count : ℕ) (made : List ℕ)
    → ((one : ℕ) → length (show one) ≡ size)
    → take (count * size) (flat_map show made) ≡ flat_map show (take count made)
bytes-front show size zero made each = ap (λ n. take n (flat_map show made)) (zero-mul size)
bytes-front show size (suc count) [] each = take_all (suc count * size) [] (omega arith)
bytes-front show size (suc count) (one ∷ made) each =
    let more : suc count * size ≡ length (show one) + count * size =
    omega (arith, each one) in
    rw more (take-append-add (show one) (flat_map show made) (count * size)
    ∙ ap (λ l. show one ++ l) (bytes-front show size count made each))

-- the bytes of the words of groups are the bytes of the groups
module _ (base : Base) (values : List ℕ) (width bytes symbols : ℕ) (order : BitOrder)
    (group : IsGroup width bytes symbols) (reads : Reads base values width order) where
  abbrev word_bytes : ℕ → List ℕ
  word_bytes word = map (digit order 8 bytes word) (range_with_len 0 bytes)

  abbrev words : ℕ → List ℕ → List ℕ
  words n xs =
      map (word_of order width symbols) (first_chunks symbols n (map (slice_index values) xs))

  whole : IsWhole width bytes symbols
  whole = IsWhole-group width bytes symbols group

  -- a group of symbols
  group-bytes : (xs : List ℕ) → length xs ≡ symbols
      → ((j : ℕ) → slice_index xs j < 256)
      → ((j : ℕ) → j < symbols → slice_index values (slice_index xs j) < 128)
      → word_bytes (word_of order width symbols (map (slice_index values) xs))
      ≡ symbol_bytes base (map (meaning base) xs)
  group-bytes xs len fits low =
      let count : bytes ≡ width * length xs / 8 = rw len (omega (arith, whole.same_bits)) in
      symbol_bytes-word base order width bytes symbols bytes values xs group
      (omega (arith, len)) count fits (λ j h. low j (omega (arith, h, len))) reads

  words-run : (n : ℕ) (xs : List ℕ) → length xs ≡ n * symbols
      → ((j : ℕ) → slice_index xs j < 256)
      → ((j : ℕ) → j < length xs → slice_index values (slice_index xs j) < 128)
      → flat_map word_bytes (words n xs)
      ≡ flat_map (symbol_bytes base) (runs symbols (map (meaning base) xs))
  words-run zero xs long fits low =
      let none : xs ≡ [] = nil_from_length xs (omega (arith, long)) in
      rw (none, runs-nil {X = Character} symbols whole.some_symbols)
  words-run (suc n) xs long fits low =
      let more : suc n * symbols ≡ symbols + n * symbols = omega arith in
      let front = take symbols xs in
      let rest = drop symbols xs in
      let enough : symbols ≤ length xs = omega (arith, long, more) in
      let rest_len : length rest ≡ n * symbols =
      omega (arith, length-drop symbols xs, long, more) in
      let some : 0 < length (map (meaning base) xs) =
      omega (arith, length-map xs (meaning base), enough, whole.some_symbols) in
      let first = group-bytes front (length-take-le symbols xs enough)
      (part_bytes xs fits symbols)
      (λ j h. rw (get_or-take symbols xs j 0 h) (low j (omega (arith, h, enough)))) in
      let others = words-run n rest rest_len
      (λ j. rw (get_or-drop symbols xs j 0) (fits (symbols + j)))
      (λ j h. rw (get_or-drop symbols xs j 0)
      (low (symbols + j) (omega (arith, h, long, rest_len, more)))) in
      let runs_are = runs-first symbols (map (meaning base) xs) whole.some_symbols some in
      rw (take-map, drop-map, first, others, runs_are, take-map, drop-map)

  -- groups of symbols are a run
  pub groups-run : (n : ℕ) (input old new : List ℕ) → length input ≡ n * symbols
      → length new ≡ n * bytes
      → ((j : ℕ) → slice_index input j < 256)
      → ((j : ℕ) → j < length input → slice_index values (slice_index input j) < 128)
      → new ≡ flat_map word_bytes (map (word_of order width symbols)
      (first_chunks symbols n (map (slice_index values) input)))
      → IsRun base input n old new
  groups-run n input old new long exact fits low is =
      let size : group_symbols base.width ≡ symbols =
      ap group_symbols reads.width_is ∙ sym group.has_symbols in
      let count : group_bytes base.width ≡ bytes =
      ap group_bytes reads.width_is ∙ sym group.has_bytes in
      let all = take_all (n * bytes) new (omega (arith, exact)) in
      record {
        within = omega (arith, ap (λ s. n * s) size, long);
        are_symbols = λ k h.
            ap is_symbol (reads.holds.symbols (slice_index input k) (fits k)
            (low k (omega (arith, h, ap (λ s. n * s) size, long))));
        bytes = rw (size, count, all, take_all (n * symbols) input (omega (arith, long)))
            (is ∙ words-run n input long fits low);
      }

  -- groups of symbols before the first byte that is not a symbol are a run
  pub found-run : (total : ℕ) (input old new words : List ℕ) (found : ℕ)
      → length input ≡ total * symbols → length new ≡ total * bytes
      → ((j : ℕ) → slice_index input j < 256) → found ≤ total * symbols
      → ((j : ℕ) → j < found → slice_index values (slice_index input j) < 128)
      → take (found / symbols) words ≡ map (word_of order width symbols)
      (first_chunks symbols (found / symbols) (map (slice_index values) input))
      → new ≡ bytes_of_words order bytes words → IsRun base input (found / symbols) old new
  found-run total input old new words found long exact fits few low words_are stored =
      let count = found / symbols in
      let read = count * symbols in
      let within : read ≤ found = groups-within found symbols in
      let most = groups-at_most found total whole.some_symbols few in
      let room : count * bytes ≤ length new =
      omega (arith, exact, mul-le-mul_right bytes most) in
      let part_len : length (take read input) ≡ read =
      length-take-le read input (omega (arith, within, few, long)) in
      let chunks : first_chunks symbols count (map (slice_index values) input)
      ≡ first_chunks symbols count (map (slice_index values) (take read input)) =
      sym (groups-front symbols count (map (slice_index values) input))
      ∙ ap (first_chunks symbols count) (rw take-map refl) in
      run-front base reads.holds.is_width width bytes symbols group reads.width_is input old new
      count read (count * bytes) (omega arith)
      (groups-run count (take read input) old (take (count * bytes) new) part_len
      (length-take-le (count * bytes) new room) (part_bytes input fits read)
      (λ j h. rw (get_or-take read input j 0 (omega (arith, h, part_len)))
      (low j (omega (arith, h, part_len, within))))
      (ap (take (count * bytes)) stored
      ∙ bytes-front word_bytes bytes count words
      (λ word. length-map-range_with_len (digit order 8 bytes word) 0 bytes)
      ∙ ap (flat_map word_bytes) (words_are ∙ ap (map (word_of order width symbols)) chunks)))

-- the entries found for groups. The first `found` of them are below 128
record AreFound (total number : ℕ) (values input entries : List ℕ) (found : ℕ) : Type 0 where
  long : length input ≡ total * number
  lanes : length entries ≡ total * number
  few : found ≤ total * number
  below : (j : ℕ) → j < found → slice_index entries j < 128
  are : AreExact values (take (total * number) input) entries

-- the words of the groups before the first byte that is not a symbol
module _ {total number found : ℕ} {values input entries : List ℕ} (some : 0 < number)
    (so_far : AreFound total number values input entries found) where
  abbrev groups : ℕ
  groups = found / number

  groups-within_found : groups * number ≤ found
  groups-within_found = groups-within found number

  exact-at : (j : ℕ) → j < total * number
      → IsExact (slice_index entries j) (slice_index values (slice_index input j))
  exact-at j h =
      subst (λ byte. IsExact (slice_index entries j) (slice_index values byte))
      (get_or-take (total * number) input j 0 h)
      (so_far.are j (omega (
        arith,
        h,
        so_far.long,
        length-take-le (total * number) input (omega (arith, so_far.long)),
      )))

  entry-found : (j : ℕ) → j < found
      → slice_index entries j ≡ slice_index values (slice_index input j)
  entry-found j h = (exact-at j (omega (arith, h, so_far.few))).found_is (so_far.below j h)

  found-symbols : (j : ℕ) → j < found → slice_index values (slice_index input j) < 128
  found-symbols j h =
      rw (← entry-found j h) (so_far.below j h)

  -- the entries of whole groups
  entries-found : take (groups * number) entries
      ≡ take (groups * number) (map (slice_index values) input)
  entries-found =
      let size = groups * number in
      let first_len : length (take size entries) ≡ size =
      length-take-le size entries (omega (arith, so_far.lanes, so_far.few, groups-within_found)) in
      let last_len : length (take size (map (slice_index values) input)) ≡ size =
      length-take-le size (map (slice_index values) input)
      (omega (
        arith,
        length-map input (slice_index values),
        so_far.long,
        so_far.few,
        groups-within_found,
      )) in
      ext_get_or 0 (take size entries) (take size (map (slice_index values) input))
      (first_len ∙ sym last_len)
      (λ k h.
      let inside : k < size = omega (arith, h, first_len) in
      let early : k < found = omega (arith, inside, groups-within_found) in
      get_or-take size entries k 0 inside
      ∙ entry-found k early
      ∙ sym (get_or-map (slice_index values) input k 0 0
      (omega (arith, early, so_far.few, so_far.long)))
      ∙ sym (get_or-take size (map (slice_index values) input) k 0 inside))

  entries-small : (width : ℕ) → AreValues values width → ((j : ℕ) → slice_index input j < 256)
      → AllByRecursion (λ entry. entry < 2 ^ width) (take (groups * number) entries)
  entries-small width own fits =
      let size = groups * number in
      let first_len : length (take size entries) ≡ size =
      length-take-le size entries (omega (arith, so_far.lanes, so_far.few, groups-within_found)) in
      recursion_from_All (λ entry. entry < 2 ^ width) (take size entries)
      (All-from_get_or (λ entry. entry < 2 ^ width) (take size entries) 0
      (λ k h.
      let inside : k < size = omega (arith, h, first_len) in
      let early : k < found = omega (arith, inside, groups-within_found) in
      rw (get_or-take size entries k 0 inside, entry-found k early)
      (own (slice_index input k) (fits k) (found-symbols k early))))

  found-words : (width : ℕ) → AreValues values width
      → ((j : ℕ) → slice_index input j < 256) → (order : BitOrder) (made : List ℕ)
      → ((n : ℕ) → n ≤ total
      → AllByRecursion (λ entry. entry < 2 ^ width) (take (n * number) entries)
      → take n made ≡ map (word_of order width number) (first_chunks number n entries))
      → take groups made ≡ map (word_of order width number)
      (first_chunks number groups (map (slice_index values) input))
  found-words width own fits order made are_made =
      let most = groups-at_most found total some so_far.few in
      are_made groups most (entries-small width own fits)
      ∙ ap (map (word_of order width number))
      (sym (groups-front number groups entries)
      ∙ ap (first_chunks number groups) entries-found
      ∙ groups-front number groups (map (slice_index values) input))

-- the same for a look-up, with the sizes under other names
pub words-found : (total : ℕ) {width number read count : ℕ} → 0 < number → read ≡ width
    → number ≡ count → (holds : List ℕ → Type 0) (order : BitOrder)
    (input entries made : List ℕ) (found : ℕ) → length input ≡ total * number
    → ((j : ℕ) → slice_index input j < 256) → length entries ≡ total * count → found ≤ total * count
    → ((j : ℕ) → j < found → slice_index entries j < 128)
    → (found < total * count → 128 ≤ slice_index entries found)
    → ((values : List ℕ) → holds values → AreExact values (take (total * count) input) entries)
    → ((n : ℕ) → n ≤ total → AllByRecursion (λ entry. entry < 2 ^ read) (take (n * count) entries)
    → take n made ≡ map (word_of order read count) (first_chunks count n entries))
    → record {
      few : found ≤ total * number;
      words : (values : List ℕ) → holds values → AreValues values width
          → take (found / number) made ≡ map (word_of order width number)
          (first_chunks number (found / number) (map (slice_index values) input));
      symbols : (values : List ℕ) → holds values → (j : ℕ) → j < found
          → slice_index values (slice_index input j) < 128;
      stop : (values : List ℕ) → holds values → found < total * number
          → 128 ≤ slice_index values (slice_index input found);
    }
words-found total {width} {number} some same many holds order input entries made found long fits =
    rw (same, ← many) (λ lanes few below stop look are.
    let so_far : (values : List ℕ) → holds values
    → AreFound total number values input entries found =
    λ values held. record {
      long = long;
      lanes = lanes;
      few = few;
      below = below;
      are = look values held;
    } in
    record {
      few = few;
      words = λ values held own. found-words some (so_far values held) width own fits order made
          are;
      symbols = λ values held. found-symbols some (so_far values held);
      stop = λ values held less.
          none-exact (exact-at some (so_far values held) found less) (stop less);
    })

-- whole groups of sixteen symbols, and the room of their bytes
module _ {width bytes symbols : ℕ} (group : IsGroup width bytes symbols) where
  pub sixteen-symbols : 16 / symbols * symbols ≡ 16
  sixteen-symbols =
      rw group.has_symbols
      (by_width (λ w. 16 / group_symbols w * group_symbols w ≡ 16) refl refl refl refl refl refl
      width group.is_width)

  pub sixteen-few : 16 / symbols * bytes ≤ 16
  sixteen-few =
      rw (group.has_symbols, group.has_bytes)
      (by_width (λ w. 16 / group_symbols w * group_bytes w ≤ 16) (omega arith) (omega arith)
      (omega arith) (omega arith) (omega arith) (omega arith) width group.is_width)
