-- The whole groups at the start of some symbols.
use Rattle.std.proofs.Common.{◌≡◌, ℕ, zero, suc, ◌+◌, ◌-◌, false, ◌*◌, ◌/◌, ◌%◌, ◌<◌, ◌≤◌, true, List, [], ◌∷◌, ◌++◌, length, length-append, length-take-le, map, take, drop, take-append-drop, slice_index, refl, sym, ap, ◌∙◌, arith, flat_map, take-add}
use Rattle.std.proofs.lemmas.Grind.{flat_map-append}
use Rattle.std.proofs.lemmas.List.{get_or-drop, get_or-take, length-drop, length-map, map-append, take-take, take_all}
use Rattle.std.proofs.lemmas.List.Elements.{filter_map-append}
use Rattle.std.proofs.Math.Nat.{mul-le-mul_right, zero-mul}
use Rattle.std.proofs.Math.Seq.{take-append-add}
use Rattle.std.specs.List.{filter_map}
use Rattle.data_encoding_meaning.specs.declared.encoding.Character.{Character}
use Rattle.data_encoding_meaning.specs.declared.encoding.Character.TheVariants.{Symbol, Padding, Ignored, Invalid}
use Rattle.data_encoding_meaning.specs.text.Base.{Base, IsWidth, group_bytes, group_symbols, is_symbol, meaning, value_of}
use Rattle.data_encoding_meaning.specs.text.Bits.{bits_of, number_of, runs}
use Rattle.data_encoding_meaning.specs.decoding.Decoding.{run_bytes}
use Rattle.data_encoding_meaning.specs.decoding.Fault.{symbol_bits, symbol_bytes}
use Rattle.data_encoding_meaning.proofs.digits.WidthLemmas.{group_bits, group_symbols-pos}
use Rattle.data_encoding_meaning.proofs.grammar.UnpaddedGroupLemmas.{length-bits_of_values}
use Rattle.data_encoding_meaning.proofs.lists.PartLemmas.{groups-within, room-rest}
use Rattle.data_encoding_meaning.proofs.lists.RunLemmas.{length-runs, run_count, run_count-whole, runs-append, runs-join, runs-nil}
use Rattle.std.proofs.lemmas.Nat.{div-add-mod'}
use Rattle.std.proofs.Math.Nat.{add-mul}
use borrow.Rule.Slice.PartMut.{put_mid}
use Rattle.data_encoding_meaning.proofs.grammar.KeptLemmas.{between}
use Rattle.data_encoding_kernel.specs.Fronts.{IsFront}
use Rattle.data_encoding_kernel.specs.Runs.{IsRun}
use Rattle.data_encoding_kernel.proofs.digits.GroupFrontLemmas.{front-same}
use Rattle.data_encoding_kernel.proofs.decoding.SymbolRunLemmas.{groups-after, groups-monotone, groups-room, run-on}

false-not-true : false ≡ true → ⊥
false-not-true h = absurd (cc h)

-- a symbol has one value
one-value : (m : Character) (ms : List Character) → is_symbol m ≡ true
    → length (filter_map value_of (m ∷ ms)) ≡ suc (length (filter_map value_of ms))
one-value (Symbol v) ms h = refl
one-value Padding ms h = absurd (false-not-true h)
one-value Ignored ms h = absurd (false-not-true h)
one-value Invalid ms h = absurd (false-not-true h)

values-len : (base : Base) (xs : List ℕ)
    → ((k : ℕ) → k < length xs → is_symbol (meaning base (slice_index xs k)) ≡ true)
    → length (filter_map value_of (map (meaning base) xs)) ≡ length xs
values-len base [] h = refl
values-len base (x ∷ xs) h =
    one-value (meaning base x) (map (meaning base) xs) (h 0 (omega arith))
    ∙ ap suc (values-len base xs (λ k less. h (suc k) (omega (arith, less))))

module _ (base : Base) (width : IsWidth base.width) where
  abbrev enc : ℕ
  enc = group_bytes base.width

  abbrev dec : ℕ
  dec = group_symbols base.width

  abbrev bits : List ℕ → List ℕ
  bits xs = symbol_bits base (map (meaning base) xs)

  abbrev bytes : List ℕ → List ℕ
  bytes xs = symbol_bytes base (map (meaning base) xs)

  bits-join : (xs ys : List ℕ) → bits (xs ++ ys) ≡ bits xs ++ bits ys
  bits-join xs ys =
      ap (symbol_bits base) (map-append (meaning base) xs ys)
      ∙ ap (flat_map (bits_of base.order base.width))
      (filter_map-append value_of (map (meaning base) xs) (map (meaning base) ys))
      ∙ flat_map-append (bits_of base.order base.width)
      (filter_map value_of (map (meaning base) xs)) (filter_map value_of (map (meaning base) ys))

  -- whole bytes before others
  bytes-join : (n : ℕ) (xs ys : List ℕ) → length (bits xs) ≡ 8 * n
      → bytes (xs ++ ys) ≡ bytes xs ++ bytes ys
  bytes-join n xs ys whole =
      let b = bits xs in
      let d = bits ys in
      let len : length (b ++ d) ≡ length b + length d = length-append b d in
      let more : length (b ++ d) / 8 * 8 ≡ length b + length d / 8 * 8 =
      omega (arith, len, whole) in
      let own : length b / 8 * 8 ≡ length b = omega (arith, whole) in
      let all : take (length b / 8 * 8) b ≡ b = ap (λ m. take m b) own ∙ take_all (length b) b
      (omega arith)
      in
      let eight : length b % 8 ≡ 0 = omega (arith, whole) in
      ap (λ l. map (number_of base.order) (runs 8 (take (length l / 8 * 8) l))) (bits-join xs ys)
      ∙ ap (λ m. map (number_of base.order) (runs 8 (take m (b ++ d)))) more
      ∙ ap (λ l. map (number_of base.order) (runs 8 l)) (take-append-add b d (length d / 8 * 8))
      ∙ ap (map (number_of base.order)) (runs-join 8 b (take (length d / 8 * 8) d) (omega arith)
      eight)
      ∙ map-append (number_of base.order) (runs 8 b) (runs 8 (take (length d / 8 * 8) d))
      ∙ ap (λ l. map (number_of base.order) (runs 8 l) ++ bytes ys) (sym all)

  bytes-len : (n : ℕ) (xs : List ℕ) → length (bits xs) ≡ 8 * n → length (bytes xs) ≡ n
  bytes-len n xs whole =
      let b = bits xs in
      let own : length b / 8 * 8 ≡ n * 8 = omega (arith, whole) in
      let long : length (take (length b / 8 * 8) b) ≡ n * 8 =
      length-take-le (length b / 8 * 8) b (omega arith) ∙ own in
      length-map (runs 8 (take (length b / 8 * 8) b)) (number_of base.order)
      ∙ length-runs 8 (take (length b / 8 * 8) b)
      ∙ ap (run_count 8) long ∙ run_count-whole 8 n (omega arith)

  -- the bytes of the whole groups
  front-bytes : (m : ℕ) (xs : List ℕ) → m * dec ≤ length xs
      → ((k : ℕ) → k < m * dec → is_symbol (meaning base (slice_index xs k)) ≡ true)
      → take (m * enc) (bytes xs) ≡ run_bytes base (take (m * dec) xs)
  front-bytes zero xs within symbols =
      rw (
        zero-mul enc,
        zero-mul dec,
        runs-nil {X = Character} dec
            (group_symbols-pos base.width width),
      ) refl
  front-bytes (suc m) xs within symbols =
      let more : suc m * dec ≡ dec + m * dec = omega arith in
      let first = take dec xs in
      let rest = drop dec xs in
      let first_len : length first ≡ dec = length-take-le dec xs (omega (arith, within, more)) in
      let rest_len : length rest ≡ length xs - dec = length-drop dec xs in
      let parts : first ++ rest ≡ xs = take-append-drop dec xs in
      let first_bits : length (bits first) ≡ 8 * enc =
      length-bits_of_values base.order base.width (filter_map value_of (map (meaning base) first))
      ∙ ap (λ n. base.width * n)
      (values-len base first
      (λ k h. rw (get_or-take dec xs k 0 (omega (arith, h, first_len)))
      (symbols k (omega (arith, h, first_len, more))))
      ∙ first_len)
      ∙ group_bits base.width width in
      let first_bytes : length (bytes first) ≡ enc = bytes-len enc first first_bits in
      let others = front-bytes m rest (omega (arith, within, more, rest_len))
      (λ k h. rw (get_or-drop dec xs k 0) (symbols (dec + k) (omega (arith, h, more)))) in
      let size : suc m * enc ≡ length (bytes first) + m * enc = omega (arith, first_bytes) in
      let back = map (meaning base) (take (m * dec) rest) in
      ap (λ l. take (suc m * enc) (bytes l)) (sym parts)
      ∙ ap (take (suc m * enc)) (bytes-join enc first rest first_bits)
      ∙ ap (λ n. take n (bytes first ++ bytes rest)) size
      ∙ take-append-add (bytes first) (bytes rest) (m * enc)
      ∙ ap (λ l. bytes first ++ l) others
      ∙ ap (flat_map (symbol_bytes base))
      (sym (runs-append dec (map (meaning base) first) back (group_symbols-pos base.width width)
      (length-map first (meaning base) ∙ first_len)))
      ∙ ap (λ l. flat_map (symbol_bytes base) (runs dec l))
      (sym (map-append (meaning base) first (take (m * dec) rest)))
      ∙ ap (run_bytes base) (sym (ap (λ n. take n xs) more ∙ take-add dec (m * dec) xs))

  -- the whole groups of symbols at the start of a text are a run
  pub front-run : (text shown old new : List ℕ) (n : ℕ) → n ≤ length text
      → IsFront base text n shown → take (n / dec * enc) new ≡ take (n / dec * enc) shown
      → IsRun base text (n / dec) old new
  front-run text shown old new n within front same =
      let m = n / dec in
      let whole : m * dec ≤ n = groups-within n dec in
      let few : m * enc ≤ base.width * n / 8 =
      omega (
        arith,
        room-rest base.width 8 dec enc 0 (group_bits base.width width) (omega arith) n m whole,
      ) in
      record {
        within = omega (arith, whole, within);
        are_symbols = λ k h. front.are_symbols k (omega (arith, h, whole));
        bytes = same
            ∙ sym (take-take (m * enc) (base.width * n / 8) shown few)
            ∙ ap (take (m * enc)) front.whole
            ∙ front-bytes m (take n text) (omega (arith, whole, length-take-le n text within))
            (λ k h. rw (get_or-take n text k 0 (omega (arith, h, whole)))
            (front.are_symbols k (omega (arith, h, whole))))
            ∙ ap (run_bytes base) (take-take (m * dec) n text whole);
      }

  -- the symbols at a position, after a run up to there
  pub window-run : {s b size count : ℕ} → size ≡ s → count ≡ b → s ≡ dec → b ≡ enc
      → (part text shown old output piece : List ℕ) (at n k : ℕ) → at % s ≡ 0
      → at + n ≤ length part → length part / s * b ≤ length output
      → take n text ≡ take n (drop at part) → IsFront base text n shown
      → n / size * count ≤ length piece
      → take (n / size * count) piece ≡ take (n / size * count) shown
      → IsRun base part (at / s) old output
      → IsRun base part ((at + n) / s) old (put_mid (at / size * count) k output piece)
  window-run size_is count_is s_is b_is part text shown old output piece at n k =
      rw (size_is, count_is, s_is, b_is) (λ whole within room same front enough stored run.
      let pos = group_symbols-pos base.width width in
      let i = at / dec in
      let start : at ≡ i * dec = omega (arith, whole, div-add-mod' at dec) in
      let sub = between at (at + n) part in
      let length_is : at + n - at ≡ n = omega arith in
      let sub_is : sub ≡ take n (drop at part) = ap (λ m. take m (drop at part)) length_is in
      let few : n ≤ length sub =
      omega (
        arith,
        ap length sub_is,
        length-take-le n (drop at part) (omega (arith, length-drop at part, within)),
      ) in
      let here : IsFront base sub n shown =
      front-same base text sub n shown
      (same ∙ sym (take-take n n (drop at part) (omega arith)) ∙ ap (take n) (sym sub_is)) front in
      run-on base width base.width enc dec
      (record { is_width = width; has_bytes = refl; has_symbols = refl }) refl part old output old
      piece at n i k (at + n) refl refl start within
      (groups-room (length part / dec) i (length output) refl
      (groups-monotone at (length part) refl pos (omega (arith, within))) room)
      enough run (front-run sub shown old piece n few here stored))

-- the room of the groups after others
pub window-room : {s b size count : ℕ} → size ≡ s → count ≡ b → 0 < s → (at n len room : ℕ)
    → at % s ≡ 0 → at + n ≤ len → len / s * b ≤ room
    → at / size * count + n / size * count ≤ room
window-room {s} {b} size_is count_is some at n len room whole within fits =
    let start : at ≡ at / s * s = omega (arith, whole, div-add-mod' at s) in
    let sum : (at + n) / s ≡ at / s + n / s =
    ap (λ k. (k + n) / s) start ∙ groups-after (at / s) n s refl some in
    let most : at / s + n / s ≤ len / s =
    omega (arith, sum, groups-monotone (at + n) len refl some within) in
    rw (size_is, count_is)
    (omega (arith, fits, mul-le-mul_right b most, add-mul (at / s) (n / s) b))
