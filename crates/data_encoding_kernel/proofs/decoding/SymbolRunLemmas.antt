-- Runs of whole groups of symbols, one after another.
use Rattle.std.proofs.Common.{le-div_iff_mul-le, ◌≡◌, ℕ, ◌+◌, ◌-◌, ◌*◌, ◌/◌, ◌%◌, ◌<◌, ◌≤◌, true, List, ◌++◌, length, take, drop, slice_index, refl, sym, ap, ◌∙◌, arith, length-take-le, ⊎_elim, map, take-add}
use Rattle.std.proofs.Math.Nat.{add-mul, add-mul-div_left, div-lt_iff_lt-mul, zero-div, mul_comm, mul-le-mul_right, mul-mod_left, zero-mul}
use Rattle.std.proofs.lemmas.Bool.{cases_lt}
use Rattle.std.proofs.lemmas.List.{append-nil, get_or-take, get_or-drop, length-drop, length-take, take-append-le, take-take, take_all, take_at, length-map, map-append}
use Rattle.std.proofs.Math.Seq.{take-append-add}
use Rattle.std.proofs.lemmas.Nat.{div-add-mod', div-mul-add}
use Rattle.std.proofs.lemmas.List.Concat.{flat_map-append}
use Rattle.std.proofs.lemmas.Slice.{take-put_mid}
use borrow.Rule.Slice.PartMut.{put_mid}
use Rattle.data_encoding_meaning.specs.declared.encoding.Character.{Character}
use Rattle.data_encoding_meaning.specs.text.Base.{Base, IsWidth, meaning, is_symbol, group_bytes, group_symbols, IsGroup}
use Rattle.data_encoding_kernel.specs.Runs.{IsRun}
use Rattle.data_encoding_meaning.specs.decoding.Decoding.{run_bytes}
use Rattle.data_encoding_meaning.specs.decoding.Fault.{symbol_bytes}
use Rattle.data_encoding_kernel.specs.Tables.{HoldsValues}
use Rattle.data_encoding_meaning.proofs.digits.WidthLemmas.{group_symbols-pos}
use Rattle.data_encoding_meaning.proofs.grammar.KeptLemmas.{between}
use Rattle.data_encoding_meaning.proofs.lists.PartLemmas.{IsWhole-group, groups-within}
use Rattle.data_encoding_meaning.proofs.lists.RunLemmas.{runs-nil, runs-join, runs-short}

-- a run does not depend on the output before
pub run-same : (base : Base) {part old other new : List ℕ} {count : ℕ}
    → IsRun base part count old new → IsRun base part count other new
run-same base run = record {
  within = run.within;
  are_symbols = run.are_symbols;
  bytes = run.bytes;
}

module _ (base : Base) (width : IsWidth base.width) where
  abbrev byte_count : ℕ
  byte_count = group_bytes base.width

  abbrev size : ℕ
  size = group_symbols base.width

  pos : 0 < size
  pos = group_symbols-pos base.width width

  -- no group
  pub run-none : (part old new : List ℕ) → IsRun base part 0 old new
  run-none part old new = record {
    within = omega (arith, zero-mul size);
    are_symbols = λ k h. absurd (omega (arith, h, zero-mul size));
    bytes = rw (zero-mul byte_count, zero-mul size, runs-nil {X = Character} size pos);
  }

  symbols-more : (part : List ℕ) (i m : ℕ)
      → ((k : ℕ) → k < i * size → is_symbol (meaning base (slice_index part k)) ≡ true)
      → ((k : ℕ) → k < m * size
      → is_symbol (meaning base (slice_index (take (m * size) (drop (i * size) part)) k)) ≡ true)
      → (k : ℕ) → k < (i + m) * size → is_symbol (meaning base (slice_index part k)) ≡ true
  symbols-more part i m first second k h =
      ⊎_elim {C = is_symbol (meaning base (slice_index part k)) ≡ true}
      (λ (less : k < i * size). first k less)
      (λ (past : i * size ≤ k).
      let j = k - i * size in
      let below : j < m * size = omega (arith, h, past, add-mul i m size) in
      let back : k ≡ i * size + j = omega (arith, past) in
      let there = get_or-take (m * size) (drop (i * size) part) j 0 below in
      rw (back, ← get_or-drop (i * size) part j 0, ← there) (second j below))
      (cases_lt k (i * size))

  bytes-more : (part : List ℕ) (i m : ℕ) → (i + m) * size ≤ length part
      → run_bytes base (take (i * size) part)
      ++ run_bytes base (take (m * size) (take (m * size) (drop (i * size) part)))
      ≡ run_bytes base (take ((i + m) * size) part)
  bytes-more part i m within =
      let front = take (i * size) part in
      let back = take (m * size) (drop (i * size) part) in
      let sum : (i + m) * size ≡ i * size + m * size = add-mul i m size in
      let front_len : length front ≡ i * size =
      length-take-le (i * size) part (omega (arith, within, sum)) in
      let whole : length (map (meaning base) front) % size ≡ 0 =
      rw (length-map, front_len) (mul-mod_left i size) in
      let few : length back ≤ m * size =
      omega (arith, length-take (m * size) (drop (i * size) part)) in
      rw (sum, take-add (i * size) (m * size) part, take_all (m * size) back few, map-append)
      (rw (runs-join size (map (meaning base) front) _ pos whole, flat_map-append))

  one : (group old piece : List ℕ) → length group ≡ size
      → ((k : ℕ) → k < length group → is_symbol (meaning base (slice_index group k)) ≡ true)
      → length piece ≡ byte_count → piece ≡ symbol_bytes base (map (meaning base) group)
      → IsRun base group 1 old piece
  one group old piece len symbols piece_len is =
      let ms = map (meaning base) group in
      let ms_len : length ms ≡ size = length-map group (meaning base) ∙ len in
      let all = take_all (1 * byte_count) piece (omega (arith, piece_len)) in
      let short = runs-short size ms (omega (arith, ms_len, pos)) (omega (arith, ms_len)) in
      record {
        within = omega (arith, len);
        are_symbols = λ k h. symbols k (omega (arith, h, len));
        bytes = rw (all, take_all (1 * size) group (omega (arith, len)), short, append-nil _) is;
      }

-- whole groups, by how many symbols they have
pub zero-groups : (size : ℕ) → 0 / size ≡ 0
zero-groups size = zero-div size

pub groups-of_product : {s : ℕ} (count size : ℕ) → size ≡ s → 0 < s → count * size / s ≡ count
groups-of_product {s} count size same pos =
    ap (λ n. count * n / s) same ∙ ap (λ n. n / s) (omega arith) ∙ div-mul-add count s 0 pos

-- groups after others
pub groups-after : {s : ℕ} (first found size : ℕ) → size ≡ s → 0 < s
    → (first * size + found) / s ≡ first + found / s
groups-after {s} first found size same pos =
    ap (λ n. (first * n + found) / s) same
    ∙ ap (λ n. n / s) (omega (arith, mul_comm first s))
    ∙ add-mul-div_left found first pos ∙ omega arith

-- symbols that are not of a whole group do not count
pub groups-whole : {s : ℕ} (at n : ℕ) → 0 < s → at % s ≡ 0 → (at + n) / s ≡ (at + n / s * s) / s
groups-whole {s} at n pos whole =
    let start : at ≡ at / s * s = omega (arith, whole, div-add-mod' at s) in
    ap (λ k. (k + n) / s) start ∙ groups-after (at / s) n s refl pos
    ∙ ap (λ k. at / s + k) (sym (groups-of_product (n / s) s refl pos))
    ∙ sym (ap (λ k. (k + n / s * s) / s) start ∙ groups-after (at / s) (n / s * s) s refl pos)

-- the same, with the sizes of a group under other names
module _ (base : Base) (width : IsWidth base.width) (w bytes symbols : ℕ)
    (group : IsGroup w bytes symbols) (is : base.width ≡ w) where
  same_bytes : group_bytes base.width ≡ bytes
  same_bytes = ap group_bytes is ∙ sym group.has_bytes

  same_symbols : group_symbols base.width ≡ symbols
  same_symbols = ap group_symbols is ∙ sym group.has_symbols

  -- bytes written after a run leave it unchanged
  pub run-kept : (part old output piece : List ℕ) (i k : ℕ) → i * bytes ≤ length output
      → IsRun base part i old output → IsRun base part i old (put_mid (i * bytes) k output piece)
  run-kept part old output piece i k =
      rw (← same_bytes) (λ fits run. record {
        within = run.within;
        are_symbols = run.are_symbols;
        bytes = let place = i * group_bytes base.width in
            take_at (take place output) (piece ++ drop k (drop place output)) place
            (length-take-le place output fits) ∙ run.bytes;
      })

  -- a run of the next groups, between two positions, after a run
  pub run-next : (part old output before piece : List ℕ) (i m next k stop : ℕ) → next ≡ i + m
      → stop ≡ i * symbols + m * symbols → stop ≤ length part → i * bytes ≤ length output
      → length piece ≡ m * bytes → IsRun base part i old output
      → IsRun base (between (i * symbols) stop part) m before piece
      → IsRun base part next old (put_mid (i * bytes) k output piece)
  run-next part old output before piece i m next k stop =
      rw (← same_bytes, ← same_symbols) (λ next_is stop_is within fits len first second.
      let count = group_bytes base.width in
      let size = group_symbols base.width in
      let sum : (i + m) * count ≡ i * count + length piece =
      add-mul i m count ∙ ap (λ n. i * count + n) (sym len) in
      let part_len : stop - i * size ≡ m * size = omega (arith, stop_is) in
      let others = rw part_len at second in
      let whole : (i + m) * size ≤ length part = omega (arith, add-mul i m size, stop_is, within) in
      let written = take-put_mid (i * count) k output piece (i * count + length piece) refl fits in
      rw next_is (record {
        within = whole;
        are_symbols = symbols-more base width part i m first.are_symbols others.are_symbols;
        bytes = rw (sum, written)
            ((λ j. first.bytes j
            ++ (sym (take_all (m * count) piece (omega (arith, len))) ∙ others.bytes) j)
            ∙ bytes-more base width part i m whole);
      }))

  -- a run at the start of the rest after a run, up to a position
  pub run-after : (part old output before piece : List ℕ) (i m k stop : ℕ)
      → stop ≤ length part → i * bytes ≤ length output → m * bytes ≤ length piece
      → IsRun base part i old output → IsRun base (between (i * symbols) stop part) m before piece
      → IsRun base part (i + m) old (put_mid (i * bytes) k output piece)
  run-after part old output before piece i m k stop =
      rw (← same_bytes, ← same_symbols) (λ inside fits enough first second.
      let count = group_bytes base.width in
      let size = group_symbols base.width in
      let rest = drop (i * size) part in
      let reach = stop - i * size in
      let rest_len = length-drop (i * size) part in
      let few : m * size ≤ reach = omega (arith, second.within, length-take reach rest) in
      let whole : (i + m) * size ≤ length part =
      omega (
        arith,
        add-mul i m size,
        second.within,
        length-take reach rest,
        rest_len,
        first.within,
      ) in
      let front = take (i * count) output in
      let front_len : length front ≡ i * count = length-take-le (i * count) output fits in
      let later = drop k (drop (i * count) output) in
      let taken : take (i * count + m * count) (put_mid (i * count) k output piece)
      ≡ front ++ take (m * count) piece =
      ap (λ n. take (n + m * count) (put_mid (i * count) k output piece)) (sym front_len)
      ∙ take-append-add front (piece ++ later) (m * count)
      ∙ ap (λ l. front ++ l) (take-append-le (m * count) piece later enough) in
      let twice : run_bytes base (take (m * size) (take reach rest))
      ≡ run_bytes base (take (m * size) (take (m * size) rest)) =
      ap (run_bytes base) (take-take (m * size) reach rest few
      ∙ sym (take-take (m * size) (m * size) rest (omega arith))) in
      record {
        within = whole;
        are_symbols = symbols-more base width part i m first.are_symbols
            (λ j h. rw (
              get_or-take (m * size) rest j 0 h,
              ← get_or-take reach rest j 0 (omega (arith, h, few)),
            ) (second.are_symbols j h));
        bytes = rw (add-mul i m count)
            (taken ∙ (λ j. first.bytes j ++ (second.bytes ∙ twice) j)
            ∙ bytes-more base width part i m whole);
      })

  -- a run after whole groups, up to a position
  pub run-on : {size count : ℕ} (part old output before piece : List ℕ) (at found i k stop : ℕ)
      → count ≡ bytes → size ≡ symbols → at ≡ i * symbols → stop ≤ length part
      → i * bytes ≤ length output → found / symbols * bytes ≤ length piece
      → IsRun base part i old output
      → IsRun base (between at stop part) (found / symbols) before piece
      → IsRun base part ((at + found) / symbols) old (put_mid (at / size * count) k output piece)
  run-on part old output before piece at found i k stop count_is size_is at_is =
      let some = (IsWhole-group w bytes symbols group).some_symbols in
      rw (
        count_is,
        size_is,
        at_is,
        groups-of_product i symbols refl some,
        groups-after i found symbols refl some,
      )
      (run-after part old output before piece i (found / symbols) k stop)

  -- a run in the front of a part and of an output
  pub run-front : (part old output : List ℕ) (m reach far : ℕ) → m * bytes ≤ far
      → IsRun base (take reach part) m old (take far output) → IsRun base part m old output
  run-front part old output m reach far =
      rw (← same_bytes) (λ enough run.
      let few : m * group_symbols base.width ≤ reach =
      omega (arith, run.within, length-take reach part) in
      record {
        within = omega (arith, run.within, length-take reach part);
        are_symbols = λ j h.
            rw (← get_or-take reach part j 0 (omega (arith, h, few))) (run.are_symbols j h);
        bytes = sym (take-take (m * group_bytes base.width) far output enough) ∙ run.bytes
            ∙ ap (run_bytes base) (take-take (m * group_symbols base.width) reach part few);
      })

  -- a run that ends before a position
  pub run-cut : (part old output : List ℕ) (m reach : ℕ) → m * symbols ≤ reach
      → IsRun base part m old output → IsRun base (take reach part) m old output
  run-cut part old output m reach =
      rw (← same_symbols) (λ few run. record {
        within = omega (arith, run.within, few, length-take reach part);
        are_symbols = λ j h.
            rw (get_or-take reach part j 0 (omega (arith, h, few))) (run.are_symbols j h);
        bytes = run.bytes
            ∙ ap (run_bytes base)
            (sym (take-take (m * group_symbols base.width) reach part few));
      })

  -- a group of symbols after a run
  pub group-next : (values part old output piece : List ℕ) (i k stop : ℕ)
      → stop ≡ i * symbols + symbols → stop ≤ length part → i * bytes ≤ length output
      → length piece ≡ bytes → HoldsValues base values → IsRun base part i old output
      → ((j : ℕ) → slice_index part j < 256)
      → ((j : ℕ) → j < length (between (i * symbols) stop part)
      → slice_index values (slice_index (between (i * symbols) stop part) j) < 128)
      → piece ≡ symbol_bytes base (map (meaning base) (between (i * symbols) stop part))
      → IsRun base part (i + 1) old (put_mid (i * bytes) k output piece)
  group-next values part old output piece i k stop stop_is within fits len holds first bytes_fit
      entries is_bytes =
      let sub = between (i * symbols) stop part in
      let size : stop - i * symbols ≡ symbols = omega (arith, stop_is) in
      let sub_len : length sub ≡ symbols =
      length-take-le (stop - i * symbols) (drop (i * symbols) part)
      (omega (arith, length-drop (i * symbols) part, within)) ∙ size in
      run-next part old output piece piece i 1 (i + 1) k stop refl (stop_is ∙ omega arith) within
      fits (omega (arith, len)) first
      (one base width sub piece piece (sub_len ∙ sym same_symbols)
      (λ j h.
      let here = get_or-take (stop - i * symbols) (drop (i * symbols) part) j 0
      (omega (arith, h, sub_len, size)) in
      ap is_symbol (holds.symbols (slice_index sub j)
      (rw (here, get_or-drop (i * symbols) part j 0) (bytes_fit (i * symbols + j)))
      (entries j h)))
      (len ∙ sym same_bytes) is_bytes)

-- and no more than a turn has
pub groups-at_most : {s : ℕ} (found number : ℕ) → 0 < s → found ≤ number * s → found / s ≤ number
groups-at_most {s} found number pos h =
    omega (
      arith,
      (div-lt_iff_lt-mul {k = s} {x = found} {y = number + 1} pos).1
          (omega (arith, h, pos)),
    )

-- nor than a longer part has
pub groups-monotone : {s symbols : ℕ} (at len : ℕ) → symbols ≡ s → 0 < s → at ≤ len
    → at / symbols ≤ len / s
groups-monotone {s} at len same =
    rw same (λ some h. (le-div_iff_mul-le some).1 (omega (arith, groups-within at s, h)))

-- all of a turn
pub groups-complete : {number s groups size : ℕ} (found : ℕ) → groups ≡ number → size ≡ s → 0 < s
    → found ≤ number * s → groups * size ≤ found → found / s ≡ groups
groups-complete {number} {s} found same_groups same_size pos =
    rw (same_groups, same_size) (λ most least.
    let all : found ≡ number * s = omega (arith, most, least) in
    ap (λ n. n / s) all ∙ groups-of_product number s refl pos)

-- turns of whole groups have room if all groups have
pub turns-room : {number s groups size : ℕ} (n m b : ℕ) → groups ≡ number → size ≡ s
    → n / s * b ≤ m → n / size / groups * number * b ≤ m
turns-room {number} {s} n m b same_groups same_size =
    rw (same_groups, same_size) (λ room.
    omega (arith, room, mul-le-mul_right b (groups-within (n / s) number)))

pub turns-few : {number s groups size : ℕ} (n : ℕ) → groups ≡ number → size ≡ s
    → n / size / groups * number * s ≤ n
turns-few {number} {s} n same_groups same_size =
    rw (same_groups, same_size)
    (omega (arith, groups-within n s, mul-le-mul_right s (groups-within (n / s) number)))

-- a turn is within the symbols of all turns
pub turn-fits : {number s groups size : ℕ} (n count i : ℕ) → groups ≡ number → size ≡ s
    → count * number * s ≤ n → i < count → i * groups * size + groups * size ≤ n
turn-fits {number} {s} n count i same_groups same_size =
    rw (same_groups, same_size) (λ room h.
    let next : i + 1 ≤ count = omega (arith, h) in
    let more : (i + 1) * number ≤ count * number = mul-le-mul_right number next in
    let all : (i + 1) * number * s ≤ count * number * s = mul-le-mul_right s more in
    omega (arith, room, all))

-- the room of groups
pub groups-room : {b bytes : ℕ} (n first m : ℕ) → bytes ≡ b → first ≤ n → n * b ≤ m
    → first * bytes ≤ m
groups-room {b} n first m same =
    rw same (λ h room. omega (arith, mul-le-mul_right b h, room))
