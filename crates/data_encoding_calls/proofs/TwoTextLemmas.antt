-- A text of whole groups without padding, followed by another text.
use Rattle.std.proofs.Common.{◌≡◌, ℕ, ◌+◌, ◌*◌, ◌%◌, ◌<◌, ◌≤◌, false, not, List, [], ◌∷◌, ◌++◌, length, map, Ok, sym, ap, ◌∙◌, arith, append_assoc}
use Rattle.std.proofs.Math.Bool.{and-false}
use Rattle.std.proofs.Math.Nat.{suc-mul}
use Rattle.std.proofs.lemmas.Bool.Decides.{nat_tests}
use Rattle.std.proofs.lemmas.List.{length-append, length-replicate}
use Rattle.std.specs.List.{AllByRecursion}
use Rattle.data_encoding_meaning.specs.declared.encoding.Character.{Character}
use Rattle.data_encoding_meaning.specs.specification.Fields.{IsSpecified}
use Rattle.data_encoding_meaning.specs.text.Base.{Base, IsWidth, meaning, ignores_some, group_bytes, group_symbols}
use Rattle.data_encoding_meaning.specs.text.Bits.{runs}
use Rattle.data_encoding_meaning.specs.text.Grammar.{Positioned, GroupMeans, GroupsMean, Means, bytes_in, groups, is_final, kept, kept_in, meanings_in}
use Rattle.data_encoding_meaning.specs.text.Lengths.{decoded_len, most_bytes}
use Rattle.data_encoding_meaning.proofs.digits.WidthLemmas.{group_symbols-pos}
use Rattle.data_encoding_meaning.proofs.grammar.GroupLemmas.{GroupMeans-padding}
use Rattle.data_encoding_meaning.proofs.grammar.KeptLemmas.{kept_in-append}
use Rattle.data_encoding_meaning.proofs.grammar.LengthLemmas.{decoded_len-counted, widths}
use Rattle.data_encoding_meaning.proofs.grammar.PositionLemmas.{length-kept_plain, length-meanings}
use Rattle.data_encoding_meaning.proofs.grammar.SameBytesLemmas.{bytes-kept_in, runs-alike}
use Rattle.data_encoding_meaning.proofs.grammar.UnpaddedGroupLemmas.{PlainMeans-count}
use Rattle.data_encoding_meaning.proofs.judgement.RuleLemmas.{IsRuled-built}
use Rattle.data_encoding_meaning.proofs.lists.ListLemmas.{AllFail}
use Rattle.data_encoding_meaning.proofs.lists.RunLemmas.{few_runs, length-runs, run_count, runs-join}

module _ (base : Base) (width : IsWidth base.width) where
  abbrev size : ℕ
  size = group_symbols base.width

  abbrev most : ℕ
  most = group_bytes base.width

  -- a group with padding means fewer bytes than a whole group
  group-full : (group : List Character) (bytes : List ℕ) (means : GroupMeans base group bytes)
      → length group ≤ size
      → (length bytes ≤ most) × (length bytes ≡ most → means.padding ≡ 0)
  group-full group bytes means few =
      let count = PlainMeans-count base width means.symbols bytes means.means in
      let parts = simp (length-append, length-replicate) at (ap length means.is_group) in
      grind (arith, widths base.width width, count, parts, few)

  -- so none of the groups is final, if each means the bytes of a whole one
  groups-full : (gs : List (List Positioned)) (bytes : List ℕ)
      → AllByRecursion (λ (g : List Positioned). (0 < length g) × (length g ≤ size)) gs
      → GroupsMean base (map (meanings_in base) gs) bytes
      → (length bytes ≤ length gs * most)
      × (length bytes ≡ length gs * most → AllFail (is_final base) gs)
  groups-full [] bytes few means = (rw means (omega arith), λ full. tt)
  groups-full (g ∷ gs) bytes few means =
      let group = meanings_in base g in
      let one =
      group-full group means.0 means.3 (omega (arith, length-meanings base g, few.0.1)) in
      let others = groups-full gs means.1 few.1 means.5 in
      let len : length bytes ≡ length means.0 + length means.1 =
      ap length means.2 ∙ length-append means.0 means.1 in
      let product = suc-mul (length gs) most in (
        omega (arith, len, product, one.0, others.0),
        λ full. (
          rw (
            GroupMeans-padding base group means.0 means.3,
            one.1 (omega (arith, len, product, one.0, others.0, full)),
          ) (and-false (not base.concatenates)),
          others.1 (omega (arith, len, product, one.0, others.0, full)),
        ),
      )

  -- groups of which none is final, and others
  groups-join : (gs hs : List (List Positioned)) (bytes more : List ℕ)
      → AllFail (is_final base) gs → GroupsMean base (map (meanings_in base) gs) bytes
      → GroupsMean base (map (meanings_in base) hs) more
      → GroupsMean base (map (meanings_in base) (gs ++ hs)) (bytes ++ more)
  groups-join [] hs bytes more none first second = rw first second
  groups-join (g ∷ gs) hs bytes more none first second = (
    first.0,
    first.1 ++ more,
    ap (λ l. l ++ more) first.2 ∙ append_assoc first.0 first.1 more,
    first.3,
    (λ final. cc none.0),
    groups-join gs hs first.1 more none.1 first.5 second,
  )

  -- sixteen symbols are whole groups
  whole-sixteen : (len : ℕ) → len % 16 ≡ 0
      → (len % size ≡ 0) × (run_count size len * most ≡ most_bytes base len)
  whole-sixteen len whole = grind (arith, nat_tests, widths base.width width, whole)

  Means-after : ignores_some base ≡ false → (text after bytes more : List ℕ)
      → length text % 16 ≡ 0 → length bytes ≡ most_bytes base (length text)
      → Means base text bytes → Means base after more
      → Means base (text ++ after) (bytes ++ more)
  Means-after plain text after bytes more sixteen full first second =
      let rest = kept_in base (0 + length text) after in
      let len = length-kept_plain base text plain in
      let pos = group_symbols-pos base.width width in
      let same : bytes_in (kept base after) ≡ bytes_in rest =
      bytes-kept_in base 0 after ∙ sym (bytes-kept_in base (0 + length text) after) in
      let whole = whole-sixteen (length text) sixteen in
      let count : length (groups base text) ≡ run_count size (length text) =
      length-runs size (kept base text) ∙ ap (run_count size) len in
      let none =
      (groups-full (groups base text) bytes (few_runs size (kept base text) pos) first).1
      (full ∙ sym whole.1 ∙ ap (λ n. n * most) (sym count)) in
      let whole_kept : length (kept base text) % size ≡ 0 = ap (λ n. n % size) len ∙ whole.0 in
      rw (kept_in-append base 0 text after, runs-join size (kept base text) rest pos whole_kept)
      (groups-join (groups base text) (runs size rest) bytes more none first
      (rw (runs-alike base width (kept base after) rest (ap (map (meaning base)) same))
      at second))

  few-sixteen : (len : ℕ) → len ≤ 16 → most_bytes base len ≤ 12
  few-sixteen len few = grind (arith, nat_tests, widths base.width width, few)

-- sixteen symbols mean at most twelve bytes
pub room-sixteen : (base : Base) → IsSpecified base → (len count : ℕ) → len ≤ 16
    → decoded_len base len ≡ Ok count → count ≤ 12
room-sixteen base is len count few due =
    let width = (IsRuled-built is.fields base is.is_built).is_width in
    omega (arith, few-sixteen base width len few, (decoded_len-counted base len count due).1)

-- a text that means as many bytes as its length allows, and another text
pub Means-join_full : (base : Base) → IsSpecified base → ignores_some base ≡ false
    → (text after bytes more : List ℕ) → length text % 16 ≡ 0
    → decoded_len base (length text) ≡ Ok (length bytes)
    → Means base text bytes → Means base after more → Means base (text ++ after) (bytes ++ more)
Means-join_full base is plain text after bytes more sixteen due =
    Means-after base (IsRuled-built is.fields base is.is_built).is_width plain text after bytes more
    sixteen (sym (decoded_len-counted base (length text) (length bytes) due).1)
