-- The groups of an unpadded text mean what its symbols mean.
use Rattle.std.proofs.Common.{◌≡◌, ◌↔◌, ℕ, ◌*◌, ◌<◌, ◌≤◌, false, List, [], ◌∷◌, ◌++◌, length, take, drop, refl, sym, ap, arith, ⊎_elim, append_assoc, take-append-drop, length-take-le}
use Rattle.std.proofs.lemmas.Bool.{cases_lt}
use Rattle.std.proofs.lemmas.List.{length-map, map-append, append-nil, nil_from_length, take-map, drop-map}
use Rattle.std.proofs.lemmas.List.Concat.{flat_map-append}
use Rattle.std.proofs.lemmas.List.Elements.{All-append, All-take, All-drop}
use Rattle.std.specs.Prelude.{flat_map}
use Rattle.std.proofs.Math.Nat.{mul-le-mul_left}
use Rattle.std.proofs.lemmas.Bool.Decides.{nat_tests}
use Rattle.data_encoding_meaning.specs.declared.encoding.Character.{Character}
use Rattle.data_encoding_meaning.specs.declared.encoding.Character.TheVariants.{Symbol}
use Rattle.data_encoding_meaning.specs.text.Base.{Base, is_padded, group_bytes, group_symbols, IsWidth}
use Rattle.data_encoding_meaning.specs.text.Bits.{bits_of, bits_of_bytes, runs}
use Rattle.data_encoding_meaning.specs.text.Grammar.{GroupsMean, Means, PlainMeans, kept, meanings_in}
use Rattle.data_encoding_meaning.proofs.grammar.GroupLemmas.{GroupMeans-plain, GroupMeans-symbols}
use Rattle.data_encoding_meaning.proofs.grammar.PositionLemmas.{runs-meanings}
use Rattle.data_encoding_meaning.proofs.grammar.SoundLemmas.{symbols-not_final}
use Rattle.data_encoding_meaning.proofs.grammar.UnpaddedGroupLemmas.{PlainMeans-count, length-bits_of_bytes, length-bits_of_values, PlainMeans-sound}
use Rattle.data_encoding_meaning.proofs.lists.ListLemmas.{parts_same}
use Rattle.data_encoding_meaning.proofs.lists.RunLemmas.{by_runs, runs-first, runs-nil, runs-short}
use Rattle.data_encoding_meaning.proofs.digits.WidthLemmas.{group_bits, group_symbols-pos}

module _ (base : Base) (width : IsWidth base.width) where
  abbrev size : ℕ
  size = group_symbols base.width

  size-pos : 0 < size
  size-pos = group_symbols-pos base.width width

  abbrev bits : List ℕ → List ℕ
  bits values = flat_map (bits_of base.order base.width) values

  PlainMeans-nil : PlainMeans base [] []
  PlainMeans-nil = PlainMeans-sound base width [] (grind (arith, nat_tests))

  -- symbols of whole bytes, followed by others, mean their bytes joined
  pub PlainMeans-append : (group others : List Character) (bytes more : List ℕ) (whole : ℕ)
      → base.width * length group ≡ 8 * whole → PlainMeans base group bytes
      → PlainMeans base others more → PlainMeans base (group ++ others) (bytes ++ more)
  PlainMeans-append group others bytes more whole all first second =
      let none = nil_from_length first.rest
      (omega (arith, PlainMeans-count base width group bytes first)) in
      let exact = rw (none, append-nil) at first.same_bits in
      record {
        values = first.values ++ second.values;
        rest = second.rest;
        are_symbols =
            rw (first.are_symbols, second.are_symbols)
            (sym (map-append (λ value. Symbol value) first.values second.values));
        same_bits = simp (flat_map-append, exact, second.same_bits, append_assoc);
        rest_is_short = second.rest_is_short;
        rest_is_zero = second.rest_is_zero;
        are_bytes = All-append (λ byte. byte < 256) bytes more first.are_bytes second.are_bytes;
      }

  -- what a whole group and others mean is joined of what each means
  PlainMeans-split : (ks : List Character) (bytes : List ℕ) → size ≤ length ks
      → PlainMeans base ks bytes
      → PlainMeans base (take size ks) (take (group_bytes base.width) bytes)
      × PlainMeans base (drop size ks) (drop (group_bytes base.width) bytes)
  PlainMeans-split ks bytes long means =
      let byte_count = group_bytes base.width in
      let count = PlainMeans-count base width ks bytes means in
      let full = group_bits base.width width in
      let enough = mul-le-mul_left base.width long in
      let v = take size means.values in
      let vs = drop size means.values in
      let v_len : length v ≡ size =
      length-take-le size means.values
      (omega (arith, simp length-map at (ap length means.are_symbols))) in
      let same = parts_same (bits v) (bits vs) (bits_of_bytes base.order (take byte_count bytes))
      (bits_of_bytes base.order (drop byte_count bytes) ++ means.rest)
      (simp (← append_assoc, ← flat_map-append, take-append-drop) means.same_bits)
      (rw (length-bits_of_values, v_len, length-bits_of_bytes)
      (rw (length-take-le byte_count bytes (omega arith)) full)) in (
        record {
          values = v;
          rest = [];
          are_symbols = rw (means.are_symbols, take-map);
          same_bits = rw append-nil same.0;
          rest_is_short = width.some;
          rest_is_zero = λ e. refl;
          are_bytes = All-take (λ byte. byte < 256) byte_count bytes means.are_bytes;
        },
        record {
          values = vs;
          rest = means.rest;
          are_symbols = rw (means.are_symbols, drop-map);
          same_bits = same.1;
          rest_is_short = means.rest_is_short;
          rest_is_zero = means.rest_is_zero;
          are_bytes = All-drop (λ byte. byte < 256) byte_count bytes means.are_bytes;
        },
      )

  module _ (unpadded : is_padded base ≡ false) where
    -- no symbols end the text
    first-PlainMeans : (group : List Character) (others : List (List Character))
        (bytes more : List ℕ) → 0 < length group → PlainMeans base group bytes
        → GroupsMean base others more → GroupsMean base (group ∷ others) (bytes ++ more)
    first-PlainMeans group others bytes more some means later = (
      bytes,
      more,
      refl,
      GroupMeans-symbols base group bytes some (λ padded. cc) means,
      (λ final. cc (symbols-not_final base group means.values means.are_symbols)),
      later,
    )

    -- the groups of symbols mean what the symbols mean
    groups-PlainMeans : (ks : List Character) (bytes : List ℕ)
        → GroupsMean base (runs size ks) bytes ↔ PlainMeans base ks bytes
    groups-PlainMeans =
        by_runs size size-pos
        (λ ks. (bytes : List ℕ) → GroupsMean base (runs size ks) bytes ↔ PlainMeans base ks bytes)
        (λ bytes. rw (runs-nil {X = Character} size size-pos) (
          (λ none. rw none PlainMeans-nil),
          (λ means. nil_from_length bytes
              (omega (arith, PlainMeans-count base width [] bytes means))),
        ))
        (λ ks some others bytes.
        ⊎_elim
        (λ (short : length ks < size).
        rw (runs-short size ks some (omega arith)) (
          (λ means. rw (means.2, means.5, append-nil means.0)
              (GroupMeans-plain base ks means.0 unpadded means.3)),
          (λ means. rw append-nil at (first-PlainMeans ks [] bytes [] some means refl)),
        ))
        (λ (long : size ≤ length ks).
        let len = length-take-le size ks long in
        rw (runs-first size ks size-pos some) (
          (λ means. rw means.2
              (rw take-append-drop
              at (PlainMeans-append (take size ks) (drop size ks) means.0 means.1
              (group_bytes base.width) (rw len (group_bits base.width width))
              (GroupMeans-plain base (take size ks) means.0 unpadded means.3)
              ((others means.1).0 means.5)))),
          (λ means. let parts = PlainMeans-split ks bytes long means in
              rw take-append-drop
              at (first-PlainMeans (take size ks) (runs size (drop size ks)) _ _
              (omega (arith, len, size-pos)) parts.0 ((others _).1 parts.1))),
        ))
        (cases_lt (length ks) size))

    -- the law of unpadded texts
    pub unpadded-Means : (text bytes : List ℕ)
        → Means base text bytes ↔ PlainMeans base (meanings_in base (kept base text)) bytes
    unpadded-Means text bytes =
        rw (← (runs-meanings base size (kept base text) size-pos))
        (groups-PlainMeans (meanings_in base (kept base text)) bytes)
