-- How many bytes groups have, and the room that is left for others.
use Rattle.std.proofs.Common.{◌≡◌, ℕ, ◌+◌, ◌-◌, ◌*◌, ◌/◌, ◌<◌, ◌≤◌, List, [], ◌∷◌, length, take, Option, arith, length-append, length-take-le, mul-add, add-mul, mul-le-mul_left, mul-le-mul_right, le-div_iff_mul-le, flat_map, filter_map}
use Rattle.std.proofs.lemmas.List.{length-map}
use Rattle.data_encoding_meaning.proofs.grammar.PositionLemmas.{length-meanings}
use Rattle.data_encoding_meaning.specs.text.Base.{Base, value_of}
use Rattle.data_encoding_meaning.specs.text.Grammar.{Positioned, meanings_in}
use Rattle.data_encoding_meaning.specs.decoding.Fault.{symbol_bits, bytes_of_group}
use Rattle.data_encoding_meaning.proofs.lists.PartLemmas.{regroup}
use Rattle.data_encoding_meaning.proofs.lists.RunLemmas.{length-runs}
use Rattle.data_encoding_meaning.proofs.grammar.UnpaddedGroupLemmas.{length-bits_of_values}

length-filter_map : {X Y : Type 0} (f : X → Option Y) (xs : List X)
    → length (filter_map f xs) ≤ length xs
length-filter_map f [] = omega arith
length-filter_map f (x ∷ xs) = let others = length-filter_map f xs in grind arith

length-bytes_of_group : (base : Base) (group : List Positioned)
    → 8 * length (bytes_of_group base group) ≤ base.width * length group
length-bytes_of_group base group =
    let meant = meanings_in base group in
    let values = filter_map value_of meant in
    let bits = symbol_bits base meant in
    let front = take (length bits / 8 * 8) bits in
    let few : base.width * length values ≤ base.width * length group =
    mul-le-mul_left base.width
    (omega (arith, length-filter_map value_of meant, length-meanings base group)) in
    let all = length-bits_of_values base.order base.width values in
    let most = length-take-le (length bits / 8 * 8) bits (omega arith) in
    rw length-map (omega (arith, length-runs 8 front, few, all, most))

-- as many bits at most as symbols have
pub length-bytes_of_groups : (base : Base) (groups : List (List Positioned))
    → 8 * length (flat_map (bytes_of_group base) groups)
    ≤ base.width * length (flat_map (λ group. group) groups)
length-bytes_of_groups base [] = omega arith
length-bytes_of_groups base (group ∷ groups) =
    simp length-append
    (omega (arith, length-bytes_of_group base group, length-bytes_of_groups base groups))

-- Of the symbols of a text some are read, and the bytes of no more written.
module _ (width bytes symbols len read written : ℕ) (same : width * symbols ≡ 8 * bytes)
    (within : read ≤ len) where
  regrouped : (count : ℕ) → width * (count * symbols) ≡ 8 * (count * bytes)
  regrouped = regroup width 8 symbols bytes 0 same (omega arith)

  -- there is room for as many bits as are left
  pub room-bits : 8 * written ≤ width * read → (more : ℕ) → more ≤ len - read
      → 8 * written + width * more ≤ width * len
  room-bits h more few =
      let all : width * (read + more) ≤ width * len =
      mul-le-mul_left width (omega (arith, few, within)) in
      omega (arith, mul-add width read more, all, h)

  pub room-plain : 8 * written ≤ width * read → (count : ℕ) → count * symbols ≤ len - read
      → written + count * bytes ≤ width * len / 8
  room-plain h count few = omega (arith, room-bits h (count * symbols) few, regrouped count)

  -- and for as many whole groups, where whole ones were read
  pub room-whole : 0 < symbols → (q count : ℕ) → 8 * written ≤ width * (q * symbols)
      → q * symbols ≤ read → count * symbols ≤ len - read
      → written + count * bytes ≤ len / symbols * bytes
  room-whole pos q count h before few =
      let fits : (q + count) * symbols ≤ len =
      omega (arith, add-mul q count symbols, before, few, within) in
      let least : q + count ≤ len / symbols =
      (le-div_iff_mul-le {k = symbols} {x = q + count} {y = len} pos).1 fits in
      omega (arith, regrouped q, h, add-mul q count bytes, mul-le-mul_right bytes least)
