use Rattle.std.proofs.Common.{◌≡◌, ℕ, ◌+◌, ◌*◌, ◌%◌, ◌^◌, ◌==◌, ◌≤◌, if◌then◌else◌, List, [], ◌∷◌, replicate, get_or, refl, arith}
use Rattle.data_encoding_meaning.specs.declared.encoding.BitOrder.{BitOrder}
use Rattle.data_encoding_meaning.specs.declared.encoding.BitOrder.TheVariants.{MostSignificantFirst, LeastSignificantFirst}
use Rattle.data_encoding_meaning.specs.text.Base.{IsWidth, group_bytes, group_symbols}
use Rattle.data_encoding_meaning.proofs.digits.WidthLemmas.{by_width}
use Rattle.data_encoding_kernel.specs.declared.simd.decode.last_symbols.Join.{Join}
use Rattle.data_encoding_kernel.specs.Joins.{byte_places, higher_weights, lower_weights, IsJoin}
use Rattle.data_encoding_kernel.specs.Words.{weight}
use Rattle.data_encoding_kernel.proofs.simd.decode.last_symbols.Join.of.Goals.{in-LeastSignificantFirst, in-MostSignificantFirst}
use Rattle.data_encoding_kernel.proofs.simd.decode.last_symbols.Join.of.Goals as goal

-- the binary logarithm of the number of symbols of a group
abbrev log : ℕ → ℕ
log width = if width % 2 == 1 then 3 else if width == 4 then 1 else 2

-- the join of a width and an order
abbrev made : BitOrder → ℕ → Join
made order width = record {
  higher = higher_weights order width;
  lower = lower_weights order width;
  places = byte_places order width;
  pair = 2 * width;
  first_up = weight order (4 * width) 2 0;
  second_up = weight order (4 * width) 2 1;
  group = group_symbols width;
  group_log = log width;
  group_bytes = group_bytes width;
  order = order;
  width = width;
}

made-is : (order : BitOrder) (width : ℕ) → IsWidth width
    → 2 ^ log width ≡ group_symbols width → log width ≤ 3 → IsJoin (made order width)
made-is order width h log_is few = record {
  some = h.some;
  few = h.few;
  higher = refl;
  lower = refl;
  places = refl;
  pair = refl;
  first_up = refl;
  second_up = refl;
  group = refl;
  group_log = log_is;
  few_log = few;
  group_bytes = refl;
}

abbrev none : Join
none = record {
  higher = replicate 16 0;
  lower = replicate 16 0;
  places = replicate 16 0;
  pair = 0;
  first_up = 0;
  second_up = 0;
  group = 0;
  group_log = 0;
  group_bytes = 0;
  order = MostSignificantFirst;
  width = 0;
}

abbrev joins : List Join
joins =
    none ∷ made MostSignificantFirst 1 ∷ made MostSignificantFirst 2 ∷ made MostSignificantFirst 3
    ∷ made MostSignificantFirst 4 ∷ made MostSignificantFirst 5 ∷ made MostSignificantFirst 6 ∷ none
    ∷ none ∷ made LeastSignificantFirst 1 ∷ made LeastSignificantFirst 2
    ∷ made LeastSignificantFirst 3 ∷ made LeastSignificantFirst 4 ∷ made LeastSignificantFirst 5
    ∷ made LeastSignificantFirst 6 ∷ none ∷ []

-- what the language gives outside of the list
abbrev outside : Join
outside = record {
  higher = [];
  lower = [];
  places = [];
  pair = 0;
  first_up = 0;
  second_up = 0;
  group = 0;
  group_log = 0;
  group_bytes = 0;
  order = MostSignificantFirst;
  width = 0;
}

abbrev At : BitOrder → ℕ → ℕ → Type 0
At order start width =
    let found = get_or joins (start + width) outside in
    IsJoin found × ((found.order ≡ order) × (found.width ≡ width))

most : (width : ℕ) → IsWidth width → At MostSignificantFirst 0 width
most =
    let is = made-is MostSignificantFirst in
    by_width (At MostSignificantFirst 0) (is 1 (search arith) refl (search arith), (refl, refl))
    (is 2 (search arith) refl (search arith), (refl, refl))
    (is 3 (search arith) refl (search arith), (refl, refl))
    (is 4 (search arith) refl (search arith), (refl, refl))
    (is 5 (search arith) refl (search arith), (refl, refl))
    (is 6 (search arith) refl (search arith), (refl, refl))

least : (width : ℕ) → IsWidth width → At LeastSignificantFirst 8 width
least =
    let is = made-is LeastSignificantFirst in
    by_width (At LeastSignificantFirst 8) (is 1 (search arith) refl (search arith), (refl, refl))
    (is 2 (search arith) refl (search arith), (refl, refl))
    (is 3 (search arith) refl (search arith), (refl, refl))
    (is 4 (search arith) refl (search arith), (refl, refl))
    (is 5 (search arith) refl (search arith), (refl, refl))
    (is 6 (search arith) refl (search arith), (refl, refl))

pub returns-clause-join : goal.returns-clause-join
returns-clause-join c =
    let h : IsWidth c.args.width = record { some = c.requires.some; few = c.requires.few } in
    elim c.match-order.branch [
      | in-MostSignificantFirst w ↦ rw w.start-is (most c.args.width h).0
      | in-LeastSignificantFirst w ↦ rw w.start-is (least c.args.width h).0
    ]

pub returns-clause-same : goal.returns-clause-same
returns-clause-same c =
    let h : IsWidth c.args.width = record { some = c.requires.some; few = c.requires.few } in
    elim c.match-order.branch [
      | in-MostSignificantFirst w ↦ rw (w.start-is, w.in-MostSignificantFirst.is)
          (most c.args.width h).1
      | in-LeastSignificantFirst w ↦ rw (w.start-is, w.in-LeastSignificantFirst.is)
          (least c.args.width h).1
    ]
