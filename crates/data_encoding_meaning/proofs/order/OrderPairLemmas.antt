-- Data whose texts are not in order.
use Rattle.std.proofs.Common.{◌≡◌, ℕ, zero, suc, ◌+◌, ◌-◌, ◌*◌, ◌/◌, ◌%◌, ◌^◌, ◌<◌, ◌≤◌, List, [], ◌∷◌, ◌++◌, length, take, drop, replicate, reverse, All, Option, Some, None, refl, sym, ap, ◌∙◌, subst, arith, inl, inr, ◌⊎◌, ⊎_elim}
use Rattle.std.proofs.Math.Nat.{mul-lt-mul_of_pos_right}
use Rattle.std.proofs.lemmas.Bool.{cases_lt}
use Rattle.std.proofs.lemmas.Nat.{div-mul-add, pow_pos, pow-add}
use Rattle.std.proofs.lemmas.List.{append-nil, take_at, get_or_default, reverse-append}
use Rattle.std.proofs.lemmas.List.Elements.{All-from_recursion, All-from_get_or}
use Rattle.data_encoding_meaning.specs.declared.encoding.BitOrder.{BitOrder}
use Rattle.data_encoding_meaning.specs.declared.encoding.BitOrder.TheVariants.{MostSignificantFirst, LeastSignificantFirst}
use Rattle.data_encoding_meaning.specs.text.Base.{Base, IsWidth, symbol, group_symbols}
use Rattle.data_encoding_meaning.specs.text.Bits.{low_bits, bits_of, number_of, bits_of_bytes, missing}
use Rattle.data_encoding_meaning.specs.laws.Order.{IsBefore, IsOrdered, KeepsOrder, BreaksOrder, IsBroken}
use Rattle.data_encoding_meaning.specs.text.Text.{with_padding, plain_text, text_of}
use Rattle.data_encoding_meaning.proofs.digits.BitLemmas.{length-bits_of, low_bits-add, number_of-bits_of}
use Rattle.data_encoding_meaning.proofs.digits.WidthLemmas.{by_width}
use Rattle.data_encoding_meaning.proofs.canonicity.ConcatenatedTextLemmas.{partly}
use Rattle.data_encoding_meaning.proofs.tables.EntryLemmas.{test_apart}
use Rattle.data_encoding_meaning.proofs.order.FrontLemmas.{front, front-long}
use Rattle.data_encoding_meaning.proofs.order.TextOrderLemmas.{text_by-first}
use Rattle.data_encoding_meaning.proofs.judgement.RuleLemmas.{IsRuled, IsRuledPadding}
use Rattle.data_encoding_meaning.proofs.text.PaddedTextLemmas.{text_of-unwrapped}
use Rattle.data_encoding_meaning.proofs.text.PlainTextLemmas.{text_by}

not-descending : (same : List ℕ) (x y : ℕ) (xs ys : List ℕ) → y < x
    → IsBefore (same ++ x ∷ xs) (same ++ y ∷ ys) → ⊥
not-descending [] x y xs ys h (inl less) = omega (arith, h, less)
not-descending [] x y xs ys h (inr equal) = omega (arith, h, equal.0)
not-descending (s ∷ same) x y xs ys h (inl less) = omega (arith, less)
not-descending (s ∷ same) x y xs ys h (inr equal) = not-descending same x y xs ys h equal.1

-- the value of the first symbol of one byte
abbrev first_value : ℕ → BitOrder → ℕ → ℕ
first_value width order byte = number_of order (front width (bits_of order 8 byte ++ []))

first-least : (width : ℕ) → IsWidth width
    → (first_value width LeastSignificantFirst 0 ≡ 0)
    × (first_value width LeastSignificantFirst 1 ≡ 1)
    × (first_value width LeastSignificantFirst (2 ^ width) ≡ 0)
    × (2 ^ width < 256) × (1 < 2 ^ width)
first-least =
    by_width (λ w. (first_value w LeastSignificantFirst 0 ≡ 0)
    × (first_value w LeastSignificantFirst 1 ≡ 1)
    × (first_value w LeastSignificantFirst (2 ^ w) ≡ 0) × (2 ^ w < 256) × (1 < 2 ^ w))
    (refl, refl, refl, omega arith, omega arith) (refl, refl, refl, omega arith, omega arith)
    (refl, refl, refl, omega arith, omega arith) (refl, refl, refl, omega arith, omega arith)
    (refl, refl, refl, omega arith, omega arith) (refl, refl, refl, omega arith, omega arith)

first-most : (width above value : ℕ) → above + width ≡ 8 → value < 2 ^ width
    → first_value width MostSignificantFirst (value * 2 ^ above) ≡ value
first-most width above value is h =
    let byte = value * 2 ^ above in
    let high : byte / 2 ^ above ≡ value =
    (let plain : byte ≡ byte + 0 = omega arith in ap (λ n. n / 2 ^ above) plain)
    ∙ div-mul-add value (2 ^ above) 0 (pow_pos above) in
    let bits : bits_of MostSignificantFirst 8 byte
    ≡ bits_of MostSignificantFirst width value ++ reverse (low_bits above byte) =
    ap (λ n. reverse (low_bits n byte)) (sym is)
    ∙ ap reverse (low_bits-add above width byte)
    ∙ reverse-append (low_bits above byte) (low_bits width (byte / 2 ^ above))
    ∙ ap (λ n. reverse (low_bits width n) ++ reverse (low_bits above byte)) high in
    let all = bits_of MostSignificantFirst 8 byte ++ [] in
    let joined : all ≡ bits_of MostSignificantFirst width value ++ reverse (low_bits above byte) =
    append-nil (bits_of MostSignificantFirst 8 byte) ∙ bits in
    let len : length all ≡ 8 =
    ap length (append-nil (bits_of MostSignificantFirst 8 byte))
    ∙ length-bits_of MostSignificantFirst 8 byte in
    ap (number_of MostSignificantFirst) (front-long width all (omega (arith, len, is))
    ∙ ap (take width) joined
    ∙ take_at (bits_of MostSignificantFirst width value) (reverse (low_bits above byte)) width
    (length-bits_of MostSignificantFirst width value))
    ∙ number_of-bits_of MostSignificantFirst width value h

-- the bytes of such a value
shifted-below : (width above value : ℕ) → above + width ≡ 8 → value < 2 ^ width
    → value * 2 ^ above < 256
shifted-below width above value is h =
    let eight : width + above ≡ 8 = omega (arith, is) in
    let whole : 2 ^ width * 2 ^ above ≡ 256 =
    sym (pow-add 2 width above) ∙ ap (λ n. 2 ^ n) eight in
    subst (λ n. value * 2 ^ above < n) whole (mul-lt-mul_of_pos_right h (pow_pos above))

shifted-in_order : (above value : ℕ) → value * 2 ^ above < (value + 1) * 2 ^ above
shifted-in_order above value =
    let next : value < value + 1 = omega arith in
    mul-lt-mul_of_pos_right next (pow_pos above)

-- the text of bytes that are padded with this character
abbrev padded_by : BitOrder → Base → ℕ → ℕ → List ℕ → List ℕ
padded_by order base character width bytes =
    with_padding (Some character) (group_symbols width)
    (text_by base width order (bits_of_bytes order bytes))

-- the padding of one byte against a symbol of the second
padding-not_before : (order : BitOrder) (base : Base) (character : ℕ) → symbol base 0 < character
    → (width : ℕ) → IsWidth width → (8 % width ≡ 0 → ⊥)
    → IsBefore (padded_by order base character width (0 ∷ []))
    (padded_by order base character width (0 ∷ 0 ∷ [])) → ⊥
padding-not_before order base character later = by_order order where
  c : ℕ
  c = character

  s : ℕ
  s = symbol base 0

  eight : IsBefore (s ∷ s ∷ s ∷ c ∷ c ∷ c ∷ c ∷ c ∷ [])
      (s ∷ s ∷ s ∷ s ∷ s ∷ s ∷ c ∷ c ∷ []) → ⊥
  eight = not-descending (s ∷ s ∷ s ∷ []) c s (c ∷ c ∷ c ∷ c ∷ []) (s ∷ s ∷ c ∷ c ∷ []) later

  five : IsBefore (s ∷ s ∷ c ∷ c ∷ c ∷ c ∷ c ∷ c ∷ [])
      (s ∷ s ∷ s ∷ s ∷ c ∷ c ∷ c ∷ c ∷ []) → ⊥
  five =
      not-descending (s ∷ s ∷ []) c s (c ∷ c ∷ c ∷ c ∷ c ∷ []) (s ∷ c ∷ c ∷ c ∷ c ∷ []) later

  four : IsBefore (s ∷ s ∷ c ∷ c ∷ []) (s ∷ s ∷ s ∷ c ∷ []) → ⊥
  four = not-descending (s ∷ s ∷ []) c s (c ∷ []) (c ∷ []) later

  by_order : (one : BitOrder) → (width : ℕ) → IsWidth width → (8 % width ≡ 0 → ⊥)
      → IsBefore (padded_by one base character width (0 ∷ []))
      (padded_by one base character width (0 ∷ 0 ∷ [])) → ⊥
  by_order MostSignificantFirst =
      partly (λ w. IsBefore (padded_by MostSignificantFirst base character w (0 ∷ []))
      (padded_by MostSignificantFirst base character w (0 ∷ 0 ∷ [])) → ⊥) eight five four
  by_order LeastSignificantFirst =
      partly (λ w. IsBefore (padded_by LeastSignificantFirst base character w (0 ∷ []))
      (padded_by LeastSignificantFirst base character w (0 ∷ 0 ∷ [])) → ⊥) eight five four

module _ (base : Base) (ruled : IsRuled base) (unwrapped : base.wrapping ≡ None) where
  -- the text of one byte starts with the symbol of its first bits
  text_of-byte : (byte : ℕ) → (rest : List ℕ)
      × (text_of base (byte ∷ []) ≡ symbol base (first_value base.width base.order byte) ∷ rest)
  text_of-byte byte =
      let bits = bits_of base.order 8 byte ++ [] in
      let len : length bits ≡ 8 =
      ap length (append-nil (bits_of base.order 8 byte)) ∙ length-bits_of base.order 8 byte in
      let first : plain_text base (byte ∷ [])
      ≡ symbol base (first_value base.width base.order byte)
      ∷ text_by base base.width base.order (drop base.width bits) =
      text_by-first base base.width base.order ruled.is_width.some bits (omega (arith, len)) in
      let whole = by_padding base.padding (symbol base (first_value base.width base.order byte))
      (text_by base base.width base.order (drop base.width bits)) (plain_text base (byte ∷ []))
      first in
      (whole.0, text_of-unwrapped base (byte ∷ []) unwrapped ∙ whole.1) where
        by_padding : (o : Option ℕ) (first : ℕ) (others text : List ℕ) → text ≡ first ∷ others
            → (rest : List ℕ) × (with_padding o (group_symbols base.width) text ≡ first ∷ rest)
        by_padding None first others text is = (others, is)
        by_padding (Some character) first others text is = (
          others ++ replicate (missing (group_symbols base.width) (length text)) character,
          ap (λ l. l ++ replicate (missing (group_symbols base.width) (length text)) character) is,
        )

  one_byte : (byte : ℕ) → byte < 256 → All (λ b. b < 256) (byte ∷ [])
  one_byte byte h = All-from_recursion (λ b. b < 256) (byte ∷ []) (h, tt)

  -- bytes in order whose first symbols descend
  breaks : (byte other value next : ℕ) → first_value base.width base.order byte ≡ value
      → first_value base.width base.order other ≡ next → byte < other → other < 256
      → symbol base next < symbol base value → BreaksOrder base (byte ∷ []) (other ∷ [])
  breaks byte other value next is is_next less below descends =
      let one = text_of-byte byte in
      let two = text_of-byte other in
      record {
        are_bytes = one_byte byte (omega (arith, less, below));
        others_are_bytes = one_byte other below;
        in_order = inl less;
        not_in_order =
            λ before. not-descending [] (symbol base value) (symbol base next) one.0 two.0 descends
            (rw (one.1, two.1, is, is_next) at before);
      }

  symbols-differ : (a b : ℕ) → a < b → b < 2 ^ base.width → symbol base a ≡ symbol base b → ⊥
  symbols-differ a b h k same =
      let one = (ruled.own a (omega (arith, h, k, ruled.count))).1 in
      let two = (ruled.own b (omega (arith, k, ruled.count))).1 in
      let value : a ≡ b = cc in
      omega arith

  breaks-least : base.order ≡ LeastSignificantFirst
      → BreaksOrder base (0 ∷ []) (1 ∷ []) ⊎ BreaksOrder base (1 ∷ []) (2 ^ base.width ∷ [])
  breaks-least is =
      let rows = first-least base.width ruled.is_width in
      ⊎_elim
      (λ (less : symbol base 1 < symbol base 0).
      inl (breaks 0 1 0 1 (rw is rows.0) (rw is rows.1) (omega arith) (omega arith) less))
      (λ (more : symbol base 0 ≤ symbol base 1).
      let differ : symbol base 0 ≡ symbol base 1 → ⊥ =
      symbols-differ 0 1 (omega arith) rows.4 in
      inr (breaks 1 (2 ^ base.width) 1 0 (rw is rows.1) (rw is rows.2) rows.4
      rows.3 (omega (arith, more, differ))))
      (cases_lt (symbol base 1) (symbol base 0))

  breaks-descending : base.order ≡ MostSignificantFirst → (value : ℕ)
      → value + 1 < 2 ^ base.width → symbol base (value + 1) < symbol base value
      → BreaksOrder base (value * 2 ^ (8 - base.width) ∷ [])
      ((value + 1) * 2 ^ (8 - base.width) ∷ [])
  breaks-descending is value within descends =
      let above = 8 - base.width in
      let whole : above + base.width ≡ 8 = omega (arith, ruled.is_width.few) in
      let first : (v : ℕ) → v < 2 ^ base.width
      → first_value base.width base.order (v * 2 ^ above) ≡ v =
      λ v h. rw is (first-most base.width above v whole h) in
      let in_order = shifted-in_order above value in
      breaks (value * 2 ^ above) ((value + 1) * 2 ^ above) value (value + 1)
      (first value (omega (arith, within))) (first (value + 1) within) in_order
      (shifted-below base.width above (value + 1) whole within) descends

  breaks-padding : (character : ℕ) → base.padding ≡ Some character → symbol base 0 < character
      → BreaksOrder base (0 ∷ []) (0 ∷ 0 ∷ [])
  breaks-padding character padded later =
      let written : (bytes : List ℕ)
      → text_of base bytes ≡ padded_by base.order base character base.width bytes =
      λ bytes. rw (unwrapped, padded) in
      let rule = (subst (λ o. IsRuledPadding base o) padded ruled.padding).2 in
      record {
        are_bytes = one_byte 0 (omega arith);
        others_are_bytes =
            All-from_recursion (λ b. b < 256) (0 ∷ 0 ∷ []) (omega arith, (omega arith, tt));
        in_order = inr (refl, tt);
        not_in_order =
            λ before. padding-not_before base.order base character later base.width ruled.is_width
            (test_apart (8 % base.width) 0 rule)
            (rw (written (0 ∷ []), written (0 ∷ 0 ∷ [])) at before);
      }

  pub IsBroken-ruled : IsBroken base
  IsBroken-ruled =
      record {
        least_significant_first = breaks-least;
        descending = breaks-descending;
        padding_later = breaks-padding;
      }

  module _ (keeps : KeepsOrder base) where
    not-broken : (bytes others : List ℕ) → BreaksOrder base bytes others → ⊥
    not-broken bytes others breaks =
        breaks.not_in_order (keeps bytes others breaks.are_bytes breaks.others_are_bytes
        breaks.in_order)

    most-first : (order : BitOrder) → base.order ≡ order → base.order ≡ MostSignificantFirst
    most-first MostSignificantFirst is = is
    most-first LeastSignificantFirst is =
        absurd (⊎_elim (not-broken (0 ∷ []) (1 ∷ [])) (not-broken (1 ∷ []) (2 ^ base.width ∷ []))
        (breaks-least is))

    next-above : (value : ℕ) → value + 1 < 2 ^ base.width
        → symbol base value < symbol base (value + 1)
    next-above value within =
        let never : symbol base (value + 1) < symbol base value → ⊥ =
        λ less.
        not-broken _ _ (breaks-descending (most-first base.order refl) value within less) in
        let differ = symbols-differ value (value + 1) (omega arith) within in
        omega (arith, never, differ)

    all-above : (a b : ℕ) → a < b → b < 2 ^ base.width → symbol base a < symbol base b
    all-above a zero h k = absurd (omega (arith, h))
    all-above a (suc b) h k =
        let one : b + 1 ≡ suc b = omega arith in
        let next = rw one at (next-above b (omega (arith, k))) in
        ⊎_elim
        (λ (less : a < b). let below = all-above a b less (omega (arith, k)) in
        omega (arith, below, next))
        (λ (more : b ≤ a).
        let same : b ≡ a = omega (arith, more, h) in
        subst (λ n. symbol base n < symbol base (suc b)) same next)
        (cases_lt a b)

    padding-below : (character : ℕ) → base.padding ≡ Some character
        → character < symbol base 0
    padding-below character padded =
        let never : symbol base 0 < character → ⊥ =
        λ later.
        not-broken _ _ (breaks-padding character padded later) in
        let differ : symbol base 0 ≡ character → ⊥ =
        λ same.
        let zero_is = (ruled.own 0 (omega (arith, pow_pos base.width, ruled.count))).1 in
        let padding_is = (subst (λ o. IsRuledPadding base o) padded ruled.padding).1 in
        cc in
        omega (arith, never, differ)

    pub IsOrdered-keeps : IsOrdered base
    IsOrdered-keeps =
        let within : (i : ℕ) → i < length base.symbols → i < 2 ^ base.width =
        λ i h. omega (arith, h, ruled.count) in
        record {
          most_significant_first = most-first base.order refl;
          ascending =
              λ i j d less inside.
              rw (get_or_default base.symbols i d 0 (omega (arith, less, inside)))
              (rw (get_or_default base.symbols j d 0 inside)
              (all-above i j less (within j inside)));
          padding_first =
              λ character padded.
              let below = padding-below character padded in
              All-from_get_or (λ s. character < s) base.symbols 0 (λ i inside.
              ⊎_elim
              (λ (none : i < 1).
              let e : 0 ≡ i = omega (arith, none) in
              subst (λ n. character < symbol base n) e below)
              (λ (some : 1 ≤ i).
              let above = all-above 0 i (omega (arith, some)) (within i inside) in
              omega (arith, below, above))
              (cases_lt i 1));
        }
