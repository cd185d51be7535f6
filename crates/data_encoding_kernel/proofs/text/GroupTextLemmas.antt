-- The symbols of consecutive groups, by the digits of their words.
use Rattle.std.proofs.Common.{◌≡◌, ℕ, zero, suc, ◌+◌, ◌-◌, ◌*◌, ◌/◌, ◌%◌, ◌^◌, ◌<◌, ◌≤◌, List, [], ◌∷◌, ◌++◌, length, map, take, drop, slice_index, refl, sym, ap, ◌∙◌, subst, arith, length-take-le}
use Rattle.std.proofs.Math.Nat.{mul-add, mul_comm, mod-lt, mod-mod, mul-mod_right}
use Rattle.std.proofs.Math.Pow.{pow_mono}
use Rattle.std.proofs.Math.Seq.{take-add}
use Rattle.std.proofs.lemmas.List.{drop-drop, length-drop, map-append}
use Rattle.std.proofs.lemmas.Nat.{pow_pos}
use Rattle.std.proofs.lemmas.List.Folds.{flat_map-map}
use Rattle.std.specs.Prelude.{flat_map}
use Rattle.std.specs.List.{range_with_len}
use Rattle.data_encoding_meaning.specs.declared.encoding.BitOrder.{BitOrder}
use Rattle.data_encoding_meaning.specs.text.Base.{Base, symbol, IsGroup}
use Rattle.data_encoding_kernel.specs.Lanes.{group_word, group_words, digits_of}
use Rattle.data_encoding_kernel.specs.Tables.{Writes}
use Rattle.data_encoding_meaning.specs.text.Text.{plain_text}
use Rattle.data_encoding_kernel.specs.Words.{digit, low_byte, weight, word_of}
use Rattle.data_encoding_kernel.proofs.digits.KernelLemmas.{lowest_bits, plain_text-word}
use Rattle.data_encoding_kernel.proofs.digits.WordLemmas.{map-range-same}
use Rattle.data_encoding_meaning.proofs.lists.EachLemmas.{map-twice}
use Rattle.data_encoding_meaning.proofs.lists.PartLemmas.{IsWhole, IsWhole-group, whole-group}
use Rattle.data_encoding_meaning.proofs.text.PlainTextLemmas.{plain_text-join, plain_text-nil}

map-pieces : {X Y Z : Type 0} (f : Y → Z) (g : X → List Y) (xs : List X)
    → map f (flat_map g xs) ≡ flat_map (λ x. map f (g x)) xs
map-pieces f g [] = refl
map-pieces f g (x ∷ xs) = simp (map-append, map-pieces f g xs)

module _ (base : Base) (order : BitOrder) (width bytes count : ℕ) (symbols : List ℕ)
    (group : IsGroup width bytes count) (writes : Writes base symbols width order) where
  -- a table has the same symbol at a digit and at the byte that starts with it
  at_digit : (n : ℕ) → slice_index symbols (n % 2 ^ width) ≡ slice_index symbols (n % 2 ^ 8)
  at_digit n =
      let at : (byte : ℕ) → byte < 256 → symbol base (byte % 2 ^ width)
      ≡ slice_index symbols byte =
      subst (λ w. (byte : ℕ) → byte < 256 → symbol base (byte % 2 ^ w) ≡ slice_index symbols byte)
      writes.width_is writes.holds.at_byte in
      let narrow : width ≤ 8 = omega (arith, group.is_width.few) in
      let few : 2 ^ width ≤ 2 ^ 8 = pow_mono {i = width} {j = 8} narrow in
      let low = mod-lt n (pow_pos width) in
      sym (at (n % 2 ^ width) (omega (arith, low, few)))
      ∙ ap (symbol base) (mod-mod n (2 ^ width) ∙ sym (lowest_bits n width narrow))
      ∙ at (n % 2 ^ 8) (omega arith)

  one_group : (input : List ℕ) → length input ≡ bytes
      → map (slice_index symbols) (digits_of order width count (word_of order 8 bytes input))
      ≡ plain_text base input
  one_group input long =
      let word = word_of order 8 bytes input in
      let whole : IsWhole width bytes count = IsWhole-group width bytes count group in
      let all : count ≡ (8 * length input + (width - 1)) / width =
      sym (ap (λ n. (8 * n + (width - 1)) / width) long
      ∙ whole-group 8 width bytes count (width - 1) (sym whole.same_bits)
      (omega (arith, group.is_width.some))) in
      map-twice (slice_index symbols) (digit order width count word) (range_with_len 0 count)
      ∙ map-range-same (λ k. slice_index symbols (digit order width count word k))
      (λ k. slice_index symbols (low_byte order width count word k)) count
      (λ k _. at_digit (word / 2 ^ weight order width count k))
      ∙ ap (λ n. map (λ k. slice_index symbols (low_byte order width count word k))
      (range_with_len 0 n)) all
      ∙ plain_text-word base order width bytes count symbols input group (omega (arith, long))
      writes

  -- the symbols of n groups from group `start` on
  groups_text : (input : List ℕ) (n start : ℕ) → bytes * (start + n) ≤ length input
      → flat_map (λ k. map (slice_index symbols)
      (digits_of order width count (group_word order bytes input k))) (range_with_len start n)
      ≡ plain_text base (take (bytes * n) (drop (bytes * start) input))
  groups_text input zero start h =
      let none : bytes * 0 ≡ 0 = omega arith in
      rw none (sym (plain_text-nil base writes.holds.is_width.some))
  groups_text input (suc n) start h =
      let rest = drop (bytes * start) input in
      let front = take bytes rest in
      let room : bytes * (start + suc n) ≡ bytes * start + (bytes + bytes * n) =
      mul-add bytes start (suc n) ∙ omega (arith, mul-add bytes 1 n) in
      let long : length front ≡ bytes =
      length-take-le bytes rest (omega (arith, length-drop (bytes * start) input, h, room)) in
      let next : bytes * start + bytes ≡ bytes * (start + 1) =
      omega (arith, mul-add bytes start 1) in
      let more : bytes * (start + 1 + n) ≡ bytes * (start + suc n) =
      ap (λ m. bytes * m) (omega arith) in
      let whole : 8 * length front % base.width ≡ 0 =
      (λ i. 8 * long i % writes.width_is i)
      ∙ ap (λ m. m % width) (sym (IsWhole-group width bytes count group).same_bits)
      ∙ mul-mod_right width count in
      (λ i. one_group front long i
      ++ groups_text input n (start + 1) (omega (arith, h, more)) i)
      ∙ ap (λ l. plain_text base front ++ plain_text base (take (bytes * n) l))
      (ap (λ m. drop m input) (sym next) ∙ sym (drop-drop bytes (bytes * start) input))
      ∙ sym (plain_text-join base front (take (bytes * n) (drop bytes rest))
      writes.holds.is_width.some whole)
      ∙ ap (plain_text base) (sym (take-add bytes (bytes * n) rest)
      ∙ ap (λ m. take m rest) (omega (arith, mul-add bytes 1 n)))

  -- the text of the first groups
  pub plain_text-groups : (n : ℕ) (input : List ℕ) → n * bytes ≤ length input
      → map (slice_index symbols)
      (flat_map (digits_of order width count) (group_words order bytes n input))
      ≡ plain_text base (take (n * bytes) input)
  plain_text-groups n input h =
      let none : bytes * 0 ≡ 0 = omega arith in
      let all : bytes * n ≡ n * bytes = mul_comm bytes n in
      map-pieces (slice_index symbols) (digits_of order width count)
      (group_words order bytes n input)
      ∙ flat_map-map (λ word. map (slice_index symbols) (digits_of order width count word))
      (group_word order bytes input) (range_with_len 0 n)
      ∙ groups_text input n 0 (omega (arith, h, all))
      ∙ (λ i. plain_text base (take (all i) (drop (none i) input)))
