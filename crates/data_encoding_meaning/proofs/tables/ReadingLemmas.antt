-- What is read off the layout of a base.
use Rattle.std.proofs.Common.{◌≡◌, ℕ, ◌+◌, ◌-◌, ◌*◌, ◌/◌, ◌%◌, ◌^◌, ◌<◌, ◌≤◌, ◌==◌, Bool, true, false, cond, if◌then◌else◌, nat_lt, List, [], ◌∷◌, ◌++◌, length, map, take, drop, replicate, get_or, Option, Some, None, unwrap_or, Result, Ok, Err, IfOk, IfErr, IfSome, refl, sym, ap, ◌∙◌, subst, arith, append_assoc, length-append}
use Rattle.std.proofs.lemmas.Bool.{lt-ltb}
use Rattle.std.proofs.lemmas.Bool.Decides.{nat_tests}
use Rattle.std.proofs.lemmas.List.{drop-drop, drop_at, get_or-append_right, get_or_append_left, get_or-drop, get_or-map, get_or-replicate, get_or-take, length-map, length-replicate, take-append-le, take_at}
use Rattle.std.specs.Cmp.{first_so, second_so}
use Rattle.std.specs.List.{concat, list_all}
use Rattle.std.specs.Result.{result_ok}
use Rattle.data_encoding_meaning.specs.declared.encoding.BitOrder.{BitOrder}
use Rattle.data_encoding_meaning.specs.declared.encoding.BitOrder.TheVariants.{MostSignificantFirst, LeastSignificantFirst}
use Rattle.data_encoding_meaning.specs.declared.encoding.Character.{Character}
use Rattle.data_encoding_meaning.specs.declared.encoding.Character.TheVariants.{Symbol, Padding, Ignored, Invalid}
use Rattle.data_encoding_meaning.specs.declared.refusal.Refusal.{Refusal}
use Rattle.data_encoding_meaning.specs.text.Base.{Base, Wrapping, ignores_some, meaning}
use Rattle.data_encoding_meaning.specs.specification.Entries.{meaning_of_entry}
use Rattle.data_encoding_meaning.specs.specification.Fields.{Fields, IsSpecified, base_of}
use Rattle.data_encoding_meaning.specs.specification.Layout.{code_of, column_of, layout, order_flag, separator_of, wrapping_bytes}
use Rattle.data_encoding_meaning.proofs.digits.WidthLemmas.{symbols-few, times_symbols, times-pos}
use Rattle.data_encoding_meaning.proofs.lists.RepeatLemmas.{length-repeats, take-repeats}
use Rattle.data_encoding_meaning.proofs.judgement.RuleLemmas.{IsRuled, IsRuledPadding, IsRuledWrapping, IsRuled-built, is_within}
use Rattle.data_encoding_meaning.proofs.tables.EntryRuleLemmas.{value-symbol}

abbrev pub flags : ℕ → BitOrder → Bool → Bool → ℕ
flags w o c s = w + order_flag o + (if c then 16 else 0) + (if s then 0 else 32)

-- the sections of a layout
abbrev pub symbol_table : Base → List ℕ
symbol_table base = concat (replicate (256 / 2 ^ base.width) base.symbols)

abbrev pub ends : Base → List ℕ
ends base =
    unwrap_or base.padding 128
    ∷ flags base.width base.order base.checks_trailing_bits base.concatenates
    ∷ wrapping_bytes (ignores_some base) base.wrapping

length-table : (base : Base) → IsRuled base → length (symbol_table base) ≡ 256
length-table base ruled =
    let times = 256 / 2 ^ base.width in
    length-repeats times base.symbols ∙ ap (λ n. times * n) ruled.count
    ∙ times_symbols base.width ruled.is_width

pub character-back : (n : ℕ) (m : Character) → n ≤ 64 → is_within n m ≡ true
    → meaning_of_entry (code_of m) ≡ m
character-back n (Symbol value) few h = value-symbol value (grind (arith, nat_tests))
character-back n Padding few h = refl
character-back n Ignored few h = refl
character-back n Invalid few h = refl

meanings-back : (n : ℕ) (ms : List Character) → n ≤ 64 → list_all (is_within n) ms ≡ true
    → map meaning_of_entry (map code_of ms) ≡ ms
meanings-back n [] few h = refl
meanings-back n (m ∷ ms) few h =
    let here = character-back n m few (first_so (is_within n m) (list_all (is_within n) ms) h) in
    let rest = meanings-back n ms few (second_so (is_within n m) (list_all (is_within n) ms) h) in
    λ i. here i ∷ rest i

-- What a sum of flags says.
pub record HasFlags (sum width : ℕ) (order : BitOrder) (checks concatenates : Bool)
    : Type 0 where
  pub few : sum < 64
  pub width_is : sum % 8 ≡ width
  pub order_is : cond (sum / 8 % 2 == 1) MostSignificantFirst LeastSignificantFirst ≡ order
  pub checks_is : (sum / 16 % 2 == 1) ≡ checks
  pub concatenates_is : (sum / 32 % 2 == 0) ≡ concatenates

-- each flag has a bit
order_bit : (o : BitOrder) → (bit : ℕ) × (bit ≤ 1) × (order_flag o ≡ 8 * bit)
    × (cond (bit == 1) MostSignificantFirst LeastSignificantFirst ≡ o)
order_bit MostSignificantFirst = (1, omega arith, refl, refl)
order_bit LeastSignificantFirst = (0, omega arith, refl, refl)

check_bit : (c : Bool)
    → (bit : ℕ) × (bit ≤ 1) × ((if c then 16 else 0) ≡ 16 * bit) × ((bit == 1) ≡ c)
check_bit true = (1, omega arith, refl, refl)
check_bit false = (0, omega arith, refl, refl)

single_bit : (s : Bool)
    → (bit : ℕ) × (bit ≤ 1) × ((if s then 0 else 32) ≡ 32 * bit) × ((bit == 0) ≡ s)
single_bit true = (0, omega arith, refl, refl)
single_bit false = (1, omega arith, refl, refl)

flags-back : (w : ℕ) (o : BitOrder) (c s : Bool) → w ≤ 6 → HasFlags (flags w o c s) w o c s
flags-back w o c s few =
    let first = order_bit o in
    let second = check_bit c in
    let third = single_bit s in
    let sum = flags w o c s in
    record {
      few = omega (arith, first.2, second.2, third.2);
      width_is = omega (arith, first.2, second.2, third.2);
      order_is =
          ap (λ n. cond (n == 1) MostSignificantFirst LeastSignificantFirst)
          (omega (arith, first.2, second.2, third.2)) ∙ first.3;
      checks_is = ap (λ n. n == 1) (omega (arith, first.2, second.2, third.2)) ∙ second.3;
      concatenates_is = ap (λ n. n == 0) (omega (arith, first.2, second.2, third.2)) ∙ third.3;
    }

padding-back : (base : Base) (o : Option ℕ) → IsRuledPadding base o
    → cond (nat_lt (unwrap_or o 128) 128) (Some (unwrap_or o 128)) None ≡ o
padding-back base None rule = refl
padding-back base (Some character) rule =
    ap (λ b. cond b (Some character) None) (lt-ltb character 128 rule.0)

column-back : (ignores : Bool) (o : Option Wrapping)
    → get_or (wrapping_bytes ignores o) 0 0 ≡ column_of o
column-back true None = refl
column-back false None = refl
column-back ignores (Some wrapping) = refl

separator-back : (ignores : Bool) (o : Option Wrapping)
    → drop 1 (wrapping_bytes ignores o) ≡ separator_of o
separator-back true None = refl
separator-back false None = refl
separator-back ignores (Some wrapping) = refl

few-lines : (base : Base) (ignores : Bool) (o : Option Wrapping) → IsRuledWrapping base o
    → length (wrapping_bytes ignores o) ≤ 256
few-lines base true None rule = omega arith
few-lines base false None rule = omega arith
few-lines base ignores (Some lines) rule = omega (arith, rule.ends_short)

-- What bytes are read as.
pub record IsReadAs (base : Base) (bytes : List ℕ) : Type 0 where
  pub symbols : take (2 ^ base.width) bytes ≡ base.symbols
  pub meanings : map meaning_of_entry (take 128 (drop 256 bytes)) ≡ base.meanings
  pub padding : cond (nat_lt (get_or bytes 512 0) 128) (Some (get_or bytes 512 0)) None
      ≡ base.padding
  pub has_flags : HasFlags (get_or bytes 513 0) base.width base.order base.checks_trailing_bits
      base.concatenates
  pub column : get_or bytes 514 0 ≡ column_of base.wrapping
  pub separator : drop 515 bytes ≡ separator_of base.wrapping
  pub some : 514 ≤ length bytes
  pub few : length bytes ≤ 770

module _ (base : Base) (ruled : IsRuled base) where
  abbrev codes : List ℕ
  codes = map code_of base.meanings

  abbrev rest : List ℕ
  rest = replicate 128 128 ++ ends base

  abbrev front : List ℕ
  front = symbol_table base ++ codes ++ replicate 128 128

  in_parts : layout base ≡ symbol_table base ++ (codes ++ rest)
  in_parts =
      append_assoc (symbol_table base ++ codes) (replicate 128 128) (ends base)
      ∙ append_assoc (symbol_table base) codes rest

  long-codes : length codes ≡ 128
  long-codes = length-map base.meanings code_of ∙ ruled.long

  long-front : length front ≡ 512
  long-front =
      omega (
        arith,
        length-append (symbol_table base ++ codes) (replicate 128 128),
        length-append (symbol_table base) codes,
        length-table base ruled,
        long-codes,
      )

  symbols-read : take (2 ^ base.width) (layout base) ≡ base.symbols
  symbols-read =
      let few = symbols-few base.width ruled.is_width in
      ap (take (2 ^ base.width)) in_parts
      ∙ take-append-le (2 ^ base.width) (symbol_table base) (codes ++ rest)
      (omega (arith, few, length-table base ruled))
      ∙ ap (λ n. take n (symbol_table base)) (sym ruled.count)
      ∙ take-repeats (256 / 2 ^ base.width) base.symbols (times-pos base.width ruled.is_width)

  pub symbol-read : (k : ℕ) → k < 256 → get_or (layout base) k 0 ≡ get_or (symbol_table base) k 0
  symbol-read k h =
      ap (λ l. get_or l k 0) in_parts
      ∙ get_or_append_left (symbol_table base) (codes ++ rest) 0 k
      (omega (arith, h, length-table base ruled))

  after-table : drop 256 (layout base) ≡ codes ++ rest
  after-table =
      ap (drop 256) in_parts
      ∙ drop_at (symbol_table base) (codes ++ rest) 256 (length-table base ruled)

  codes-read : take 128 (drop 256 (layout base)) ≡ codes
  codes-read = ap (take 128) after-table ∙ take_at codes rest 128 long-codes

  pub code-read : (byte : ℕ) → byte < 128
      → get_or (layout base) (256 + byte) 0 ≡ code_of (meaning base byte)
  code-read byte low =
      sym (get_or-take 128 (drop 256 (layout base)) byte 0 low
      ∙ get_or-drop 256 (layout base) byte 0)
      ∙ ap (λ l. get_or l byte 0) codes-read
      ∙ get_or-map code_of base.meanings byte Invalid 0 (omega (arith, low, ruled.long))

  pub high-read : (k : ℕ) → 128 ≤ k → k < 256 → get_or (layout base) (256 + k) 0 ≡ 128
  high-read k from to =
      sym (get_or-drop 256 (layout base) k 0) ∙ ap (λ l. get_or l k 0) after-table
      ∙ get_or-append_right codes rest 128 k 0 long-codes from
      ∙ get_or_append_left (replicate 128 128) (ends base) 0 (k - 128)
      (omega (arith, length-replicate {A = ℕ} 128 128))
      ∙ get_or-replicate 128 (k - 128) 128 0 (omega arith)

  ends-read : drop 512 (layout base) ≡ ends base
  ends-read = drop_at front (ends base) 512 long-front

  pub end-read : (k : ℕ) → get_or (layout base) (512 + k) 0 ≡ get_or (ends base) k 0
  end-read k = sym (get_or-drop 512 (layout base) k 0) ∙ ap (λ l. get_or l k 0) ends-read

  separator-read : drop 515 (layout base)
      ≡ drop 1 (wrapping_bytes (ignores_some base) base.wrapping)
  separator-read = sym (drop-drop 3 512 (layout base)) ∙ ap (drop 3) ends-read

  pub long-layout : length (layout base)
      ≡ 514 + length (wrapping_bytes (ignores_some base) base.wrapping)
  long-layout = omega (arith, length-append front (ends base), long-front)

  pub is_read_as : IsReadAs base (layout base)
  is_read_as =
      let lines = few-lines base (ignores_some base) base.wrapping ruled.wrapping in
      record {
        symbols = symbols-read;
        meanings =
            ap (map meaning_of_entry) codes-read
            ∙ meanings-back (length base.symbols) base.meanings
            (omega (arith, ruled.count, symbols-few base.width ruled.is_width)) ruled.within;
        padding =
            ap (λ n. cond (nat_lt n 128) (Some n) None) (end-read 0)
            ∙ padding-back base base.padding ruled.padding;
        has_flags =
            subst
            (λ n. HasFlags n base.width base.order base.checks_trailing_bits base.concatenates)
            (sym (end-read 1))
            (flags-back base.width base.order base.checks_trailing_bits base.concatenates
            ruled.is_width.few);
        column = end-read 2 ∙ column-back (ignores_some base) base.wrapping;
        separator = separator-read ∙ separator-back (ignores_some base) base.wrapping;
        some = omega (arith, long-layout);
        few = omega (arith, long-layout, lines);
      }

-- bytes that are the layout of a base
pub read-layout : (base : Base) (bytes : List ℕ) → IsSpecified base → layout base ≡ bytes
    → IsReadAs base bytes
read-layout base bytes is same =
    subst (IsReadAs base) same (is_read_as base (IsRuled-built is.fields base is.is_built))

-- what is built from fields is the base that they have
pub built-is : (r : Result Base Refusal) (fields : Fields) (base : Base)
    → base_of fields ≡ Ok base → IfOk r (λ b. base_of fields ≡ Ok b)
    → IfErr r (λ refusal. base_of fields ≡ Err refusal) → result_ok r ≡ Some base
built-is (Ok b) fields base has is_built refused =
    let same : b ≡ base = cc in ap (λ n. Some n) same
built-is (Err refusal) fields base has is_built refused = cc

pub built-specified : (r : Result Base Refusal) (fields : Fields)
    → IfOk r (λ b. base_of fields ≡ Ok b) → IfSome (result_ok r) IsSpecified
built-specified (Ok b) fields is_built = record { fields = fields; is_built = is_built }
built-specified (Err refusal) fields is_built = tt
