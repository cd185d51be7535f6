-- The bytes that are translated, one after another.
use Rattle.std.proofs.Common.{◌≡◌, ℕ, ◌+◌, ◌<◌, Bool, true, false, cond, nat_lt, List, [], ◌∷◌, ◌++◌, map, Option, Some, None, IfSome, unwrap_or, refl, sym, ap, ◌∙◌, arith}
use Rattle.std.proofs.lemmas.Bool.{lt-ltb}
use Rattle.std.proofs.lemmas.List.{append-nil, map-append, map-id}
use Rattle.std.proofs.lemmas.List.Elements.{filter-append}
use Rattle.std.proofs.lemmas.List.FromFn.{map-range_with_len_more}
use Rattle.std.specs.List.{filter, list_all, range_with_len}
use Rattle.data_encoding_meaning.specs.declared.encoding.Character.{Character}
use Rattle.data_encoding_meaning.specs.declared.encoding.Character.TheVariants.{Symbol, Padding, Ignored, Invalid}
use Rattle.data_encoding_meaning.specs.text.Base.{Base, meaning, symbol}
use Rattle.data_encoding_meaning.specs.specification.Layout.{is_translated, own_byte, own_character}
use Rattle.data_encoding_meaning.proofs.lists.EachLemmas.{all_in_range, list_all-cons, list_all-each}

range-more : (n : ℕ) → range_with_len 0 (n + 1) ≡ range_with_len 0 n ++ n ∷ []
range-more n =
    sym (map-id (range_with_len 0 (n + 1)))
    ∙ map-range_with_len_more (λ (k : ℕ). k) 0 n n (omega arith)
    ∙ ap (λ l. l ++ n ∷ []) (map-id (range_with_len 0 n))

-- one number more
filter-range : (test : ℕ → Bool) (n : ℕ)
    → filter test (range_with_len 0 (n + 1))
    ≡ filter test (range_with_len 0 n) ++ cond (test n) (n ∷ []) []
filter-range test n =
    ap (filter test) (range-more n) ∙ filter-append test (range_with_len 0 n) (n ∷ [])

pub filter-passes : (test : ℕ → Bool) (n : ℕ) → test n ≡ true
    → filter test (range_with_len 0 (n + 1)) ≡ filter test (range_with_len 0 n) ++ n ∷ []
filter-passes test n h =
    filter-range test n
    ∙ ap (λ b. filter test (range_with_len 0 n) ++ cond b (n ∷ []) []) h

pub filter-fails : (test : ℕ → Bool) (n : ℕ) → test n ≡ false
    → filter test (range_with_len 0 (n + 1)) ≡ filter test (range_with_len 0 n)
filter-fails test n h =
    filter-range test n
    ∙ ap (λ b. filter test (range_with_len 0 n) ++ cond b (n ∷ []) []) h
    ∙ append-nil (filter test (range_with_len 0 n))

abbrev pub is_translated_byte : Base → ℕ → Bool
is_translated_byte base byte = is_translated base byte (own_character base (meaning base byte))

-- those below a number
abbrev pub translated_below : Base → ℕ → List ℕ
translated_below base n =
    filter (λ byte. is_translated base byte (own_character base (meaning base byte)))
    (range_with_len 0 n)

pub own-more : (base : Base) (n : ℕ) → is_translated_byte base n ≡ true
    → map (own_byte base) (translated_below base (n + 1))
    ≡ map (own_byte base) (translated_below base n) ++ own_byte base n ∷ []
own-more base n h =
    ap (map (own_byte base)) (filter-passes (is_translated_byte base) n h)
    ∙ map-append (own_byte base) (translated_below base n) (n ∷ [])

-- bytes of a range are ASCII
pub range-ascii : (test : ℕ → Bool)
    → list_all (λ byte. nat_lt byte 128) (filter test (range_with_len 0 128)) ≡ true
range-ascii test =
    list_all-each (λ byte. nat_lt byte 128) (filter test (range_with_len 0 128))
    (all_in_range (λ byte. nat_lt byte 128 ≡ true) test 0 128
    (λ byte from low is. lt-ltb byte 128 (omega arith)))

module _ (base : Base) (symbols : (value : ℕ) → symbol base value < 128)
    (padding : IfSome base.padding (λ character. character < 128)) where
  padding-ascii : (o : Option ℕ) → IfSome o (λ character. character < 128)
      → unwrap_or o 0 < 128
  padding-ascii None h = omega arith
  padding-ascii (Some character) h = h

  own-ascii : (m : Character) → unwrap_or (own_character base m) 0 < 128
  own-ascii (Symbol value) = symbols value
  own-ascii Padding = padding-ascii base.padding padding
  own-ascii Ignored = omega arith
  own-ascii Invalid = omega arith

  -- what bytes are translated to is ASCII
  pub owns-ascii : (bytes : List ℕ)
      → list_all (λ byte. nat_lt byte 128) (map (own_byte base) bytes) ≡ true
  owns-ascii [] = refl
  owns-ascii (byte ∷ bytes) =
      list_all-cons (λ b. nat_lt b 128) (own_byte base byte) (map (own_byte base) bytes)
      (lt-ltb (own_byte base byte) 128 (own-ascii (meaning base byte))) (owns-ascii bytes)
