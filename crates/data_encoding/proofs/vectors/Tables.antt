-- Worked rows of the tables of an encoding.
use Rattle.std.proofs.Common.{◌≡◌, true, [], ◌∷◌, ◌++◌, drop, replicate, Some, None, refl, ap, lit<, lit≤, sym, take, ℕ, ◌<◌, List, length, false, arith}
use Rattle.std.proofs.lemmas.Bool.{false≢true}
use Rattle.data_encoding_kernel.specs.declared.simd.decode.affine.PlainAffine.{PlainAffine}
use Rattle.data_encoding_kernel.specs.declared.simd.encode.offset_alphabet.PlainOffsets.{PlainOffsets}
use Rattle.data_encoding_meaning.specs.text.Base.{Base, ignores_some, wrapping_by}
use Rattle.data_encoding_meaning.specs.specification.Layout.{layout, column_of, separator_of}
use Rattle.data_encoding_meaning.specs.specification.Predefined.{base64_mime_fields}
use Rattle.data_encoding.specs.Encoding.{EncodingTables, base_of_tables, KeepsRules, KeepsPadding, KeepsWrapping}
use Rattle.data_encoding_meaning.proofs.vectors.Examples.{Has}
use Rattle.std.specs.Prelude.{slice_index}

-- the form of the values of base64, with those of `+` and `/` in the shared row
abbrev base64_form : PlainAffine
base64_form = record {
  symbols = 168 ∷ replicate 9 248 ++ 240 ∷ 84 ∷ 80 ∷ 80 ∷ 80 ∷ 84 ∷ [];
  deltas = 0 ∷ 0 ∷ 96 ∷ 4 ∷ 191 ∷ 191 ∷ 185 ∷ 185 ∷ replicate 8 0;
  shared = replicate 11 0 ++ 62 ∷ 0 ∷ 0 ∷ 0 ∷ 63 ∷ [];
  is_affine = true;
}

-- the symbols of base64 by offsets
abbrev base64_offsets : PlainOffsets
base64_offsets = record {
  last = replicate 4 71 ++ replicate 10 252 ++ 237 ∷ 240 ∷ [];
  bound = 26;
  first = 250;
  has_offsets = true;
}

-- the tables of a base: what its layout says, and its forms
abbrev tables_from : Base → PlainAffine → PlainOffsets → EncodingTables
tables_from base form offsets = record {
  symbols = take 256 (layout base);
  values = take 256 (drop 256 (layout base));
  width = base.width;
  order = base.order;
  checks_trailing_bits = base.checks_trailing_bits;
  concatenates = base.concatenates;
  padding = base.padding;
  ignores = ignores_some base;
  column = column_of base.wrapping;
  separator = separator_of base.wrapping;
  form = form;
  offsets = offsets;
}

-- tables from which the same base is read, under the rules
tables_read :
    Has base64_mime_fields (λ base.
    (base_of_tables (tables_from base base64_form base64_offsets) ≡ base)
    × KeepsRules (tables_from base base64_form base64_offsets))
tables_read = (
  refl,
  record {
    is_width = record { some = lit< tt; few = lit≤ tt };
    unpadded_concatenates = refl;
    whole_checked = refl;
    symbols_repeat = refl;
    symbols_are_ascii = refl;
    own_values = refl;
    entries = refl;
    invalid_from_128 = refl;
    padding = (lit< tt, refl, refl);
    ignores = refl;
    wrapping = (lit< tt, refl, lit< tt, lit< tt, refl);
    form_agrees = refl;
    offsets_agree = refl;
  },
)

-- without padding and lines there is less to keep
less_to_keep :
    (wrapping_by 0 [] ≡ None)
    × (wrapping_by 76 (13 ∷ 10 ∷ []) ≡ Some (record { column = 76; separator = 13 ∷ 10 ∷ [] }))
    × KeepsPadding None 4 (replicate 256 128) × KeepsWrapping 0 [] 4 (replicate 256 128)
less_to_keep = (refl, refl, refl, refl)

-- Padding is ASCII, has the entry of padding, and is absent with four bits. Without padding no byte
-- means padding.
padding_is_ascii_with_entry : (width : ℕ) (values : List ℕ)
    → (KeepsPadding None width (replicate 128 130) → ⊥)
    × (KeepsPadding (Some 128) width values → ⊥)
    × (KeepsPadding (Some 61) width values → slice_index values 61 ≡ 130)
    × (KeepsPadding (Some 61) 4 values → ⊥)
padding_is_ascii_with_entry width values = (
  λ keeps. false≢true keeps,
  λ keeps. omega (arith, keeps.0),
  λ keeps. keeps.1,
  λ keeps. false≢true keeps.2,
)

-- Without lines there is no separator. A line is short and of whole groups, and its separator is
-- short and ignored.
lines_are_short_and_separated : (width : ℕ) (separator values : List ℕ)
    → (KeepsWrapping 0 separator width values → separator ≡ [])
    × (KeepsWrapping 256 separator width values → ⊥)
    × (KeepsWrapping 75 separator 6 values → ⊥)
    × (KeepsWrapping 76 separator 6 values → (0 < length separator) × (length separator < 256))
    × (KeepsWrapping 76 (13 ∷ []) 6 (replicate 128 128) → ⊥)
lines_are_short_and_separated width separator values = (
  λ keeps. keeps,
  λ keeps. omega (arith, keeps.0),
  λ keeps. three-of-none keeps.1,
  λ keeps. (keeps.2, keeps.3),
  λ keeps. false≢true keeps.4,
) where
  three-of-none : ◌≡◌ {A = ℕ} 3 0 → ⊥
  three-of-none is = omega (arith, is)

-- tables that break one rule each do not keep the rules
broken_rules_refused : (e : EncodingTables)
    → (KeepsRules (record e { width = 7 }) → ⊥)
    × (KeepsRules (record e { concatenates = false; padding = None }) → ⊥)
    × (KeepsRules (record e { checks_trailing_bits = false; width = 4 }) → ⊥)
    × (KeepsRules (record e { symbols = 65 ∷ []; width = 6 }) → ⊥)
    × (KeepsRules (record e { symbols = 128 ∷ []; width = 6 }) → ⊥)
    × (KeepsRules (record e { symbols = []; width = 6 }) → ⊥)
    × (KeepsRules (record e { values = 131 ∷ []; width = 6 }) → ⊥)
    × (KeepsRules (record e { values = [] }) → ⊥)
    × (KeepsRules (record e { padding = Some 128 }) → ⊥)
    × (KeepsRules (record e { values = []; ignores = true }) → ⊥)
    × (KeepsRules (record e { column = 256 }) → ⊥)
broken_rules_refused e = (
  λ rules. omega (arith, rules.is_width.few),
  λ rules. false≢true rules.unpadded_concatenates,
  λ rules. false≢true rules.whole_checked,
  λ rules. one-of-four (ap length rules.symbols_repeat),
  λ rules. false≢true rules.symbols_are_ascii,
  λ rules. none-of-sixty-four (ap length rules.own_values),
  λ rules. false≢true rules.entries,
  λ rules. none-of-a-half (ap length rules.invalid_from_128),
  λ rules. omega (arith, rules.padding.0),
  λ rules. false≢true (sym rules.ignores),
  λ rules. omega (arith, rules.wrapping.0),
) where
  one-of-four : ◌≡◌ {A = ℕ} 1 4 → ⊥
  one-of-four is = omega (arith, is)

  none-of-sixty-four : ◌≡◌ {A = ℕ} 0 64 → ⊥
  none-of-sixty-four is = omega (arith, is)

  none-of-a-half : ◌≡◌ {A = ℕ} 0 128 → ⊥
  none-of-a-half is = omega (arith, is)

-- with another value of `/`, the form breaks a rule
wrong_form_refused :
    Has base64_mime_fields (λ base.
    KeepsRules (tables_from base (record base64_form { shared = replicate 16 62 }) base64_offsets)
    → ⊥)
wrong_form_refused rules = false≢true rules.form_agrees

-- with another offset of `/`, the offsets break a rule
wrong_offsets_refused :
    Has base64_mime_fields (λ base.
    KeepsRules (tables_from base base64_form (record base64_offsets { last = replicate 16 71 }))
    → ⊥)
wrong_offsets_refused rules = false≢true rules.offsets_agree
