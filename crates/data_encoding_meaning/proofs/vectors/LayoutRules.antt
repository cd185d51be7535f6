-- Worked rows of the rules of layouts.
use Rattle.std.proofs.Common.{◌≡◌, ℕ, ◌/◌, ◌%◌, ◌<◌, ◌≤◌, List, length, replicate, slice_index, refl, inl, inr, arith, lit<, lit≤, ⊎_elim}
use Rattle.data_encoding_meaning.specs.specification.Layout.{layout}
use Rattle.data_encoding_meaning.specs.specification.OneLayout.{IsIgnoredIn, IsLayout, IsLayoutOf, TellsLines, TellsPadding, TellsWrapping, entry_in}
use Rattle.data_encoding_meaning.specs.specification.Predefined.{base64_mime_fields}
use Rattle.data_encoding_meaning.proofs.tables.LayoutRuleLemmas.{layouts}
use Rattle.data_encoding_meaning.proofs.vectors.Examples.{Has, built}

lines_of : (width : ℕ) (bytes : List ℕ) → 515 < length bytes → TellsWrapping width bytes
    → TellsLines width bytes
lines_of width bytes more (inl none) = absurd (omega (arith, more, none.0))
lines_of width bytes more (inr (inl some)) = absurd (omega (arith, more, some.0))
lines_of width bytes more (inr (inr lines)) = lines

-- `A` has the value 0, LF is ignored, `=` is padding, and lines end with CR LF
layout_ruled :
    Has base64_mime_fields (λ base. (entry_in (layout base) 65 ≡ 0) × IsIgnoredIn (layout base) 10
    × TellsPadding 6 (layout base) × TellsWrapping 6 (layout base) × TellsLines 6 (layout base)
    × IsLayoutOf 6 (layout base) × IsLayout (layout base))
layout_ruled =
    let bytes = layout (built base64_mime_fields) in
    let rules : IsLayoutOf 6 bytes =
    (layouts bytes).0
    (built base64_mime_fields, record { fields = base64_mime_fields; is_built = refl }, refl)
    in (
      refl,
      (lit< tt, refl),
      rules.padding,
      rules.end,
      lines_of 6 bytes (lit< tt) rules.end,
      rules,
      rules,
    )

-- bytes that are all 0 are no layout
no_layout : IsLayout (replicate 514 0) → ⊥
no_layout rules = omega (arith, rules.is_width.some)

-- a symbol has neither no bit nor seven
width_is_one_to_six : (bytes : List ℕ)
    → (IsLayoutOf 0 bytes → ⊥) × (IsLayoutOf 7 bytes → ⊥)
width_is_one_to_six bytes = (
  λ rules. omega (arith, rules.is_width.some),
  λ rules. omega (arith, rules.is_width.few),
)

-- the flags of a layout of four bits are below 64 and have the bit 16
four_bits_set_flag_16 : (bytes : List ℕ) → IsLayoutOf 4 bytes
    → (slice_index bytes 513 ≡ 64 → ⊥) × (slice_index bytes 513 / 16 % 2 ≡ 1)
four_bits_set_flag_16 bytes rules = (λ flags. omega (arith, rules.flags, flags), rules.checked refl)

-- a layout whose flags have the bit 32 has padding
flag_32_needs_padding : (bytes : List ℕ) → IsLayoutOf 6 bytes → slice_index bytes 513 / 32 % 2 ≡ 1
    → slice_index bytes 512 ≡ 128 → ⊥
flag_32_needs_padding bytes rules single none = omega (arith, rules.single single, none)

-- In a layout of four bits the symbols are repeated from byte 16 on, and the symbol of value 15 is
-- ASCII and has that value. An entry is below 16 or from 128 to 130, and byte 200 is invalid.
entries_of_four_bits : (bytes : List ℕ) → IsLayoutOf 4 bytes
    → (slice_index bytes 17 ≡ slice_index bytes 1) × (slice_index bytes 15 < 128)
    × (entry_in bytes (slice_index bytes 15) ≡ 15)
    × (entry_in bytes 65 < 128 → entry_in bytes 65 < 16)
    × (16 ≤ entry_in bytes 65 → (128 ≤ entry_in bytes 65) × (entry_in bytes 65 ≤ 130))
    × (entry_in bytes 200 ≡ 128)
entries_of_four_bits bytes rules =
    let last = rules.own 15 (lit< tt) in
    let letter = rules.entries 65 (lit< tt) in (
      rules.repeated 17 (lit< tt),
      last.0,
      last.1,
      (λ low. ⊎_elim (λ few. few) (λ many. absurd (omega (arith, many.0, low))) letter),
      (λ high. ⊎_elim (λ few. absurd (omega (arith, few, high))) (λ many. many) letter),
      rules.invalid_from_128 200 (lit≤ tt) (lit< tt),
    )

-- A layout of four bits has no padding. In one of six bits byte 512 is not 129. The entry of `=` is
-- 130 if that byte is `=`, and not if it is 128.
padding_byte_has_its_entry : (bytes : List ℕ)
    → (TellsPadding 4 bytes → slice_index bytes 512 ≡ 128)
    × (TellsPadding 6 bytes → slice_index bytes 512 ≡ 129 → ⊥)
    × (TellsPadding 6 bytes → slice_index bytes 512 ≡ 128 → entry_in bytes 61 ≡ 130 → ⊥)
    × (TellsPadding 6 bytes → slice_index bytes 512 ≡ 61 → entry_in bytes 61 ≡ 130)
padding_byte_has_its_entry bytes = (
  λ it. ⊎_elim (λ none. none.0) (λ some. absurd (some.2 refl)) it,
  λ it high. ⊎_elim (λ none. omega (arith, none.0, high)) (λ some. omega (arith, some.0, high)) it,
  λ it none is. ⊎_elim (λ no. no.1 61 (lit< tt) is) (λ some. omega (arith, some.0, none)) it,
  λ it equals. ⊎_elim (λ none. absurd (omega (arith, none.0, equals)))
      (λ some. rw equals at some.1) it,
)

-- After byte 513 there is nothing, and LF is not ignored, or one byte, which is 0, and some byte is
-- ignored.
end_of_layout_by_length : (bytes : List ℕ) → TellsWrapping 6 bytes
    → (length bytes ≡ 513 → ⊥) × (length bytes ≡ 514 → IsIgnoredIn bytes 10 → ⊥)
    × (length bytes ≡ 515 → (slice_index bytes 514 ≡ 0) × ((byte : ℕ) × IsIgnoredIn bytes byte))
end_of_layout_by_length bytes (inl none) = (
  λ few. omega (arith, none.0, few),
  λ ends ignored. none.1 10 ignored,
  λ one. absurd (omega (arith, none.0, one)),
)
end_of_layout_by_length bytes (inr (inl some)) = (
  λ few. omega (arith, some.0, few),
  λ ends ignored. omega (arith, some.0, ends),
  λ one. (some.1, some.2),
)
end_of_layout_by_length bytes (inr (inr lines)) = (
  λ few. omega (arith, lines.ended, few),
  λ ends ignored. omega (arith, lines.ended, ends),
  λ one. absurd (omega (arith, lines.ended, one)),
)

-- In a layout of six bits no line has 0, 6 or 256 characters. Lines end with 1 to 255 bytes, which
-- are ignored.
lines_are_short_and_whole : (bytes : List ℕ) → TellsLines 6 bytes
    → (slice_index bytes 514 ≡ 0 → ⊥) × (slice_index bytes 514 ≡ 6 → ⊥)
    × (slice_index bytes 514 ≡ 256 → ⊥) × (length bytes ≡ 515 → ⊥) × (length bytes ≡ 771 → ⊥)
    × IsIgnoredIn bytes (slice_index bytes 515)
lines_are_short_and_whole bytes lines = (
  λ none. omega (arith, lines.some, none),
  λ six. omega (arith, lines.whole, six),
  λ many. omega (arith, lines.short, many),
  λ none. omega (arith, lines.ended, none),
  λ many. omega (arith, lines.ends_short, many),
  lines.ignored 515 (lit≤ tt) lines.ended,
)

-- byte 200 is not ignored, and if LF is, its entry is 129
ignored_entry_is_129 : (bytes : List ℕ)
    → (IsIgnoredIn bytes 200 → ⊥) × (IsIgnoredIn bytes 10 → entry_in bytes 10 ≡ 129)
ignored_entry_is_129 bytes = (λ ignored. omega (arith, ignored.0), λ ignored. ignored.1)

-- a layout of six bits with a byte after byte 514 has lines, which keep their rules
long_layout_has_lines : (bytes : List ℕ) → IsLayoutOf 6 bytes → 515 < length bytes
    → (slice_index bytes 512 ≡ 61 → entry_in bytes 61 ≡ 130) × TellsLines 6 bytes
long_layout_has_lines bytes rules more =
    ((padding_byte_has_its_entry bytes).3 rules.padding, lines_of 6 bytes more rules.end)
