-- Worked rows of specifications.
use Rattle.std.proofs.Common.{◌≡◌, [], ◌∷◌, codes, refl, ◌∙◌, sym}
use Rattle.data_encoding_meaning.specs.declared.refusal.Refusal.TheVariants.{WrapWidth}
use Rattle.data_encoding_meaning.specs.specification.Predefined.{unpadded_fields}
use Rattle.data_encoding.specs.Specification.{no_fields, specified, refusal_of, fields_of_bytes, fields_of_parts, SameTranslate, SameWrap}
use Rattle.std.specs.String.{string_bytes}
use Rattle.data_encoding.specs.declared.specification.Specification.{Specification}
use Rattle.data_encoding.specs.declared.specification.specification_bytes.SpecificationBytes.{SpecificationBytes}
use Rattle.data_encoding.specs.declared.specification.borrowed_specification.SpecificationParts.{SpecificationParts}
use Rattle.data_encoding.specs.declared.specification.Translate.{Translate as TranslateTexts}
use Rattle.data_encoding.specs.declared.specification.Wrap.{Wrap}

no_fields_said : no_fields ≡ unpadded_fields []
no_fields_said = refl

-- what a specification with these texts asks for, and its copy
specification_said : (s : Specification) → string_bytes s.symbols ≡ codes "01"
    → s.wrap.width ≡ 8 → string_bytes s.wrap.separator ≡ 10 ∷ []
    → ((specified s).symbols ≡ codes "01") × ((specified s).column ≡ 8)
    × ((specified s).separator ≡ 10 ∷ [])
specification_said s symbols column separator = (symbols, column, separator)

copies_same : (t : TranslateTexts) (w : Wrap) → SameTranslate t t × SameWrap w w
copies_same t w = (record { from = refl; to = refl }, record { width = refl; separator = refl })

parts_said : (p : SpecificationParts) → p.symbols.now ≡ codes "01" → p.wrap_width ≡ 8
    → ((fields_of_parts p).symbols ≡ codes "01") × ((fields_of_parts p).column ≡ 8)
parts_said p symbols column = (symbols, column)

bytes_said : (s : SpecificationBytes) → s.symbols.items ≡ codes "01" → s.wrap_width ≡ 8
    → s.translate_from.items ≡ codes "l"
    → ((fields_of_bytes s).symbols ≡ codes "01") × ((fields_of_bytes s).column ≡ 8)
    × ((fields_of_bytes s).from ≡ codes "l")
bytes_said s symbols column from = (symbols, column, from)

-- the refusal of an error is its field
refusal_of_error : refusal_of (record { refusal = WrapWidth 4 }) ≡ WrapWidth 4
refusal_of_error = refl

-- a copy of a translation or of lines has the same texts
copy_has_same_texts : (t u : TranslateTexts) (w v : Wrap)
    → (SameTranslate t u → string_bytes t.from ≡ codes "o" → string_bytes t.to ≡ codes "0"
    → (string_bytes u.from ≡ codes "o") × (string_bytes u.to ≡ codes "0"))
    × (SameWrap w v → w.width ≡ 8 → string_bytes w.separator ≡ 10 ∷ []
    → (v.width ≡ 8) × (string_bytes v.separator ≡ 10 ∷ []))
copy_has_same_texts t u w v = (
  λ same from to. (sym same.from ∙ from, sym same.to ∙ to),
  λ same width separator. (sym same.width ∙ width, sym same.separator ∙ separator),
)
