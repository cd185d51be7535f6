-- The view of specifications in contracts: their fields, with texts as bytes.
use Rattle.std.specs.Prelude.{◌≡◌, true, [], None}
use Rattle.std.specs.String.{string_bytes}
use Rattle.data_encoding_meaning.specs.declared.encoding.BitOrder.TheVariants.{MostSignificantFirst}
use Rattle.data_encoding_meaning.specs.declared.refusal.Refusal.{Refusal}
use Rattle.data_encoding.specs.declared.specification.specification_bytes.SpecificationBytes.{SpecificationBytes}
use Rattle.data_encoding.specs.declared.specification.borrowed_specification.SpecificationParts.{SpecificationParts}
use Rattle.data_encoding.specs.declared.specification.Specification.{Specification}
use Rattle.data_encoding.specs.declared.specification.SpecificationError.{SpecificationError}
use Rattle.data_encoding.specs.declared.specification.Translate.{Translate}
use Rattle.data_encoding.specs.declared.specification.Wrap.{Wrap}
use Rattle.data_encoding_meaning.specs.specification.Fields.{Fields}

-- The fields of a `Specification`.
abbrev pub specified : Specification → Fields
specified s = record {
  symbols = string_bytes s.symbols;
  order = s.bit_order;
  checks_trailing_bits = s.check_trailing_bits;
  concatenates = s.concatenate;
  padding = s.padding;
  ignored = string_bytes s.ignore;
  column = s.wrap.width;
  separator = string_bytes s.wrap.separator;
  from = string_bytes s.translate.from;
  to = string_bytes s.translate.to;
}

-- The refusal of a `SpecificationError`.
abbrev pub refusal_of : SpecificationError → Refusal
refusal_of error = error.refusal

-- The fields of a `SpecificationParts`.
abbrev pub fields_of_parts : SpecificationParts → Fields
fields_of_parts p = record {
  symbols = p.symbols.now;
  order = p.bit_order;
  checks_trailing_bits = p.check_trailing_bits;
  concatenates = p.concatenate;
  padding = p.padding;
  ignored = p.ignore.now;
  column = p.wrap_width;
  separator = p.wrap_separator.now;
  from = p.translate_from.now;
  to = p.translate_to.now;
}

-- The fields of a `SpecificationBytes`.
abbrev pub fields_of_bytes : SpecificationBytes → Fields
fields_of_bytes s = record {
  symbols = s.symbols.items;
  order = s.bit_order;
  checks_trailing_bits = s.check_trailing_bits;
  concatenates = s.concatenate;
  padding = s.padding;
  ignored = s.ignore.items;
  column = s.wrap_width;
  separator = s.wrap_separator.items;
  from = s.translate_from.items;
  to = s.translate_to.items;
}

-- An empty specification, with the most significant bit first, trailing bits checked, and texts
-- concatenated.
abbrev pub no_fields : Fields
no_fields = record {
  symbols = [];
  order = MostSignificantFirst;
  checks_trailing_bits = true;
  concatenates = true;
  padding = None;
  ignored = [];
  column = 0;
  separator = [];
  from = [];
  to = [];
}

-- Two translations have the same texts.
pub record SameTranslate (one other : Translate) : Type 0 where
  pub from : string_bytes one.from ≡ string_bytes other.from
  pub to : string_bytes one.to ≡ string_bytes other.to

-- Two line settings have the same width and separator.
pub record SameWrap (one other : Wrap) : Type 0 where
  pub width : one.width ≡ other.width
  pub separator : string_bytes one.separator ≡ string_bytes other.separator
