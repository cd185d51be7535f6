use Rattle.std.proofs.Common.{◌≡◌, true, map, nat_lt, ap, sym, ◌∙◌, refl, subst}
use Rattle.std.specs.List.{list_all}
use Rattle.data_encoding.specs.declared.specification.Specification.{Specification}
use Rattle.data_encoding_meaning.specs.text.Base.{Base, is_ignored, meaning}
use Rattle.data_encoding_meaning.specs.specification.Layout.{ignored_bytes, own_byte, translated_bytes}
use Rattle.data_encoding.specs.PlainTables.{plain_tables}
use Rattle.data_encoding.specs.Specification.{specified}
use Rattle.data_encoding.proofs.judgement.FieldLemmas.{Describes, fields-are}
use Rattle.data_encoding_meaning.proofs.judgement.TranslationLemmas.{is_translated_byte, owns-ascii, range-ascii}
use Rattle.data_encoding.proofs.tables.TableLemmas.{padding-seen, symbols-seen}
use Rattle.data_encoding.proofs.tables.TableRuleLemmas.{separator-ascii}
use Rattle.data_encoding.proofs.encoding.EncodingRef.specification.Goals as goal

pub ascii_text-requires-2 : goal.ascii_text-requires-2
ascii_text-requires-2 c =
    let base = c.args.self.now in
    subst (λ l. list_all (λ byte. nat_lt byte 128) l ≡ true)
    (sym (c.as_slice.ensures.value ∙ c.ignored.ensures base c.tables-tables.ensures.tables))
    (range-ascii (λ byte. is_ignored (meaning base byte)))

pub ascii_text-requires-3 : goal.ascii_text-requires-3
ascii_text-requires-3 c =
    separator-ascii _ c.self.invariant

pub ascii_text-requires-4 : goal.ascii_text-requires-4
ascii_text-requires-4 c =
    let base = c.args.self.now in
    subst (λ l. list_all (λ byte. nat_lt byte 128) l ≡ true)
    (sym (c.as_slice-2.ensures.value
    ∙ c.translations-translations.ensures.from base c.tables-tables.ensures.tables))
    (range-ascii (is_translated_byte base))

pub ascii_text-requires-5 : goal.ascii_text-requires-5
ascii_text-requires-5 c =
    let base = c.args.self.now in
    subst (λ l. list_all (λ byte. nat_lt byte 128) l ≡ true)
    (sym (c.as_slice-3.ensures.value
    ∙ c.translations-translations.ensures.to base c.tables-tables.ensures.tables))
    (owns-ascii base (symbols-seen _ c.self.invariant base c.self.view_is)
    (padding-seen _ c.self.invariant base c.self.view_is) (translated_bytes base))

pub returns : goal.returns
returns c =
    let e = plain_tables c.self.inside.fields.now c.self.inside.separator.now in
    let view = sym c.self.view_is in
    let base = c.args.self.now in
    let has = c.tables-tables.ensures.tables in
    let s : Specification = record {
      symbols = c.in_ok-ascii_text.field-0;
      bit_order = c.order.result;
      check_trailing_bits = e.checks_trailing_bits;
      concatenate = e.concatenates;
      padding = c.character.result;
      ignore = c.in_ok-ascii_text-2.field-0;
      wrap = record { width = e.column; separator = c.in_ok-ascii_text-3.field-0 };
      translate = record {
        from = c.in_ok-ascii_text-4.field-0;
        to = c.in_ok-ascii_text-5.field-0;
      };
    } in
    let is : Describes (specified s) e = record {
      symbols = c.in_ok-ascii_text.ensures ∙ sym has.symbols ∙ ap (λ (b : Base). b.symbols) view;
      order = c.order.ensures;
      checks = refl;
      concatenates = refl;
      padding = c.character.ensures ∙ c.padding_character.ensures;
      ignored =
          c.in_ok-ascii_text-2.ensures ∙ c.as_slice.ensures.value ∙ c.ignored.ensures base has
          ∙ ap ignored_bytes view;
      column = refl;
      separator = c.in_ok-ascii_text-3.ensures;
      from =
          c.in_ok-ascii_text-4.ensures ∙ c.as_slice-2.ensures.value
          ∙ c.translations-translations.ensures.from base has ∙ ap translated_bytes view;
      to =
          c.in_ok-ascii_text-5.ensures ∙ c.as_slice-3.ensures.value
          ∙ c.translations-translations.ensures.to base has
          ∙ ap (λ (b : Base). map (own_byte b) (translated_bytes b)) view;
    } in
    rw (← c.self.view_is) (fields-are (specified s) e c.self.invariant is)
