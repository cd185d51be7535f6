use Rattle.std.proofs.Common.{◌≡◌, map, ap, sym, ◌∙◌, refl, rules}
use Rattle.data_encoding.specs.PlainTables.{plain_tables}
use Rattle.data_encoding_meaning.specs.text.Base.{Base}
use Rattle.data_encoding_meaning.specs.specification.Layout.{ignored_bytes, own_byte, translated_bytes}
use Rattle.data_encoding.proofs.judgement.FieldLemmas.{fields-are}
use Rattle.data_encoding.proofs.tables.TableRuleLemmas.{separator-short}
use Rattle.data_encoding.proofs.encoding.EncodingRef.specification_bytes.Goals as goal

pub copied-requires : goal.copied-requires
copied-requires c = separator-short _ c.self.invariant

pub returns : goal.returns
returns c =
    let e = plain_tables c.self.inside.fields.now c.self.inside.separator.now in
    let view = sym c.self.view_is in
    let base = c.args.self.now in
    let has = c.tables-tables.ensures.tables in
    let symbols : c.try_extend_from_slice.new.self.items ≡ c.tables-tables.result.symbols.now =
    search rules in
    rw (← c.self.view_is) (fields-are _ e c.self.invariant (record {
      symbols = symbols ∙ sym has.symbols ∙ ap (λ (b : Base). b.symbols) view;
      order = c.order.ensures;
      checks = refl;
      concatenates = refl;
      padding = c.padding_character.ensures;
      ignored = c.ignored.ensures base has ∙ ap ignored_bytes view;
      column = refl;
      separator = c.copied.ensures;
      from = c.translations-translations.ensures.from base has ∙ ap translated_bytes view;
      to =
          c.translations-translations.ensures.to base has
          ∙ ap (λ (b : Base). map (own_byte b) (translated_bytes b)) view;
    }))
