use Rattle.std.proofs.Common.{◌≡◌, ◌≤◌, length, map}
use Rattle.data_encoding_meaning.specs.text.Base.{Base}
use Rattle.data_encoding_meaning.specs.specification.Layout.{own_byte}
use Rattle.data_encoding.specs.Tables.{HasTables}
use Rattle.data_encoding_meaning.proofs.judgement.TranslationLemmas.{translated_below}
use Rattle.data_encoding.proofs.specification.from_tables.Tables.translations.Given as goal

abbrev pub invariant-loop-byte : goal.invariant-loop-byte
invariant-loop-byte l = record {
  few : length l.from.items ≤ l.byte;
  as_many : length l.to.items ≡ length l.from.items;
  from : (base : Base) → HasTables base l.self → l.from.items ≡ translated_below base l.byte;
  to : (base : Base) → HasTables base l.self
      → l.to.items ≡ map (own_byte base) (translated_below base l.byte);
}
