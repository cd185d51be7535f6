-- What the tables of an encoding say about a byte, and what is read about it from a layout.
use Rattle.std.proofs.Common.{◌≡◌, ℕ, ◌^◌, ◌<◌, ◌==◌, cond, nat_lt, List, length, map, take, drop, get_or, Some, None, sym, ap, ◌∙◌}
use Rattle.std.proofs.lemmas.List.{get_or-map}
use Rattle.data_encoding_meaning.specs.declared.encoding.Character.TheVariants.{Invalid}
use Rattle.data_encoding.specs.declared.specification.from_tables.Tables.{Tables}
use Rattle.data_encoding_meaning.specs.text.Base.{Base, is_ignored, meaning}
use Rattle.data_encoding_meaning.specs.specification.Entries.{meaning_of_entry}
use Rattle.data_encoding.specs.Tables.{HasTables}
use Rattle.data_encoding_meaning.proofs.tables.EntryLemmas.{ignored_entry}
use Rattle.data_encoding_meaning.proofs.tables.ReadingLemmas.{IsReadAs}

-- a byte is ignored if its entry says so
pub ignored-at : (base : Base) (tables : Tables) → HasTables base tables → (byte : ℕ)
    → byte < length tables.values.now
    → is_ignored (meaning base byte) ≡ (get_or tables.values.now byte 0 == 129)
ignored-at base tables has byte h =
    ap (λ l. is_ignored (get_or l byte Invalid)) has.meanings
    ∙ ap is_ignored (get_or-map meaning_of_entry tables.values.now byte 0 Invalid h)
    ∙ ignored_entry (get_or tables.values.now byte 0)

pub has_tables : (base : Base) (bytes : List ℕ) → IsReadAs base bytes → (tables : Tables)
    → tables.symbols.now ≡ take (2 ^ base.width) bytes
    → tables.values.now ≡ take 128 (drop 256 bytes)
    → tables.padding ≡ cond (nat_lt (get_or bytes 512 0) 128) (Some (get_or bytes 512 0)) None
    → HasTables base tables
has_tables base bytes read tables symbols values padding = record {
  symbols = sym (symbols ∙ read.symbols);
  meanings = sym (ap (map meaning_of_entry) values ∙ read.meanings);
  padding = sym (padding ∙ read.padding);
}
