-- The view of the builder of an encoding in contracts: the current meaning of each byte.
use Rattle.std.specs.Prelude.{List, map, take}
use Rattle.data_encoding_meaning.specs.declared.encoding.Character.{Character}
use Rattle.data_encoding.specs.declared.specification.meanings.Meanings.TheInside.{Inside}
use Rattle.data_encoding_meaning.specs.specification.Entries.{meaning_of_entry, HoldsEntries}

-- The meaning of each byte below 128, from the table.
abbrev pub meanings_of_table : Inside → List Character
meanings_of_table table = map meaning_of_entry (take 128 table.values)

-- The table has a valid entry for each byte.
abbrev pub HasEntries : Inside → Type 0
HasEntries table = HoldsEntries table.values
