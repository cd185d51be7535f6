-- The view of a `Display` in contracts.
use Rattle.std.specs.Prelude.{ℕ, List}
use Rattle.data_encoding.specs.declared.write.Display.{Display}
use Rattle.data_encoding_meaning.specs.text.Text.{text_of}
use Rattle.data_encoding.specs.Lent.{base_of_lent}

-- The data of a `Display`.
abbrev pub shown_data : Display → List ℕ
shown_data shown = shown.input.now

-- The text that a `Display` prints.
abbrev pub shown_text : Display → List ℕ
shown_text shown = text_of (base_of_lent shown.encoding) (shown_data shown)
