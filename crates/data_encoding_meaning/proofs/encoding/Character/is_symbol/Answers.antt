use Rattle.std.proofs.Common.{sym, ap}
use Rattle.data_encoding_meaning.specs.text.Base.{value_of}
use Rattle.data_encoding_meaning.proofs.encoding.Character.is_symbol.Goals as goal

pub returns-in-Symbol : goal.returns-in-Symbol
returns-in-Symbol c = sym (ap value_of c.in-Symbol.is)
