-- The messages of wrong arguments and of faults, and the exit statuses.
use Rattle.std.specs.Prelude.{ℕ, List, [], ◌∷◌, ◌++◌, codes, Result, Ok, Err}
use Rattle.encoding_stream.specs.declared.error.StreamFault.{StreamFault}
use Rattle.encoding_stream.specs.declared.error.StreamFault.TheVariants.{Decode, TooLong, Read, Write}
use Rattle.basecode.specs.declared.fault.WordFault.{WordFault}
use Rattle.basecode.specs.declared.fault.WordFault.TheVariants.{Usage, UnknownName}

-- The message about wrong arguments, after the name of the program.
abbrev pub printed_word_fault : WordFault → List ℕ
printed_word_fault Usage =
    codes "usage: basecode list OR encode NAME OR decode NAME OR canonical NAME"
printed_word_fault (UnknownName name) = codes "unknown encoding: " ++ name.now

-- The line that is printed for a message.
abbrev pub line_of : List ℕ → List ℕ
line_of text = codes "basecode: " ++ text ++ 10 ∷ []

-- The exit status of a conversion that ends with the given fault.
abbrev pub status_of : StreamFault → ℕ
status_of (Decode error) = 1
status_of TooLong = 1
status_of Read = 3
status_of Write = 3

-- The exit status of a conversion.
abbrev pub status_after : Result (Unit {0}) StreamFault → ℕ
status_after (Ok done) = 0
status_after (Err fault) = status_of fault
