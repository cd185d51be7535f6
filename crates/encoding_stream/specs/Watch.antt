-- The view of a `Watch` in contracts.
use Rattle.std.specs.Prelude.{ℕ, Bool, true, ◌==◌, ◌&&◌, nat_lt, List, length, take, Option, Result, Ok, Err}
use Rattle.std.specs.Io.KnownBytes.{Appends}
use Rattle.encoding_stream.specs.declared.failure_watch.Watch.{Watch}

-- The watched reader or writer.
abbrev pub inner_of : {T : Type 0} → Watch T → T
inner_of w = w.inner

-- `true` if a call of the reader or the writer has failed.
abbrev pub has_failed : {T : Type 0} → Watch T → Bool
has_failed w = w.has_failed

-- `true` if a write failed: it returned an error, or took none of one or more bytes.
abbrev pub is_refused : {E : Type 0} → Result ℕ E → List ℕ → Bool
is_refused (Ok count) bytes = count == 0 && nat_lt 0 (length bytes)
is_refused (Err error) bytes = true

-- The known content of a reader or a writer, before and after a call. It is the bytes left to read,
-- or the bytes written.
pub record Change : Type 0 where
  pub old : Option (List ℕ)
  pub new : Option (List ℕ)

-- The change from `old` to `new`.
abbrev pub from_to : Option (List ℕ) → Option (List ℕ) → Change
from_to old new = record { old = old; new = new }

-- The change of the content of a watched reader or writer.
abbrev pub seen : {T : Type 0} → (T → Option (List ℕ)) → Watch T → Watch T → Change
seen bytes_of old new = from_to (bytes_of (inner_of old)) (bytes_of (inner_of new))

-- The content of a writer grew by a prefix of `bytes`.
abbrev pub AppendsFront : Option (List ℕ) → Option (List ℕ) → List ℕ → Type 0
AppendsFront old new bytes = (count : ℕ) × Appends old new (take count bytes)
