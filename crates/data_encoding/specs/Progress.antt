-- The progress of a decoding.
use Rattle.std.specs.Prelude.{◌≡◌, ℕ, ◌≤◌, false, List, length, drop, Ok}
use Rattle.data_encoding.specs.declared.decode.groups.Entries.{Entries}
use Rattle.data_encoding.specs.declared.decode.decoding_loop.Progress.{Progress}
use Rattle.data_encoding_kernel.specs.Ignore.{HoldsIgnored}
use Rattle.data_encoding_kernel.specs.Joins.{IsJoin}
use Rattle.data_encoding_kernel.specs.Tables.{Reads}
use Rattle.data_encoding_meaning.specs.declared.limits.TheConstants.{DECODE_LIMIT}
use Rattle.data_encoding_meaning.specs.text.Base.{Base}
use Rattle.data_encoding_meaning.specs.text.Lengths.{decoded_len}
use Rattle.data_encoding_meaning.specs.decoding.Decoding.{HasDecodedTo, IsIgnoredFront}

-- The text is short enough for one call, and the output has the length that `decode_len` returns
-- for it.
pub record HasExactOutput (base : Base) (text output : List ℕ) : Type 0 where
  pub limit : length text ≤ DECODE_LIMIT
  pub len : decoded_len base (length text) ≡ Ok (length output)

-- The base decodes with the entries and the join. The look-up has the entries, and the ignored
-- bytes
-- are those of the base.
pub record ReadsBy {L : Type 0} (holds : List ℕ → L → Type 0) (base : Base)
    (entries : Entries L) : Type 0 where
  pub reads : Reads base entries.values.now entries.join.now.width entries.join.now.order
  pub held : holds entries.values.now entries.look_up.now
  pub join : IsJoin entries.join.now
  pub ignored : HoldsIgnored base entries.ignored.now

-- The text is decoded as far as `at` states, and `at.ignored` ignored bytes follow.
pub record HasReached (base : Base) (text : List ℕ) (at : Progress) (output : List ℕ)
    : Type 0 where
  pub exact : HasExactOutput base text output
  pub so_far : HasDecodedTo base text at.read at.written false output
  pub front : IsIgnoredFront base (drop at.read text) at.ignored

-- The text is decoded as far as `at` states, which is at least up to `start`.
pub record GoesOn (base : Base) (text : List ℕ) (start : ℕ) (at : Progress) (output : List ℕ)
    : Type 0 where
  pub reached : HasReached base text at output
  pub further : start ≤ at.read
