-- The steps of a decoding, and their end.
use Rattle.std.specs.Prelude.{◌≡◌, ℕ, ◌-◌, ◌<◌, ◌≤◌, Bool, true, false, List, length, take, drop, Option, None, Some}
use Rattle.data_encoding_meaning.specs.declared.error.DecodePartial.{DecodePartial}
use Rattle.data_encoding.specs.declared.decode.Stop.{Stop}
use Rattle.data_encoding.specs.declared.decode.decoding_loop.Step.{Step}
use Rattle.data_encoding.specs.declared.decode.decoding_loop.Step.TheVariants.{More, Ended, Faulty}
use Rattle.data_encoding_meaning.specs.declared.error.GroupFault.{GroupFault}
use Rattle.data_encoding_meaning.specs.text.Base.{Base}
use Rattle.data_encoding_meaning.specs.text.Grammar.{kept}
use Rattle.data_encoding_meaning.specs.decoding.Partial.{StopsAt, is_length_fault}
use Rattle.data_encoding_meaning.specs.decoding.Decoding.{HasDecodedTo, HasNoLastRun, HasRoom, IsDecoded, IsLastRun, IsStop}

-- The fault of the group where the decoding stopped.
abbrev pub fault_of_stop : Stop → GroupFault
fault_of_stop stop = record { index = stop.index; kind = stop.kind }

-- The last run of `rest` was decoded to `written` bytes, or there is none.
abbrev pub DecodesLastRun : Base → List ℕ → List ℕ → Option ℕ → Type 0
DecodesLastRun base rest output (Some written) =
    (written ≤ length output) × IsLastRun base rest written output
DecodesLastRun base rest output None = HasNoLastRun base rest

-- The decoding stopped before a faulty group. A report of the fault of this group is a report of
-- the fault of the text.
pub record HasStopped (base : Base) (text output : List ℕ) (stop : Stop) : Type 0 where
  pub within : stop.read ≤ length text
  pub fits : stop.written ≤ length output
  pub inside : stop.index < length (kept base (drop stop.read text))
  pub room : is_length_fault stop.kind ≡ true
      → HasRoom base (drop stop.read text) (length output - stop.written)
  pub stops : (new : List ℕ) (partial : DecodePartial) → stop.written ≤ length new
      → take stop.written new ≡ take stop.written output
      → IsStop base (drop stop.read text) stop.read stop.written (fault_of_stop stop)
      new partial
      → StopsAt base text new partial

-- The decoding ended: at the end of the text without a fault, or at a faulty group.
abbrev pub HasEnded : Base → List ℕ → List ℕ → Stop → Bool → Type 0
HasEnded base text output stop true = IsDecoded base text stop.written output
HasEnded base text output stop false = HasStopped base text output stop

-- After a step from position `read`, more was read and there is more to read, or the decoding
-- ended.
abbrev pub HasStepped : Base → List ℕ → ℕ → List ℕ → Stop → Step → Type 0
HasStepped base text read output stop More =
    (read < stop.read) × HasDecodedTo base text stop.read stop.written false output
HasStepped base text read output stop Ended = HasEnded base text output stop true
HasStepped base text read output stop Faulty = HasEnded base text output stop false
