-- Runs: consecutive whole groups of symbols only.
use Rattle.std.specs.Prelude.{◌≡◌, ℕ, ◌*◌, ◌<◌, ◌≤◌, true, List, length, take, slice_index}
use Rattle.data_encoding_meaning.specs.declared.encoding.BitOrder.{BitOrder}
use Rattle.data_encoding_meaning.specs.text.Base.{Base, meaning, is_symbol, group_bytes, group_symbols}
use Rattle.data_encoding_kernel.specs.Tables.{Reads}
use Rattle.data_encoding_meaning.specs.decoding.Decoding.{run_bytes}

-- The first `count` groups of `part` are symbols only. The output starts with their bytes.
pub record IsRun (base : Base) (part : List ℕ) (count : ℕ) (old new : List ℕ) : Type 0 where
  pub within : count * group_symbols base.width ≤ length part
  pub are_symbols : (k : ℕ) → k < count * group_symbols base.width
      → is_symbol (meaning base (slice_index part k)) ≡ true
  pub bytes : take (count * group_bytes base.width) new
      ≡ run_bytes base (take (count * group_symbols base.width) part)

-- The run is one for each base that decodes with the given table, width and order.
abbrev pub IsRunBy : List ℕ → ℕ → BitOrder → List ℕ → ℕ → List ℕ → List ℕ → Type 0
IsRunBy values width order part count old new =
    (base : Base) → Reads base values width order → IsRun base part count old new
