-- Calls about the names of the predefined encodings.
use Rattle.std.specs.Prelude.{◌≡◌, ℕ, ◌≤◌, List, length, Some, None}
use Rattle.data_encoding.specs.Named.{name_numbered, number_named}
use Rattle.data_encoding_calls.specs.Calls.{WritesFront}
use Rattle.data_encoding_calls.specs.Status.{ok, unknown_encoding, short_buffer}

-- The call wrote the name with the given number to the start of the output, or failed and changed
-- nothing. No name has more than 22 bytes.
pub record WritesName (number : ℕ) (output_old output_new : List ℕ)
    (written_old written_new answer : ℕ) : Type 0 where
  pub known : (name : List ℕ) → name_numbered number ≡ Some name
      → WritesFront name output_old output_new written_old written_new answer
  pub unknown : name_numbered number ≡ None → (answer ≡ unknown_encoding)
      × (output_new ≡ output_old) × (written_new ≡ written_old)
  pub fits : 22 ≤ length output_old → answer ≡ short_buffer → ⊥

-- The call wrote the number of the given name, or failed and changed nothing.
pub record FindsNumber (name : List ℕ) (old new answer : ℕ) : Type 0 where
  pub known : (found : ℕ) → number_named name ≡ Some found → (answer ≡ ok) × (new ≡ found)
  pub unknown : number_named name ≡ None → (answer ≡ unknown_encoding) × (new ≡ old)
