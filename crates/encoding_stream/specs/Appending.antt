-- The bytes that a piece of a text, or its end, appends to an output.
use Rattle.std.specs.Prelude.{◌≡◌, ℕ, List, ◌++◌, vec_capacity}
use Rattle.std.specs.declared.vec.Vec.{Vec}

-- The decoded bytes grew, and the new ones were appended to the output.
pub record AppendsDecoded (decoded_old decoded_new output_old output_new : List ℕ) : Type 0 where
  pub bytes : List ℕ
  pub decoded : decoded_new ≡ decoded_old ++ bytes
  pub appended : output_new ≡ output_old ++ bytes

-- The bytes and the capacity of the output are as before.
pub record IsAsBefore {A : Type 0} (old new : Vec ℕ A) : Type 0 where
  pub items : new.items ≡ old.items
  pub capacity : vec_capacity new ≡ vec_capacity old
