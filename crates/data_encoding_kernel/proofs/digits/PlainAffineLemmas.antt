-- An affine form as plain data: the test of its entries.
use Rattle.std.proofs.Common.{◌≡◌, ℕ, zero, suc, ◌+◌, ◌<◌, ◌≤◌, true, List, [], ◌∷◌, length, length-take-le, take, slice_index, refl, subst, arith}
use Rattle.std.proofs.lemmas.Bool.Decides.{nat_tests}
use Rattle.std.proofs.lemmas.List.{get_or-take}
use Rattle.std.specs.Cmp.{first_so, second_so}
use Rattle.data_encoding_kernel.specs.declared.simd.decode.affine.Affine.{Affine}
use Rattle.data_encoding_kernel.specs.Affine.{AgreesWith, affine_entry, agrees_from, is_exact}
use Rattle.data_encoding_kernel.specs.Values.{IsExact}

-- the test of one entry
exact-passed : (found entry : ℕ) → is_exact found entry ≡ true → IsExact found entry
exact-passed found entry h = record {
  found_is = λ low. grind (arith, nat_tests, h, low);
  entry_is = λ low. grind (arith, nat_tests, h, low);
}

passes-exact : (found entry : ℕ) → IsExact found entry → is_exact found entry ≡ true
passes-exact found entry exact = grind (arith, nat_tests, exact.found_is, exact.entry_is)

module _ (affine : Affine) where
  entries-agree : (byte : ℕ) (entries : List ℕ) → agrees_from affine byte entries ≡ true
      → (k : ℕ) → k < length entries
      → IsExact (affine_entry affine (byte + k)) (slice_index entries k)
  entries-agree byte [] h k few = absurd (omega (arith, few))
  entries-agree byte (entry ∷ entries) h zero few =
      let here : byte + 0 ≡ byte = omega arith in
      rw here (exact-passed (affine_entry affine byte) entry
      (first_so (is_exact (affine_entry affine byte) entry) (agrees_from affine (byte + 1) entries)
      h))
  entries-agree byte (entry ∷ entries) h (suc k) few =
      let next : byte + suc k ≡ byte + 1 + k = omega arith in
      rw next (entries-agree (byte + 1) entries
      (second_so (is_exact (affine_entry affine byte) entry)
      (agrees_from affine (byte + 1) entries) h)
      k (omega (arith, few)))

  agreed-from : (byte : ℕ) (entries : List ℕ)
      → ((k : ℕ) → k < length entries
      → IsExact (affine_entry affine (byte + k)) (slice_index entries k))
      → agrees_from affine byte entries ≡ true
  agreed-from byte [] each = refl
  agreed-from byte (entry ∷ entries) each =
      let here : byte + 0 ≡ byte = omega arith in
      let first : is_exact (affine_entry affine byte) entry ≡ true =
      passes-exact (affine_entry affine byte) entry (rw here at (each 0 (omega arith))) in
      let others : agrees_from affine (byte + 1) entries ≡ true =
      agreed-from (byte + 1) entries
      (λ k few.
      let next : byte + suc k ≡ byte + 1 + k = omega arith in
      rw next at (each (suc k) (omega (arith, few)))) in
      rw (first, others) refl

  -- the test passes exactly if the form is right for the table
  pub agrees-holds : (values : List ℕ) → 128 ≤ length values
      → agrees_from affine 0 (take 128 values) ≡ true → AgreesWith values affine
  agrees-holds values long h byte few =
      let here : 0 + byte ≡ byte = omega arith in
      let found = entries-agree 0 (take 128 values) h byte
      (omega (arith, few, length-take-le 128 values long)) in
      subst (IsExact (affine_entry affine byte)) (get_or-take 128 values byte 0 few)
      (rw here at found)

  pub holds-agrees : (values : List ℕ) → 128 ≤ length values → AgreesWith values affine
      → agrees_from affine 0 (take 128 values) ≡ true
  holds-agrees values long held =
      agreed-from 0 (take 128 values)
      (λ byte inside.
      let here : 0 + byte ≡ byte = omega arith in
      let few : byte < 128 = omega (arith, inside, length-take-le 128 values long) in
      rw (here, get_or-take 128 values byte 0 few) (held byte few))
