-- Lines of base64 whose decoding is resumed.
use Rattle.std.proofs.Common.{◌≡◌, ℕ, Bool, true, false, List, ◌++◌, length, take, inl, None, Result, Ok, Err, refl, sym, ap, subst, ◌∙◌}
use Rattle.std.proofs.Math.Seq.{drop-length, take-append_seam, take-length}
use Rattle.data_encoding.specs.declared.specification.meanings.Refusal.{Refusal}
use Rattle.data_encoding.specs.Base.{Base, ignores_some, is_padded}
use Rattle.data_encoding.specs.Fault.{fault_of, sound_bytes}
use Rattle.data_encoding.specs.Fields.{IsSpecified, base_of}
use Rattle.data_encoding.specs.Grammar.{Means}
use Rattle.data_encoding.specs.Laws.{JoinDecode, JoinFault, MayBeFollowed, Resumes, shifted}
use Rattle.data_encoding.specs.Lengths.{length_fault}
use Rattle.data_encoding.specs.Predefined.{base64_mime_fields}

-- a prefix of an output that was written to
pub front-kept : (n len : ℕ) (output rest : List ℕ) → length output ≡ len
    → take n (take len (output ++ rest)) ≡ take n output
front-kept n len output rest is =
    ap (take n) (subst (λ m. take m (output ++ rest) ≡ output) is (take-append_seam output rest))

-- a test of the base, if there is one
tested : (Base → Bool) → Result Base Refusal → Bool
tested test (Ok base) = test base
tested test (Err refusal) = false

ignoring_computed : tested ignores_some (base_of base64_mime_fields) ≡ true
unfolding tested
ignoring_computed = refl

padded_computed : tested is_padded (base_of base64_mime_fields) ≡ true
unfolding tested
padded_computed = refl

joining_computed : tested (λ base. base.concatenates) (base_of base64_mime_fields) ≡ true
unfolding tested
joining_computed = refl

module _ (base : Base) (is : base_of base64_mime_fields ≡ Ok base) where
  lines-ignore : ignores_some base ≡ true
  unfolding tested
  lines-ignore = sym (ap (tested ignores_some) is) ∙ ignoring_computed

  -- no length is a fault
  pub lines-length : (len : ℕ) → length_fault base len ≡ None
  lines-length len = rw lines-ignore refl

  -- another text may follow any
  pub lines-follow : (text : List ℕ) → MayBeFollowed base text
  unfolding tested
  lines-follow text =
      inl (
        sym (ap (tested is_padded) is) ∙ padded_computed,
        inl (sym (ap (tested (λ base. base.concatenates)) is) ∙ joining_computed),
      )

-- a piece that means data is read to its end
module _ (base : Base) (is : IsSpecified base) (join : JoinDecode) (fault : JoinFault) where
  pub joined-resumes : (piece next bytes : List ℕ) → MayBeFollowed base piece
      → Means base piece bytes → Resumes base piece next (length piece) bytes
  joined-resumes piece next bytes follows means =
      let both = fault base is piece next bytes follows means in
      let none = drop-length piece in
      record {
        read_means = subst (λ t. Means base t bytes) (sym (take-length piece)) means;
        rest_means = λ more other.
            join base is piece next bytes more follows means
            (subst (λ t. Means base (t ++ next) more) none other);
        fault =
            both.0
            ∙ ap (λ t. shifted (length piece) (fault_of base (t ++ next))) (sym none);
        sound = both.1 ∙ ap (λ t. bytes ++ sound_bytes base (t ++ next)) (sym none);
      }
