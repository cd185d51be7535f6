-- The result of decoding a text with a known fault.
use Rattle.std.proofs.Common.{IfOk, IfErr, ◌⊎◌, inl, inr, length, ◌≡◌, ℕ, List, codes, Option, Some, None, Result, Ok, Err, refl, sym, ap, ◌∙◌}
use Rattle.data_encoding.specs.declared.error.DecodeError.{DecodeError}
use Rattle.data_encoding.specs.declared.error.DecodeKind.{DecodeKind}
use Rattle.data_encoding.specs.declared.error.DecodeKind.TheVariants.{Length, Symbol}
use Rattle.data_encoding.specs.declared.error.DecodeFault.{DecodeFault}
use Rattle.data_encoding.specs.declared.error.DecodeFault.TheVariants.{Error, OutOfMemory}
use Rattle.data_encoding.specs.declared.specification.meanings.Refusal.{Refusal}
use Rattle.data_encoding.specs.Base.{Base}
use Rattle.data_encoding.specs.Fault.{fault_of, first_fault, or_else, IsRefusal}
use Rattle.data_encoding.specs.Fields.{base_of}
use Rattle.data_encoding.specs.Grammar.{groups}
use Rattle.data_encoding.specs.Lengths.{length_fault, unless_fault}
use Rattle.data_encoding.specs.Predefined.{hexlower_fields}

abbrev pub error_at : DecodeKind → ℕ → DecodeError
error_at kind position = record { position = position; kind = kind }

-- faults by the base of some fields, which are computed
fault_by_fields : Result Base Refusal → List ℕ → Option DecodeError
fault_by_fields (Ok base) text = fault_of base text
fault_by_fields (Err refusal) text = None

length_fault_by_fields : Result Base Refusal → ℕ → Option DecodeError
length_fault_by_fields (Ok base) len = length_fault base len
length_fault_by_fields (Err refusal) len = None

symbol_computed : fault_by_fields (base_of hexlower_fields) (codes "4G") ≡ Some (error_at Symbol 1)
unfolding fault_by_fields
symbol_computed = refl

length_computed : length_fault_by_fields (base_of hexlower_fields) 3 ≡ Some (error_at Length 2)
unfolding length_fault_by_fields
length_computed = refl

module _ (base : Base) (is : base_of hexlower_fields ≡ Ok base) where
  pub hexlower-symbol : fault_of base (codes "4G") ≡ Some (error_at Symbol 1)
  unfolding fault_by_fields
  hexlower-symbol = sym (ap (λ r. fault_by_fields r (codes "4G")) is) ∙ symbol_computed

  pub hexlower-length : length_fault base 3 ≡ Some (error_at Length 2)
  unfolding length_fault_by_fields
  hexlower-length = sym (ap (λ r. length_fault_by_fields r 3) is) ∙ length_computed

one-fault : (o : Option DecodeError) (error other : DecodeError) → o ≡ Some error → o ≡ Some other
    → other ≡ error
one-fault o error other h k = cc

some-not-none : (o : Option DecodeError) (error : DecodeError) → o ≡ Some error → o ≡ None → ⊥
some-not-none o error h k = cc

-- a length that is refused has a fault
pub length-of-refusal : (o : Option DecodeError) (len : ℕ) (error : DecodeError)
    → unless_fault o len ≡ Err error → o ≡ Some error
length-of-refusal None len error h = cc
length-of-refusal (Some fault) len error h = cc

-- a fault is not a lack of memory
pub error-not-memory : {A : Type 0} (result : Result A DecodeFault) (fault : DecodeFault)
    (error : DecodeError) → fault ≡ Error error → result ≡ Err fault → result ≡ Err OutOfMemory → ⊥
error-not-memory result fault error is h k = cc

module _ (base : Base) (text : List ℕ) (error : DecodeError) where
  -- the fault of a length is the fault of each text of this length
  pub fault-length : length_fault base (length text) ≡ Some error → fault_of base text ≡ Some error
  fault-length h = ap (λ o. or_else o (first_fault base (groups base text))) h

  module _ {A : Type 0} (Q : A → Type 0) where
    -- the fault is returned, if there is memory
    pub refused : (result : Result A DecodeFault) → fault_of base text ≡ Some error
        → IfOk result (λ a. (fault_of base text ≡ None) × Q a)
        → IfErr result (IsRefusal base text)
        → (result ≡ Err (Error error)) ⊎ (result ≡ Err OutOfMemory)
    refused (Ok a) f h k = absurd (some-not-none (fault_of base text) error f h.0)
    refused (Err (Error other)) f h k =
        inl (ap (λ e. Err (Error e)) (one-fault (fault_of base text) error other f k))
    refused (Err OutOfMemory) f h k = inr refl

    -- the fault of a length is returned even without memory
    pub refused-length : (result : Result A DecodeFault)
        → length_fault base (length text) ≡ Some error
        → IfOk result (λ a. (fault_of base text ≡ None) × Q a)
        → IfErr result (IsRefusal base text) → result ≡ Err (Error error)
    refused-length (Ok a) f h k =
        absurd (some-not-none (fault_of base text) error (fault-length f) h.0)
    refused-length (Err (Error other)) f h k =
        ap (λ e. Err (Error e)) (one-fault (fault_of base text) error other (fault-length f) k)
    refused-length (Err OutOfMemory) f h k =
        absurd (some-not-none (length_fault base (length text)) error f k.0)
