-- Texts of BASE64URL_NOPAD and HEXLOWER, and texts without ignored bytes.
use Rattle.std.proofs.Common.{◌≡◌, ◌==◌, ◌&&◌, ◌%◌, not, cond, ℕ, true, false, List, ◌++◌, length, Option, Some, None, IfSome, is_some, sym, ap, ◌∙◌, arith}
use Rattle.std.proofs.lemmas.Bool.Decides.{nat_tests}
use Rattle.std.proofs.lemmas.List.{length-map}
use Rattle.std.proofs.lemmas.List.FromFn.{length-enumerate_from}
use Rattle.std.specs.List.{enumerate_from}
use Rattle.data_encoding.specs.declared.error.DecodeError.{DecodeError}
use Rattle.data_encoding.specs.declared.error.DecodeKind.TheVariants.{Length}
use Rattle.data_encoding.specs.Base.{Base, group_symbols, ignores_some}
use Rattle.data_encoding.specs.Fault.{fault_of, first_fault}
use Rattle.data_encoding.specs.FaultStays.{GroupFaultStays}
use Rattle.data_encoding.specs.Fields.{IsSpecified}
use Rattle.data_encoding.specs.Grammar.{Positioned, kept}
use Rattle.data_encoding.specs.Lengths.{greatest_valid_length, is_valid_count, length_fault}
use Rattle.data_encoding.specs.Pieces.{KeepsEach, whole_groups}
use Rattle.data_encoding.specs.Rules.{HasRules, plain_rules}

-- if no byte is ignored, each byte of the text is kept
pub length-kept : KeepsEach → (base : Base) → ignores_some base ≡ false → (text : List ℕ)
    → length (kept base text) ≡ length text
length-kept law base none text =
    ap length ((law base none).1 text)
    ∙ length-map (enumerate_from 0 text)
    (λ (p : ℕ × ℕ). let k : Positioned = record { position = p.0; byte = p.1 } in k)
    ∙ length-enumerate_from 0 text

-- the first fault of whole groups is the fault of each longer text
pub so_far : GroupFaultStays → (base : Base) → IsSpecified base → (front : List ℕ)
    (o : Option DecodeError) → o ≡ first_fault base (whole_groups base front)
    → IfSome o (λ error. (after : List ℕ) → length_fault base (length (front ++ after)) ≡ None
    → fault_of base (front ++ after) ≡ Some error)
so_far law base is front None h = tt
so_far law base is front (Some error) h = λ after. law base is front after error (sym h)

-- an even number of digits is a length of hexadecimal
pub even-length : (base : Base) → HasRules (plain_rules 4) base → (len : ℕ) → len % 2 ≡ 0
    → length_fault base len ≡ None
even-length base rules len even =
    let valid : is_valid_count 4 len ≡ true = grind (arith, nat_tests) in
    (λ i. cond (not (rules.ignores i)
    && not (cond (is_some (rules.padding i)) (len % group_symbols base.width == 0)
    (is_valid_count (rules.width i) len)))
    (Some (record { position = greatest_valid_length base len; kind = Length })) None)
    ∙ ap (λ b. cond (not b) (Some (record {
      position = greatest_valid_length base len;
      kind = Length;
    })) None) valid
