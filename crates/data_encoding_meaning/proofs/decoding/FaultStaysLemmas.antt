-- Faults of whole groups, whatever follows.
use Rattle.std.proofs.Common.{◌≡◌, ℕ, ◌+◌, ◌%◌, ◌≤◌, false, List, [], ◌++◌, length, Option, Some, None, refl, sym, ◌∙◌, arith, length-append}
use Rattle.std.specs.List.{list_any}
use Rattle.data_encoding_meaning.specs.declared.error.DecodeError.{DecodeError}
use Rattle.data_encoding_meaning.specs.text.Base.{Base, IsWidth, group_symbols}
use Rattle.data_encoding_meaning.specs.decoding.Fault.{fault_of, first_after, first_fault, or_else}
use Rattle.data_encoding_meaning.specs.text.Grammar.{Positioned, groups, is_final, kept}
use Rattle.data_encoding_meaning.specs.laws.Laws.{shifted}
use Rattle.data_encoding_meaning.specs.text.Lengths.{length_fault}
use Rattle.data_encoding_meaning.specs.decoding.Pieces.{HasRead, unfinished, whole_groups}
use Rattle.data_encoding_meaning.proofs.decoding.PieceLemmas.{HasRead-faulty, fault_of-read, or_none}
use Rattle.data_encoding_meaning.proofs.digits.WidthLemmas.{group_symbols-pos}
use Rattle.data_encoding_meaning.proofs.grammar.JoinFaultLemmas.{fault-after_whole}
use Rattle.data_encoding_meaning.proofs.grammar.LengthLemmas.{length_fault-none, whole-length}
use Rattle.data_encoding_meaning.proofs.grammar.PositionLemmas.{length-kept_plain}
use Rattle.data_encoding_meaning.proofs.grammar.SoundLemmas.{AreSound-none, ends_after, neither_fault}
use Rattle.data_encoding_meaning.proofs.lists.WholeRunLemmas.{whole_runs-all}

module _ (base : Base) (width : IsWidth base.width) (text : List ℕ) where
  abbrev size : ℕ
  size = group_symbols base.width

  -- what is kept of the text
  kept_of : HasRead base text (length text) (first_fault base (whole_groups base text))
      (unfinished base text) (list_any (is_final base) (whole_groups base text))
  kept_of = record {
    counted = refl;
    first = refl;
    holds = λ _. refl;
    ends = λ _. refl;
  }

  module _ (after : List ℕ) (error : DecodeError)
      (valid : length_fault base (length (text ++ after)) ≡ None) where
    pub group_fault-stays : first_fault base (whole_groups base text) ≡ Some error
        → fault_of base (text ++ after) ≡ Some error
    group_fault-stays h =
        let more = (HasRead-faulty base width text after (length text) (unfinished base text)
        (list_any (is_final base) (whole_groups base text)) error [] false (rw h at kept_of)).0 in
        fault_of-read base width (text ++ after) (length text + length after) [] false (Some error)
        more ∙ rw (← length-append text after, valid)

    -- if the text is whole groups, it has no other fault
    pub fault-stays : length (kept base text) % size ≡ 0 → fault_of base text ≡ Some error
        → fault_of base (text ++ after) ≡ Some error
    fault-stays whole h =
        let faults = first_fault base (whole_groups base text) in
        let no_length_fault = length_fault-none base (length text)
        (λ none. whole-length base width (length text)
        (rw (← length-kept_plain base text none) whole)) in
        let nothing = (whole_runs-all size (group_symbols-pos base.width width) (kept base text)
        whole).1 in
        let first : fault_of base text ≡ faults =
        fault_of-read base width text (length text) (unfinished base text)
        (list_any (is_final base) (whole_groups base text)) faults kept_of
        ∙ rw (no_length_fault, nothing) (or_none faults) in
        group_fault-stays (sym first ∙ h)

-- after whole groups without a fault, a fault is not before their end
pub fault-after : (base : Base) → IsWidth base.width → (text after : List ℕ)
    (error : DecodeError) → length (kept base text) % group_symbols base.width ≡ 0
    → fault_of base text ≡ None → fault_of base (text ++ after) ≡ Some error
    → length text ≤ error.position
fault-after base width text after error whole none h =
    later (or_else (length_fault base (length after))
    (first_after (ends_after base false gs) base (groups base after)))
    (sym (fault-after_whole base width text after whole (ends_after base false gs)
    (AreSound-none base false gs
    (neither_fault (length_fault base (length text)) (first_fault base gs) none).1)) ∙ h) where
      gs : List (List Positioned)
      gs = groups base text

      later : (o : Option DecodeError) → shifted (length text) o ≡ Some error
          → length text ≤ error.position
      later o e = grind arith
