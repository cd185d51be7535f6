-- Texts that are written in calls.
use Rattle.std.proofs.Common.{◌≡◌, ℕ, ◌%◌, ◌≤◌, Result, Ok, Err, IsOk, OnOk, List, [], ◌∷◌, ◌++◌, length, take, drop, ap, subst, arith, append_assoc, take-append-drop, length-take-le}
use Rattle.std.proofs.Output.{has_written_append, writes_in_calls_append, writes_in_calls_nil, writes_in_calls_single}
use Rattle.std.proofs.lemmas.List.{length-drop, nil_from_length}
use Rattle.std.specs.Fmt.{HasWritten, IsPlainFormatter, WritesInCalls}
use Rattle.std.specs.List.{FoldsTo, concat}
use Rattle.std.specs.declared.fmt.Formatter.{Formatter}
use Rattle.data_encoding_meaning.specs.text.Base.{Base}
use Rattle.data_encoding_meaning.specs.text.Lengths.{alignment}
use Rattle.data_encoding_meaning.specs.text.Text.{text_of}
use Rattle.data_encoding_meaning.proofs.judgement.RuleLemmas.{IsRuled}
use Rattle.data_encoding_meaning.proofs.text.LineLemmas.{text_of-nil}
use Rattle.data_encoding_meaning.proofs.text.TextJoinLemmas.{text_of-join}

-- whole blocks, followed by the others
text_of-split : (base : Base) → IsRuled base → (input : List ℕ) (n : ℕ) → n ≤ length input
    → n % alignment base ≡ 0
    → text_of base input ≡ text_of base (take n input) ++ text_of base (drop n input)
text_of-split base ruled input n within whole =
    rw take-append-drop
    at (text_of-join base ruled (take n input) (drop n input)
    (rw (length-take-le n input within) whole))

module _ {W : Type 0} (gives : W → List ℕ → W → Type 0) where
  call-more : (first now next : W) (done more : List ℕ) → WritesInCalls gives first done now
      → gives now more next → WritesInCalls gives first (done ++ more) next
  call-more first now next done more calls call =
      writes_in_calls_append gives first done now more next calls
      (writes_in_calls_single gives now more next call)

  -- nothing is the text of no data
  pub written-nothing : (base : Base) → IsRuled base → (input : List ℕ) → length input ≡ 0
      → (now : W) → WritesInCalls gives now (text_of base input) now
  written-nothing base ruled input none now =
      rw (nil_from_length input none, text_of-nil base ruled) (writes_in_calls_nil gives now)

  -- What is written and the text of the rest are the text of all.
  pub record IsWrittenBefore (base : Base) (input rest : List ℕ) (first now : W) : Type 0 where
    pub done : List ℕ
    pub calls : WritesInCalls gives first done now
    pub whole : done ++ text_of base rest ≡ text_of base input
    pub within : length rest ≤ length input

  pub written-next : (base : Base) → IsRuled base → (input rest : List ℕ) (first now : W)
      → IsWrittenBefore base input rest first now
      → (n : ℕ) → n ≤ length rest → n % alignment base ≡ 0
      → (piece others : List ℕ) → piece ≡ take n rest → others ≡ drop n rest
      → (next : W) → gives now (text_of base piece) next
      → IsWrittenBefore base input others first next
  written-next base ruled input rest first now before n within whole piece others piece-is
      others-is next call =
      let split : text_of base rest ≡ text_of base piece ++ text_of base others =
      rw (piece-is, others-is) (text_of-split base ruled rest n within whole) in
      record {
        done = before.done ++ text_of base piece;
        calls = call-more first now next before.done (text_of base piece) before.calls call;
        whole =
            rw (append_assoc before.done (text_of base piece) (text_of base others), ← split)
            before.whole;
        within = omega (arith, ap length others-is, length-drop n rest, before.within);
      }

  pub written-all : (base : Base) (input rest : List ℕ) (first now last : W)
      → IsWrittenBefore base input rest first now → gives now (text_of base rest) last
      → WritesInCalls gives first (text_of base input) last
  written-all base input rest first now last before call =
      subst (λ l. WritesInCalls gives first l last) before.whole
      (call-more first now last before.done (text_of base rest) before.calls call)

  -- what a call of a formatter says that formats as `{}` does
  abbrev Formats : Formatter W → List ℕ → Formatter W → Type 0
  Formats now part next = IsPlainFormatter now → HasWritten gives now part next

  formatted-parts : (parts : List (List ℕ)) (first last : Formatter W) → IsPlainFormatter first
      → FoldsTo Formats first parts last → HasWritten gives first (concat parts) last
  formatted-parts [] first last plain calls =
      subst (HasWritten gives first []) calls
      (record { wrote = writes_in_calls_nil gives first.writer; plain = plain })
  formatted-parts (part ∷ others) first last plain calls =
      let written = calls.1 plain in
      has_written_append gives first part calls.0 (concat others) last written
      (formatted-parts others calls.0 last written.plain calls.2)

  -- what is written to such a formatter is written to its writer
  pub formatted-all : (text : List ℕ) (first last : Formatter W) → IsPlainFormatter first
      → WritesInCalls Formats first text last → HasWritten gives first text last
  formatted-all text first last plain calls =
      subst (λ l. HasWritten gives first l last) calls.whole
      (formatted-parts calls.parts first last plain calls.calls)

-- what holds for a value, if there is one
pub of_ok : {T E P : Type 0} (r : Result T E) → IsOk r → OnOk r P → P
of_ok (Ok value) ok said = said
of_ok (Err error) ok said = cc
