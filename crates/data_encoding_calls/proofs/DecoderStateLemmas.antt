-- Texts in pieces, of which a caller keeps plain numbers.
use Rattle.std.proofs.Common.{◌≡◌, nat_lt, inl, inr, ◌⊎◌, ℕ, ◌+◌, ◌<◌, ◌≤◌, Bool, if◌then◌else◌, List, ◌++◌, length, take, drop, length-take-le, Option, None, Some, IsSome, IfErr, Result, Ok, Err, refl, sym, ap, ◌∙◌, subst, arith}
use Rattle.std.proofs.lemmas.Bool.{le-ltb, lt-ltb}
use Rattle.std.proofs.lemmas.List.{length-append, length-drop, take-append-le, take_all}
use Rattle.std.proofs.lemmas.Slice.{drop-append-drop}
use Rattle.data_encoding.specs.declared.error.DecodeError.{DecodeError}
use Rattle.data_encoding.specs.declared.error.DecodeKind.{DecodeKind}
use Rattle.data_encoding.specs.declared.error.DecodeKind.TheVariants.{Length, Symbol, Trailing, Padding}
use Rattle.data_encoding.specs.Base.{Base}
use Rattle.data_encoding.specs.Fault.{fault_of, sound_bytes}
use Rattle.data_encoding.specs.Pieces.{whole_bytes}
use Rattle.encoding_stream.specs.declared.buffer_decoder.BufferDecoder.{BufferDecoder}
use Rattle.encoding_stream.specs.declared.buffer_decoder.Kept.{Kept}
use Rattle.encoding_stream.specs.BufferDecoder.{most_completed, verdict_of, Keeps}
use Rattle.encoding_stream.specs.Reading.{HasLastBytes}
use Rattle.data_encoding_calls.specs.declared.decoder_state.PlainKept.{PlainKept}
use Rattle.data_encoding_calls.specs.DecoderState.{fault_told, kept_told, kept_with, text_piece_status, Places, ReadsPiece, WasGiven}
use Rattle.data_encoding_calls.specs.Status.{ok, short_buffer, status_of_kind, too_long}

-- if no decoder continues, it was given no text
pub none-consumed : (base : Base) (plain : PlainKept) (found : Option BufferDecoder)
    → found ≡ None → ((text : List ℕ) → WasGiven base plain text → IsSome found)
    → (text : List ℕ) → WasGiven base plain text → ⊥
none-consumed base plain found is law text consumed =
    let none : IsSome {T = BufferDecoder} None = subst IsSome is (law text consumed) in
    absurd (cc none)

one-kept : {a b : Kept} → Some a ≡ Some b → a ≡ b
one-kept is = cc

-- the length of the text that the numbers describe
kept-with-len : (plain : PlainKept) (fault : Option (Option DecodeError)) (kept : Kept)
    → kept_with plain fault ≡ Some kept → kept.len ≡ plain.len
kept-with-len plain None kept is_kept = absurd (cc is_kept)
kept-with-len plain (Some fault) kept is_kept = ap (λ k. k.len) (sym (one-kept is_kept))

pub kept-len : (plain : PlainKept) (kept : Kept) → kept_told plain ≡ Some kept
    → kept.len ≡ plain.len
kept-len plain kept is_kept =
    kept-with-len plain (fault_told plain.fault plain.fault_position) kept is_kept

-- the position of a fault, if a clause says that it is in the text
pub fault-inside : (len : ℕ) (verdict : Result (Unit {0}) DecodeError) (error : DecodeError)
    → verdict ≡ Err error → IfErr verdict (λ e. e.position < len) → error.position < len
fault-inside len verdict error is inside =
    subst (λ v. IfErr v (λ e. e.position < len)) is inside

-- a decoder that continues keeps what the caller does
pub consumed-kept : (base : Base) (plain : PlainKept) (kept : Kept) (text : List ℕ)
    → kept_told plain ≡ Some kept → (consumed : WasGiven base plain text)
    → (consumed.kept ≡ kept) × Keeps base kept text
consumed-kept base plain kept text is_kept consumed =
    let same : consumed.kept ≡ kept = one-kept (sym consumed.told ∙ is_kept) in
    (same, subst (λ k. Keeps base k text) same consumed.keeps)

-- a piece for which there is room
pub piece-fits : (base : Base) (kept : Kept) (len room : ℕ)
    → kept.len + len ≤ 2305843009213693951 → most_completed base kept len ≤ room
    → ok ≡ text_piece_status base kept len room
piece-fits base kept len room few fits =
    sym (ap (λ (long : Bool). if long then too_long
    else if nat_lt room (most_completed base kept len) then short_buffer else ok)
    (le-ltb 2305843009213693951 (kept.len + len) few)
    ∙ ap (λ (short : Bool). if short then short_buffer else ok)
    (le-ltb room (most_completed base kept len) fits))

-- a piece that makes the text too long, and one for which there is no room
pub piece-long : (base : Base) (kept : Kept) (len room : ℕ)
    → 2305843009213693951 < kept.len + len → too_long ≡ text_piece_status base kept len room
piece-long base kept len room many =
    sym (ap (λ (long : Bool). if long then too_long
    else if nat_lt room (most_completed base kept len) then short_buffer else ok)
    (lt-ltb 2305843009213693951 (kept.len + len) many))

pub piece-short : (base : Base) (kept : Kept) (len room : ℕ)
    → kept.len + len ≤ 2305843009213693951 → room < most_completed base kept len
    → short_buffer ≡ text_piece_status base kept len room
piece-short base kept len room few misses =
    sym (ap (λ (long : Bool). if long then too_long
    else if nat_lt room (most_completed base kept len) then short_buffer else ok)
    (le-ltb 2305843009213693951 (kept.len + len) few)
    ∙ ap (λ (short : Bool). if short then short_buffer else ok)
    (lt-ltb room (most_completed base kept len) misses))

-- a piece that was refused
pub refuses : (base : Base) (piece : List ℕ) (places : Places) (answer : ℕ)
    → (answer ≡ ok → ⊥)
    → ((text : List ℕ) (consumed : WasGiven base places.decoder text)
    → answer ≡ text_piece_status base consumed.kept (length piece) (length places.output))
    → ReadsPiece base piece places places answer
refuses base piece places answer refused status = record {
  status = status;
  stands = λ is. absurd (refused is);
  decodes = λ is. absurd (refused is);
  within = λ is. absurd (refused is);
  after = λ is. absurd (refused is);
  len = refl;
  refused = λ _. refl;
}

-- what a verdict says about the fault
pub fault-none : (fault : Option DecodeError) (verdict : Result (Unit {0}) DecodeError)
    (nothing : Unit {0}) → verdict ≡ Ok nothing → verdict ≡ verdict_of fault → fault ≡ None
fault-none None verdict nothing is judged = refl
fault-none (Some error) verdict nothing is judged = absurd (cc (is, judged))

pub fault-some : (fault : Option DecodeError) (verdict : Result (Unit {0}) DecodeError)
    (error : DecodeError) → verdict ≡ Err error → verdict ≡ verdict_of fault
    → fault ≡ Some error
fault-some None verdict error is judged = absurd (cc (is, judged))
fault-some (Some other) verdict error is judged = cc (is, judged)

pub one-error : {a b : DecodeError} → Some a ≡ Some b → a ≡ b
one-error is = cc

pub no-error : {error : DecodeError} → None ≡ Some error → ⊥
no-error is = absurd (cc is)

-- a faulty text has a status of its own
pub kind-own : (kind : DecodeKind) (n : ℕ) → (n ≡ 19) ⊎ (n ≡ 4) → status_of_kind kind ≡ n → ⊥
kind-own Length n (inl is) status_is = absurd (omega (arith, is, status_is))
kind-own Length n (inr is) status_is = absurd (omega (arith, is, status_is))
kind-own Symbol n (inl is) status_is = absurd (omega (arith, is, status_is))
kind-own Symbol n (inr is) status_is = absurd (omega (arith, is, status_is))
kind-own Trailing n (inl is) status_is = absurd (omega (arith, is, status_is))
kind-own Trailing n (inr is) status_is = absurd (omega (arith, is, status_is))
kind-own Padding n (inl is) status_is = absurd (omega (arith, is, status_is))
kind-own Padding n (inr is) status_is = absurd (omega (arith, is, status_is))

-- no fault has the status of none
pub kind-faulty : (kind : DecodeKind) → status_of_kind kind ≡ ok → ⊥
kind-faulty Length is = omega (arith, is)
kind-faulty Symbol is = omega (arith, is)
kind-faulty Trailing is = omega (arith, is)
kind-faulty Padding is = omega (arith, is)

-- What a copy to the start of an output leaves there.
record IsFront (written : ℕ) (last old new : List ℕ) : Type 0 where
  pub front : take written new ≡ take written last
  pub within : written ≤ length new
  pub after : drop written new ≡ drop written old
  pub len : length new ≡ length old

copied-front : (written : ℕ) (last copied output : List ℕ) → written ≤ length last
    → written ≤ length output → copied ≡ take written last
    → IsFront written last output (copied ++ drop written output)
copied-front written last copied output few inside is =
    let size : length copied ≡ written = ap length is ∙ length-take-le written last few in
    let all : length (copied ++ drop written output) ≡ length output =
    omega (
      arith,
      length-append copied (drop written output),
      length-drop written output,
      size,
      inside,
    ) in
    record {
      front =
          take-append-le written copied (drop written output) (omega (arith, size))
          ∙ take_all written copied (omega (arith, size))
          ∙ is;
      within = omega (arith, all, inside);
      after = drop-append-drop written output copied written (omega arith) size;
      len = all;
    }

-- What the end of a kept text leaves in an output, whatever the verdict.
pub record EndsKept (base : Base) (plain : PlainKept) (old new : List ℕ) (read written : ℕ)
    (verdict : Result (Unit {0}) DecodeError) : Type 0 where
  pub verdict_is : (text : List ℕ) → WasGiven base plain text
      → verdict ≡ verdict_of (fault_of base text)
  pub bytes : (text : List ℕ) → WasGiven base plain text
      → sound_bytes base text ≡ whole_bytes base text ++ take written new
  pub read_is : (text : List ℕ) → WasGiven base plain text → read ≡ length text
  pub within : written ≤ length new
  pub after : drop written new ≡ drop written old
  pub len : length new ≡ length old

-- what a decoder that keeps these numbers makes of the text
module _ {base : Base} {plain : PlainKept} {kept : Kept}
    (is_kept : kept_told plain ≡ Some kept) where
  pub ended : (last : List ℕ) {copied output : List ℕ} {read written : ℕ}
      {verdict : Result (Unit {0}) DecodeError}
      → ((text : List ℕ) → Keeps base kept text → verdict ≡ verdict_of (fault_of base text))
      → HasLastBytes base kept (take written last)
      → written ≤ length last → written ≤ length output → copied ≡ take written last
      → read ≡ kept.len
      → EndsKept base plain output (copied ++ drop written output) read written verdict
  ended last {copied} {output} {read} {written} judged bytes few inside is counted =
      let front = copied-front written last copied output few inside is in
      record {
        verdict_is = λ text consumed.
            judged text (consumed-kept base plain kept text is_kept consumed).1;
        bytes = λ text consumed.
            bytes text (consumed-kept base plain kept text is_kept consumed).1
            ∙ ap (λ more. whole_bytes base text ++ more) (sym front.front);
        read_is = λ text consumed.
            counted ∙ (consumed-kept base plain kept text is_kept consumed).1.counted;
        within = front.within;
        after = front.after;
        len = front.len;
      }
