-- Text that is read and decoded piece by piece.
use Rattle.std.proofs.Common.{◌≡◌, ℕ, ◌+◌, ◌<◌, ◌≤◌, List, [], ◌++◌, Option, None, Some, IfSome, length, refl, sym, ap, ◌∙◌, subst, arith, append_assoc, length-append, Bool, true, false, ◌||◌, Result, Ok, Err, OnOk, is_err, IsTrue, take}
use Rattle.std.specs.Io.KnownBytes.{Appends, Consumes, IsAtEnd}
use Rattle.std.proofs.KnownBytes.{Appends-nil, Appends-trans, Consumes-nil, Consumes-trans, Consumes-whole}
use Rattle.data_encoding.specs.Base.{Base}
use Rattle.data_encoding.specs.Fault.{first_fault, sound_bytes}
use Rattle.data_encoding.specs.Fields.{IsSpecified}
use Rattle.data_encoding.specs.Grammar.{is_final}
use Rattle.data_encoding.specs.Pieces.{whole_bytes, whole_groups, unfinished, KeepsBytes, TellsBytes}
use Rattle.std.specs.List.{list_any}
use Rattle.std.proofs.lemmas.List.{take-append-le}
use Rattle.data_encoding.specs.declared.error.DecodeError.{DecodeError}
use Rattle.encoding_stream.specs.declared.error.StreamFault.{StreamFault}
use Rattle.encoding_stream.specs.declared.error.StreamFault.TheVariants.{Decode, Read, TooLong, Write}
use Rattle.encoding_stream.specs.declared.buffer_decoder.Kept.{Kept}
use Rattle.encoding_stream.specs.Decoded.{result_of, DecodesFront, EndsText}
use Rattle.encoding_stream.specs.Encoded.{ReadsMore}
use Rattle.encoding_stream.specs.BufferDecoder.{verdict_of, Keeps}
use Rattle.encoding_stream.specs.Reading.{ReadsOn}
use Rattle.encoding_stream.specs.Watch.{from_to, AppendsFront}
use Rattle.encoding_stream.proofs.WriteLemmas.{AppendsFront-all, AppendsFront-more, AppendsFront-within}

-- A text was read, this is kept of it, and the bytes of its whole groups were written.
pub record Decoded (base : Base) (kept : Kept)
    (read_old read_new written_old written_new : Option (List ℕ)) : Type 0 where
  pub text : List ℕ
  pub read : Consumes read_old read_new text
  pub keeps : Keeps base kept text
  pub written : Appends written_old written_new (whole_bytes base text)

module _ (base : Base) (specified : IsSpecified base) where
  pub decoded-nothing : whole_bytes base [] ≡ [] → (kept : Kept) → Keeps base kept []
      → (r v : Option (List ℕ)) → Decoded base kept r r v v
  decoded-nothing none kept keeps r v = record {
    text = [];
    read = Consumes-nil r;
    keeps = keeps;
    written = subst (Appends v v) (sym none) (Appends-nil v);
  }

  -- the bytes of its whole groups are a prefix of what any text decodes to, and of what any longer
  -- text does
  sound-of : TellsBytes → (text : List ℕ)
      → (more : List ℕ) × (sound_bytes base text ≡ whole_bytes base text ++ more)
  sound-of bytes_law text = (
    _,
    bytes_law base specified text (length text) (first_fault base (whole_groups base text))
        (unfinished base text) (list_any (is_final base) (whole_groups base text))
        (record { counted = refl; first = refl; holds = λ _. refl; ends = λ _. refl }),
  )

  longer-of : KeepsBytes → TellsBytes → (text rest : List ℕ)
      → (more : List ℕ) × (sound_bytes base (text ++ rest) ≡ whole_bytes base text ++ more)
  longer-of keeps bytes_law text rest =
      let whole = keeps base specified text rest in
      let sound = sound-of bytes_law (text ++ rest) in (
        whole.0 ++ sound.0,
        sound.1 ∙ ap (λ l. l ++ sound.0) whole.1
            ∙ append_assoc (whole_bytes base text) whole.0 sound.0,
      )

  module _ (keeps : KeepsBytes) (bytes_law : TellsBytes) where
    -- a prefix of the bytes of whole groups is a prefix of all that a reader has
    pub front-whole : (r s v w : Option (List ℕ)) (text : List ℕ) → Consumes r s text
        → AppendsFront v w (whole_bytes base text) → DecodesFront base (from_to r s) (from_to v w)
    front-whole r s v w text read front = record {
      text = text;
      read = read;
      written =
          let more = sound-of bytes_law text in
          subst (AppendsFront v w) (sym more.1)
          (AppendsFront-within v w (whole_bytes base text) more.0 front);
      of_all = all r s read;
    }
      where
        all : (r s : Option (List ℕ)) → Consumes r s text
            → IfSome r (λ all. AppendsFront v w (sound_bytes base all))
        all None s read = tt
        all (Some whole) None read = absurd read
        all (Some whole) (Some rest) read =
            let more = longer-of keeps bytes_law text rest in
            subst (λ l. AppendsFront v w (sound_bytes base l)) (sym read)
            (subst (AppendsFront v w) (sym more.1)
            (AppendsFront-within v w (whole_bytes base text) more.0 front))

  -- at the end of the reader a prefix of all is written
  pub front-all : (r s v w : Option (List ℕ)) (text : List ℕ) → Consumes r s text → IsAtEnd s
      → AppendsFront v w (sound_bytes base text) → DecodesFront base (from_to r s) (from_to v w)
  front-all r s v w text read at_end front = record {
    text = text;
    read = read;
    written = front;
    of_all =
        Consumes-whole r s text (λ l. AppendsFront v w (sound_bytes base l)) read at_end front;
  }

  module _ {old new : Kept} {r s t v w x : Option (List ℕ)} {more bytes : List ℕ}
      (so_far : Decoded base old r s v w) (read : Consumes s t more)
      (reads : ReadsOn base old new more bytes) where
    -- one more piece
    pub decoded-more : Appends w x bytes → Decoded base new r t v x
    decoded-more written = record {
      text = so_far.text ++ more;
      read = Consumes-trans r s t so_far.text more so_far.read read;
      keeps = reads.keeps so_far.text so_far.keeps;
      written =
          subst (Appends v x) (sym (reads.decodes so_far.text so_far.keeps))
          (Appends-trans v w x _ _ so_far.written written);
    }

    -- a prefix of one more piece
    pub decoded-front : KeepsBytes → TellsBytes → AppendsFront w x bytes
        → DecodesFront base (from_to r t) (from_to v x)
    decoded-front keeps bytes_law front =
        front-whole keeps bytes_law r t v x (so_far.text ++ more)
        (Consumes-trans r s t so_far.text more so_far.read read)
        (subst (AppendsFront v x) (sym (reads.decodes so_far.text so_far.keeps))
        (AppendsFront-more v w x (whole_bytes base so_far.text) bytes so_far.written front))

  -- nothing is written of what was read last
  pub decoded-only : KeepsBytes → TellsBytes → {kept : Kept} {r s t v w : Option (List ℕ)}
      → Decoded base kept r s v w → (more : List ℕ) → Consumes s t more
      → DecodesFront base (from_to r t) (from_to v w)
  decoded-only keeps bytes_law {kept} {r} {s} {t} {v} {w} so_far more read =
      let longer = keeps base specified so_far.text more in
      front-whole keeps bytes_law r t v w (so_far.text ++ more)
      (Consumes-trans r s t so_far.text more so_far.read read)
      (subst (AppendsFront v w) (sym longer.1)
      (AppendsFront-within v w (whole_bytes base so_far.text) longer.0
      (AppendsFront-all v w (whole_bytes base so_far.text) so_far.written)))

-- the last group
module _ {base : Base} {kept : Kept} {failed : Bool} {r s v w x : Option (List ℕ)}
    (so_far : Decoded base kept r s v w) (ends : EndsText base kept failed w x) where
  pub ended-all : failed ≡ false → Appends v x (sound_bytes base so_far.text)
  ended-all works =
      subst (Appends v x) (sym (ends.sound so_far.text so_far.keeps))
      (Appends-trans v w x _ _ so_far.written (ends.all works))

  pub ended-front : AppendsFront v x (sound_bytes base so_far.text)
  ended-front =
      subst (AppendsFront v x) (sym (ends.sound so_far.text so_far.keeps))
      (AppendsFront-more v w x (whole_bytes base so_far.text) ends.bytes so_far.written
      ends.begun)

-- all of the last group was written
pub ends-all : (base : Base) (kept : Kept) (failed : Bool) (v w : Option (List ℕ))
    (bytes : List ℕ)
    → ((text : List ℕ) → Keeps base kept text
    → sound_bytes base text ≡ whole_bytes base text ++ bytes)
    → Appends v w bytes → EndsText base kept failed v w
ends-all base kept failed v w bytes sound written = record {
  bytes = bytes;
  sound = sound;
  begun = AppendsFront-all v w bytes written;
  all = λ works. written;
}

-- more than the limit was read
pub decoded-past : {base : Base} {kept : Kept} {r s t v w : Option (List ℕ)}
    → Decoded base kept r s v w → (more : List ℕ) → Consumes s t more
    → (limit : ℕ) → limit < kept.len + length more → ReadsMore limit (from_to r t)
decoded-past {base} {kept} {r} {s} {t} {v} {w} so_far more read limit past = record {
  bytes = so_far.text ++ more;
  read = Consumes-trans r s t so_far.text more so_far.read read;
  more = omega (arith, past, length-append so_far.text more, so_far.keeps.counted);
}

-- what holds for all that a reader has, if more than the limit was read
pub past-few : (limit : ℕ) (r t : Option (List ℕ)) (P : List ℕ → Type 0)
    → ReadsMore limit (from_to r t) → IfSome r (λ text. length text ≤ limit → P text)
past-few limit None t P past = tt
past-few limit (Some all) None P past = absurd past.read
past-few limit (Some all) (Some rest) P past = λ few.
    let no : ⊥ =
    omega (arith, few, past.more, ap length past.read, length-append past.bytes rest) in
    absurd no

-- what reading a piece of a buffer has done
pub reads-buffer : (base here : Base) → here ≡ base → (old new : Kept) (buffer rest : List ℕ)
    (count : ℕ) (bytes : List ℕ) → count ≤ length buffer
    → ReadsOn here old new (take count (buffer ++ rest)) bytes
    → ReadsOn base old new (take count buffer) bytes
reads-buffer base here is old new buffer rest count bytes few reads =
    subst (λ b. ReadsOn b old new (take count buffer) bytes) is
    (subst (λ p. ReadsOn here old new p bytes) (take-append-le count buffer rest few) reads)

-- what holds of each value holds of the one that is there
pub each_some : {X : Type 0} {P : X → Type 0} (r : Option X) → ((x : X) → P x) → IfSome r P
each_some None all = tt
each_some (Some x) all = all x

-- a call that did not fail, and one that did
pub on-works : {A E P : Type 0} (result : Result A E) → false ≡ is_err result → OnOk result P → P
on-works (Ok value) works holds = holds
on-works (Err error) works holds = cc

pub has-failed : (before after err : Bool) → after ≡ (before || err) → before ≡ false
    → true ≡ err → after ≡ true
has-failed before after err is works failed = is ∙ ap (λ b. b || err) works ∙ sym failed

pub not-both : {P : Type 0} (failed : Bool) → failed ≡ true → failed ≡ false → P
not-both true is works = cc
not-both false is works = cc

-- what is returned for a verdict
pub answers-ok : (fault : Option DecodeError) (value : Unit {0})
    → Ok value ≡ verdict_of fault → Ok tt ≡ result_of fault
answers-ok None value is = refl
answers-ok (Some error) value is = cc

pub answers-error : (fault : Option DecodeError) (error : DecodeError)
    → Err error ≡ verdict_of fault → Err (Decode error) ≡ result_of fault
answers-error None error is = cc
answers-error (Some other) error is = cc

-- what is returned if a writer has failed, and otherwise
module _ (failed : Bool) (result : Result (Unit {0}) StreamFault) (fault : Option DecodeError)
    (write : IsTrue failed → result ≡ Err Write)
    (judged : failed ≡ false → result ≡ result_of fault) where
  pub end-ok : {P : Type 0} → (failed ≡ false → fault ≡ None → P) → OnOk result P
  end-ok {P} holds = by-cases failed fault refl refl
    where
      by-cases : (b : Bool) (f : Option DecodeError) → failed ≡ b → fault ≡ f → OnOk result P
      by-cases true f is same =
          subst (λ r. OnOk r P) (sym (write is)) tt
      by-cases false None is same =
          subst (λ r. OnOk r P) (sym (judged is ∙ ap result_of same)) (holds is same)
      by-cases false (Some error) is same =
          subst (λ r. OnOk r P) (sym (judged is ∙ ap result_of same)) tt

  pub end-error : (error : DecodeError) → result ≡ Err (Decode error)
      → (failed ≡ false) × (fault ≡ Some error)
  end-error error returned = by-cases failed fault refl refl
    where
      by-cases : (b : Bool) (f : Option DecodeError) → failed ≡ b → fault ≡ f
          → (failed ≡ false) × (fault ≡ Some error)
      by-cases true f is same =
          let no = sym returned ∙ write is in cc
      by-cases false None is same = let no = sym returned ∙ judged is ∙ ap result_of same in cc
      by-cases false (Some other) is same =
          let here = sym returned ∙ judged is ∙ ap result_of same in (is, cc)

  pub end-write : result ≡ Err Write → IsTrue failed
  end-write returned = by-cases failed fault refl refl
    where
      by-cases : (b : Bool) (f : Option DecodeError) → failed ≡ b → fault ≡ f → IsTrue failed
      by-cases true f is same = is
      by-cases false None is same = let no = sym returned ∙ judged is ∙ ap result_of same in cc
      by-cases false (Some other) is same =
          let no = sym returned ∙ judged is ∙ ap result_of same in cc

  pub end-other : (result ≡ Err Read → ⊥) × (result ≡ Err TooLong → ⊥)
  end-other = by-cases failed fault refl refl
    where
      by-cases : (b : Bool) (f : Option DecodeError) → failed ≡ b → fault ≡ f
          → (result ≡ Err Read → ⊥) × (result ≡ Err TooLong → ⊥)
      by-cases true f is same =
          let here = write is in (λ returned. cc, λ returned. cc)
      by-cases false None is same =
          let here = judged is ∙ ap result_of same in (λ returned. cc, λ returned. cc)
      by-cases false (Some other) is same =
          let here = judged is ∙ ap result_of same in (λ returned. cc, λ returned. cc)
