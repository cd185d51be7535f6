-- Data that is read and encoded piece by piece.
use Rattle.std.proofs.Common.{◌≡◌, ℕ, ◌+◌, ◌%◌, ◌<◌, ◌≤◌, List, [], ◌++◌, Option, None, Some, IfSome, ◌⊎◌, inl, inr, length, refl, sym, ap, ◌∙◌, subst, arith, take, length-append, length-take-le}
use Rattle.std.specs.Io.KnownBytes.{Appends, Consumes, IsAtEnd}
use Rattle.std.proofs.KnownBytes.{Appends-nil, Appends-trans, Consumes-nil, Consumes-trans, Consumes-whole}
use Rattle.data_encoding.specs.Base.{Base}
use Rattle.data_encoding.specs.Fields.{IsSpecified}
use Rattle.data_encoding.specs.Laws.{JoinEncode}
use Rattle.data_encoding.specs.Lengths.{alignment}
use Rattle.data_encoding.specs.Text.{text_of}
use Rattle.encoding_stream.specs.Encoded.{EncodesAll, EncodesFront, ReadsMore}
use Rattle.encoding_stream.specs.Watch.{from_to, AppendsFront}
use Rattle.encoding_stream.proofs.BlockLemmas.{none-whole, text_of-nil, whole-both}
use Rattle.encoding_stream.proofs.WriteLemmas.{AppendsFront-all, AppendsFront-more, AppendsFront-nothing, AppendsFront-within}

-- Whole blocks of data were read and counted, and their text was written.
pub record Encoded (base : Base) (read_old read_new written_old written_new : Option (List ℕ))
    (count : ℕ) : Type 0 where
  pub bytes : List ℕ
  pub read : Consumes read_old read_new bytes
  pub written : Appends written_old written_new (text_of base bytes)
  pub counted : length bytes ≡ count
  pub whole : length bytes % alignment base ≡ 0

module _ (base : Base) (specified : IsSpecified base) (join : JoinEncode) where
  pub encoded-nothing : (r v : Option (List ℕ)) → Encoded base r r v v 0
  encoded-nothing r v = record {
    bytes = [];
    read = Consumes-nil r;
    written =
        subst (Appends v v) (sym (text_of-nil base specified join)) (Appends-nil v);
    counted = refl;
    whole = none-whole (alignment base);
  }

  -- a prefix of the text of the rest follows that of whole blocks
  front-of_all : (r s v w x : Option (List ℕ)) (bytes : List ℕ) → Consumes r s bytes
      → length bytes % alignment base ≡ 0 → Appends v w (text_of base bytes)
      → IfSome s (λ others. AppendsFront w x (text_of base others))
      → IfSome r (λ all. AppendsFront v x (text_of base all))
  front-of_all None s v w x bytes read whole written rest = tt
  front-of_all (Some all) None v w x bytes read whole written rest = absurd read
  front-of_all (Some all) (Some others) v w x bytes read whole written rest =
      subst (λ l. AppendsFront v x (text_of base l)) (sym read)
      (subst (AppendsFront v x) (sym (join base specified bytes others whole))
      (AppendsFront-more v w x (text_of base bytes) (text_of base others) written rest))

  -- a prefix of the text of whole blocks, or of all that was left
  pub front-of_rest : (s t w x : Option (List ℕ)) (more : List ℕ) → Consumes s t more
      → IsAtEnd t ⊎ (length more % alignment base ≡ 0) → AppendsFront w x (text_of base more)
      → IfSome s (λ others. AppendsFront w x (text_of base others))
  front-of_rest s t w x more read (inl at_end) front =
      Consumes-whole s t more (λ l. AppendsFront w x (text_of base l)) read at_end front
  front-of_rest None t w x more read (inr whole) front = tt
  front-of_rest (Some all) None w x more read (inr whole) front = absurd read
  front-of_rest (Some all) (Some others) w x more read (inr whole) front =
      subst (λ l. AppendsFront w x (text_of base l)) (sym read)
      (subst (AppendsFront w x) (sym (join base specified more others whole))
      (AppendsFront-within w x (text_of base more) (text_of base others) front))

  module _ (r s t v w : Option (List ℕ)) (n : ℕ) (so_far : Encoded base r s v w n)
      (more : List ℕ) (read : Consumes s t more) where
    joined : text_of base so_far.bytes ++ text_of base more
        ≡ text_of base (so_far.bytes ++ more)
    joined = sym (join base specified so_far.bytes more so_far.whole)

    length-joined : length (so_far.bytes ++ more) ≡ n + length more
    length-joined =
        length-append so_far.bytes more ∙ ap (λ k. k + length more) so_far.counted

    -- more whole blocks
    pub encoded-more : (x : Option (List ℕ)) → length more % alignment base ≡ 0
        → Appends w x (text_of base more) → Encoded base r t v x (n + length more)
    encoded-more x whole written = record {
      bytes = so_far.bytes ++ more;
      read = Consumes-trans r s t so_far.bytes more so_far.read read;
      written = subst (Appends v x) joined (Appends-trans v w x _ _ so_far.written written);
      counted = length-joined;
      whole =
          ap (λ k. k % alignment base) (length-append so_far.bytes more)
          ∙ whole-both (length so_far.bytes) (length more) (alignment base) so_far.whole whole;
    }

    -- the end, after the rest
    pub encoded-all : (x : Option (List ℕ)) → IsAtEnd t → Appends w x (text_of base more)
        → EncodesAll base (from_to r t) (from_to v x)
    encoded-all x at_end written = record {
      bytes = so_far.bytes ++ more;
      read = Consumes-trans r s t so_far.bytes more so_far.read read;
      at_end = at_end;
      written = subst (Appends v x) joined (Appends-trans v w x _ _ so_far.written written);
    }

    -- some more bytes, and a prefix of their text and of that of all the others
    pub encoded-front : (x : Option (List ℕ)) → AppendsFront w x (text_of base more)
        → IfSome s (λ others. AppendsFront w x (text_of base others))
        → EncodesFront base (from_to r t) (from_to v x)
    encoded-front x written others = record {
      bytes = so_far.bytes ++ more;
      read = Consumes-trans r s t so_far.bytes more so_far.read read;
      written =
          subst (AppendsFront v x) joined (AppendsFront-more v w x _ _ so_far.written written);
      of_all =
          front-of_all r s v w x so_far.bytes so_far.read so_far.whole so_far.written others;
    }

    -- more bytes than are counted
    pub encoded-past : (limit : ℕ) → limit < n + length more → ReadsMore limit (from_to r t)
    encoded-past limit past = record {
      bytes = so_far.bytes ++ more;
      read = Consumes-trans r s t so_far.bytes more so_far.read read;
      more = omega (arith, length-joined, past);
    }

-- a buffer has the bytes that were asked for after it was read into
pub filled-len : {asked piece room : ℕ} (old new : List ℕ) → length new ≡ length (take asked old)
    → asked ≤ piece → piece ≤ room → length old ≡ room → length new ≡ asked
filled-len {asked} {piece} {room} old new same few fits size =
    same ∙ length-take-le asked old (omega (arith, few, fits, size))

-- nothing is a prefix of any text
pub front-nothing : (base : Base) (s w : Option (List ℕ))
    → IfSome s (λ others. AppendsFront w w (text_of base others))
front-nothing base None w = tt
front-nothing base (Some others) w = AppendsFront-nothing w (text_of base others)

-- what all that a reader has is, if that is known
pub all-known : (base : Base) (r t v x : Option (List ℕ)) → EncodesAll base (from_to r t)
    (from_to v x)
    → IfSome r (λ bytes. Appends v x (text_of base bytes))
all-known base r t v x all =
    Consumes-whole r t all.bytes (λ bytes. Appends v x (text_of base bytes)) all.read all.at_end
    all.written

-- all is a prefix
pub all-front : (base : Base) (r t v x : Option (List ℕ)) → EncodesAll base (from_to r t)
    (from_to v x)
    → EncodesFront base (from_to r t) (from_to v x)
all-front base r t v x all =
    let front = AppendsFront-all v x (text_of base all.bytes) all.written in
    record {
      bytes = all.bytes;
      read = all.read;
      written = front;
      of_all =
          Consumes-whole r t all.bytes (λ l. AppendsFront v x (text_of base l)) all.read all.at_end
          front;
    }
