-- Data in pieces, of which a caller keeps plain numbers: which status is returned.
use Rattle.std.proofs.Common.{◌≡◌, nat_lt, ℕ, ◌<◌, ◌≤◌, Bool, if◌then◌else◌, List, ◌++◌, length, take, drop, length-take-le, refl, sym, ap, ◌∙◌, take-append-drop}
use Rattle.std.proofs.lemmas.Bool.{le-ltb, lt-ltb}
use Rattle.data_encoding.specs.Base.{Base}
use Rattle.data_encoding.specs.Lengths.{alignment}
use Rattle.data_encoding.specs.Text.{text_of}
use Rattle.data_encoding.specs.declared.encode.kept_data.KeptData.{KeptData}
use Rattle.data_encoding.specs.KeptData.{held_data, piece_text}
use Rattle.data_encoding_calls.specs.EncoderState.{data_piece_status, if_kept, last_text, DataPlaces, EncodesPiece}
use Rattle.data_encoding_calls.specs.Calls.{front_status, over, WritesFront}
use Rattle.data_encoding_calls.specs.Status.{no_encoder, ok, short_buffer, too_long}

-- what a test of two numbers chooses
pub if-less : (a b x y : ℕ) → a < b → x ≡ (if nat_lt a b then x else y)
if-less a b x y less = sym (ap (λ (t : Bool). if t then x else y) (lt-ltb a b less))

pub if-not : (a b x y : ℕ) → b ≤ a → y ≡ (if nat_lt a b then x else y)
if-not a b x y few = sym (ap (λ (t : Bool). if t then x else y) (le-ltb a b few))

-- the status where less than a block is held
pub if-short : (base : Base) (kept : KeptData) (status : ℕ) → kept.count < alignment base
    → status ≡ if_kept base kept status
if-short base kept status short = if-less kept.count (alignment base) status no_encoder short

-- that of a piece, by its length and then by the room for its text
module _ (base : Base) (kept : KeptData) (piece : List ℕ) (room : ℕ)
    (short : kept.count < alignment base) where
  pub status-long : 36028797018963967 < length piece
      → too_long ≡ if_kept base kept (data_piece_status base kept piece room)
  status-long long =
      if-less 36028797018963967 (length piece) too_long
      (front_status (piece_text base kept piece) room) long
      ∙ if-short base kept (data_piece_status base kept piece room) short

  pub status-by-room : length piece ≤ 36028797018963967
      → front_status (piece_text base kept piece) room
      ≡ if_kept base kept (data_piece_status base kept piece room)
  status-by-room few =
      if-not 36028797018963967 (length piece) too_long
      (front_status (piece_text base kept piece) room) few
      ∙ if-short base kept (data_piece_status base kept piece room) short

-- how long the text of a piece is, by that of one by the same encoding, after the same
pub due-len : {b base : Base} {k kept : KeptData} (piece : List ℕ) (due : ℕ) → b ≡ base → k ≡ kept
    → length (piece_text b k piece) ≡ due → length (piece_text base kept piece) ≡ due
due-len piece due base_is kept_is len_is = let value = rw base_is at len_is in rw kept_is at value

-- how long the text of the held bytes is, by that of any as many
pub last-len : (base : Base) (kept : KeptData) (len : ℕ) → kept.count ≤ length kept.bytes
    → ((bytes : List ℕ) → length bytes ≡ kept.count → length (text_of base bytes) ≡ len)
    → length (last_text base kept) ≡ len
last-len base kept len few text_len =
    text_len (held_data kept) (length-take-le kept.count kept.bytes few)

-- a piece of data that was refused
pub refuses-data : (base : Base) (piece : List ℕ) (places : DataPlaces) (answer : ℕ)
    → (answer ≡ ok → ⊥)
    → answer
    ≡ if_kept base places.encoder
    (data_piece_status base places.encoder piece (length places.output))
    → EncodesPiece base piece places places answer
refuses-data base piece places answer refused status = record {
  status = status;
  text = λ is. absurd (refused is);
  written = λ is. absurd (refused is);
  held = λ is. absurd (refused is);
  encodes = λ is. absurd (refused is);
  refused = λ _. refl;
}

-- what a copy to the start of an output with room for it writes
pub writes-front : (bytes old copied : List ℕ) (before : ℕ) → length bytes ≤ length old
    → copied ≡ bytes
    → WritesFront bytes old (copied ++ drop (length bytes) old) before (length bytes) ok
writes-front bytes old copied before fits same = record {
  status = if-not (length old) (length bytes) short_buffer ok fits;
  front = λ _. ap (λ l. l ++ drop (length bytes) old) same;
  written = λ _. refl;
  refused = λ refused. absurd (refused refl);
}

-- What was written to the start of an output, and what follows it unchanged.
module _ (written : ℕ) (new old text : List ℕ) (front : take written new ≡ text)
    (within : written ≤ length new) (after : drop written new ≡ drop written old) where
  pub written-len : written ≡ length text
  written-len = sym (length-take-le written new within) ∙ ap length front

  pub written-over : new ≡ over text old
  written-over =
      sym (take-append-drop written new)
      ∙ ap (λ l. l ++ drop written new) front
      ∙ ap (λ l. text ++ l) (after ∙ ap (λ n. drop n old) written-len)
