-- Worked rows of what calls return and write.
use Rattle.std.proofs.Common.{◌≡◌, ◌∙◌, ◌⊎◌, ℕ, ◌<◌, ◌≤◌, true, false, List, [], ◌∷◌, ◌++◌, map, length, take, drop, IsSome, codes, replicate, Option, Some, None, Result, Ok, Err, refl, zero, suc, sym, ap, subst, inl, inr, lit<, lit≤, arith}
use Rattle.std.proofs.lemmas.Bool.{false≢true}
use Rattle.std.proofs.lemmas.List.{append-nil}
use Rattle.data_encoding.specs.declared.encoding.BitOrder.TheVariants.{MostSignificantFirst, LeastSignificantFirst}
use Rattle.data_encoding.specs.declared.error.DecodeError.{DecodeError}
use Rattle.data_encoding.specs.declared.error.DecodePartial.{DecodePartial}
use Rattle.data_encoding.specs.declared.error.DecodeKind.TheVariants.{Length, Symbol, Trailing, Padding}
use Rattle.data_encoding.specs.declared.specification.meanings.Refusal.{Refusal}
use Rattle.data_encoding.specs.declared.specification.meanings.Refusal.TheVariants.{BadSize, NotAscii, Duplicate, ExtraPadding, WrapLength, WrapWidth, FromTo, Undefined}
use Rattle.data_encoding.specs.Base.{Base}
use Rattle.data_encoding.specs.Canonical.{IsCanonical}
use Rattle.data_encoding.specs.Fields.{Fields, IsSpecified, base_of}
use Rattle.data_encoding.specs.Grammar.{Means}
use Rattle.data_encoding.specs.Layout.{layout}
use Rattle.data_encoding.specs.Plain.{base_of_plain}
use Rattle.data_encoding.specs.declared.encoding.plain_encoding.PlainEncoding.{PlainEncoding}
use Rattle.data_encoding.specs.Named.{IsNumbered}
use Rattle.data_encoding.specs.Pieces.{whole_bytes}
use Rattle.data_encoding.specs.Predefined.{base64_fields, base64_mime_fields}
use Rattle.data_encoding.specs.Text.{text_of}
use Rattle.data_encoding.specs.declared.encode.kept_data.KeptData.{KeptData}
use Rattle.encoding_stream.specs.declared.buffer_decoder.Kept.{Kept}
use Rattle.data_encoding.specs.KeptData.{held_data, piece_text}
use Rattle.encoding_stream.specs.BufferEncoder.{EncodesOn, HasWritten, EndsBlocks}
use Rattle.encoding_stream.specs.BufferDecoder.{most_completed}
use Rattle.encoding_stream.specs.Resume.{HoldsNoIgnored, MayBeKept}
use Rattle.data_encoding_calls.specs.declared.convert.Decoded.{Decoded}
use Rattle.data_encoding_calls.specs.declared.specification_of_encoding.TextLengths.{TextLengths}
use Rattle.data_encoding_calls.specs.declared.make.Form.{Form}
use Rattle.data_encoding_calls.specs.declared.make.Made.{Made}
use Rattle.data_encoding_calls.specs.declared.decoder_state.PlainKept.{PlainKept}
use Rattle.data_encoding_calls.specs.EncoderState.{data_piece_status, if_kept, last_text, DataPlaces, EncodesPiece, FinishesData, TellsDue}
use Rattle.data_encoding_calls.specs.Calls.{decode_len_status, decode_status, encode_len_status, encode_status, front_status, over, status_by_room, status_of_len, ByNumber, Decodes, Encodes, StopsAtFault, TellsIfCanonical, TellsMost, TellsTextLength, WritesFront}
use Rattle.data_encoding_calls.specs.Facts.{texts_of, AsksFor, GivesBack, SpecificationPlaces, TellsAlignment, TellsWidth}
use Rattle.data_encoding_calls.specs.Custom.{fields_asked, order_asked, padding_asked, Makes, MakesOfLayout}
use Rattle.data_encoding_calls.specs.Names.{FindsNumber, WritesName}
use Rattle.data_encoding_calls.specs.Numbered.{DecodesByNumber, EncodesByNumber, EncodesPieceByCustom, EncodesPieceByNumber, FinishesDataByNumber, FinishesTextByNumber, GivesBackByCustom, GivesBackByNumber, ReadsPieceByCustom, ReadsPieceByNumber}
use Rattle.data_encoding_calls.specs.DecoderState.{fault_at_position, fault_told, kept_told, kept_with, kind_told, length_status, text_piece_status, FinishesText, MayBeGiven, Places, ReadsPiece, TellsRoom, WasGiven}
use Rattle.data_encoding_calls.proofs.NumberLemmas.{by-known, by-unknown}
use Rattle.data_encoding_calls.specs.Status.{detail_of_refusal, no_decoder, no_encoder, no_encoding, ok, short_buffer, status_of_fault, status_of_kind, status_of_refusal, too_long, unknown_encoding}

abbrev Holds : (Base → Type 0) → Result Base Refusal → Type 0
Holds P (Ok base) = P base
Holds P (Err refusal) = ⊥

-- The fields have a base, and it is so.
abbrev Has : Fields → (Base → Type 0) → Type 0
Has fields P = Holds P (base_of fields)

abbrev symbol_at_4 : DecodeError
symbol_at_4 = record { position = 4; kind = Symbol }

statuses :
    (ok ∷ unknown_encoding ∷ too_long ∷ short_buffer ∷ no_encoding ∷ no_decoder ∷ no_encoder ∷ []
    ≡ 0 ∷ 1 ∷ 3 ∷ 4 ∷ 18 ∷ 19 ∷ 20 ∷ [])
    × (map status_of_kind (Length ∷ Symbol ∷ Trailing ∷ Padding ∷ []) ≡ 6 ∷ 7 ∷ 8 ∷ 9 ∷ [])
    × (status_of_fault None ≡ 0) × (status_of_fault (Some symbol_at_4) ≡ 7)
statuses = (refl, refl, refl, refl)

abbrev refusals : List Refusal
refusals =
    BadSize ∷ NotAscii ∷ Duplicate 97 ∷ ExtraPadding ∷ WrapLength ∷ WrapWidth 8 ∷ FromTo
    ∷ Undefined 98 ∷ []

statuses_of_refusals :
    (map status_of_refusal refusals ≡ 10 ∷ 11 ∷ 12 ∷ 13 ∷ 14 ∷ 15 ∷ 16 ∷ 17 ∷ [])
    × (map detail_of_refusal refusals ≡ 0 ∷ 0 ∷ 97 ∷ 0 ∷ 0 ∷ 8 ∷ 0 ∷ 98 ∷ [])
statuses_of_refusals = (refl, refl)

-- two bytes at the front of four, where there is room for them, and where there is not
front_written :
    (over (codes "Hi") (codes "....") ≡ codes "Hi..")
    × (front_status (codes "Hi") 2 ≡ ok) × (front_status (codes "Hi") 1 ≡ short_buffer)
    × WritesFront (codes "Hi") (codes "....") (codes "Hi..") 0 2 ok
    × WritesFront (codes "Hi") (codes ".") (codes ".") 7 7 short_buffer
front_written = (
  refl,
  refl,
  refl,
  record {
    status = refl;
    front = λ _. refl;
    written = λ _. refl;
    refused = λ no. absurd (no refl);
  },
  record {
    status = refl;
    front = λ is. absurd (cc is);
    written = λ is. absurd (cc is);
    refused = λ _. (refl, refl);
  },
)

-- the longest data, and a byte more; a text of 8 characters with room for them, and with less
encode_statuses :
    (encode_len_status 36028797018963967 ≡ ok) × (encode_len_status 36028797018963968 ≡ too_long)
    × Has base64_fields (λ base. (encode_status base (codes "Hello") 8 ≡ ok)
    × (encode_status base (codes "Hello") 7 ≡ short_buffer))
encode_statuses = (refl, refl, (refl, refl))

-- A text of 5 bytes, with room for the most bytes of its length, for the data, and for a byte less.
-- A text with a fault, with room for its most bytes and with none, and one of no valid length.
decode_statuses :
    (status_of_len (Ok 6) ≡ ok) × (status_of_len (Err symbol_at_4) ≡ 7)
    × (status_by_room None 5 5 ≡ ok) × (status_by_room None 5 4 ≡ short_buffer)
    × (status_by_room (Some symbol_at_4) 3 6 ≡ 7) × (status_by_room (Some symbol_at_4) 3 0 ≡ 7)
    × Has base64_fields (λ base. (decode_len_status base 8 ≡ ok) × (decode_len_status base 7 ≡ 6)
    × (decode_len_status base 2305843009213693952 ≡ too_long)
    × (decode_status base (codes "SGVsbG8=") 6 ≡ ok)
    × (decode_status base (codes "SGVsbG8=") 5 ≡ ok)
    × (decode_status base (codes "SGVsbG8=") 4 ≡ short_buffer)
    × (decode_status base (codes "SGVs!G8=") 6 ≡ 7) × (decode_status base (codes "SGVs!G8=") 0 ≡ 7)
    × (decode_status base (codes "SGVsbG8") 6 ≡ 6) × (decode_status base (codes "SGVsbG8") 0 ≡ 6))
decode_statuses = (
  refl,
  refl,
  refl,
  refl,
  refl,
  refl,
  (refl, refl, refl, refl, refl, refl, refl, refl, refl, refl),
)

empty : Has base64_fields (λ base.
    (bytes : List ℕ) → length bytes ≡ 0 → length (text_of base bytes) ≡ 0)
empty [] none = refl
empty (byte ∷ bytes) none = absurd (cc none)

-- the text of no data is empty, and one byte more than the longest data is too long
text_length_or_too_long :
    Has base64_fields (λ base. TellsTextLength base 0 7 0 ok
    × TellsTextLength base 36028797018963968 7 7 too_long)
text_length_or_too_long = (
  record { status = refl; text_length = λ _. empty; refused = λ no. absurd (no refl) },
  record { status = refl; text_length = λ is. absurd (cc is); refused = λ _. refl },
)

hello_encoded :
    Has base64_fields (λ base.
    Encodes base (codes "Hello") (codes "..........") (codes "SGVsbG8=..") 7 8 ok)
hello_encoded = record {
  status = refl;
  text = λ _. refl;
  written = λ _. refl;
  refused = λ no. absurd (no refl);
}

never-err : {most : ℕ} {error : DecodeError}
    → ◌≡◌ {A = Result ℕ DecodeError} (Ok most) (Err error) → ⊥
never-err is = absurd (cc is)

never-ok : {most : ℕ} {error : DecodeError}
    → ◌≡◌ {A = Result ℕ DecodeError} (Err error) (Ok most) → ⊥
never-ok is = absurd (cc is)

same-most : {one other : ℕ} → ◌≡◌ {A = Result ℕ DecodeError} (Ok one) (Ok other) → one ≡ other
same-most is = cc

abbrev position_of : Result ℕ DecodeError → ℕ
position_of (Ok most) = 0
position_of (Err error) = error.position

-- a text of 8 characters may mean 6 bytes; the fault of one of 7 is at 4
most_bytes_or_fault : Has base64_fields (λ base. TellsMost base 8 7 6 ok × TellsMost base 7 9 4 6)
most_bytes_or_fault = (
  record {
    status = refl;
    value = λ _. refl;
    fault = λ error is. absurd (never-err is);
    refused = λ is. absurd (cc is);
  },
  record {
    status = refl;
    value = λ is. absurd (cc is);
    fault = λ error is few. ap position_of is;
    refused = λ is. absurd (cc is);
  },
)

abbrev counts : ℕ → ℕ → ℕ → Decoded
counts read written position = record { read = read; written = written; position = position }

-- a text that means 5 bytes, in an output of 4, of 5, and of the most bytes of its length
text_decoded :
    Has base64_fields (λ base.
    Decodes base (codes "SGVsbG8=") (codes "....") (codes "Hel.") (counts 7 7 7) (counts 0 5 0)
    short_buffer
    × (Means base (codes "SGVsbG8=") (codes "Hello")
    → Decodes base (codes "SGVsbG8=") (codes ".....") (codes "Hello") (counts 7 7 7)
    (counts 8 5 8) ok
    × Decodes base (codes "SGVsbG8=") (codes "......") (codes "Hello.") (counts 7 7 7)
    (counts 8 5 8) ok))
text_decoded = (
  record {
    status = refl;
    means = λ is. absurd (cc is);
    all = λ is. absurd (cc is);
    end = λ is. absurd (cc is);
    refused = λ is. absurd (cc is);
    needed = λ _. refl;
    by_length = λ error few is. absurd (never-err is);
    fault = λ partial most few due fits stopped. absurd (never-stopped stopped);
    short_fault = λ error most few due misses faulty. absurd (cc faulty);
    within = λ short. absurd (short refl);
    after = λ most is. six-left most (same-most is) (codes "Hel.") (codes "....") refl;
  },
  λ means. (
    held (codes "Hello") (codes ".....") refl means (lit≤ tt) refl,
    held (codes "Hello.") (codes "......") refl means (lit≤ tt) refl,
  ),
) where
  never-stopped : {partial : DecodePartial} → None ≡ Some partial → ⊥
  never-stopped is = absurd (cc is)

  six-left : (most : ℕ) → 6 ≡ most → (new old : List ℕ) → drop 6 new ≡ drop 6 old
      → drop most new ≡ drop most old
  six-left most is new old same = subst (λ n. drop n new ≡ drop n old) is same

  held : Has base64_fields (λ base. (new old : List ℕ)
      → ok ≡ decode_status base (codes "SGVsbG8=") (length old)
      → Means base (codes "SGVsbG8=") (take 5 new) → 5 ≤ length new → drop 6 new ≡ drop 6 old
      → Decodes base (codes "SGVsbG8=") old new (counts 7 7 7) (counts 8 5 8) ok)
  held new old fits means few same = record {
    status = fits;
    means = λ _. means;
    all = λ _. refl;
    end = λ _. refl;
    refused = λ is. absurd (cc is);
    needed = λ is. absurd (cc is);
    by_length = λ error _ is. absurd (never-err is);
    fault = λ partial most _ due _ stopped. absurd (never-stopped stopped);
    short_fault = λ error most _ due misses faulty. absurd (cc faulty);
    within = λ _. inr few;
    after = λ most is. six-left most (same-most is) new old same;
  }

-- a text with a fault, in an output shorter than the most bytes of its length
short_faulty :
    Has base64_fields (λ base.
    Decodes base (codes "SGVs!G8=") (codes ".....") (codes "Hel..") (counts 7 7 7) (counts 0 0 4)
    7)
short_faulty = record {
  status = refl;
  means = λ is. absurd (cc is);
  all = λ is. absurd (cc is);
  end = λ is. absurd (cc is);
  refused = λ is. absurd (cc is);
  needed = λ is. absurd (cc is);
  by_length = λ error few is. absurd (never-err is);
  fault = λ partial most few due fits stopped.
      absurd (no-room most (same-most due) fits);
  short_fault = λ error most few due misses faulty. ap (counts 0 0) (ap position_in faulty);
  within = λ _. inr (lit≤ tt);
  after = λ most is.
      subst (λ n. drop n (codes "Hel..") ≡ drop n (codes ".....")) (same-most is) refl;
} where
  no-room : (most : ℕ) → 6 ≡ most → most ≤ 5 → ⊥
  no-room most is fits = omega (arith, is, fits)

  position_in : Option DecodeError → ℕ
  position_in None = 0
  position_in (Some error) = error.position

-- a text that has a fault by its length
refused_by_length :
    Has base64_fields (λ base.
    Decodes base (codes "SGVsbG8") (codes "......") (codes "......") (counts 7 7 7)
    (counts 0 0 4) 6)
refused_by_length = record {
  status = refl;
  means = λ is. absurd (cc is);
  all = λ is. absurd (cc is);
  end = λ is. absurd (cc is);
  refused = λ is. absurd (cc is);
  needed = λ is. absurd (cc is);
  by_length = λ error few is. (refl, ap (counts 0 0) (ap position_of is));
  fault = λ partial most few due. absurd (never-ok due);
  short_fault = λ error most few due. absurd (never-ok due);
  within = λ _. inr (lit≤ tt);
  after = λ most is. refl;
}

abbrev partial_at_4 : DecodePartial
partial_at_4 = record { read = 4; written = 3; error = symbol_at_4 }

-- a text with a fault, of which the first group was decoded
stopped_at_4 : (base : Base) → Means base (codes "SGVs") (codes "Hel")
    → StopsAtFault base (codes "SGVs!G8=") (codes "Hel...") partial_at_4 (counts 4 3 4)
stopped_at_4 base means = record { read = refl; written = refl; position = refl; means = means }

-- the call returns `true` for a canonical encoding
canonical_returns_true : (base : Base) → IsCanonical base → TellsIfCanonical base true ok
canonical_returns_true base canonical = record {
  status = refl;
  is_canonical = (λ _. canonical, λ _. refl);
}

-- the number of BASE64, and one of none
numbers_known :
    ByNumber 12 ok ⊥ (λ base. base.width ≡ 6)
    × ByNumber 18 unknown_encoding (codes "." ≡ codes ".") (λ base. ⊥)
numbers_known = (
  by-known (λ base. base.width ≡ 6)
      (record { fields = base64_fields; is_known = refl; is_built = refl }) refl,
  by-unknown refl refl,
)

-- a line is 57 bytes, and a symbol has six bits
mime_alignment_and_width :
    Has base64_mime_fields (λ base. TellsAlignment base 57 ok × TellsWidth base 6 ok)
mime_alignment_and_width =
    (record { status = refl; value = refl }, record { status = refl; value = refl })

abbrev lines_form : Form
lines_form = record {
  wrap_width = 8;
  padding = 0;
  has_padding = false;
  least_significant_first = true;
  check_trailing_bits = true;
  concatenate = true;
}

abbrev lines_fields : Fields
lines_fields =
    fields_asked lines_form (codes "01") (codes " ") (10 ∷ []) (codes "oi") (codes "01")

-- a specification that is asked for, and what asks for it
fields_are_asked :
    (order_asked true ≡ LeastSignificantFirst) × (order_asked false ≡ MostSignificantFirst)
    × (padding_asked true 61 ≡ Some 61) × (padding_asked false 61 ≡ None)
    × (lines_fields.order ≡ LeastSignificantFirst) × (lines_fields.padding ≡ None)
    × (texts_of lines_fields ≡ codes "01 " ++ 10 ∷ codes "oi01")
    × AsksFor lines_fields lines_form (record {
      symbols = 2;
      ignore = 1;
      separator = 1;
      translate_from = 2;
      translate_to = 2;
    })
fields_are_asked = (
  refl,
  refl,
  refl,
  refl,
  refl,
  refl,
  refl,
  record {
    fields_are = refl;
    symbols = refl;
    ignore = refl;
    separator = refl;
    from = refl;
    to = refl;
  },
)

abbrev places_of : Form → List ℕ → SpecificationPlaces
places_of form texts = record {
  form = form;
  lengths = record {
    symbols = 64;
    ignore = 0;
    separator = 0;
    translate_from = 0;
    translate_to = 0;
  };
  texts = texts;
}

abbrev base64_form : Form
base64_form = record lines_form {
  wrap_width = 0;
  padding = 61;
  has_padding = true;
  least_significant_first = false;
}

-- the specification of BASE64, where there is room for its symbols, and where there is not
given_back :
    Has base64_fields (λ base.
    GivesBack base (places_of lines_form (replicate 65 46))
    (places_of base64_form (base64_fields.symbols ++ codes ".")) ok
    × GivesBack base (places_of lines_form []) (places_of lines_form []) short_buffer)
given_back = (
  record {
    status = refl;
    texts = λ _. refl;
    asks = λ _. record {
      fields_are = refl;
      symbols = refl;
      ignore = refl;
      separator = refl;
      from = refl;
      to = refl;
    };
    refused = λ no. absurd (no refl);
  },
  record {
    status = refl;
    texts = λ is. absurd (cc is);
    asks = λ is. absurd (cc is);
    refused = λ _. refl;
  },
)

-- an encoding that was made, one that was refused, and bytes that are not a layout
made_refused_or_none : (base : Base) (bytes : List ℕ) (made refused none : Made)
    → made.status ≡ ok → base_of_plain made.held ≡ base
    → refused.status ≡ 12 → refused.detail ≡ 97
    → none.status ≡ no_encoding
    → ((other : Base) → IsSpecified other → layout other ≡ bytes → ⊥)
    → Makes (Ok base) made × Makes (Err (Duplicate 97)) refused × MakesOfLayout bytes none
made_refused_or_none base bytes made refused none is_made held status detail is_none no_layout = (
  (is_made, held),
  (status, detail),
  record {
    known = λ other is same. absurd (no_layout other is same);
    is_layout = λ is. absurd (eighteen-zero (sym is_none ∙ is));
    status = λ _. is_none;
  },
) where
  eighteen-zero : no_encoding ≡ ok → ⊥
  eighteen-zero is = absurd (cc is)

same-name : {one other : List ℕ} → Some one ≡ Some other → one ≡ other
same-name is = cc

same-number : {one other : ℕ} → Some one ≡ Some other → one ≡ other
same-number is = cc

-- the name of BASE64, and of a number of none
names_written :
    WritesName 12 (codes "........") (codes "BASE64..") 7 6 ok
    × WritesName 18 (codes "..") (codes "..") 7 7 unknown_encoding
names_written = (
  record {
    known = λ name is.
        subst (λ those. WritesFront those (codes "........") (codes "BASE64..") 7 6 ok)
        (same-name is)
        (record {
          status = refl;
          front = λ _. refl;
          written = λ _. refl;
          refused = λ no. absurd (no refl);
        });
    unknown = λ none. absurd (cc none);
    fits = λ room is. absurd (cc is);
  },
  record {
    known = λ name is. absurd (cc is);
    unknown = λ _. (refl, refl, refl);
    fits = λ room is. absurd (cc is);
  },
)

numbers_found :
    FindsNumber (codes "BASE64") 7 12 ok × FindsNumber (codes "base64") 7 7 unknown_encoding
numbers_found = (
  record { known = λ found is. (refl, same-number is); unknown = λ none. absurd (cc none) },
  record { known = λ found is. absurd (cc is); unknown = λ _. (refl, refl) },
)

-- what is kept of `SGVsbG` CR LF, `bG` at 4 and 5, as plain numbers
abbrev plain_so_far : PlainKept
plain_so_far = record {
  len = 8;
  count = 2;
  positions = 4 ∷ 5 ∷ replicate 6 0;
  fault_position = 9;
  fault = 0;
  ended = 0;
  bytes = codes "bG" ++ replicate 6 0;
}

abbrev kept_so_far : Kept
kept_so_far = record {
  len = 8;
  fault = None;
  positions = 4 ∷ 5 ∷ replicate 6 0;
  bytes = codes "bG" ++ replicate 6 0;
  count = 2;
  ended = false;
}

-- numbers of which the fault is none
abbrev plain_of_none : PlainKept
plain_of_none = record plain_so_far { fault = 5 }

-- the state that plain numbers describe, and numbers that describe none
state_from_numbers :
    (kind_told 7 ≡ Some Symbol) × (kind_told 5 ≡ None)
    × (fault_at_position 4 None ≡ None)
    × (fault_at_position 4 (Some Symbol) ≡ Some (Some symbol_at_4))
    × (fault_told 0 9 ≡ Some None) × (fault_told 7 4 ≡ Some (Some symbol_at_4))
    × (fault_told 5 4 ≡ None)
    × (kept_with plain_so_far None ≡ None)
    × (kept_with plain_so_far (Some None) ≡ Some kept_so_far)
    × (kept_told plain_so_far ≡ Some kept_so_far) × (kept_told plain_of_none ≡ None)
state_from_numbers = (refl, refl, refl, refl, refl, refl, refl, refl, refl, refl, refl)

no_line_end : Has base64_mime_fields (λ base. HoldsNoIgnored base kept_so_far)
no_line_end zero k h = refl
no_line_end (suc zero) k h = refl
no_line_end (suc (suc index)) k h = absurd (omega (arith, h))

numbers_given :
    Has base64_mime_fields (λ base.
    MayBeGiven base plain_so_far × (MayBeGiven base plain_of_none → ⊥))
numbers_given = (
  record {
    kept = kept_so_far;
    told = refl;
    passes = record {
      limit = lit≤ tt;
      short = lit< tt;
      in_order = (lit≤ tt, lit< tt, (lit≤ tt, lit< tt, tt));
      none_ignored = no_line_end;
      fault = record {
        clear = λ some. absurd (cc some);
        inside = tt;
        kind = tt;
        ends = λ _ final. absurd (cc final);
      };
    };
  },
  λ given. absurd (cc given.told),
)

-- the decoder of a caller that was given that text
decoder_stands :
    Has base64_mime_fields (λ base.
    WasGiven base plain_so_far (codes "SGVsbG" ++ 13 ∷ 10 ∷ []))
decoder_stands = record {
  kept = kept_so_far;
  told = refl;
  keeps = record { counted = refl; first = refl; holds = λ h. refl; ends = λ h. refl };
  limit = lit≤ tt;
  clear = λ some. absurd (cc some);
}

-- five more of the text, and so many that it is too long
piece_statuses :
    (length_status kept_so_far 5 ≡ ok) × (length_status kept_so_far 2305843009213693944 ≡ too_long)
    × Has base64_mime_fields (λ base. (text_piece_status base kept_so_far 5 3 ≡ ok)
    × (text_piece_status base kept_so_far 5 2 ≡ short_buffer)
    × (text_piece_status base kept_so_far 2305843009213693944 3 ≡ too_long))
piece_statuses = (refl, refl, (refl, refl, refl))

same-kept : {one other : Kept} → Some one ≡ Some other → one ≡ other
same-kept is = cc

room_by : (base : Base) → most_completed base kept_so_far 5 ≡ 3
    → TellsRoom base plain_so_far 5 7 3 ok
room_by base most = record {
  status = λ text consumed. ap (λ kept. length_status kept 5) (same-kept consumed.told);
  value = λ _ text consumed.
      sym most ∙ ap (λ kept. most_completed base kept 5) (same-kept consumed.told);
  refused = λ no. absurd (no refl);
}

-- five more characters of the text may complete three bytes
five_characters_complete_three :
    Has base64_mime_fields (λ base. TellsRoom base plain_so_far 5 7 3 ok)
five_characters_complete_three = room_by _ refl

abbrev places_of_none : Places
places_of_none = record { decoder = plain_of_none; output = codes "..."; written = 7 }

abbrev places_so_far : ℕ → Places
places_so_far written = record {
  decoder = plain_so_far;
  output = codes "...";
  written = written;
}

-- a piece of no bytes leaves all as it was
no_piece_read : (base : Base) → text_piece_status base kept_so_far 0 3 ≡ ok
    → ReadsPiece base [] (places_so_far 7) (places_so_far 0) ok
no_piece_read base fits = record {
  status = λ text consumed.
      sym fits ∙ ap (λ kept. text_piece_status base kept 0 3) (same-kept consumed.told);
  stands = λ _ text consumed.
      subst (λ those. WasGiven base plain_so_far those) (sym (append-nil text)) consumed;
  decodes = λ _ text consumed.
      ap (λ those. whole_bytes base those) (append-nil text)
      ∙ sym (append-nil (whole_bytes base text));
  within = λ _. lit≤ tt;
  after = λ _ text consumed. refl;
  len = refl;
  refused = λ no. absurd (no refl);
}

piece_read :
    Has base64_mime_fields (λ base. ReadsPiece base [] (places_so_far 7) (places_so_far 0) ok)
piece_read = no_piece_read _ refl

-- numbers that are refused, by a piece and at the end
numbers_refused : (base : Base)
    → ReadsPiece base (codes "8=") places_of_none places_of_none no_decoder
    × FinishesText base plain_of_none (codes "...") (codes "...") (counts 7 7 7) (counts 7 7 7)
    no_decoder
numbers_refused base = (
  record {
    status = λ text consumed. absurd (cc consumed.told);
    stands = λ is. absurd (cc is);
    decodes = λ is. absurd (cc is);
    within = λ is. absurd (cc is);
    after = λ is. absurd (cc is);
    len = refl;
    refused = λ _. refl;
  },
  record {
    verdict = λ _ text consumed. absurd (cc consumed.told);
    bytes = λ _ text consumed. absurd (cc consumed.told);
    position = λ _ text error consumed. absurd (cc consumed.told);
    read = λ _ text consumed. absurd (cc consumed.told);
    end = λ is. absurd (cc is);
    given = λ no. absurd (no refl);
    counted = λ no. absurd (no refl);
    inside = λ no. absurd (no refl);
    within = λ _ text consumed. absurd (cc consumed.told);
    after = refl;
    len = refl;
    short = λ is. absurd (cc is);
    refused = λ _. (refl, refl);
  },
)

-- `lo` is held
abbrev data_so_far : KeptData
data_so_far = record { count = 2; bytes = codes "lo" ++ replicate 187 0 }

-- a whole block is held
abbrev whole_block : KeptData
whole_block = record { count = 3; bytes = codes "low" ++ replicate 186 0 }

-- of `lo` and `w!` a block is whole
data_texts :
    Has base64_fields (λ base. (piece_text base data_so_far (codes "w!") ≡ codes "bG93")
    × (last_text base data_so_far ≡ codes "bG8=")
    × (if_kept base data_so_far ok ≡ ok) × (if_kept base whole_block ok ≡ no_encoder)
    × (data_piece_status base data_so_far (codes "w!") 4 ≡ ok)
    × (data_piece_status base data_so_far (codes "w!") 3 ≡ short_buffer))
data_texts = (refl, refl, refl, refl, refl, refl)

abbrev places_with : KeptData → ℕ → DataPlaces
places_with kept written = record { encoder = kept; output = codes "...."; written = written }

no_data : (base : Base) → EncodesOn base data_so_far data_so_far [] []
no_data base = λ bytes before has.
    subst (λ b. HasWritten base data_so_far b (before ++ [])) (sym (append-nil bytes))
    (subst (HasWritten base data_so_far bytes) (sym (append-nil before)) has)

-- a piece of no bytes leaves all as it was
piece_encoded :
    Has base64_fields (λ base.
    EncodesPiece base [] (places_with data_so_far 7) (places_with data_so_far 0) ok)
piece_encoded = record {
  status = refl;
  text = λ _. refl;
  written = λ _. refl;
  held = λ _. refl;
  encodes = λ _. no_data _;
  refused = λ no. absurd (no refl);
}

-- an encoder that holds a whole block is refused
data_refused :
    Has base64_fields (λ base. TellsDue base whole_block 1 7 7 no_encoder
    × EncodesPiece base (codes "!") (places_with whole_block 7) (places_with whole_block 7)
    no_encoder
    × FinishesData base whole_block (codes "....") (codes "....") 7 7 no_encoder)
data_refused = (
  record { status = refl; value = λ is. absurd (cc is); refused = λ _. refl },
  record {
    status = refl;
    text = λ is. absurd (cc is);
    written = λ is. absurd (cc is);
    held = λ is. absurd (cc is);
    encodes = λ is. absurd (cc is);
    refused = λ _. refl;
  },
  record {
    status = refl;
    text = λ is. absurd (cc is);
    written = λ is. absurd (cc is);
    whole = λ is. absurd (cc is);
    refused = λ _. (refl, refl);
  },
)

nothing_due : Has base64_fields (λ base.
    (piece : List ℕ) → length piece ≡ 0 → length (piece_text base data_so_far piece) ≡ 0)
nothing_due [] none = refl
nothing_due (byte ∷ bytes) none = absurd (cc none)

-- no text is due for a piece of no bytes
empty_piece_has_none_due : Has base64_fields (λ base. TellsDue base data_so_far 0 7 0 ok)
empty_piece_has_none_due = record {
  status = refl;
  value = λ _. nothing_due;
  refused = λ no. absurd (no refl);
}

-- BASE64 has the number 12
twelve : Has base64_fields (λ base. IsNumbered 12 base)
twelve = record { fields = base64_fields; is_known = refl; is_built = refl }

done_by_number :
    EncodesByNumber 12 (codes "Hello") (codes "..........") (codes "SGVsbG8=..") 7 8 ok
    × DecodesByNumber 12 (codes "SGVsbG8=") (codes "....") (codes "Hel.") (counts 7 7 7)
    (counts 0 5 0) short_buffer
    × FinishesTextByNumber 12 plain_of_none (codes "...") (codes "...") (counts 7 7 7)
    (counts 7 7 7) no_decoder
    × FinishesDataByNumber 12 whole_block (codes "....") (codes "....") 7 7 no_encoder
    × ReadsPieceByNumber 12 (codes "8=") plain_of_none plain_of_none (codes "...") (codes "...")
    7 7 no_decoder
    × EncodesPieceByNumber 12 [] data_so_far data_so_far (codes "....") (codes "....") 7 0 ok
done_by_number = (
  by-known (λ base. Encodes base (codes "Hello") (codes "..........") (codes "SGVsbG8=..") 7 8 ok)
      twelve hello_encoded,
  by-known (λ base. Decodes base (codes "SGVsbG8=") (codes "....") (codes "Hel.") (counts 7 7 7)
      (counts 0 5 0) short_buffer) twelve text_decoded.0,
  by-known (λ base. FinishesText base plain_of_none (codes "...") (codes "...") (counts 7 7 7)
      (counts 7 7 7) no_decoder) twelve (numbers_refused _).1,
  by-known (λ base. FinishesData base whole_block (codes "....") (codes "....") 7 7 no_encoder)
      twelve data_refused.2,
  by-known (λ base. ReadsPiece base (codes "8=") places_of_none places_of_none no_decoder)
      twelve (numbers_refused _).0,
  by-known (λ base. EncodesPiece base [] (places_with data_so_far 7) (places_with data_so_far 0)
      ok) twelve piece_encoded,
)

-- no encoding has the number 18
no_number : (plain : PlainKept) (kept : KeptData) (decoded : Decoded) (form : Form)
    (lengths : TextLengths)
    → EncodesByNumber 18 (codes "Hi") (codes ".") (codes ".") 7 7 unknown_encoding
    × DecodesByNumber 18 (codes "SGk=") (codes ".") (codes ".") decoded decoded unknown_encoding
    × FinishesTextByNumber 18 plain (codes ".") (codes ".") decoded decoded unknown_encoding
    × FinishesDataByNumber 18 kept (codes ".") (codes ".") 7 7 unknown_encoding
    × ReadsPieceByNumber 18 (codes "S") plain plain (codes ".") (codes ".") 7 7 unknown_encoding
    × EncodesPieceByNumber 18 (codes "H") kept kept (codes ".") (codes ".") 7 7 unknown_encoding
    × GivesBackByNumber 18 form form lengths lengths (codes ".") (codes ".") unknown_encoding
no_number plain kept decoded form lengths = (
  by-unknown refl (refl, refl),
  by-unknown refl (refl, refl),
  by-unknown refl (refl, refl),
  by-unknown refl (refl, refl),
  by-unknown refl (refl, refl, refl),
  by-unknown refl (refl, refl, refl),
  by-unknown refl (refl, refl, refl),
)

-- a caller holds BASE64
done_by_held :
    Has base64_fields (λ base. (held : PlainEncoding) → base_of_plain held ≡ base
    → ReadsPieceByCustom held (codes "8=") plain_of_none plain_of_none (codes "...") (codes "...")
    7 7 no_decoder
    × EncodesPieceByCustom held [] data_so_far data_so_far (codes "....") (codes "....") 7 0 ok
    × GivesBackByCustom held lines_form lines_form (places_of lines_form []).lengths
    (places_of lines_form []).lengths [] [] short_buffer)
done_by_held held is = (
  (numbers_refused (base_of_plain held)).0,
  subst (λ base. EncodesPiece base [] (places_with data_so_far 7) (places_with data_so_far 0) ok)
      (sym is) piece_encoded,
  subst (λ base. GivesBack base (places_of lines_form []) (places_of lines_form []) short_buffer)
      (sym is) given_back.1,
)

never-three : too_long ≡ ok → ⊥
never-three is = absurd (cc is)

never-four : short_buffer ≡ ok → ⊥
never-four is = absurd (cc is)

never-six : 6 ≡ too_long → ⊥
never-six is = absurd (cc is)

never-nineteen : no_decoder ≡ ok → ⊥
never-nineteen is = absurd (cc is)

never-twenty : no_encoder ≡ ok → ⊥
never-twenty is = absurd (cc is)

never-six-four : 6 ≡ short_buffer → ⊥
never-six-four is = absurd (cc is)

never-six-nineteen : 6 ≡ no_decoder → ⊥
never-six-nineteen is = absurd (cc is)

never-six-ok : 6 ≡ ok → ⊥
never-six-ok is = absurd (cc is)

never-seven : 7 ≡ too_long → ⊥
never-seven is = absurd (cc is)

-- a call that returns 0 has written, and a call without room changes nothing
front_written_only_if_ok : (output : List ℕ) (written answer : ℕ)
    → (WritesFront (codes "Hi") (codes "....") output 0 written answer → answer ≡ ok)
    × (WritesFront (codes "Hi") (codes "....") output 0 written ok
    → (output ≡ codes "Hi..") × (written ≡ 2))
    × (WritesFront (codes "Hi") (codes ".") output 7 written short_buffer
    → (output ≡ codes ".") × (written ≡ 7))
front_written_only_if_ok output written answer = (
  λ done. done.status,
  λ done. (done.front refl, done.written refl),
  λ done. done.refused never-four,
)

-- a call that returns 0 has written the length of the text
text_length_returned :
    Has base64_fields (λ base. (new answer : ℕ)
    → (TellsTextLength base 5 7 new answer → answer ≡ ok)
    × (TellsTextLength base 5 7 new ok → new ≡ 8)
    × (TellsTextLength base 36028797018963968 7 new too_long → new ≡ 7))
text_length_returned new answer = (
  λ it. it.status,
  λ it. sym (it.text_length refl (codes "Hello") refl),
  λ it. it.refused never-three,
)

-- a call that returns 0 has written the text, and one without room changes nothing
text_written_only_if_ok :
    Has base64_fields (λ base. (output : List ℕ) (written answer : ℕ)
    → (Encodes base (codes "Hello") (codes "..........") output 7 written answer → answer ≡ ok)
    × (Encodes base (codes "Hello") (codes "..........") output 7 written ok
    → (output ≡ codes "SGVsbG8=..") × (written ≡ 8))
    × (Encodes base (codes "Hello") (codes ".") output 7 written short_buffer
    → (output ≡ codes ".") × (written ≡ 7)))
text_written_only_if_ok output written answer = (
  λ done. done.status,
  λ done. (done.text refl, done.written refl),
  λ done. done.refused never-four,
)

-- A text of 8 characters means at most 6 bytes, and the fault of one of 7 is at 4. For a text that
-- is too long nothing is written.
most_bytes_returned :
    Has base64_fields (λ base. (new answer : ℕ)
    → (TellsMost base 8 7 new answer → answer ≡ ok) × (TellsMost base 8 7 new ok → new ≡ 6)
    × (TellsMost base 7 9 new 6 → new ≡ 4)
    × (TellsMost base 2305843009213693952 7 new too_long → new ≡ 7))
most_bytes_returned new answer = (
  λ it. it.status,
  λ it. sym (same-most (it.value refl)),
  λ it. it.fault (record { position = 4; kind = Length }) refl never-six,
  λ it. it.refused refl,
)

-- a decoding stopped at 4, and the read part means the written bytes
read_group_means_written : (base : Base) (text output : List ℕ) (decoded : Decoded)
    → StopsAtFault base text output partial_at_4 decoded
    → (decoded.read ≡ 4) × (decoded.written ≡ 3) × (decoded.position ≡ 4)
    × Means base (take decoded.read text) (take decoded.written output)
read_group_means_written base text output decoded stopped =
    (stopped.read, stopped.written, stopped.position, stopped.means)

-- The results of decoding a text that means data, also without room for it, a text with a fault of
-- its length, a text with a fault, also with less room than for its most bytes, and a text that is
-- too long.
result_of_each_decoding :
    Has base64_fields (λ base. (text output : List ℕ) (decoded : Decoded) (answer : ℕ)
    → (Decodes base (codes "SGVsbG8=") (codes ".....") output (counts 7 7 7) decoded answer
    → answer ≡ ok)
    × (Decodes base (codes "SGVsbG8=") (codes ".....") output (counts 7 7 7) decoded ok
    → Means base (codes "SGVsbG8=") (take decoded.written output) × (decoded.read ≡ 8)
    × (decoded.position ≡ 8))
    × (Decodes base (codes "SGVsbG8=") (codes "....") output (counts 7 7 7) decoded answer
    → answer ≡ short_buffer)
    × (Decodes base (codes "SGVsbG8=") (codes "....") output (counts 7 7 7) decoded short_buffer
    → decoded ≡ counts 0 5 0)
    × (Decodes base (codes "SGVsbG8") (codes "......") output (counts 7 7 7) decoded 6
    → (output ≡ codes "......") × (decoded ≡ counts 0 0 4))
    × (Decodes base (codes "SGVs!G8=") (codes "......") output (counts 7 7 7) decoded 7
    → StopsAtFault base (codes "SGVs!G8=") output partial_at_4 decoded)
    × (Decodes base (codes "SGVs!G8=") (codes ".....") output (counts 7 7 7) decoded 7
    → decoded ≡ counts 0 0 4)
    × (Decodes base (codes "SGVsbG8=") (codes "........") output (counts 7 7 7) decoded ok
    → drop 6 output ≡ codes "..")
    × (Decodes base text (codes "......") output (counts 7 7 7) decoded too_long
    → (output ≡ codes "......") × (decoded ≡ counts 7 7 7)))
result_of_each_decoding text output decoded answer = (
  λ done. done.status,
  λ done. (done.means refl, done.all refl, done.end refl),
  λ done. done.status,
  λ done. done.needed refl,
  λ done. done.by_length (record { position = 4; kind = Length }) never-six refl,
  λ done. done.fault partial_at_4 6 never-seven refl (lit≤ tt) refl,
  λ done. done.short_fault symbol_at_4 6 never-seven refl (lit< tt) refl,
  λ done. done.after 6 refl,
  λ done. done.refused refl,
)

-- no more bytes are written than the output has
written_is_within_output : (base : Base) (text : List ℕ)
    → Decodes base text [] [] (counts 7 7 7) (counts 8 1 8) ok → ⊥
written_is_within_output base text done = none (done.within never-zero) where
  never-zero : ok ≡ short_buffer → ⊥
  never-zero is = absurd (cc is)

  none : (counts 8 1 8 ≡ counts 7 7 7) ⊎ (1 ≤ 0) → ⊥
  none (inl is) =
      let eight : ◌≡◌ {A = ℕ} 8 7 = ap (λ decoded. decoded.read) is in
      omega (arith, eight)
  none (inr few) = omega (arith, few)

-- the flag is `true` exactly for a canonical encoding
flag_is_canonicity : (base : Base) (answer : ℕ)
    → (TellsIfCanonical base true answer → (answer ≡ ok) × IsCanonical base)
    × (TellsIfCanonical base false answer → IsCanonical base → ⊥)
flag_is_canonicity base answer = (
  λ it. (it.status, it.is_canonical.0 refl),
  λ it canonical. false≢true (it.is_canonical.1 canonical),
)

-- the number 12 has a base, and 18 has none
known_number_has_base : (base : Base) (new old answer : ℕ) → IsNumbered 12 base
    → (ByNumber 12 answer ⊥ (λ other. other.width ≡ 6) → base.width ≡ 6)
    × (ByNumber 18 answer (new ≡ old) (λ other. ⊥)
    → (answer ≡ unknown_encoding) × (new ≡ old))
known_number_has_base base new old answer is = (λ by. by.known base is, λ by. by.unknown refl)

-- the calls return 0, and write 57 bytes and six bits
alignment_and_width_returned :
    Has base64_mime_fields (λ base. (new answer : ℕ)
    → (TellsAlignment base new answer → (answer ≡ ok) × (new ≡ 57))
    × (TellsWidth base new answer → (answer ≡ ok) × (new ≡ 6)))
alignment_and_width_returned new answer =
    (λ it. (it.status, it.value), λ it. (it.status, it.value))

-- the lengths that are asked for are the lengths of base64's texts
asked_lengths_are_of_texts : (form : Form) (lengths : TextLengths)
    → AsksFor base64_fields form lengths
    → (form.wrap_width ≡ 0) × (lengths.symbols ≡ 64) × (lengths.ignore ≡ 0)
    × (lengths.separator ≡ 0) × (lengths.translate_from ≡ 0) × (lengths.translate_to ≡ 0)
asked_lengths_are_of_texts form lengths asks = (
  ap (λ fields. fields.column) asks.fields_are,
  asks.symbols,
  asks.ignore,
  asks.separator,
  asks.from,
  asks.to,
)

-- a specification is given back if there is room, and otherwise nothing is changed
given_back_only_if_room :
    Has base64_fields (λ base. (new : SpecificationPlaces) (answer : ℕ)
    → (GivesBack base (places_of lines_form []) new answer → answer ≡ short_buffer)
    × (GivesBack base (places_of lines_form []) new short_buffer → new ≡ places_of lines_form [])
    × (GivesBack base (places_of lines_form (replicate 65 46)) new ok
    → (new.texts ≡ base64_fields.symbols ++ codes ".") × (new.lengths.symbols ≡ 64)))
given_back_only_if_room new answer = (
  λ gives. gives.status,
  λ gives. gives.refused never-four,
  λ gives. (gives.texts refl, (gives.asks refl).symbols),
)

-- of a specification its base is made, and of an invalid one the refusal is returned
made_has_base_or_refusal : (base : Base) (made : Made)
    → (Makes (Ok base) made → (made.status ≡ ok) × (base_of_plain made.held ≡ base))
    × (Makes (Err (Duplicate 97)) made → (made.status ≡ 12) × (made.detail ≡ 97))
made_has_base_or_refusal base made = (λ makes. makes, λ makes. makes)

-- an encoding that is made of bytes has these bytes as its layout
made_of_layout_has_layout : (base : Base) (bytes : List ℕ) (made : Made) → MakesOfLayout bytes made
    → (IsSpecified base → layout base ≡ bytes → (made.status ≡ ok)
    × (base_of_plain made.held ≡ base))
    × (made.status ≡ ok → layout (base_of_plain made.held) ≡ bytes)
    × ((made.status ≡ ok → ⊥) → made.status ≡ no_encoding)
made_of_layout_has_layout base bytes made makes =
    (λ is same. makes.known base is same, makes.is_layout, makes.status)

-- a name fits in 22 bytes, and 18 has no name
name_fits_in_22_bytes : (output : List ℕ) (written answer : ℕ)
    → (WritesName 12 (codes "........") output 7 written answer → answer ≡ ok)
    × (WritesName 18 (codes "..") output 7 written answer
    → (answer ≡ unknown_encoding) × (output ≡ codes "..") × (written ≡ 7))
    × (WritesName 12 (replicate 22 46) output 7 written short_buffer → ⊥)
name_fits_in_22_bytes output written answer = (
  λ writes. (writes.known (codes "BASE64") refl).status,
  λ writes. writes.unknown refl,
  λ writes. writes.fits (lit≤ tt) refl,
)

-- the name `BASE64` has the number 12, and `base64` has none
number_of_name_returned : (new answer : ℕ)
    → (FindsNumber (codes "BASE64") 7 new answer → (answer ≡ ok) × (new ≡ 12))
    × (FindsNumber (codes "base64") 7 new answer → (answer ≡ unknown_encoding) × (new ≡ 7))
number_of_name_returned new answer = (λ finds. finds.known 12 refl, λ finds. finds.unknown refl)

-- the numbers that a caller gives describe a state, and it passes the tests
given_numbers_pass_tests : (base : Base) (given : MayBeGiven base plain_so_far)
    → (given.kept ≡ kept_so_far) × MayBeKept base given.kept
given_numbers_pass_tests base given = (sym (same-kept given.told), given.passes)

abbrev plain_of_fault : PlainKept
plain_of_fault = record plain_so_far { fault = 7; fault_position = 4 }

-- eight bytes were read, within the limit; after a fault nothing is held
given_text_is_within_limit : (base : Base) (text : List ℕ)
    → ((consumed : WasGiven base plain_so_far text) → (consumed.kept ≡ kept_so_far)
    × (consumed.kept.len ≡ length text) × (length text ≤ 2305843009213693951))
    × (WasGiven base plain_of_fault text → ⊥)
given_text_is_within_limit base text = (
  λ consumed. (sym (same-kept consumed.told), consumed.keeps.counted, consumed.limit),
  λ consumed. two-zero (subst (λ kept. IsSome kept.fault → kept.count ≡ 0)
      (sym (same-kept consumed.told)) consumed.clear refl),
) where
  two-zero : ◌≡◌ {A = ℕ} 2 0 → ⊥
  two-zero is = omega (arith, is)

-- the room for five characters is three bytes, and a call that is refused changes nothing
room_returned_unless_refused :
    Has base64_mime_fields (λ base. (new answer : ℕ)
    → (TellsRoom base plain_so_far 5 7 new answer → answer ≡ ok)
    × (TellsRoom base plain_so_far 5 7 new ok → new ≡ 3)
    × (TellsRoom base plain_of_none 5 7 new no_decoder → new ≡ 7))
unfolding decoder_stands
room_returned_unless_refused new answer = (
  λ it. it.status _ decoder_stands,
  λ it. it.value refl _ decoder_stands,
  λ it. it.refused never-nineteen,
)

-- `8=` ends the group that is held, and means `lo` with it
piece_ends_held_group :
    Has base64_mime_fields (λ base. (new : Places) (answer : ℕ)
    → (ReadsPiece base (codes "8=") (places_so_far 7) new answer
    → (answer ≡ ok) × (length new.output ≡ 3))
    × (ReadsPiece base (codes "8=") (places_so_far 7) new ok
    → WasGiven base new.decoder (codes "SGVsbG" ++ 13 ∷ 10 ∷ codes "8=")
    × (take new.written new.output ≡ codes "lo") × (new.written ≤ length new.output)
    × (drop 3 new.output ≡ []))
    × (ReadsPiece base (codes "8=") places_of_none new no_decoder → new ≡ places_of_none))
unfolding decoder_stands
piece_ends_held_group new answer = (
  λ reads. (reads.status _ decoder_stands, reads.len),
  λ reads. (
    reads.stands refl _ decoder_stands,
    sym (ap (drop 3) (reads.decodes refl _ decoder_stands)),
    reads.within refl,
    reads.after refl _ decoder_stands,
  ),
  λ reads. reads.refused never-nineteen,
)

abbrev Ends : Base → List ℕ → Decoded → ℕ → Type 0
Ends base output decoded answer =
    FinishesText base plain_so_far (codes ".....") output (counts 7 7 7) decoded answer

-- `SGVsbG` CR LF has a fault of its length at 4, and its last group means no bytes
end_has_length_fault :
    Has base64_mime_fields (λ base. (output : List ℕ) (decoded : Decoded) (answer : ℕ)
    → (Ends base output decoded answer → (answer ≡ short_buffer → ⊥) → answer ≡ 6)
    × (Ends base output decoded 6 → (take decoded.written output ≡ [])
    × (decoded.position ≡ 4) × (decoded.read ≡ 8) × (decoded.written ≤ length output)))
end_has_length_fault output decoded answer = (
  λ ends other. ends.verdict other _ decoder_stands,
  λ ends. (
    sym (ap (drop 3) (ends.bytes never-six-four _ decoder_stands)),
    ends.position never-six-four _ (record { position = 4; kind = Length }) decoder_stands refl,
    ends.read never-six-four _ decoder_stands,
    ends.within never-six-four _ decoder_stands,
  ),
)

-- at the end of any text the position is within it, and a refused call changes nothing
end_bounds_position : (base : Base) (output : List ℕ) (decoded : Decoded)
    → (Ends base output decoded ok → decoded.position ≡ decoded.read)
    × (Ends base output decoded 6 → MayBeGiven base plain_so_far × (decoded.read ≡ 8)
    × (decoded.position < decoded.read) × (length output ≡ 5)
    × (drop decoded.written output ≡ drop decoded.written (codes ".....")))
    × (Ends base output decoded short_buffer → ⊥)
    × (Ends base output decoded no_decoder → (output ≡ codes ".....") × (decoded ≡ counts 7 7 7))
end_bounds_position base output decoded = (
  λ ends. ends.end refl,
  λ ends. (
    ends.given never-six-nineteen,
    ends.counted never-six-nineteen never-six-four,
    ends.inside never-six-nineteen never-six-four never-six-ok,
    ends.len,
    ends.after,
  ),
  λ ends. omega (arith, ends.short refl),
  λ ends. ends.refused (inl refl),
)

-- `w!` completes a block with `lo`, so four characters are due
four_characters_due :
    Has base64_fields (λ base. (new answer : ℕ)
    → (TellsDue base data_so_far 2 7 new answer → answer ≡ ok)
    × (TellsDue base data_so_far 2 7 new ok → new ≡ 4)
    × (TellsDue base whole_block 2 7 new no_encoder → new ≡ 7))
four_characters_due new answer = (
  λ it. it.status,
  λ it. sym (it.value refl (codes "w!") refl),
  λ it. it.refused never-twenty,
)

-- the block is written, and `!` is held
piece_completes_block :
    Has base64_fields (λ base. (new : DataPlaces) (answer : ℕ)
    → (EncodesPiece base (codes "w!") (places_with data_so_far 7) new answer → answer ≡ ok)
    × (EncodesPiece base (codes "w!") (places_with data_so_far 7) new ok
    → (new.output ≡ codes "bG93") × (new.written ≡ 4) × (held_data new.encoder ≡ codes "!")
    × EncodesOn base data_so_far new.encoder (codes "w!") (codes "bG93"))
    × (EncodesPiece base (codes "w!") (places_with whole_block 7) new no_encoder
    → new ≡ places_with whole_block 7))
piece_completes_block new answer = (
  λ reads. reads.status,
  λ reads. (reads.text refl, reads.written refl, reads.held refl, reads.encodes refl),
  λ reads. reads.refused never-twenty,
)

-- at the end of the data `lo` is written as `bG8=`
end_writes_last_block :
    Has base64_fields (λ base. (output : List ℕ) (written answer : ℕ)
    → (FinishesData base data_so_far (codes "....") output 7 written answer → answer ≡ ok)
    × (FinishesData base data_so_far (codes "....") output 7 written ok
    → (output ≡ codes "bG8=") × (written ≡ 4) × EndsBlocks base data_so_far (codes "bG8="))
    × (FinishesData base whole_block (codes "....") output 7 written no_encoder
    → (output ≡ codes "....") × (written ≡ 7)))
end_writes_last_block output written answer = (
  λ ends. ends.status,
  λ ends. (ends.text refl, ends.written refl, ends.whole refl),
  λ ends. ends.refused never-twenty,
)

-- 18 is refused by each call
eighteen_is_refused : (plain : PlainKept) (kept : KeptData) (decoded : Decoded) (form : Form)
    (lengths : TextLengths) (answer : ℕ)
    → (EncodesByNumber 18 (codes "Hi") [] [] 7 7 answer → answer ≡ unknown_encoding)
    × (DecodesByNumber 18 (codes "SGk=") [] [] decoded decoded answer
    → answer ≡ unknown_encoding)
    × (FinishesTextByNumber 18 plain [] [] decoded decoded answer → answer ≡ unknown_encoding)
    × (FinishesDataByNumber 18 kept [] [] 7 7 answer → answer ≡ unknown_encoding)
    × (ReadsPieceByNumber 18 [] plain plain [] [] 7 7 answer → answer ≡ unknown_encoding)
    × (EncodesPieceByNumber 18 [] kept kept [] [] 7 7 answer → answer ≡ unknown_encoding)
    × (GivesBackByNumber 18 form form lengths lengths [] [] answer → answer ≡ unknown_encoding)
eighteen_is_refused plain kept decoded form lengths answer = (
  λ by. (by.unknown refl).0,
  λ by. (by.unknown refl).0,
  λ by. (by.unknown refl).0,
  λ by. (by.unknown refl).0,
  λ by. (by.unknown refl).0,
  λ by. (by.unknown refl).0,
  λ by. (by.unknown refl).0,
)

-- a call with an encoding of the caller changes nothing if it refuses
refusal_changes_nothing : (held : PlainEncoding) (plain : PlainKept) (kept : KeptData) (form : Form)
    (lengths : TextLengths) (output : List ℕ) (written : ℕ)
    → (ReadsPieceByCustom held [] plain_of_none plain (codes "...") output 7 written no_decoder
    → output ≡ codes "...")
    × (EncodesPieceByCustom held [] whole_block kept (codes "...") output 7 written no_encoder
    → output ≡ codes "...")
    × (GivesBackByCustom held lines_form form lengths lengths (codes "...") output short_buffer
    → output ≡ codes "...")
refusal_changes_nothing held plain kept form lengths output written = (
  λ reads. ap (λ places. places.output) (reads.refused never-nineteen),
  λ reads. ap (λ places. places.output) (reads.refused never-twenty),
  λ gives. ap (λ places. places.texts) (gives.refused never-four),
)
