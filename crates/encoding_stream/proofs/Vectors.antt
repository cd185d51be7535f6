-- Worked rows for what streams and decoders have done.
use Rattle.std.proofs.Common.{◌∙◌, ◌≡◌, ℕ, ◌+◌, ◌≤◌, zero-add, true, false, List, [], ◌∷◌, ◌++◌, drop, take, map, codes, replicate, Option, Some, None, Result, Ok, Err, refl, zero, suc, sym, ap, subst, lit<, lit≤, arith, length}
use Rattle.std.proofs.lemmas.Fmt.{decimal_digit}
use Rattle.data_encoding.specs.declared.error.DecodeError.{DecodeError}
use Rattle.data_encoding.specs.declared.error.DecodeKind.TheVariants.{Length, Symbol, Trailing, Padding}
use Rattle.data_encoding.specs.declared.specification.meanings.Refusal.{Refusal}
use Rattle.data_encoding.specs.Base.{Base}
use Rattle.data_encoding.specs.Fault.{fault_of, sound_bytes}
use Rattle.data_encoding.specs.Fields.{Fields, base_of, IsSpecified}
use Rattle.data_encoding.specs.Lent.{base_of_lent}
use Rattle.data_encoding.specs.Grammar.{positioned_from}
use Rattle.data_encoding.specs.Predefined.{base64_fields, base64_mime_fields, base64_mime_permissive_fields, base64_nopad_fields}
use Rattle.data_encoding.specs.Pieces.{whole_bytes, AreWhole, CountsGroups, EndsNowhere, HoldsPiece, JoinsUnpadded, JudgesGroup, KeepsFault, MeansWhole, ReadsFaulty, ReadsGroup, ReadsSound, TellsBytes, TellsEnd, TellsFault}
use Rattle.std.proofs.lemmas.List.{append-nil}
use Rattle.encoding_stream.specs.Decoded.{JudgesText, DecodesAll, DecodesFront, DecodesJudged, result_of}
use Rattle.encoding_stream.specs.Reading.{CompletesNothing, HasNoLastBytes, HasVerdict, ReadsOn, HasLastBytes}
use Rattle.encoding_stream.specs.BufferDecoder.{base_of_pieces, paired, at_positions, held_group, Keeps, HasState, bytes_due, kept_by, most_completed, verdict_of}
use Rattle.encoding_stream.specs.declared.buffer_decoder.BufferDecoder.{BufferDecoder}
use Rattle.encoding_stream.specs.declared.decoder.Decoder.{Decoder}
use Rattle.encoding_stream.specs.declared.error.StreamFault.TheVariants.{Read, Write, Decode, TooLong}
use Rattle.encoding_stream.specs.declared.buffer_encoder.BufferEncoder.{BufferEncoder}
use Rattle.data_encoding.specs.declared.encode.kept_data.KeptData.{KeptData}
use Rattle.encoding_stream.specs.declared.buffer_decoder.Kept.{Kept}
use Rattle.encoding_stream.specs.declared.failure_watch.Watch.{Watch}
use Rattle.encoding_stream.specs.Appending.{AppendsDecoded}
use Rattle.encoding_stream.specs.Decoder.{base_of_decoder, decoder_len, FinishesWith, HasConsumed, AppendsFinished, AppendsPushed}
use Rattle.encoding_stream.specs.Encoded.{EncodesAll, EncodesFront, ReadsMore, Succeeds, WritesText}
use Rattle.encoding_stream.specs.Printed.{printed_stream_fault}
use Rattle.encoding_stream.specs.BufferEncoder.{base_of_blocks, data_kept, EncodesOn, EndsBlocks, HasWritten}
use Rattle.encoding_stream.specs.Resume.{held_bytes, held_positions, is_of_group, Ascend, HasPossibleFault, HoldsNoIgnored, IsKept, MayBeKept}
use Rattle.encoding_stream.specs.Specified.{HasLaws, IsBuiltAgain, KeepsFront}
use Rattle.encoding_stream.specs.Watch.{from_to, has_failed, inner_of, is_refused, seen, AppendsFront, Change}
use Rattle.data_encoding.specs.Layout.{fields_of}
use Rattle.data_encoding.specs.Text.{text_of}
use Rattle.encoding_stream.specs.declared.error.StreamFault.{StreamFault}

abbrev Holds : (Base → Type 0) → Result Base Refusal → Type 0
Holds P (Ok base) = P base
Holds P (Err refusal) = ⊥

-- The fields have a base, and it is so.
abbrev Has : Fields → (Base → Type 0) → Type 0
Has fields P = Holds P (base_of fields)

-- BASE64 is built from its own specification
built_again : Has base64_fields IsBuiltAgain
built_again = record { is_built = refl }

-- `Hello` was read to its end, and its text written
encoded_all :
    Has base64_fields (λ base.
    EncodesAll base (from_to (Some (codes "Hello")) (Some []))
    (from_to (Some (codes "> ")) (Some (codes "> SGVsbG8="))))
encoded_all = record { bytes = codes "Hello"; read = refl; at_end = refl; written = refl }

-- `Hel` was read, and two characters were written
encoded_front :
    Has base64_fields (λ base.
    EncodesFront base (from_to (Some (codes "Hello")) (Some (codes "lo")))
    (from_to (Some []) (Some (codes "SG"))))
encoded_front = record { bytes = codes "Hel"; read = refl; written = (2, refl); of_all = (2, refl) }

-- the text of all that the reader had was written
text_written :
    Has base64_fields (λ base.
    WritesText base (from_to (Some (codes "Hello")) (Some []))
    (from_to (Some (codes "> ")) (Some (codes "> SGVsbG8="))))
text_written = refl

-- five bytes are few; nothing is said if a write failed, or of a reader that is not known
succeeded :
    Succeeds (Ok tt) (Some (codes "Hello")) false false
    × Succeeds (Err Write) (Some (codes "Hello")) false true
    × Succeeds (Err TooLong) None false false
    × (Succeeds (Err TooLong) (Some (codes "Hello")) false false → ⊥)
succeeded = (
  λ few read write. refl,
  λ few read write. absurd (cc write),
  tt,
  λ holds. absurd (cc (holds (lit< tt) refl refl)),
)

read_more : ReadsMore 4 (from_to (Some (codes "Hello")) (Some []))
read_more = record { bytes = codes "Hello"; read = refl; more = lit< tt }

abbrev symbol_at_4 : DecodeError
symbol_at_4 = record { position = 4; kind = Symbol }

-- a text with a fault was read to its end, and the bytes of the group before it were written
decoded_all :
    Has base64_fields (λ base.
    DecodesAll base (Some symbol_at_4) (from_to (Some (codes "SGVs!G8=")) (Some []))
    (from_to (Some []) (Some (codes "Hel"))))
decoded_all = record {
  text = codes "SGVs!G8=";
  read = refl;
  at_end = refl;
  fault_is = refl;
  written = refl;
}

-- a text without a fault was read to its end, and Ok was returned
decoded_judged :
    Has base64_fields (λ base.
    DecodesJudged base (Ok tt) (from_to (Some (codes "SGVsbG8=")) (Some []))
    (from_to (Some []) (Some (codes "Hello")))
    × JudgesText base (Ok tt) (Some (codes "SGVsbG8=")) false false)
decoded_judged = (
  record {
    whole = record {
      text = codes "SGVsbG8=";
      read = refl;
      at_end = refl;
      fault_is = refl;
      written = refl;
    };
    faulty = λ error returned. cc;
  },
  λ few read write. refl,
)

-- a whole group of a text was read, and one byte was written
decoded_front :
    Has base64_fields (λ base.
    DecodesFront base (from_to (Some (codes "SGVsbG8=")) (Some (codes "bG8=")))
    (from_to (Some []) (Some (codes "H"))))
decoded_front = record {
  text = codes "SGVs";
  read = refl;
  written = (1, refl);
  of_all = (1, refl);
}

answers :
    (result_of None ≡ Ok _) × (result_of (Some symbol_at_4) ≡ Err (Decode symbol_at_4))
    × (verdict_of None ≡ Ok _) × (verdict_of (Some symbol_at_4) ≡ Err symbol_at_4)
answers = (refl, refl, refl, refl)

-- a prefix was written; a write that takes none of one byte was refused
written_in_part :
    AppendsFront (Some (codes "> ")) (Some (codes "> SG")) (codes "SGVs")
    × (is_refused {E = Refusal} (Ok 0) (codes "S") ≡ true)
    × (is_refused {E = Refusal} (Ok 0) [] ≡ false)
    × (is_refused {E = Refusal} (Ok 1) (codes "SG") ≡ false)
    × ((error : Refusal) → is_refused (Err error) [] ≡ true)
written_in_part = ((2, refl), refl, refl, refl, λ error. refl)

-- a reader that is watched, a call of which has failed
watched : (w : Watch ℕ) → w.inner ≡ 7 → w.has_failed ≡ true
    → (inner_of w ≡ 7) × (has_failed w ≡ true)
watched w inner failed = (inner, failed)

-- a reader of `Hello` that has read nothing, and then three bytes
seen_changed :
    (before after : Watch ℕ) → before.inner ≡ 0 → after.inner ≡ 3
    → seen (λ done. Some (drop done (codes "Hello"))) before after
    ≡ from_to (Some (codes "Hello")) (Some (codes "lo"))
seen_changed before after none three =
    let left : ℕ → Option (List ℕ) = λ done. Some (drop done (codes "Hello")) in
    ap (λ done. from_to (left done) (left after.inner)) none
    ∙ ap (λ done. from_to (left 0) (left done)) three

changed :
    (change : Change) → from_to change.old change.new ≡ change
changed change = refl

-- what is kept of `SGVsbG` CR LF: `bG` at 4 and 5
abbrev kept_so_far : Kept
kept_so_far = record {
  len = 8;
  fault = None;
  positions = 4 ∷ 5 ∷ replicate 6 0;
  bytes = codes "bG" ++ replicate 6 0;
  count = 2;
  ended = false;
}

kept_of_text :
    Has base64_mime_fields (λ base. Keeps base kept_so_far (codes "SGVsbG" ++ 13 ∷ 10 ∷ []))
    × (held_group kept_so_far ≡ positioned_from 4 (codes "bG"))
    × (at_positions 1 (4 ∷ 5 ∷ []) (codes "bG") ≡ positioned_from 4 (codes "b"))
    × (paired (4 ∷ 5 ∷ []) (codes "bG") ≡ positioned_from 4 (codes "bG"))
kept_of_text = (
  record { counted = refl; first = refl; holds = λ h. refl; ends = λ h. refl },
  refl,
  refl,
  refl,
)

-- `SGVsbG` CR LF ends within a group
abbrev length_at_4 : DecodeError
length_at_4 = record { position = 4; kind = Length }

verdict_given :
    Has base64_mime_fields (λ base. (verdict : Result (Unit {0}) DecodeError)
    → HasVerdict base kept_so_far verdict → verdict ≡ Err length_at_4)
verdict_given verdict gives = gives _ kept_of_text.0

-- `8` completes no group after `SGVsbG`, and there is no last one after `SGVs`
nothing_completed :
    Has base64_fields (λ base. CompletesNothing base (codes "SGVsbG") (codes "8")
    × HasNoLastBytes base (codes "SGVs"))
nothing_completed = (refl, refl)

pushed_by : (base : Base) (text : List ℕ) → Keeps base kept_so_far text
    → (decoder : Decoder) → base_of_decoder decoder ≡ base → decoder.pieces.kept ≡ kept_so_far
    → HasConsumed decoder text × (decoder_len decoder ≡ 8)
pushed_by base text keeps decoder is kept_is = (
  subst (λ kept. Keeps (base_of_decoder decoder) kept text) (sym kept_is)
      (subst (λ those. Keeps those kept_so_far text) (sym is) keeps),
  ap (λ kept. kept.len) kept_is,
)

-- the encoding of a decoder by pieces
base_of_decoding : (base : Base) (pieces : BufferDecoder) → base_of_lent pieces.encoding ≡ base
    → base_of_pieces pieces ≡ base
base_of_decoding base pieces is = is

-- ten symbols of base64 complete two groups; after two that are held, five more of a text may
-- complete one, and after a fault none
most_bytes_completed :
    Has base64_fields (λ base. (bytes_due base 10 ≡ 6)
    × (most_completed base kept_so_far 5 ≡ 3)
    × (most_completed base (record kept_so_far { fault = Some symbol_at_4 }) 5 ≡ 0))
most_bytes_completed = (refl, refl, refl)

-- a decoder that continues from what is kept
has_state : (base : Base) (pieces : BufferDecoder) → base_of_lent pieces.encoding ≡ base
    → pieces.kept ≡ kept_so_far → HasState base kept_so_far pieces × (kept_by pieces ≡ kept_so_far)
has_state base pieces is kept_is = (record { base_is = is; kept_is = kept_is }, kept_is)

-- a piece of no bytes changes nothing
no_piece : (base : Base) → ReadsOn base kept_so_far kept_so_far [] []
no_piece base = record {
  keeps = λ text keeps.
      subst (λ those. Keeps base kept_so_far those) (sym (append-nil text)) keeps;
  decodes = λ text keeps.
      ap (λ those. whole_bytes base those) (append-nil text)
      ∙ sym (append-nil (whole_bytes base text));
  counted = refl;
  few = λ more.
      subst (λ n. 0 + most_completed base kept_so_far more
      ≤ most_completed base kept_so_far n) (sym (zero-add more)) (omega arith);
}

-- after `SGVsbG`, of which `Hel` is decoded, `8=` appends `lo` to an output that was drained
appended_more :
    Has base64_fields (λ base.
    AppendsDecoded (whole_bytes base (codes "SGVsbG")) (whole_bytes base (codes "SGVsbG8="))
    (codes "> ") (codes "> lo"))
appended_more = record { bytes = codes "lo"; decoded = refl; appended = refl }

-- a decoder that was pushed that text
pushed_so_far :
    Has base64_mime_fields (λ base. (decoder : Decoder) → base_of_decoder decoder ≡ base
    → decoder.pieces.kept ≡ kept_so_far
    → HasConsumed decoder (codes "SGVsbG" ++ 13 ∷ 10 ∷ []) × (decoder_len decoder ≡ 8))
pushed_so_far = pushed_by _ _ kept_of_text.0

-- the verdict of that decoder
finished_by : (base : Base) (text : List ℕ) → Keeps base kept_so_far text
    → (decoder : Decoder) → base_of_decoder decoder ≡ base → decoder.pieces.kept ≡ kept_so_far
    → (verdict : Result (Unit {0}) DecodeError) → FinishesWith decoder verdict
    → verdict ≡ verdict_of (fault_of base text)
finished_by base text keeps decoder is kept_is verdict finishes =
    finishes text (pushed_by base text keeps decoder is kept_is).0
    ∙ ap (λ those. verdict_of (fault_of those text)) is

stream_faults_printed :
    (map printed_stream_fault (Read ∷ Write ∷ TooLong ∷ [])
    ≡ codes "read failed" ∷ codes "write failed" ∷ codes "input too long" ∷ [])
    × (printed_stream_fault (Decode symbol_at_4) ≡ codes "invalid symbol at 4")
stream_faults_printed =
    (refl, ap (λ four. codes "invalid symbol at " ++ four) (decimal_digit 4 (lit< tt)))

-- positions ascend below the length; not one twice, and not the length
positions_ascend :
    Ascend 0 8 (4 ∷ 5 ∷ []) × (Ascend 0 8 (4 ∷ 4 ∷ []) → ⊥) × (Ascend 0 8 (4 ∷ 8 ∷ []) → ⊥)
positions_ascend = (
  (lit≤ tt, lit< tt, (lit≤ tt, lit< tt, tt)),
  λ twice. omega (arith, twice.2.0),
  λ far. omega (arith, far.2.1),
)

never : true ≡ false → ⊥
never is = absurd (cc is)

no_line_end : Has base64_mime_fields (λ base. HoldsNoIgnored base kept_so_far)
no_line_end zero k h = refl
no_line_end (suc zero) k h = refl
no_line_end (suc (suc index)) k h = absurd (omega (arith, h))

-- what is held of `SGVsbG` CR LF; a held line end is ignored
none_held_ignored :
    (held_positions kept_so_far ≡ 4 ∷ 5 ∷ []) × (held_bytes kept_so_far ≡ codes "bG")
    × Has base64_mime_fields (λ base. HoldsNoIgnored base kept_so_far
    × (HoldsNoIgnored base (record kept_so_far { bytes = 98 ∷ 13 ∷ replicate 6 0 }) → ⊥))
none_held_ignored =
    (refl, refl, (no_line_end, λ none. never (none 1 0 (lit< tt))))

-- whole groups have no fault of a length, one of padding only if there is padding, and one of
-- trailing bits only if these are checked
kinds_of_groups :
    Has base64_fields (λ base. (is_of_group base Length ≡ false)
    × (is_of_group base Symbol ≡ true) × (is_of_group base Trailing ≡ true)
    × (is_of_group base Padding ≡ true))
    × Has base64_nopad_fields (λ base. is_of_group base Padding ≡ false)
    × Has base64_mime_permissive_fields (λ base. is_of_group base Trailing ≡ false)
kinds_of_groups = ((refl, refl, refl, refl), refl, refl)

-- a symbol at 4 of a text of 8 bytes, of which nothing is held; but not if two bytes are held
fault_possible :
    Has base64_fields (λ base.
    HasPossibleFault base (record kept_so_far { fault = Some symbol_at_4; count = 0 })
    × (HasPossibleFault base (record kept_so_far { fault = Some symbol_at_4 }) → ⊥))
fault_possible = (
  record {
    clear = λ _. refl;
    inside = lit< tt;
    kind = refl;
    ends = λ none. absurd (cc none);
  },
  λ both. absurd (omega (arith, both.clear refl)),
)

-- what is kept of that text passes each test; a text of 5 bytes has none at 5
may_be_kept :
    Has base64_mime_fields (λ base. MayBeKept base kept_so_far
    × (MayBeKept base (record kept_so_far { len = 5 }) → ⊥))
may_be_kept = (
  record {
    limit = lit≤ tt;
    short = lit< tt;
    in_order = positions_ascend.0;
    none_ignored = no_line_end;
    fault = record {
      clear = λ some. absurd (cc some);
      inside = tt;
      kind = tt;
      ends = λ _ final. absurd (cc final);
    };
  },
  λ far. omega (arith, far.in_order.2.1),
)

-- what is kept of that text; but nothing is held after a fault
is_kept :
    Has base64_mime_fields (λ base. IsKept base kept_so_far
    × (IsKept base (record kept_so_far { fault = Some symbol_at_4 }) → ⊥))
is_kept = (
  record {
    text = codes "SGVsbG" ++ 13 ∷ 10 ∷ [];
    keeps = kept_of_text.0;
    limit = lit≤ tt;
    clear = λ some. absurd (cc some);
  },
  λ both. absurd (omega (arith, both.clear refl)),
)

-- `lo` is held of `hello`
abbrev data_so_far : KeptData
data_so_far = record { count = 2; bytes = codes "lo" ++ replicate 187 0 }

data_written :
    Has base64_fields (λ base. HasWritten base data_so_far (codes "hello") (codes "aGVs"))
data_written = record {
  encoded = codes "hel";
  are_bytes = refl;
  is_aligned = refl;
  is_short = lit< tt;
  is_written = refl;
}

-- what ends the text of `hello` follows `aGVs`
blocks_ended :
    Has base64_fields (λ base. (last : List ℕ) → EndsBlocks base data_so_far last
    → codes "aGVsbG8=" ≡ codes "aGVs" ++ last)
blocks_ended last ends = ends (codes "hello") (codes "aGVs") data_written

-- a piece of no bytes changes nothing
no_data : (base : Base) → EncodesOn base data_so_far data_so_far [] []
no_data base = λ bytes before has.
    subst (λ b. HasWritten base data_so_far b (before ++ [])) (sym (append-nil bytes))
    (subst (HasWritten base data_so_far bytes) (sym (append-nil before)) has)

-- the encoding of an encoder by pieces, and what it keeps
base_of_encoding : (base : Base) (encoder : BufferEncoder) → base_of_lent encoder.encoding ≡ base
    → encoder.kept ≡ data_so_far
    → (base_of_blocks encoder ≡ base) × (data_kept encoder ≡ data_so_far)
base_of_encoding base encoder is kept_is = (is, kept_is)

-- what was read of a reader that has nothing left
all-read : (bytes had left : List ℕ) → had ≡ bytes ++ left → left ≡ [] → bytes ≡ had
all-read bytes had left read none =
    sym (append-nil bytes) ∙ ap (λ rest. bytes ++ rest) (sym none) ∙ sym read

-- `Hello` was read to its end, so nothing is left, and its text was written
encoded_by : (base : Base) → text_of base (codes "Hello") ≡ codes "SGVsbG8="
    → (left written : List ℕ)
    → EncodesAll base (from_to (Some (codes "Hello")) (Some left))
    (from_to (Some (codes "> ")) (Some written))
    → (left ≡ []) × (written ≡ codes "> SGVsbG8=")
encoded_by base text left written done = (
  done.at_end,
  done.written ∙ ap (λ bytes. codes "> " ++ text_of base bytes)
      (all-read done.bytes (codes "Hello") left done.read done.at_end)
      ∙ ap (λ those. codes "> " ++ those) text,
)

encoded_text_is_written :
    Has base64_fields (λ base. (left written : List ℕ)
    → EncodesAll base (from_to (Some (codes "Hello")) (Some left))
    (from_to (Some (codes "> ")) (Some written))
    → (left ≡ []) × (written ≡ codes "> SGVsbG8="))
encoded_text_is_written = encoded_by _ refl

written_text_is_whole :
    Has base64_fields (λ base. (left : Option (List ℕ)) (written : List ℕ)
    → WritesText base (from_to (Some (codes "Hello")) left)
    (from_to (Some (codes "> ")) (Some written)) → written ≡ codes "> SGVsbG8=")
written_text_is_whole left written done = done

-- what was read of `Hello` and nothing is left of; a prefix of its text was written, by what was
-- read and by what the reader had
encoded_front_is_prefix : (base : Base) (written : List ℕ)
    → EncodesFront base (from_to (Some (codes "Hello")) (Some []))
    (from_to (Some []) (Some written))
    → (bytes : List ℕ) × (bytes ≡ codes "Hello")
    × AppendsFront (Some []) (Some written) (text_of base bytes)
    × AppendsFront (Some []) (Some written) (text_of base (codes "Hello"))
encoded_front_is_prefix base written done = (
  done.bytes,
  all-read done.bytes (codes "Hello") [] done.read refl,
  done.written,
  done.of_all,
)

-- four bytes are no more than four
four_are_not_more_than_four : ReadsMore 4 (from_to (Some (codes "Hell")) (Some [])) → ⊥
four_are_not_more_than_four done =
    let four = ap length (all-read done.bytes (codes "Hell") [] done.read refl) in
    omega (arith, four, done.more)

-- a text was read to its end, so nothing is left, it has no fault, and its bytes were written
decoded_by : (base : Base) → fault_of base (codes "SGVsbG8=") ≡ None
    → sound_bytes base (codes "SGVsbG8=") ≡ codes "Hello"
    → (fault : Option DecodeError) (left written : List ℕ)
    → DecodesAll base fault (from_to (Some (codes "SGVsbG8=")) (Some left))
    (from_to (Some []) (Some written))
    → (left ≡ []) × (fault ≡ None) × (written ≡ codes "Hello")
decoded_by base none bytes fault left written done =
    let text = all-read done.text (codes "SGVsbG8=") left done.read done.at_end in (
      done.at_end,
      sym done.fault_is ∙ ap (fault_of base) text ∙ none,
      done.written ∙ ap (sound_bytes base) text ∙ bytes,
    )

decoded_data_is_written :
    Has base64_fields (λ base. (fault : Option DecodeError) (left written : List ℕ)
    → DecodesAll base fault (from_to (Some (codes "SGVsbG8=")) (Some left))
    (from_to (Some []) (Some written))
    → (left ≡ []) × (fault ≡ None) × (written ≡ codes "Hello"))
decoded_data_is_written = decoded_by _ refl refl

-- what was read of a text that nothing is left of; a prefix of its bytes was written, by what was
-- read and by what the reader had
decoded_front_is_prefix : (base : Base) (written : List ℕ)
    → DecodesFront base (from_to (Some (codes "SGVs")) (Some []))
    (from_to (Some []) (Some written))
    → (text : List ℕ) × (text ≡ codes "SGVs")
    × AppendsFront (Some []) (Some written) (sound_bytes base text)
    × AppendsFront (Some []) (Some written) (sound_bytes base (codes "SGVs"))
decoded_front_is_prefix base written done = (
  done.text,
  all-read done.text (codes "SGVs") [] done.read refl,
  done.written,
  done.of_all,
)

-- `Ok` is returned only if all was decoded, and a fault only if the text has it
result_means_all_decoded : (base : Base) (reader writer : Option (List ℕ))
    → (DecodesJudged base (Ok tt) (from_to reader reader) (from_to writer writer)
    → DecodesAll base None (from_to reader reader) (from_to writer writer))
    × (DecodesJudged base (Err (Decode symbol_at_4)) (from_to reader reader)
    (from_to writer writer)
    → DecodesAll base (Some symbol_at_4) (from_to reader reader) (from_to writer writer))
result_means_all_decoded base reader writer = (λ done. done.whole, λ done. done.faulty _ refl)

-- a text without a fault is not refused
valid_text_is_ok :
    Has base64_fields (λ base. (result : Result (Unit {0}) StreamFault)
    → JudgesText base result (Some (codes "SGVsbG8=")) false false → result ≡ Ok tt)
valid_text_is_ok result judges = judges (lit≤ tt) refl refl

-- a prefix cannot be written by taking bytes away
front_never_shrinks : (bytes : List ℕ) → AppendsFront (Some (codes "> ")) (Some []) bytes → ⊥
front_never_shrinks bytes done = absurd (cc done.1)

-- after `Hel`, exactly `lo` was appended
appended_is_rest : (output : List ℕ)
    → AppendsDecoded (codes "Hel") (codes "Hello") (codes "> ") output → output ≡ codes "> lo"
appended_is_rest output done =
    done.appended ∙ ap (λ bytes. codes "> " ++ bytes) (sym (ap (drop 3) done.decoded))

-- no whole block is held
no_whole_block_is_held :
    Has base64_fields (λ base. (bytes text : List ℕ)
    → HasWritten base (record data_so_far { count = 3 }) bytes text → ⊥)
no_whole_block_is_held bytes text has = omega (arith, has.is_short)

-- after `hello`, of which `lo` is held, a piece goes on
piece_continues_encoding :
    Has base64_fields (λ base. (new : KeptData) (text : List ℕ)
    → EncodesOn base data_so_far new (codes "w!") text
    → HasWritten base new (codes "hellow!") (codes "aGVs" ++ text))
piece_continues_encoding new text on = on (codes "hello") (codes "aGVs") data_written

-- what is kept of a text has its length
kept_len_is_text_len : (base : Base) (text : List ℕ) → Keeps base kept_so_far text → length text ≡ 8
kept_len_is_text_len base text keeps = sym keeps.counted

decoder_len_is_text_len : (decoder : Decoder) (text : List ℕ) → HasConsumed decoder text
    → decoder_len decoder ≡ length text
decoder_len_is_text_len decoder text consumed = consumed.counted

state_is_given : (base : Base) (pieces : BufferDecoder) → HasState base kept_so_far pieces
    → (base_of_lent pieces.encoding ≡ base) × (pieces.kept ≡ kept_so_far)
state_is_given base pieces goes = (goes.base_is, goes.kept_is)

-- a text that is built from its own specification
built_from_own_fields : (base : Base) → IsBuiltAgain base → fields_of base ≡ base64_fields
    → base_of base64_fields ≡ Ok base
built_from_own_fields base built is = sym (ap base_of is) ∙ built.is_built

-- whatever follows `SGVs`, the text begins with the bytes of `Hel`
front_kept :
    Has base64_fields (λ base. IsSpecified base → KeepsFront → (piece : List ℕ)
    → take 3 (whole_bytes base (codes "SGVs" ++ piece)) ≡ codes "Hel")
front_kept is law piece = law _ is (codes "SGVs") piece

-- where the laws hold, so does each of them
each_law_holds : HasLaws
    → HoldsPiece × ReadsGroup × KeepsFault × KeepsFront × TellsFault × TellsBytes × JudgesGroup
    × ReadsSound × ReadsFaulty × AreWhole × CountsGroups × JoinsUnpadded × EndsNowhere × TellsEnd
    × MeansWhole
each_law_holds laws = (
  laws.held,
  laws.group,
  laws.faulty,
  laws.front,
  laws.verdict,
  laws.bytes,
  laws.alone,
  laws.sound,
  laws.stops,
  laws.whole,
  laws.due,
  laws.joins,
  laws.ends_nowhere,
  laws.ends,
  laws.by_bytes,
)

-- `SGVsbG8` is kept but for its first group
abbrev kept_last : Kept
kept_last = record {
  len = 7;
  fault = None;
  positions = 4 ∷ 5 ∷ 6 ∷ replicate 5 0;
  bytes = codes "bG8" ++ replicate 5 0;
  count = 3;
  ended = false;
}

last_kept : Has base64_nopad_fields (λ base. Keeps base kept_last (codes "SGVsbG8"))
last_kept = record { counted = refl; first = refl; holds = λ h. refl; ends = λ h. refl }

-- its last group has the bytes `lo`, and these are written
last_bytes_are_lo :
    Has base64_nopad_fields (λ base. (bytes : List ℕ) → HasLastBytes base kept_last bytes
    → bytes ≡ codes "lo")
last_bytes_are_lo bytes has = sym (ap (drop 3) (has _ last_kept))

-- `8=` ends the group that is held of `SGVsbG`, and means `lo` with it
piece_completes_group :
    Has base64_mime_fields (λ base. (new : Kept) (bytes : List ℕ)
    → ReadsOn base kept_so_far new (codes "8=") bytes
    → Keeps base new (codes "SGVsbG" ++ 13 ∷ 10 ∷ codes "8=") × (bytes ≡ codes "lo")
    × (new.len ≡ 10) × (length bytes ≤ 3))
piece_completes_group new bytes reads = (
  reads.keeps _ kept_of_text.0,
  sym (ap (drop 3) (reads.decodes _ kept_of_text.0)),
  reads.counted,
  omega (arith, reads.few 0),
)

three-of-five : ◌≡◌ {A = ℕ} 5 3 → ⊥
three-of-five is = omega (arith, is)

-- a whole group has bytes, and so has a last group
groups_have_bytes :
    Has base64_fields (λ base. CompletesNothing base (codes "SGVs") (codes "bG8=") → ⊥)
    × Has base64_nopad_fields (λ base. HasNoLastBytes base (codes "SGVsbG8") → ⊥)
groups_have_bytes = (λ none. three-of-five (ap length none), λ none. three-of-five (ap length none))

-- a fault is inside the text and of a whole group's kind; a final group has nothing after it
impossible_faults :
    Has base64_fields (λ base.
    (HasPossibleFault base (record kept_so_far { len = 4; fault = Some symbol_at_4; count = 0 })
    → ⊥)
    × (HasPossibleFault base (record kept_so_far { fault = Some length_at_4; count = 0 }) → ⊥)
    × (HasPossibleFault base (record kept_so_far { ended = true }) → ⊥))
impossible_faults = (
  λ possible. omega (arith, possible.inside),
  λ possible. never (sym possible.kind),
  λ possible. never (possible.ends refl refl),
)

-- not more than the limit is kept, less than a group is held, no line end, and nothing after a
-- fault
refused_states :
    Has base64_mime_fields (λ base.
    (MayBeKept base (record kept_so_far { len = 2305843009213693952 }) → ⊥)
    × (MayBeKept base (record kept_so_far { count = 4 }) → ⊥)
    × (MayBeKept base (record kept_so_far { bytes = 98 ∷ 13 ∷ replicate 6 0 }) → ⊥)
    × (MayBeKept base (record kept_so_far { fault = Some symbol_at_4 }) → ⊥))
refused_states = (
  λ may. omega (arith, may.limit),
  λ may. omega (arith, may.short),
  λ may. none_held_ignored.2.1 may.none_ignored,
  λ may. absurd (omega (arith, may.fault.clear refl)),
)

-- what is kept has the length of its text, which is within the limit
kept_len_within_limit : (base : Base) (kept : Kept) (is : IsKept base kept)
    → (kept.len ≡ length is.text) × (kept.len ≤ 2305843009213693951)
kept_len_within_limit base kept is = (is.keeps.counted, omega (arith, is.keeps.counted, is.limit))

-- pushed first, `SGVs` appends `Hel`
pushed_bytes : (decoder : Decoder) (output : List ℕ)
    → whole_bytes (base_of_decoder decoder) [] ≡ []
    → whole_bytes (base_of_decoder decoder) (codes "SGVs") ≡ codes "Hel"
    → HasConsumed decoder [] → AppendsPushed decoder (codes "SGVs") (codes "> ") output
    → (output ≡ codes "> Hel") × (output ≡ codes "> Hel")
pushed_bytes decoder output none some consumed pushed =
    let done = pushed.bytes [] consumed in (
      done.appended ∙ ap (λ bytes. codes "> " ++ bytes)
          (sym (done.decoded ∙ ap (λ before. before ++ done.bytes) none) ∙ some),
      (pushed.decoded (codes "> ") [] consumed
          (record { appended = sym (ap (λ bytes. codes "> " ++ bytes) none) })).appended
          ∙ ap (λ bytes. codes "> " ++ bytes) some,
    )

pushed_bytes_are_appended :
    Has base64_fields (λ base. (decoder : Decoder) (output : List ℕ)
    → base_of_decoder decoder ≡ base → HasConsumed decoder []
    → AppendsPushed decoder (codes "SGVs") (codes "> ") output
    → (output ≡ codes "> Hel") × (output ≡ codes "> Hel"))
pushed_bytes_are_appended decoder output is = pushed_bytes decoder output
    (ap (λ base. whole_bytes base []) is) (ap (λ base. whole_bytes base (codes "SGVs")) is)

-- at the end of `SGVsbG8`, `lo` is appended
finished_bytes : (decoder : Decoder) (output : List ℕ)
    → whole_bytes (base_of_decoder decoder) (codes "SGVsbG8") ≡ codes "Hel"
    → sound_bytes (base_of_decoder decoder) (codes "SGVsbG8") ≡ codes "Hello"
    → HasConsumed decoder (codes "SGVsbG8")
    → AppendsFinished decoder (codes "> Hel") output
    → (output ≡ codes "> Hello") × (output ≡ codes "> Hello")
finished_bytes decoder output whole sound consumed finished =
    let done = finished.bytes (codes "SGVsbG8") consumed in
    let all = sym sound ∙ done.decoded ∙ ap (λ before. before ++ done.bytes) whole in (
      done.appended ∙ ap (λ bytes. codes "> Hel" ++ bytes) (sym (ap (drop 3) all)),
      finished.decoded (codes "> ") (codes "SGVsbG8") consumed
          (record { appended = sym (ap (λ bytes. codes "> " ++ bytes) whole) })
          ∙ ap (λ bytes. codes "> " ++ bytes) sound,
    )

finished_bytes_are_appended :
    Has base64_nopad_fields (λ base. (decoder : Decoder) (output : List ℕ)
    → base_of_decoder decoder ≡ base → HasConsumed decoder (codes "SGVsbG8")
    → AppendsFinished decoder (codes "> Hel") output
    → (output ≡ codes "> Hello") × (output ≡ codes "> Hello"))
finished_bytes_are_appended decoder output is = finished_bytes decoder output
    (ap (λ base. whole_bytes base (codes "SGVsbG8")) is)
    (ap (λ base. sound_bytes base (codes "SGVsbG8")) is)
