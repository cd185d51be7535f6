-- Worked rows of encoders, and of what is displayed.
use mathlib.Core.Option as maybe
use Rattle.std.proofs.Common.{◌≡◌, ℕ, ◌<◌, List, [], ◌++◌, length, codes, Ok, Err, refl, ap, lit<, lit≤, replicate, sym, subst, ◌∙◌}
use Rattle.data_encoding_meaning.specs.text.Base.{Base}
use Rattle.data_encoding_meaning.specs.specification.Predefined.{base64_fields}
use Rattle.data_encoding_meaning.specs.text.Text.{text_of}
use Rattle.data_encoding.specs.declared.encoder.Encoder.{Encoder}
use Rattle.data_encoding.specs.declared.encoder.Encodes
use Rattle.data_encoding.specs.declared.encode.kept_data.DueLen.{DueLen}
use Rattle.data_encoding.specs.declared.encode.kept_data.KeptData.{KeptData}
use Rattle.data_encoding.specs.KeptData.{after_blocks, blocks_len, held_data, piece_text, text_of_blocks, IsDue}
use Rattle.data_encoding_meaning.specs.text.EncodedPieces.{HasEncoded}
use Rattle.data_encoding.specs.Encoder.{base_of_encoder, output_name, written, capacity, held, HasTaken, IsUnchanged, name_handed_back}
use Rattle.data_encoding.specs.declared.write.Display.{Display}
use Rattle.data_encoding.specs.Shown.{shown_data, shown_text}
use Rattle.data_encoding.specs.Lent.{base_of_lent}
use Rattle.data_encoding_meaning.proofs.vectors.Examples.{bytes, Has}
use Rattle.data_encoding_meaning.specs.text.Lengths.{alignment}

shown_of : (base : Base) (bytes text : List ℕ) → text_of base bytes ≡ text
    → (shown : Display) → base_of_lent shown.encoding ≡ base → shown_data shown ≡ bytes
    → shown_text shown ≡ text
shown_of base bytes text h shown is input_is =
    ap (λ b. text_of b (shown_data shown)) is ∙ ap (λ input. text_of base input) input_is ∙ h

-- what a `Display` of `Hello world` prints
text_shown :
    Has base64_fields (λ base. (shown : Display) → base_of_lent shown.encoding ≡ base
    → shown_data shown ≡ codes "Hello world" → shown_text shown ≡ codes "SGVsbG8gd29ybGQ=")
text_shown = shown_of _ _ _ refl

-- an encoder that has taken `hello`
encoder_so_far : {E : Type 0} {by : Encodes.Ghosts E} →
    Has base64_fields (λ base. (encoder : Encoder E by) → base_of_encoder encoder ≡ base
    → written encoder ≡ codes "aGVs" → held encoder ≡ codes "lo"
    → HasTaken encoder [] (codes "hello"))
encoder_so_far = λ encoder is is_written is_held.
    subst (λ base. HasEncoded base [] (codes "hello") (written encoder) (held encoder)) (sym is)
    (record {
      encoded = codes "hel";
      are_bytes = ap (λ lo. codes "hel" ++ lo) (sym is_held);
      is_aligned = refl;
      is_short = subst (λ lo. length lo < 3) (sym is_held) (lit< tt);
      is_written = is_written;
    })

-- an encoder is unchanged, and the name of its text is known if it is returned
encoder_handed_back : {E : Type 0} {by : Encodes.Ghosts E} (encoder : Encoder E by)
    → IsUnchanged encoder encoder
    × (name_handed_back (Err encoder) ≡ maybe.some (output_name encoder))
    × (name_handed_back {E = E} {by = by} (Ok _) ≡ maybe.none)
encoder_handed_back {E} {by} encoder = (
  record { written = refl; capacity = refl; held = refl; base = refl; output = refl },
  refl,
  refl,
)

-- one that is unchanged has taken the same bytes, and appends to the same text, of the same
-- capacity
encoder_unchanged : {E : Type 0} {by : Encodes.Ghosts E} (old new : Encoder E by)
    → IsUnchanged old new → ((before bytes : List ℕ)
    → HasTaken old before bytes → HasTaken new before bytes)
    × (output_name new ≡ output_name old) × (capacity new ≡ capacity old)
encoder_unchanged old new same = (
  λ before bytes has.
      subst (λ base. HasEncoded base before bytes (written new) (held new)) (sym same.base)
      (subst (λ text. HasEncoded (base_of_encoder old) before bytes text (held new))
      (sym same.written)
      (subst (λ rest. HasEncoded (base_of_encoder old) before bytes (written old) rest)
      (sym same.held) has)),
  same.output,
  same.capacity,
)

-- less than a block is held
less_than_block_held : {E : Type 0} {by : Encodes.Ghosts E} →
    Has base64_fields (λ base. (encoder : Encoder E by) (before taken : List ℕ)
    → base_of_encoder encoder ≡ base → HasTaken encoder before taken
    → length (held encoder) < 3)
less_than_block_held = λ encoder before taken is has.
    subst (λ base. length (held encoder) < alignment base) is has.is_short

-- `lo` is held of `hello`
abbrev data_so_far : KeptData
data_so_far = record { count = 2; bytes = codes "lo" ++ replicate 187 0 }

-- of five bytes in base64, three are a block, whose text is written
blocks_of_data :
    Has base64_fields (λ base. (blocks_len base 5 ≡ 3)
    × (text_of_blocks base (codes "hello") ≡ codes "aGVs")
    × (after_blocks base (codes "hello") ≡ codes "lo")
    × (piece_text base data_so_far (codes "w!") ≡ codes "bG93"))
    × (held_data data_so_far ≡ codes "lo")
blocks_of_data = ((refl, refl, refl, refl), refl)

-- where `lo` is held, two more bytes complete a block of four symbols, and no byte none
due_of_two :
    Has base64_fields (λ base. (due : DueLen) → IsDue base data_so_far 2 due
    → (due.total ≡ 4) × (due.block ≡ 4))
due_of_two due is = (sym (is.total (codes "w!") refl), sym (is.block (lit≤ tt) (codes "low") refl))

due_of_none :
    Has base64_fields (λ base. (due : DueLen) → IsDue base data_so_far 0 due → due.total ≡ 0)
due_of_none due is = is.none (lit< tt)
