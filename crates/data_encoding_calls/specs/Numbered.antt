-- The effects of calls with the number of an encoding, or with an encoding that the caller holds.
use Rattle.std.specs.Prelude.{◌≡◌, ℕ, List}
use Rattle.data_encoding.specs.declared.encoding.plain_encoding.PlainEncoding.{PlainEncoding}
use Rattle.data_encoding.specs.Plain.{base_of_plain}
use Rattle.data_encoding.specs.declared.encode.kept_data.KeptData.{KeptData}
use Rattle.data_encoding_calls.specs.declared.convert.Decoded.{Decoded}
use Rattle.data_encoding_calls.specs.declared.specification_of_encoding.TextLengths.{TextLengths}
use Rattle.data_encoding_calls.specs.declared.make.Form.{Form}
use Rattle.data_encoding_calls.specs.declared.decoder_state.PlainKept.{PlainKept}
use Rattle.data_encoding_calls.specs.EncoderState.{EncodesPiece, FinishesData}
use Rattle.data_encoding_calls.specs.Calls.{ByNumber, Decodes, Encodes}
use Rattle.data_encoding_calls.specs.Facts.{GivesBack}
use Rattle.data_encoding_calls.specs.DecoderState.{FinishesText, ReadsPiece}

-- The call encoded with the encoding of the given number, or refused the number.
abbrev pub EncodesByNumber : ℕ → List ℕ → List ℕ → List ℕ → ℕ → ℕ → ℕ → Type 0
EncodesByNumber number bytes output_old output_new written_old written_new answer =
    ByNumber number answer ((output_new ≡ output_old) × (written_new ≡ written_old))
    (λ base. Encodes base bytes output_old output_new written_old written_new answer)

-- The call decoded with the encoding of the given number, or refused the number.
abbrev pub DecodesByNumber : ℕ → List ℕ → List ℕ → List ℕ → Decoded → Decoded → ℕ → Type 0
DecodesByNumber number text output_old output_new decoded_old decoded_new answer =
    ByNumber number answer ((output_new ≡ output_old) × (decoded_new ≡ decoded_old))
    (λ base. Decodes base text output_old output_new decoded_old decoded_new answer)

-- The call ended a text with the encoding of the given number, or refused the number.
abbrev pub FinishesTextByNumber : ℕ → PlainKept → List ℕ → List ℕ → Decoded → Decoded → ℕ → Type 0
FinishesTextByNumber number plain output_old output_new decoded_old decoded_new answer =
    ByNumber number answer ((output_new ≡ output_old) × (decoded_new ≡ decoded_old))
    (λ base. FinishesText base plain output_old output_new decoded_old decoded_new answer)

-- The call ended data with the encoding of the given number, or refused the number.
abbrev pub FinishesDataByNumber : ℕ → KeptData → List ℕ → List ℕ → ℕ → ℕ → ℕ → Type 0
FinishesDataByNumber number kept output_old output_new written_old written_new answer =
    ByNumber number answer ((output_new ≡ output_old) × (written_new ≡ written_old))
    (λ base. FinishesData base kept output_old output_new written_old written_new answer)

-- The call decoded a piece of a text with the encoding that the caller holds.
abbrev pub ReadsPieceByCustom : PlainEncoding → List ℕ → PlainKept → PlainKept
    → List ℕ → List ℕ → ℕ → ℕ → ℕ → Type 0
ReadsPieceByCustom held piece decoder_old decoder_new output_old output_new written_old written_new
    answer =
    ReadsPiece (base_of_plain held) piece
    (record { decoder = decoder_old; output = output_old; written = written_old })
    (record { decoder = decoder_new; output = output_new; written = written_new }) answer

-- The call decoded a piece of a text with the encoding of the given number, or refused the number.
abbrev pub ReadsPieceByNumber : ℕ → List ℕ → PlainKept → PlainKept
    → List ℕ → List ℕ → ℕ → ℕ → ℕ → Type 0
ReadsPieceByNumber number piece decoder_old decoder_new output_old output_new written_old
    written_new answer =
    ByNumber number answer
    ((decoder_new ≡ decoder_old) × (output_new ≡ output_old) × (written_new ≡ written_old))
    (λ base. ReadsPiece base piece
    (record { decoder = decoder_old; output = output_old; written = written_old })
    (record { decoder = decoder_new; output = output_new; written = written_new }) answer)

-- The call encoded a piece of data with the encoding that the caller holds.
abbrev pub EncodesPieceByCustom : PlainEncoding → List ℕ → KeptData → KeptData
    → List ℕ → List ℕ → ℕ → ℕ → ℕ → Type 0
EncodesPieceByCustom held piece encoder_old encoder_new output_old output_new written_old
    written_new answer =
    EncodesPiece (base_of_plain held) piece
    (record { encoder = encoder_old; output = output_old; written = written_old })
    (record { encoder = encoder_new; output = output_new; written = written_new }) answer

-- The call encoded a piece of data with the encoding of the given number, or refused the number.
abbrev pub EncodesPieceByNumber : ℕ → List ℕ → KeptData → KeptData
    → List ℕ → List ℕ → ℕ → ℕ → ℕ → Type 0
EncodesPieceByNumber number piece encoder_old encoder_new output_old output_new written_old
    written_new answer =
    ByNumber number answer
    ((encoder_new ≡ encoder_old) × (output_new ≡ output_old) × (written_new ≡ written_old))
    (λ base. EncodesPiece base piece
    (record { encoder = encoder_old; output = output_old; written = written_old })
    (record { encoder = encoder_new; output = output_new; written = written_new }) answer)

-- The call wrote the specification of the encoding that the caller holds.
abbrev pub GivesBackByCustom : PlainEncoding → Form → Form → TextLengths → TextLengths
    → List ℕ → List ℕ → ℕ → Type 0
GivesBackByCustom held form_old form_new lengths_old lengths_new texts_old texts_new answer =
    GivesBack (base_of_plain held)
    (record { form = form_old; lengths = lengths_old; texts = texts_old })
    (record { form = form_new; lengths = lengths_new; texts = texts_new }) answer

-- The call wrote the specification of the encoding of the given number, or refused the number.
abbrev pub GivesBackByNumber : ℕ → Form → Form → TextLengths → TextLengths
    → List ℕ → List ℕ → ℕ → Type 0
GivesBackByNumber number form_old form_new lengths_old lengths_new texts_old texts_new answer =
    ByNumber number answer
    ((form_new ≡ form_old) × (lengths_new ≡ lengths_old) × (texts_new ≡ texts_old))
    (λ base. GivesBack base
    (record { form = form_old; lengths = lengths_old; texts = texts_old })
    (record { form = form_new; lengths = lengths_new; texts = texts_new }) answer)
