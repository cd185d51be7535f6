-- Worked rows of the program: its names, its arguments, and what a run has done.
use Rattle.std.proofs.Common.{◌≡◌, ℕ, true, false, take, sym, Result, List, [], ◌∷◌, ◌++◌, map, codes, length, Option, Some, None, Ok, Err, refl, inl, inr, ◌⊎◌, ◌∙◌, ap, subst}
use Rattle.data_encoding.specs.declared.error.DecodeError.{DecodeError}
use Rattle.data_encoding.specs.declared.error.DecodeKind.TheVariants.{Symbol}
use Rattle.data_encoding.specs.declared.specification.meanings.Refusal.{Refusal}
use Rattle.data_encoding.specs.Base.{Base}
use Rattle.data_encoding.specs.Canonical.{IsCanonical}
use Rattle.data_encoding.specs.Fields.{Fields, base_of}
use Rattle.data_encoding.specs.Fault.{fault_of, sound_bytes}
use Rattle.data_encoding.specs.Text.{text_of}
use Rattle.encoding_stream.specs.Decoded.{DecodesAll, DecodesFront}
use Rattle.data_encoding.specs.Predefined.{hexlower_fields, base64_fields}
use Rattle.encoding_stream.specs.Watch.{from_to, AppendsFront, Change}
use Rattle.basecode.specs.declared.command.Ask.TheVariants.{Conversion, Question}
use Rattle.basecode.specs.declared.command.Verb.TheVariants.{Encode, Decode}
use Rattle.data_encoding.specs.Named.{IsNamed, fields_named, listing, names}
use Rattle.basecode.specs.Run.{DecodesFaulty, AskConversion, Answers, Begins, BeginsAnswer, BeginsReply, Begun, Done, Fulfils, ByAnswer, ByReply, IsAnswer, Refused, Replies, OfNames, OfQuestion, IsCanonicalLine, truth}
use Rattle.basecode.specs.Arguments.{Task, Request, Asks, Names, Of, ask_of, both, limit_of, request_of, texts}
use Rattle.std.proofs.lemmas.List.{append-nil}
use Rattle.std.specs.Io.KnownBytes.{Keeps}
use Rattle.data_encoding.specs.Grammar.{Means}
use Rattle.encoding_stream.specs.Encoded.{EncodesFront, ReadsMore}
use Rattle.basecode.specs.declared.command.Verb.{Verb}

abbrev words : List (List ℕ)
words = codes "encode" ∷ codes "BASE64" ∷ []

abbrev words_back : List (List ℕ)
words_back = codes "decode" ∷ codes "BASE64" ∷ []

abbrev question : List (List ℕ)
question = codes "canonical" ∷ codes "HEXLOWER" ∷ []

names_known :
    (length names ≡ 18)
    × (fields_named (codes "BASE64") ≡ Some base64_fields)
    × (fields_named (codes "base64") ≡ None)
names_known = (refl, refl, refl)

abbrev encode_base64 : Task
encode_base64 = record { ask = Conversion Encode; fields = base64_fields }

abbrev the_names : Request
the_names = Names

words_asked :
    (texts [] ≡ [])
    × (map ask_of (codes "encode" ∷ codes "decode" ∷ codes "canonical" ∷ codes "list" ∷ [])
    ≡ Some (Conversion Encode) ∷ Some (Conversion Decode) ∷ Some Question ∷ None ∷ [])
    × (both (Some Question) None ≡ None)
    × (both (Some (Conversion Encode)) (Some base64_fields) ≡ Some encode_base64)
    × (request_of words ≡ Some (Of encode_base64))
    × (request_of (codes "list" ∷ []) ≡ Some the_names)
    × (request_of (codes "recode" ∷ codes "BASE64" ∷ []) ≡ None)
    × (request_of (codes "encode" ∷ codes "base64" ∷ []) ≡ None)
words_asked = (refl, refl, refl, refl, refl, refl, refl, refl)

limits : (limit_of Encode ≡ 18446744073709551615) × (limit_of Decode ≡ 2305843009213693951)
limits = (refl, refl)

abbrev Holds : (Base → Type 0) → Result Base Refusal → Type 0
Holds P (Ok base) = P base
Holds P (Err refusal) = ⊥

-- The fields have a base, and it is so.
abbrev Has : Fields → (Base → Type 0) → Type 0
Has fields P = Holds P (base_of fields)

named : Has base64_fields (λ base. IsNamed (codes "BASE64") base)
named = record { fields = base64_fields; is_known = refl; is_built = refl }

asked : Has base64_fields (λ base. Asks words (Conversion Encode) base)
asked = record { fields = base64_fields; is_request = refl; is_built = refl }

asked_whether : Has hexlower_fields (λ base. Asks question Question base)
asked_whether = record { fields = hexlower_fields; is_request = refl; is_built = refl }

asked_back : Has base64_fields (λ base. Asks words_back (Conversion Decode) base)
asked_back = record { fields = base64_fields; is_request = refl; is_built = refl }

abbrev hello : Option (List ℕ)
hello = Some (codes "Hello")

abbrev nothing : Option (List ℕ)
nothing = Some []

encoded_in : (base : Base) → Asks words (Conversion Encode) base
    → text_of base (codes "Hello") ≡ codes "SGVsbG8="
    → IsAnswer Encode base (codes "Hello") (codes "SGVsbG8=")
    × Answers Encode base hello nothing (codes "SGVsbG8=")
    × Done words (from_to hello nothing) (from_to nothing (Some (codes "SGVsbG8=")))
encoded_in base asks h =
    let answers : Answers Encode base hello nothing (codes "SGVsbG8=") =
    record { input = codes "Hello"; read = refl; at_end = refl; is_answer = sym h } in (
      sym h,
      answers,
      record {
        output = codes "SGVsbG8=";
        fulfils = ByAnswer Encode base asks answers;
        written = refl;
      },
    )

-- `Hello` was read, and its text was written
encoded_hello :
    Has base64_fields (λ base.
    IsAnswer Encode base (codes "Hello") (codes "SGVsbG8=")
    × Answers Encode base hello nothing (codes "SGVsbG8=")
    × Done words (from_to hello nothing) (from_to nothing (Some (codes "SGVsbG8="))))
encoded_hello = encoded_in _ asked refl

answered_in : (base : Base) → Asks question Question base
    → (IsCanonical base → IsCanonicalLine base (codes "true" ++ 10 ∷ [])
    × Replies question hello hello (codes "true" ++ 10 ∷ []))
    × (¬ IsCanonical base → IsCanonicalLine base (codes "false" ++ 10 ∷ [])
    × Replies question hello hello (codes "false" ++ 10 ∷ []))
answered_in base asks = (
  λ is.
      let answered : IsCanonicalLine base (codes "true" ++ 10 ∷ []) = inl (is, refl) in
      (answered, OfQuestion base asks refl answered),
  λ is_not.
      let answered : IsCanonicalLine base (codes "false" ++ 10 ∷ []) = inr (is_not, refl) in
      (answered, OfQuestion base asks refl answered),
)

-- the answer to a question, with nothing read
question_answered :
    Has hexlower_fields (λ base.
    (IsCanonical base → IsCanonicalLine base (codes "true" ++ 10 ∷ [])
    × Replies question hello hello (codes "true" ++ 10 ∷ []))
    × (¬ IsCanonical base → IsCanonicalLine base (codes "false" ++ 10 ∷ [])
    × Replies question hello hello (codes "false" ++ 10 ∷ [])))
question_answered = answered_in _ asked_whether

-- the line of an answer, and the reply to `list`, with nothing read
replied :
    (truth true ≡ codes "true" ++ 10 ∷ []) × (truth false ≡ codes "false" ++ 10 ∷ [])
    × Replies (codes "list" ∷ []) hello hello listing
    × (take 9 listing ≡ codes "HEXLOWER" ++ 10 ∷ [])
    × Fulfils (codes "list" ∷ []) hello hello listing
replied =
    let names_listed : Replies (codes "list" ∷ []) hello hello listing = OfNames refl refl refl in
    (refl, refl, names_listed, refl, ByReply names_listed)

begun_in : (base : Base) → Asks words (Conversion Encode) base
    → take 2 (text_of base (codes "Hel")) ≡ codes "SG"
    → take 2 (text_of base (codes "Hello")) ≡ codes "SG"
    → Begins Encode base (from_to hello (Some (codes "lo"))) (from_to nothing (Some (codes "SG")))
    × BeginsAnswer words (from_to hello (Some (codes "lo"))) (from_to nothing (Some (codes "SG")))
    × Begun words (from_to hello (Some (codes "lo"))) (from_to nothing (Some (codes "SG")))
begun_in base asks front whole =
    let begins : Begins Encode base (from_to hello (Some (codes "lo")))
    (from_to nothing (Some (codes "SG"))) =
    record {
      bytes = codes "Hel";
      read = refl;
      written = (2, sym front);
      of_all = (2, sym whole);
    } in
    let answer : BeginsAnswer words (from_to hello (Some (codes "lo")))
    (from_to nothing (Some (codes "SG"))) =
    record { verb = Encode; base = base; asked = asks; begins = begins } in
    (begins, answer, record { is_begun = inl answer })

-- a prefix of a text, and of a reply
begun :
    Has base64_fields (λ base.
    Begins Encode base (from_to hello (Some (codes "lo"))) (from_to nothing (Some (codes "SG")))
    × BeginsAnswer words (from_to hello (Some (codes "lo"))) (from_to nothing (Some (codes "SG")))
    × Begun words (from_to hello (Some (codes "lo"))) (from_to nothing (Some (codes "SG"))))
begun = begun_in _ asked refl refl

reply_begun : BeginsReply (codes "list" ∷ []) (from_to hello hello)
    (from_to nothing (Some (codes "HEX")))
reply_begun = record { output = listing; replies = OfNames refl refl refl; written = (3, refl) }

abbrev symbol_at_4 : DecodeError
symbol_at_4 = record { position = 4; kind = Symbol }

refused_in : (base : Base) → Asks words_back (Conversion Decode) base
    → fault_of base (codes "SGVs!G8=") ≡ Some symbol_at_4
    → sound_bytes base (codes "SGVs!G8=") ≡ codes "Hel"
    → DecodesFaulty Decode base (from_to (Some (codes "SGVs!G8=")) nothing)
    (from_to nothing (Some (codes "Hel")))
    × Refused words_back (from_to (Some (codes "SGVs!G8=")) nothing)
    (from_to nothing (Some (codes "Hel")))
    × AskConversion words_back
refused_in base asks is_fault are_bytes =
    let decodes : DecodesAll base (Some symbol_at_4) (from_to (Some (codes "SGVs!G8=")) nothing)
    (from_to nothing (Some (codes "Hel"))) = record {
      text = codes "SGVs!G8=";
      read = refl;
      at_end = refl;
      fault_is = is_fault;
      written = sym are_bytes;
    } in
    let faulty : DecodesFaulty Decode base (from_to (Some (codes "SGVs!G8=")) nothing)
    (from_to nothing (Some (codes "Hel"))) =
    record { error = symbol_at_4; is_decoding = refl; decodes = decodes } in (
      faulty,
      record { verb = Decode; base = base; asked = asks; reason = inr faulty },
      record { verb = Decode; base = base; asked = asks },
    )

-- a text with a fault, and the bytes before it
refused :
    Has base64_fields (λ base.
    DecodesFaulty Decode base (from_to (Some (codes "SGVs!G8=")) nothing)
    (from_to nothing (Some (codes "Hel")))
    × Refused words_back (from_to (Some (codes "SGVs!G8=")) nothing)
    (from_to nothing (Some (codes "Hel")))
    × AskConversion words_back)
refused = refused_in _ asked_back refl refl

-- the answer to `Hello` is its text, with nothing left to read; that to a text is what it means
answered_by : (base : Base) → text_of base (codes "Hello") ≡ codes "SGVsbG8="
    → (left output : List ℕ) → Answers Encode base hello (Some left) output
    → (left ≡ []) × (output ≡ codes "SGVsbG8=")
answered_by base text left output answers =
    let input = sym (append-nil answers.input)
    ∙ ap (λ rest. answers.input ++ rest) (sym answers.at_end) ∙ sym answers.read in
    (answers.at_end, answers.is_answer ∙ ap (text_of base) input ∙ text)

answer_of_hello :
    Has base64_fields (λ base. (left output : List ℕ)
    → Answers Encode base hello (Some left) output
    → (left ≡ []) × (output ≡ codes "SGVsbG8="))
answer_of_hello = answered_by _ refl

answer_is_text_or_data :
    Has base64_fields (λ base. (input output : List ℕ)
    → (IsAnswer Encode base (codes "Hello") output → output ≡ codes "SGVsbG8=")
    × (IsAnswer Decode base input output → Means base input output))
answer_is_text_or_data input output = (λ is. is, λ means. means)

-- what beginning to convert has done
begins_by_verb : (base : Base) (reader writer : Change)
    → (Begins Encode base reader writer → EncodesFront base reader writer)
    × (Begins Decode base reader writer → DecodesFront base reader writer)
begins_by_verb base reader writer = (λ begins. begins, λ begins. begins)

-- a line is `true` of a canonical base, or `false` of another
line_is_true_or_false : (base : Base) (line : List ℕ) → IsCanonicalLine base line
    → (IsCanonical base × (line ≡ codes "true" ++ 10 ∷ []))
    ⊎ ((¬ IsCanonical base) × (line ≡ codes "false" ++ 10 ∷ []))
line_is_true_or_false base line answered = answered

-- what was written is what was asked for
done_fulfils : (output : List ℕ)
    → Done words (from_to hello nothing) (from_to nothing (Some output))
    → Fulfils words hello nothing output
done_fulfils output done = subst (Fulfils words hello nothing) (sym done.written) done.fulfils

begun_by_answer_or_reply : (reader writer : Change)
    → ((answer : BeginsAnswer words reader writer) → Asks words (Conversion answer.verb) answer.base
    × Begins answer.verb answer.base reader writer)
    × ((reply : BeginsReply words reader writer)
    → Replies words reader.old reader.new reply.output
    × AppendsFront writer.old writer.new reply.output)
    × (Begun words reader writer → BeginsAnswer words reader writer
    ⊎ BeginsReply words reader writer)
begun_by_answer_or_reply reader writer = (
  λ answer. (answer.asked, answer.begins),
  λ reply. (reply.replies, reply.written),
  λ begun. begun.is_begun,
)

-- only a text to decode has a fault
refused_for_a_reason : (base : Base) (reader writer : Change)
    → ((faulty : DecodesFaulty Decode base reader writer)
    → DecodesAll base (Some faulty.error) reader writer)
    × ((faulty : DecodesFaulty Encode base reader writer) → Encode ≡ Decode)
    × ((refused : Refused words reader writer)
    → Asks words (Conversion refused.verb) refused.base
    × (ReadsMore (limit_of refused.verb) reader
    ⊎ DecodesFaulty refused.verb refused.base reader writer))
    × ((ask : AskConversion words) → Asks words (Conversion ask.verb) ask.base)
refused_for_a_reason base reader writer = (
  λ faulty. faulty.decodes,
  λ faulty. faulty.is_decoding,
  λ refused. (refused.asked, refused.reason),
  λ ask. ask.asked,
)

abbrev fields_in : Option Request → Fields
fields_in (Some (Of task)) = task.fields
fields_in (Some Names) = hexlower_fields
fields_in None = hexlower_fields

-- `encode BASE64` asks about the base that is built from the specification of BASE64
asked_base_is_built : (base : Base) → Asks words (Conversion Encode) base
    → base_of base64_fields ≡ Ok base
asked_base_is_built base asks =
    ap (λ request. base_of (fields_in request)) asks.is_request ∙ asks.is_built

-- a reply reads nothing, and what is asked for is an answer or a reply
reply_keeps_input : (given : List (List ℕ)) (old new : Option (List ℕ)) (output : List ℕ)
    → Replies given old new output → Keeps old new
reply_keeps_input given old new output (OfQuestion base asks keeps answered) = keeps
reply_keeps_input given old new output (OfNames is keeps listed) = keeps

fulfilled_by_answer_or_reply : (given : List (List ℕ)) (old new : Option (List ℕ)) (output : List ℕ)
    → Fulfils given old new output
    → ((verb : Verb) × (base : Base) × Answers verb base old new output)
    ⊎ Replies given old new output
fulfilled_by_answer_or_reply given old new output (ByAnswer verb base asks answers) =
    inl (verb, base, answers)
fulfilled_by_answer_or_reply given old new output (ByReply replies) = inr replies
