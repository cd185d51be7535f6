use Rattle.std.proofs.lemmas.Option.{none-some}
use Rattle.encoding_stream.specs.declared.error.StreamFault.TheVariants.{Decode}
use Rattle.std.proofs.Common.{Err, ◌≡◌, ◌<◌, ◌∙◌, [], None, Some, rules, sym, subst}
use Rattle.std.proofs.lemmas.List.Elements.{All-from_get_or}
use Rattle.std.specs.Prelude.{All}
use Rattle.data_encoding.specs.Grammar.{Means}
use Rattle.data_encoding.specs.Text.{text_of}
use Rattle.encoding_stream.specs.Decoded.{DecodesAll}
use Rattle.encoding_stream.specs.Watch.{from_to, inner_of}
use Rattle.conformance.proofs.StreamedLemmas.{all-decoded}
use Rattle.conformance.proofs.callers.streamed.streamed_back.Goals as goal

pub returns-clause-same : goal.returns-clause-same
returns-clause-same c =
    let base = c.args.encoding.now in
    let is = c.bit_width.ensures.base in
    let input = c.args.input.now in
    let text = c.as_slice.result.now in
    let output = c.into_inner.result.items in
    let fits : All (λ byte. byte < 256) input =
    All-from_get_or (λ byte. byte < 256) input 0 (λ k h. (c.type_inv.input k).fits) in
    let encoded : text ≡ text_of base input = search rules in
    let nothing : (inner_of c.new-output.result).items ≡ [] = search rules in
    let same : (inner_of c.decode_stream.new.writer).items ≡ output = search rules in
    let rest = (inner_of c.decode_stream.new.reader).now in
    let all : DecodesAll base None (from_to (Some text) (Some rest))
    (from_to (Some []) (Some output)) =
    search rules in
    let means : Means base text input =
    subst (λ t. Means base t input) (sym encoded) (c.round_trip.ensures base is input fits) in
    let whole = all-decoded base None text rest output all in
    whole.1 ∙ ((c.sound_text.ensures.meant base is text input).0 means).1

pub returns-in_err-decode_stream-clause-no_fault :
    goal.returns-in_err-decode_stream-clause-no_fault
returns-in_err-decode_stream-clause-no_fault c = λ error faulty.
    let base = c.args.encoding.now in
    let is = c.bit_width.ensures.base in
    let input = c.args.input.now in
    let text = c.as_slice.result.now in
    let fits : All (λ byte. byte < 256) input =
    All-from_get_or (λ byte. byte < 256) input 0 (λ k h. (c.type_inv.input k).fits) in
    let encoded : text ≡ text_of base input = search rules in
    let means : Means base text input =
    subst (λ t. Means base t input) (sym encoded) (c.round_trip.ensures base is input fits) in
    let none = ((c.sound_text.ensures.meant base is text input).0 means).0 in
    let answered : c.decode_stream.result ≡ Err (Decode error) = search rules in
    let rest = (inner_of c.decode_stream.new.reader).now in
    let output = (inner_of c.decode_stream.new.writer).items in
    let nothing : (inner_of c.new-output.result).items ≡ [] = search rules in
    let read : (inner_of c.new-text_reader.result).now ≡ text = search rules in
    let all : DecodesAll base (Some error) (from_to (Some text) (Some rest))
    (from_to (Some []) (Some output)) =
    rw (read, nothing) at (c.decode_stream.ensures.all.faulty error answered) in
    none-some error (sym none ∙ (all-decoded base (Some error) text rest output all).0)
