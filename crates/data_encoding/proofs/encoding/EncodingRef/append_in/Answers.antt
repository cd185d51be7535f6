use Rattle.std.proofs.Common.{◌++◌, refl, sym, ap, ◌∙◌, append-nil}
use Rattle.std.proofs.lemmas.List.{nil_from_length}
use Rattle.std.specs.String.{string_bytes}
use Rattle.data_encoding_meaning.specs.text.Text.{text_of}
use Rattle.data_encoding.proofs.encoding.EncodingRef.append_in.Goals as goal

pub returns-then-len-eq0-clause-text : goal.returns-then-len-eq0-clause-text
returns-then-len-eq0-clause-text g c =
    let input = c.args.input.now in
    let old = string_bytes c.args.output.now in
    let empty = nil_from_length (text_of c.args.self.now input)
    (c.encode_len-len.ensures.length input refl ∙ c.if-len-eq0.true) in
    sym (ap (λ l. old ++ l) empty ∙ append-nil old)
