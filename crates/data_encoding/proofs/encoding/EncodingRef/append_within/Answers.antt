use Rattle.std.proofs.Common.{rules, arith, sym, subst}
use Rattle.std.proofs.lemmas.Grind.{common_steps}
use Rattle.std.proofs.lemmas.Str.{IsUtf8-append, IsUtf8-from_ascii, IsUtf8-string_bytes}
use Rattle.std.proofs.lemmas.Str.Ascii.{IsAscii-from_all}
use Rattle.std.specs.Str.{IsUtf8}
use Rattle.std.specs.String.{string_bytes}
use Rattle.data_encoding_meaning.specs.text.Text.{text_of}
use Rattle.data_encoding.proofs.text.AppendLemmas.{IsExtended, written}
use Rattle.data_encoding.proofs.encoding.EncodingRef.append_within.Given.{Over}
use Rattle.data_encoding.proofs.encoding.EncodingRef.append_within.Goals as goal
use Rattle.data_encoding.proofs.encoding.EncodingRef.append_within.Goals.{After-deref_mut}

-- the old text, and room for the new one
extended : (g : Over) (c : After-deref_mut g)
    → IsExtended (string_bytes c.args.output.now) c.deref_mut.result.now c.len-start.result
    c.args.len c.resize.new.self.len
extended g c = record {
  front = grind (arith, common_steps);
  whole = search rules;
  sized = search rules;
}

pub returns-clause-text : goal.returns-clause-text
returns-clause-text g c =
    let is = written c.encode_mut.new.output (text_of c.args.self.now c.args.input.now)
    c.resize.new.self.items (extended g (goal.at.returns-clause-text g c).After-deref_mut)
    (sym c.requires.len) c.encode_mut.ensures.text in
    search (rules, is, c.encode_mut.ensures.text)

pub from_utf8_unchecked-requires : goal.from_utf8_unchecked-requires
from_utf8_unchecked-requires g c =
    let text = c.encode_mut.new.output in
    let is = written text (text_of c.args.self.now c.args.input.now) c.resize.new.self.items
    (extended g (goal.at.from_utf8_unchecked-requires g c).After-deref_mut)
    (sym c.requires.len) c.encode_mut.ensures.text in
    subst IsUtf8 (sym is)
    (IsUtf8-append (string_bytes c.args.output.now) text (IsUtf8-string_bytes c.args.output.now)
    (IsUtf8-from_ascii text (IsAscii-from_all text c.encode_mut.ensures.ascii)))
