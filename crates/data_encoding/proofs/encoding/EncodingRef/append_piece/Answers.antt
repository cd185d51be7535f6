use Rattle.std.proofs.Common.{◌≡◌, ◌++◌, rules, arith, refl, sym, ap, ◌∙◌, subst}
use Rattle.std.proofs.lemmas.Grind.{common_steps}
use Rattle.std.proofs.lemmas.Str.{IsUtf8-append, IsUtf8-from_ascii, IsUtf8-string_bytes}
use Rattle.std.proofs.lemmas.Str.Ascii.{IsAscii-from_all}
use Rattle.std.specs.Str.{IsUtf8}
use Rattle.std.specs.String.{string_bytes, string_vec}
use Rattle.std.specs.Vec.{vec_capacity, vec_len}
use Rattle.data_encoding.specs.KeptData.{held_data, piece_text}
use Rattle.data_encoding_meaning.specs.text.EncodedPieces.{HasEncoded}
use Rattle.data_encoding.proofs.text.AppendLemmas.{IsExtended, written}
use Rattle.data_encoding.proofs.encoding.EncodingRef.append_piece.Given.{Over}
use Rattle.data_encoding.proofs.encoding.EncodingRef.append_piece.Goals as goal
use Rattle.data_encoding.proofs.encoding.EncodingRef.append_piece.Goals.{After-deref_mut}

pub unwrap-requires : goal.unwrap-requires
unwrap-requires g c =
    let seen = c.into_bytes-bytes.ensures.value ∙ ap string_vec c.replace.ensures.value in
    c.resize.ensures.succeeds
    (omega (arith, c.requires.room, c.len-start.ensures, ap vec_len seen, ap vec_capacity seen))

-- the old text, and room for the due one
extended : (g : Over) (c : After-deref_mut g)
    → IsExtended (string_bytes c.args.output.now) c.deref_mut.result.now c.len-start.result
    c.args.due.total c.resize.new.self.len
extended g c = record {
  front = grind (arith, common_steps);
  whole = search rules;
  sized = search rules;
}

pub from_utf8_unchecked-requires : goal.from_utf8_unchecked-requires
from_utf8_unchecked-requires g c =
    let text = c.read_piece.new.output in
    let is = written text (piece_text c.args.self.now c.args.kept.now c.args.piece.now)
    c.resize.new.self.items
    (extended g (goal.at.from_utf8_unchecked-requires g c).After-deref_mut)
    (c.requires.due.total c.args.piece.now refl) c.read_piece.ensures.text in
    subst IsUtf8 (sym is)
    (IsUtf8-append (string_bytes c.args.output.now) text (IsUtf8-string_bytes c.args.output.now)
    (IsUtf8-from_ascii text (IsAscii-from_all text c.read_piece.ensures.ascii)))

pub returns-clause-encodes : goal.returns-clause-encodes
returns-clause-encodes g c = λ before bytes has.
    let old = string_bytes c.args.output.now in
    let text = c.read_piece.new.output in
    let is = written text (piece_text c.args.self.now c.args.kept.now c.args.piece.now)
    c.resize.new.self.items (extended g (goal.at.returns-clause-encodes g c).After-deref_mut)
    (c.requires.due.total c.args.piece.now refl) c.read_piece.ensures.text in
    let all : string_bytes c.from_utf8_unchecked.result ≡ old ++ text = search (rules, is) in
    subst
    (λ t. HasEncoded c.args.self.now before (bytes ++ c.args.piece.now) t
    (held_data c.read_piece.new.kept))
    (sym all) (c.read_piece.ensures.encodes before bytes old has)
