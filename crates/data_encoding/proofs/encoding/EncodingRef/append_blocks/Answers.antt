use Rattle.std.proofs.Common.{◌++◌, length, refl, ap, ◌∙◌, subst, sym, arith, append-nil}
use Rattle.std.proofs.lemmas.List.{nil_from_length}
use Rattle.std.specs.String.{string_bytes}
use Rattle.data_encoding.specs.KeptData.{held_data}
use Rattle.data_encoding_meaning.specs.text.EncodedPieces.{HasEncoded}
use Rattle.data_encoding.proofs.encoding.EncodingRef.append_blocks.Goals as goal

pub returns-then-due-eq0-clause-pieces : goal.returns-then-due-eq0-clause-pieces
returns-then-due-eq0-clause-pieces g c = λ before bytes has.
    let old = string_bytes c.args.output.now in
    let piece = c.args.input.now in
    let none = nil_from_length c.read_piece.new.output
    (ap length c.read_piece.ensures.text ∙ c.due_len-due.ensures.total piece refl
    ∙ c.if-due-eq0.true) in
    subst
    (λ t. HasEncoded c.args.self.now before (bytes ++ piece) t (held_data c.read_piece.new.kept))
    (ap (λ t. old ++ t) none ∙ append-nil old) (c.read_piece.ensures.encodes before bytes old has)

pub returns-in_err-reserve-clause-no_block : goal.returns-in_err-reserve-clause-no_block
returns-in_err-reserve-clause-no_block g c =
    λ few. absurd (omega (
      arith,
      c.due_len-due.ensures.none (omega (arith, few, c.requires.block)),
      c.if-due-eq0.false,
    ))

pub returns-clause-pieces : goal.returns-clause-pieces
returns-clause-pieces g c =
    λ before bytes has.
    c.append_piece.ensures.encodes before bytes
    (subst (λ t. HasEncoded c.args.self.now before bytes t (held_data c.args.kept.now))
    (sym c.reserve.ensures.bytes) has)

pub append_piece-requires-clause-room : goal.append_piece-requires-clause-room
append_piece-requires-clause-room g c =
    omega (arith, c.reserve.ensures.len, c.in_ok-reserve.ensures.ok)
