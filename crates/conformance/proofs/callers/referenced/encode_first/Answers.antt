use Rattle.std.proofs.Common.{◌≡◌, ℕ, List, [], ◌∷◌, ◌++◌, length, take, refl, sym, ap, ◌∙◌, subst, arith}
use Rattle.std.proofs.lemmas.Bool.{false≢true}
use Rattle.data_encoding.specs.Base.{Base}
use Rattle.data_encoding.specs.declared.encode.kept_data.KeptData.{KeptData}
use Rattle.data_encoding.specs.KeptData.{held_data, piece_text, text_of_blocks}
use Rattle.encoding_stream.specs.BufferEncoder.{data_kept, HasWritten}
use Rattle.conformance.proofs.callers.referenced.encode_first.Goals as goal

-- without data, no byte is held
none-held : (encoded held : List ℕ) → [] ≡ encoded ++ held → held ≡ []
none-held [] held is = sym is
none-held (byte ∷ bytes) held is = absurd (cc is)

-- the text of the first piece is the text of its blocks
due-first : (base : Base) (kept : KeptData) (piece : List ℕ) (due : ℕ) → HasWritten base kept [] []
    → length (piece_text base kept piece) ≡ due → length (text_of_blocks base piece) ≡ due
due-first base kept piece due nothing is =
    sym (ap (λ held. length (text_of_blocks base (held ++ piece)))
    (none-held nothing.encoded (held_data kept) nothing.are_bytes))
    ∙ is

pub returns-then-output-due-clause-fits : goal.returns-then-output-due-clause-fits
returns-then-output-due-clause-fits c =
    let made = c.new_by_ref-encoder in
    let piece = c.args.piece.now in
    let due = due-first c.args.encoding.now (data_kept made.result) piece c.due.result
    made.ensures.nothing (rw made.ensures.base at (c.due.ensures.value piece refl)) in (
      (λ some. absurd (false≢true some)),
      (λ fits. absurd (omega (arith, due, fits, c.if-output-due.true))),
    )

pub returns-clause-encodes : goal.returns-clause-encodes
returns-clause-encodes c =
    let made = c.new_by_ref-encoder in
    let read = c.read-written in
    let encodes = rw made.ensures.base at read.ensures.encodes in
    subst
    (λ kept. HasWritten c.args.encoding.now kept c.args.piece.now
    (take read.result read.new.output))
    (sym c.kept.ensures.value) (encodes [] [] made.ensures.nothing)

pub returns-clause-fits : goal.returns-clause-fits
returns-clause-fits c =
    let made = c.new_by_ref-encoder in
    let piece = c.args.piece.now in
    let due = due-first c.args.encoding.now (data_kept made.result) piece c.due.result
    made.ensures.nothing (rw made.ensures.base at (c.due.ensures.value piece refl)) in
    ((λ _. omega (arith, due, c.if-output-due.false)), (λ _. refl))
