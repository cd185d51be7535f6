use Rattle.std.proofs.Common.{◌≡◌, ◌≤◌, ◌++◌, [], length, take, drop, refl, sym, ap, ◌∙◌, subst, arith, length-append, length-take-le}
use Rattle.std.proofs.lemmas.List.{drop_at, take_at}
use Rattle.data_encoding.specs.EncodedPieces.{HasEncoded}
use Rattle.data_encoding.specs.KeptData.{held_data}
use Rattle.encoding_stream.specs.BufferEncoder.{base_of_blocks}
use Rattle.encoding_stream.proofs.buffer_encoder.BufferEncoder.read.Goals as goal
use Rattle.encoding_stream.proofs.buffer_encoder.BufferEncoder.read.Goals.{After-due_len-due, After-read_piece}

-- the output has room for what is due
fits : (c : After-due_len-due) → c.due_len-due.result.total ≤ length c.args.output.now
fits c =
    let due = rw c.by_ref-encoding.ensures
    at (c.due_len-due.ensures.total c.args.piece.now refl) in
    omega (arith, due, c.requires.room)

pub slice_bounds-read_piece-end : goal.slice_bounds-read_piece-end
slice_bounds-read_piece-end c =
    fits (goal.at.slice_bounds-read_piece-end c).After-due_len-due

pub slice_bounds-read_piece-end-2 : goal.slice_bounds-read_piece-end-2
slice_bounds-read_piece-end-2 c =
    sym (length-take-le c.due_len-due.result.total c.args.output.now
    (fits (goal.at.slice_bounds-read_piece-end-2 c).After-due_len-due))

pub read_piece-requires-clause-exact : goal.read_piece-requires-clause-exact
read_piece-requires-clause-exact c =
    length-take-le c.due_len-due.result.total c.args.output.now
    (fits (goal.at.read_piece-requires-clause-exact c).After-due_len-due)

-- as much is written as is due
written : (c : After-read_piece)
    → length c.read_piece.new.output ≡ c.due_len-due.result.total
written c =
    ap length c.read_piece.ensures.text ∙ c.due_len-due.ensures.total c.args.piece.now refl

front : (c : After-read_piece)
    → take c.due_len-due.result.total
    (c.read_piece.new.output ++ drop c.due_len-due.result.total c.args.output.now)
    ≡ c.read_piece.new.output
front c =
    take_at c.read_piece.new.output (drop c.due_len-due.result.total c.args.output.now)
    c.due_len-due.result.total (written c)

pub returns-clause-text : goal.returns-clause-text
returns-clause-text c =
    front (goal.at.returns-clause-text c).After-read_piece
    ∙ rw c.by_ref-encoding.ensures at c.read_piece.ensures.text

pub returns-clause-encodes : goal.returns-clause-encodes
returns-clause-encodes c = λ bytes before has.
    subst
    (λ t. HasEncoded (base_of_blocks c.args.self.now) [] (bytes ++ c.args.piece.now) (before ++ t)
    (held_data c.read_piece.new.kept))
    (sym (front (goal.at.returns-clause-encodes c).After-read_piece))
    ((rw c.by_ref-encoding.ensures at c.read_piece.ensures.encodes) [] bytes before has)

pub returns-clause-within : goal.returns-clause-within
returns-clause-within c =
    omega (
      arith,
      written (goal.at.returns-clause-within c).After-read_piece,
      length-append c.read_piece.new.output
          (drop c.due_len-due.result.total c.args.output.now),
    )

pub returns-clause-after : goal.returns-clause-after
returns-clause-after c =
    drop_at c.read_piece.new.output (drop c.due_len-due.result.total c.args.output.now)
    c.due_len-due.result.total (written (goal.at.returns-clause-after c).After-read_piece)

pub returns-clause-held : goal.returns-clause-held
returns-clause-held c = rw c.by_ref-encoding.ensures at c.read_piece.ensures.held
