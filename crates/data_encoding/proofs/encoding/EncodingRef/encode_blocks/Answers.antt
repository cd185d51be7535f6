use Rattle.std.proofs.Common.{◌≤◌, ℕ, ◌*◌, ◌+◌, ◌/◌, ◌∙◌, arith, refl}
use Rattle.std.proofs.lemmas.Nat.{mul-le}
use Rattle.data_encoding_meaning.proofs.lists.PieceLemmas.{before, length-part, part-begins, piece-begins, piece-few, piece-last, piece-next, written-first}
use Rattle.data_encoding.proofs.text.LinePieceLemmas.{IsByPieces-text, columns-some, line-few, lines-few, lines-fit, lines-some, text-few}
use Rattle.data_encoding.proofs.encoding.EncodingRef.encode_blocks.Goals as goal

pub nonzero_div-lines : goal.nonzero_div-lines
nonzero_div-lines c = columns-some c.self.invariant c.self.view_is c.requires.lines

-- the text of a block is short
block-few : (count column ends : ℕ) → count ≤ 1024 → column + ends ≤ 510
    → count * (column + ends) ≤ 1024 * 510
block-few count column ends lines line = mul-le count (column + ends) 1024 510 lines line

pub overflow_mul-block_len : goal.overflow_mul-block_len
overflow_mul-block_len c =
    record {
      fits = omega (
        arith,
        block-few _ _ _ (lines-few c.self.invariant c.self.view_is c.requires.lines 1024)
            (line-few c.self.invariant c.self.view_is c.requires.lines refl),
      );
    }

pub div_ceil-index-end-requires : goal.div_ceil-index-end-requires
div_ceil-index-end-requires c =
    (IsByPieces-text c.self.invariant c.self.view_is c.requires.lines
    (lines-some c.self.invariant c.self.view_is c.requires.lines 1024 (omega arith))
    c.encode_align.ensures.value refl).some

pub loop-index-init : goal.loop-index-init
loop-index-init c =
    written-first
    (IsByPieces-text c.self.invariant c.self.view_is c.requires.lines
    (lines-some c.self.invariant c.self.view_is c.requires.lines 1024 (omega arith))
    c.encode_align.ensures.value refl)
    c.requires.exact

pub overflow_mul-read : goal.overflow_mul-read
overflow_mul-read c =
    record {
      fits = omega (
        arith,
        before c.loop-index.invariant c.div_ceil-index-end.ensures c.loop-index-test.true,
        c.requires.limit,
      );
    }

pub overflow_add-read : goal.overflow_add-read
overflow_add-read c =
    record {
      fits = omega (
        arith,
        before c.loop-index.invariant c.div_ceil-index-end.ensures c.loop-index-test.true,
        mul-le (1024 / c.self.inside.fields.now.column) c.encode_align.result 1024 189
            (lines-few c.self.invariant c.self.view_is c.requires.lines 1024)
            c.encode_align.ensures.most,
        c.requires.limit,
      );
    }

pub overflow_mul-written : goal.overflow_mul-written
overflow_mul-written c =
    record {
      fits = omega (
        arith,
        piece-begins c.loop-index.invariant c.div_ceil-index-end.ensures c.loop-index-test.true,
        text-few c.self.invariant c.self.view_is c.requires.lines c.args.input.now,
        c.requires.limit,
      );
    }

pub overflow_add-written : goal.overflow_add-written
overflow_add-written c =
    record {
      fits = omega (
        arith,
        piece-begins c.loop-index.invariant c.div_ceil-index-end.ensures c.loop-index-test.true,
        text-few c.self.invariant c.self.view_is c.requires.lines c.args.input.now,
        block-few _ _ _ (lines-few c.self.invariant c.self.view_is c.requires.lines 1024)
            (line-few c.self.invariant c.self.view_is c.requires.lines refl),
        c.requires.limit,
      );
    }

pub slice_bounds-encode_block-count : goal.slice_bounds-encode_block-count
slice_bounds-encode_block-count c =
    omega (
      arith,
      c.min-read_end.ensures,
      before c.loop-index.invariant c.div_ceil-index-end.ensures c.loop-index-test.true,
    )

pub slice_bounds-encode_block-start : goal.slice_bounds-encode_block-start
slice_bounds-encode_block-start c = slice_bounds-encode_block-count c

pub slice_bounds-encode_block-count-in-loop-index :
    goal.slice_bounds-encode_block-count-in-loop-index
slice_bounds-encode_block-count-in-loop-index c =
    part-begins c.loop-index.invariant c.div_ceil-index-end.ensures c.loop-index-test.true
    c.min-read_end.ensures c.min-written_end.ensures

pub slice_bounds-encode_block-start-in-loop-index :
    goal.slice_bounds-encode_block-start-in-loop-index
slice_bounds-encode_block-start-in-loop-index c =
    slice_bounds-encode_block-count-in-loop-index c

pub encode_block-requires-clause-room : goal.encode_block-requires-clause-room
encode_block-requires-clause-room c =
    lines-fit c.self.invariant c.self.view_is c.requires.lines 1024 _
    c.encode_align.ensures.value
    (piece-few c.loop-index.invariant c.div_ceil-index-end.ensures c.loop-index-test.true
    c.min-read_end.ensures)

pub encode_block-requires-clause-exact : goal.encode_block-requires-clause-exact
encode_block-requires-clause-exact c =
    length-part c.loop-index.invariant c.div_ceil-index-end.ensures c.loop-index-test.true
    c.min-read_end.ensures c.min-written_end.ensures

pub loop-index-preserved : goal.loop-index-preserved
loop-index-preserved c =
    piece-next c.loop-index.invariant c.div_ceil-index-end.ensures c.loop-index-test.true
    c.min-read_end.ensures c.min-written_end.ensures c.encode_block.ensures

pub returns : goal.returns
returns c =
    piece-last c.loop-index.invariant
    (omega (arith, c.loop-index-test.false, c.loop-index.auto.index-end)
    ∙ c.div_ceil-index-end.ensures)
