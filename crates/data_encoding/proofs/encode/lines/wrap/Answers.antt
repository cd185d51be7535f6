use Rattle.std.proofs.Common.{◌≡◌, ℕ, ◌+◌, ◌-◌, ◌*◌, ◌/◌, ◌<◌, ◌≤◌, List, ◌++◌, length, take, drop, sym, ap, ◌∙◌, arith, length-append}
use Rattle.std.proofs.Math.Nat.{lt-div-mul-add}
use Rattle.std.proofs.lemmas.List.{take_rest}
use Rattle.data_encoding_meaning.proofs.lists.PartLemmas.{group-before, groups-within, length-part, length-rest, part-is}
use Rattle.data_encoding_meaning.proofs.lists.PieceLemmas.{IsByPieces}
use Rattle.data_encoding_meaning.proofs.lists.RunLemmas.{ended-short}
use Rattle.data_encoding.proofs.text.LinePieceLemmas.{IsByPieces-lines}
use Rattle.data_encoding.proofs.text.WholeLineLemmas.{length-parts, line-fits, line-next, lines-none, lines-rest}
use Rattle.std.specs.Prelude.{flat_map}
use Rattle.data_encoding_meaning.specs.text.Bits.{runs}
use Rattle.data_encoding.proofs.encode.lines.wrap.Goals as goal

-- a text in lines
module _ (column : ℕ) (separator text : List ℕ) (some : 0 < column) where
  abbrev lines : List ℕ → List ℕ
  lines part = flat_map (λ line. line ++ separator) (runs column part)

  abbrev line_len : ℕ
  line_len = column + length separator

  abbrev count : ℕ
  count = length text / column

  pieces : IsByPieces lines column line_len
  pieces = IsByPieces-lines column separator some

  -- a whole line of it
  module _ {i : ℕ} (below : i < count) where
    within : i * column + column ≤ length text
    within = group-before (length text) column i below

    fits : i * line_len + line_len ≤ length (lines text)
    fits = line-fits pieces text i within

    abbrev line : List ℕ
    line = take (i * column + column - i * column) (drop (i * column) text)

    length-line : length line ≡ column
    length-line = length-part (i * column) column text within

    room : (output : List ℕ) → length output ≡ length (lines text)
        → length (take (i * line_len + line_len - i * line_len) (drop (i * line_len) output))
        ≡ length (line ++ separator)
    room output exact =
        length-part (i * line_len) line_len output (omega (arith, fits, exact))
        ∙ sym (length-append line separator ∙ ap (λ n. n + length separator) length-line)

    line-made : line ++ separator ≡ lines (take column (drop (i * column) text))
    line-made =
        sym (ended-short column separator line (omega (arith, length-line, some))
        (omega (arith, length-line)))
        ∙ ap lines (part-is (i * column) column text)

  all : count * column ≤ length text
  all = groups-within (length text) column

  parts : length (lines text) ≡ count * line_len + length (lines (drop (count * column) text))
  parts = length-parts pieces text count all

  -- what follows the whole lines
  abbrev rest : List ℕ
  rest = take (length text - count * column) (drop (count * column) text)

  length-last : length rest ≡ length text - count * column
  length-last = length-rest (count * column) text

  last-made : count * column < length text → rest ++ separator ≡ lines rest
  last-made more =
      let past : length text < count * column + column = lt-div-mul-add some in
      sym (ended-short column separator rest (omega (arith, length-last, more))
      (omega (arith, length-last, past)))

  last-room : count * column < length text → (output : List ℕ)
      → length output ≡ length (lines text)
      → length (take (length output - count * line_len) (drop (count * line_len) output))
      ≡ length (rest ++ separator)
  last-room more output exact =
      length-rest (count * line_len) output
      ∙ omega (
        arith,
        exact,
        parts,
        ap (λ l. length (lines l)) (take_rest text (count * column)),
        ap length (last-made more),
      )

pub loop-index-init : goal.loop-index-init
loop-index-init c =
    record {
      written =
          lines-none (pieces c.args.column c.args.separator.now c.args.text.now c.requires.some)
          c.args.text.now c.args.output.now;
    }

pub slice_bounds-write_line-end-in-loop-index : goal.slice_bounds-write_line-end-in-loop-index
slice_bounds-write_line-end-in-loop-index c =
    omega (
      arith,
      fits c.args.column c.args.separator.now c.args.text.now c.requires.some
          c.loop-index-test.true,
      c.requires.exact,
      c.loop-index.auto.output,
    )

pub write_line-requires : goal.write_line-requires
write_line-requires c =
    record {
      exact =
          room c.args.column c.args.separator.now c.args.text.now c.requires.some
          c.loop-index-test.true c.loop-index.output (c.loop-index.auto.output ∙ c.requires.exact);
    }

pub loop-index-preserved : goal.loop-index-preserved
loop-index-preserved c =
    let column = c.args.column in
    let separator = c.args.separator.now in
    let text = c.args.text.now in
    let some = c.requires.some in
    let below = c.loop-index-test.true in
    record {
      written =
          line-next (pieces column separator text some) text c.loop-index.output
          c.write_line.new.output c.loop-index.index c.loop-index.invariant.written
          (within column separator text some below)
          (omega (
            arith,
            fits column separator text some below,
            c.requires.exact,
            c.loop-index.auto.output,
          ))
          (c.write_line.ensures ∙ line-made column separator text some below);
    }

pub slice_bounds-write_line-count-then-read-text-2 :
    goal.slice_bounds-write_line-count-then-read-text-2
slice_bounds-write_line-count-then-read-text-2 c =
    omega (
      arith,
      parts c.args.column c.args.separator.now c.args.text.now c.requires.some,
      c.requires.exact,
      c.loop-index.auto.output,
    )

pub slice_bounds-write_line-start-then-read-text-2 :
    goal.slice_bounds-write_line-start-then-read-text-2
slice_bounds-write_line-start-then-read-text-2 c =
    slice_bounds-write_line-count-then-read-text-2 c

pub write_line-requires-then-read-text : goal.write_line-requires-then-read-text
write_line-requires-then-read-text c =
    record {
      exact =
          last-room c.args.column c.args.separator.now c.args.text.now c.requires.some
          c.if-read-text.true c.loop-index.output
          (c.loop-index.auto.output ∙ c.requires.exact);
    }

pub returns-then-read-text : goal.returns-then-read-text
returns-then-read-text c =
    let column = c.args.column in
    let separator = c.args.separator.now in
    let text = c.args.text.now in
    let some = c.requires.some in
    let all_lines : c.loop-index.index ≡ count column separator text some =
    omega (arith, c.loop-index-test.false, c.loop-index.auto.index-end) in
    lines-rest (pieces column separator text some) text c.loop-index.output
    c.write_line-then-read-text.new.output (count column separator text some)
    (rw all_lines at c.loop-index.invariant.written) (all column separator text some)
    (c.write_line-then-read-text.ensures
    ∙ last-made column separator text some c.if-read-text.true)
