use Rattle.std.proofs.Common.{◌≡◌, ℕ, ◌+◌, ◌≤◌, List, length, take, ◌++◌, ap, ◌∙◌, arith, length-append}
use Rattle.std.proofs.lemmas.Grind.{common_steps}
use Rattle.std.proofs.lemmas.List.{take-append-le, take-take}
use Rattle.std.proofs.Math.Seq.{take-append-add}
use Rattle.encoding_stream.proofs.append_piece.append_within.Goals as goal

-- the first bytes after the old ones
front : {start len : ℕ} (old begun out post rest : List ℕ) (count : ℕ) → begun ≡ old
    → start ≡ length old → count ≤ length out → start + count ≤ len
    → take (start + count) (take len (begun ++ (out ++ post) ++ rest)) ≡ old ++ take count out
front {start} {len} old begun out post rest count is starts few within =
    take-take (start + count) len (begun ++ (out ++ post) ++ rest) within
    ∙ take-append-le (start + count) (begun ++ (out ++ post)) rest
    (omega (
      arith,
      starts,
      ap length is,
      few,
      length-append begun (out ++ post),
      length-append out
          post,
    ))
    ∙ (rw (is, starts) (take-append-add old (out ++ post) count))
    ∙ ap (λ l. old ++ l) (take-append-le count out post few)

pub returns-clause-appends : goal.returns-clause-appends
returns-clause-appends g c = record {
  bytes = take c.read-written.result c.read-written.new.output;
  reads = c.read-written.ensures.reads;
  appended =
      c.truncate.ensures.items
      ∙ front c.args.output.now.items _ c.read-written.new.output _ _ c.read-written.result
      (grind (arith, common_steps)) (search (arith)) c.read-written.ensures.within
      (omega (
        arith,
        c.read-written.ensures.within,
        c.read-written.ensures.len,
        rw c.unwrap.ensures at c.resize.ensures.len,
        c.deref_mut.ensures.len,
      ));
}
