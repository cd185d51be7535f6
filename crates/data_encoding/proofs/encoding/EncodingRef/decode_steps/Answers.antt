use Rattle.std.proofs.Common.{◌≡◌, ℕ, ◌+◌, ◌-◌, ◌*◌, ◌<◌, ◌≤◌, ◌⊎◌, List, cond, nat_lt, inl, inr, refl, arith}
use Rattle.std.proofs.lemmas.Bool.Decides.{nat_tests}
use Rattle.data_encoding_meaning.specs.text.Base.{Base}
use Rattle.data_encoding.specs.declared.decode.decoding_loop.Progress.{Progress}
use Rattle.data_encoding.specs.Progress.{HasReached}
use Rattle.data_encoding.proofs.decoding.OutputLemmas.{begins-within, exact-same}
use Rattle.data_encoding.proofs.decoding.StepLemmas.{decoded-after, under_way}
use Rattle.data_encoding.proofs.encoding.EncodingRef.decode_steps.Given.{Over}
use Rattle.data_encoding.proofs.encoding.EncodingRef.decode_steps.Goals as goal
use Rattle.data_encoding.proofs.encoding.EncodingRef.decode_steps.Goals.{Joined-at-gt0, then-at-gt0+then-is_line, else-at-gt0+then-at-read+in-More, then-is_broken_next, else-is_broken_next, else-at-gt0+else-at-read}

-- how far lines, packed bytes or a group went
record HasMoved (base : Base) (text : List ℕ) (before : Progress) (len : ℕ) (at : Progress)
    (output : List ℕ) : Type 0 where
  reached : HasReached base text at output
  further : before.read ≤ at.read
  more : (0 < len) ⊎ (before.read < at.read)

moved : (g : Over) (c : Joined-at-gt0 g)
    → HasMoved c.args.self.now c.args.input.now c.loop-at.at c.loop-at.len c.if-at-gt0.at
    c.if-at-gt0.output
moved g c =
    elim c.if-at-gt0.branch [
      | then-at-gt0+then-is_line w ↦ rw (w.at-is, w.output-is) (record {
        reached = w.decode_lines-at.ensures.reached;
        further = w.decode_lines-at.ensures.further;
        more = inl (w.if-is_line.ensures refl);
      })
      | else-at-gt0+then-at-read+in-More w ↦ rw (w.at-is, w.output-is) (record {
        reached = record {
          exact = exact-same c.loop-at.invariant.reached.exact (omega arith);
          so_far = rw (w.progress_at-at.ensures.read, w.progress_at-at.ensures.written)
              w.in-More.ensures.1;
          front = rw w.progress_at-at.ensures.read (w.progress_at-at.ensures.front
              c.args.self.now c.requires.entries.ignored);
        };
        further = omega (
          arith,
          w.in-More.ensures.0,
          w.if-at-read.true,
          w.progress_at-at.ensures.read,
        );
        more = inr (omega (
          arith,
          w.in-More.ensures.0,
          w.if-at-read.true,
          w.progress_at-at.ensures.read,
        ));
      })
      | else-at-gt0+else-at-read w ↦ rw (w.at-is, w.output-is)
          (elim w.if-is_broken_next.branch [
            | then-is_broken_next v ↦ rw (v.at-is, v.output-is) (record {
              reached = v.decode_packed-at.ensures.reached;
              further = v.decode_packed-at.ensures.further;
              more = inr (grind (
                arith,
                nat_tests,
                v.at-is,
                w.if-at-read.false,
                v.decode_packed-at.ensures.further,
              ));
            })
            | else-is_broken_next v ↦ absurd (grind (arith, nat_tests, v.at-is, w.if-at-read.false))
          ])
    ]

pub decode_in_place-at-requires-clause-at : goal.decode_in_place-at-requires-clause-at
decode_in_place-at-requires-clause-at g c =
    (moved g (goal.at.decode_in_place-at-requires-clause-at g c).Joined-at-gt0).reached

pub overflow_add-start : goal.overflow_add-start
overflow_add-start g c =
    let reached = (moved g (goal.at.overflow_add-start g c).Joined-at-gt0).reached in
    record { fits = omega (arith, begins-within reached, reached.exact.limit) }

-- a turn that reads no more leaves no length of a run
smaller : (total before at start next len run : ℕ) → next ≤ total → before ≤ at → at ≤ start
    → at ≤ next → (0 < len) ⊎ (before < at) → run ≡ next - start
    → 2 * (total - next) + cond (nat_lt 0 run) 1 0
    < 2 * (total - before) + cond (nat_lt 0 len) 1 0
smaller total before at start next len run within further starts goes more is =
    grind (arith, nat_tests, within, further, starts, goes, more, is)

pub loop-at-smaller : goal.loop-at-smaller
loop-at-smaller g c =
    let before = moved g (goal.at.loop-at-smaller g c).Joined-at-gt0 in
    let after = c.decode_in_place-at.ensures.on in
    smaller _ _ c.if-at-gt0.at.read (c.if-at-gt0.at.read + c.if-at-gt0.at.ignored) _ _ _
    after.reached.so_far.within before.further (omega arith) after.further before.more
    c.saturating_sub-len.ensures

pub returns : goal.returns
returns g c =
    let at = c.loop-at.invariant.reached in
    let now = under_way c.requires.entries.reads.holds.is_width at.exact
    at.so_far in
    decoded-after now at.front c.loop-at-test.false

pub loop-at-init : goal.loop-at-init
loop-at-init g c = record { reached = c.requires.first; within = omega arith }

pub overflow_add-at : goal.overflow_add-at
overflow_add-at g c =
    let reached = c.loop-at.invariant.reached in
    record { fits = omega (arith, begins-within reached, reached.exact.limit) }

pub decode_lines-at-requires-clause-within : goal.decode_lines-at-requires-clause-within
decode_lines-at-requires-clause-within g c =
    omega (arith, c.loop-at.invariant.within, c.loop-at.invariant.reached.so_far.within)

pub decode_lines-at-requires-clause-at : goal.decode_lines-at-requires-clause-at
decode_lines-at-requires-clause-at g c = c.loop-at.invariant.reached

pub decode_packed-at-requires-clause-at : goal.decode_packed-at-requires-clause-at
decode_packed-at-requires-clause-at g c = c.loop-at.invariant.reached

pub is_broken_next-requires-clause-within : goal.is_broken_next-requires-clause-within
is_broken_next-requires-clause-within g c = begins-within c.loop-at.invariant.reached

pub loop-at-preserved : goal.loop-at-preserved
loop-at-preserved g c =
    let after = c.decode_in_place-at.ensures.on in
    record {
      reached = after.reached;
      within = omega (arith, c.saturating_sub-len.ensures);
    }

pub returns-in-Ended : goal.returns-in-Ended
returns-in-Ended g c = c.in-Ended.ensures

pub returns-in-Faulty : goal.returns-in-Faulty
returns-in-Faulty g c = c.in-Faulty.ensures

pub progress_at-at-requires : goal.progress_at-at-requires
progress_at-at-requires g c = record { within = c.in-More.ensures.1.within }

pub decode_next-requires-clause-at : goal.decode_next-requires-clause-at
decode_next-requires-clause-at g c =
    elim c.if-is_broken_next.branch [
      | then-is_broken_next v ↦ rw (v.at-is, v.output-is) v.decode_packed-at.ensures.reached
      | else-is_broken_next v ↦ rw (v.at-is, v.output-is) c.loop-at.invariant.reached
    ]
