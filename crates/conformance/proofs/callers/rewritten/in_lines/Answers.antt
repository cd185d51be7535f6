use Rattle.std.proofs.Common.{◌≡◌, ◌<◌, ◌∷◌, [], ◌++◌, length, take, drop, sym, ap, ◌∙◌, append_assoc, arith}
use Rattle.std.specs.Prelude.{flat_map}
use Rattle.std.proofs.lemmas.Grind.{common_steps}
use Rattle.std.proofs.lemmas.List.{append-nil}
use Rattle.data_encoding.specs.Bits.{runs}
use Rattle.conformance.proofs.LineLemmas.{ended, runs-first, runs-none}
use Rattle.conformance.proofs.callers.rewritten.in_lines.Goals as goal

pub loop-run-init : goal.loop-run-init
loop-run-init c = record {
  size = grind (arith, common_steps);
  lines = grind (arith, common_steps);
}

pub loop-run-preserved : goal.loop-run-preserved
loop-run-preserved c =
    let line = c.args.line in
    let rest = c.loop-run.run-iterator.rest.now in
    let run = c.in-Some.run'.now in
    let before = c.loop-run.output.items in
    let more : 0 < length rest = grind (arith, common_steps) in
    let here : run ≡ take line rest = grind (arith, common_steps) in
    let next : c.next.new.self.rest.now ≡ drop line rest = grind (arith, common_steps) in
    let items : c.extend_from_slice-in-loop-run.new.self.items ≡ before ++ ended run =
    grind (arith, common_steps, append_assoc before run (13 ∷ 10 ∷ [])) in
    let first : runs line rest ≡ run ∷ runs line (c.next.new.self.rest.now) =
    runs-first line rest c.requires.some more
    ∙ (λ i. sym here i ∷ runs line (sym next i)) in
    record {
      size = grind (arith, common_steps);
      lines =
          ap (λ l. l ++ flat_map ended (runs line c.next.new.self.rest.now)) items
          ∙ append_assoc before (ended run) (flat_map ended (runs line c.next.new.self.rest.now))
          ∙ ap (λ l. before ++ flat_map ended l) (sym first)
          ∙ c.loop-run.invariant.lines;
    }

pub returns : goal.returns
returns c =
    let line = c.args.line in
    let none : runs line c.loop-run.run-iterator.rest.now ≡ [] =
    runs-none line c.loop-run.run-iterator.rest.now c.requires.some (grind (arith, common_steps)) in
    sym (append-nil c.loop-run.output.items)
    ∙ ap (λ l. c.loop-run.output.items ++ flat_map ended l) (sym none)
    ∙ c.loop-run.invariant.lines
