use Rattle.std.proofs.Common.{◌≡◌, ◌<◌, ℕ, Bool, false, not, ap, sym, ◌∙◌, arith}
use Rattle.std.specs.Prelude.{flat_map}
use Rattle.std.proofs.lemmas.Grind.{common_steps}
use Rattle.data_encoding.specs.Base.{is_ignored, meaning}
use Rattle.data_encoding.specs.Bits.{runs}
use Rattle.data_encoding.specs.SameMeaning.{kept_bytes}
use Rattle.conformance.proofs.LineLemmas.{ended, kept-lines}
use Rattle.conformance.proofs.callers.rewritten.rewrapped.Goals as goal
use Rattle.conformance.proofs.callers.rewritten.rewrapped.Goals.{then-line-eq0, else-line-eq0}

pub returns-clause-same : goal.returns-clause-same
returns-clause-same c bytes =
    let base = c.args.encoding.now in
    let text = c.args.text.now in
    let line = c.if-line-eq0.line in
    let keeps : ℕ → Bool = λ byte. not (is_ignored (meaning base byte)) in
    let no_return : keeps 13 ≡ false = grind (arith, common_steps) in
    let no_feed : keeps 10 ≡ false = grind (arith, common_steps) in
    let some : 0 < line =
    elim c.if-line-eq0.branch [
      | then-line-eq0 w ↦ grind (arith, common_steps)
      | else-line-eq0 w ↦ grind (arith, common_steps)
    ] in
    let is_kept : c.deref.result.now ≡ kept_bytes base text = grind (arith, common_steps) in
    let same : kept_bytes base c.in_ok-in_lines.field-0.items ≡ kept_bytes base text =
    ap (kept_bytes base) c.in_ok-in_lines.ensures
    ∙ ap (λ l. kept_bytes base (flat_map ended (runs line l))) is_kept
    ∙ kept-lines keeps no_return no_feed line text some in
    let law = c.same_kept_bytes.ensures base c.bit_width-width.ensures.base in (
      law text c.in_ok-in_lines.field-0.items bytes (sym same),
      law c.in_ok-in_lines.field-0.items text bytes same,
    )
