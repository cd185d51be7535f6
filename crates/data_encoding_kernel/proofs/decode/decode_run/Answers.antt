use Rattle.std.proofs.Common.{◌≡◌, ◌*◌, ◌/◌, ◌%◌, take, refl, ap, ◌∙◌, arith}
use Rattle.std.proofs.Math.Nat.{mul-mod_left, zero-mod}
use Rattle.data_encoding_meaning.specs.text.Base.{group_symbols}
use Rattle.data_encoding_meaning.proofs.digits.WidthLemmas.{group_symbols-pos}
use Rattle.data_encoding_kernel.proofs.decoding.JoinSizeLemmas.{join-width}
use Rattle.data_encoding_kernel.proofs.decoding.SymbolRunLemmas.{groups-of_product, run-none, run-same, zero-groups}
use Rattle.data_encoding_kernel.proofs.decode.decode_run.Goals.{then-input-turn+else-whole_groups-at+else-len-at, else-input-turn}
use Rattle.data_encoding_kernel.proofs.decode.decode_run.Goals as goal

pub returns-then-whole_groups-at-clause-run : goal.returns-then-whole_groups-at-clause-run
returns-then-whole_groups-at-clause-run g c =
    let s = group_symbols c.args.join.now.width in
    let count = c.decode_line-at.result / s in
    rw (
      c.whole_groups-then-whole_groups-at.ensures,
      groups-of_product count s refl (group_symbols-pos c.args.join.now.width
          (join-width c.requires.join)),
    ) (c.decode_line-at.ensures.run c.args.values.now c.requires.held)

pub returns-then-whole_groups-at-clause-whole : goal.returns-then-whole_groups-at-clause-whole
returns-then-whole_groups-at-clause-whole g c =
    let s = group_symbols c.args.join.now.width in
    rw c.whole_groups-then-whole_groups-at.ensures (mul-mod_left (c.decode_line-at.result / s) s)

pub decode_windows-requires-clause-whole : goal.decode_windows-requires-clause-whole
decode_windows-requires-clause-whole g c =
    let s = group_symbols c.args.join.now.width in
    elim c.if-input-turn.branch [
      | then-input-turn+else-whole_groups-at+else-len-at w ↦
          let count = 8 * (w.decode_line-at.result / 8 / s) in
          let all : w.decode_line-at.result ≡ count * s =
          omega (arith, w.if-whole_groups-at.false, w.whole_groups.ensures) in
          rw w.at-is (ap (λ n. n % s) all ∙ mul-mod_left count s)
      | else-input-turn w ↦ rw w.at-is (zero-mod s)
    ]

pub decode_windows-requires-clause-begun : goal.decode_windows-requires-clause-begun
decode_windows-requires-clause-begun g c = λ values held base reads.
    elim c.if-input-turn.branch [
      | then-input-turn+else-whole_groups-at+else-len-at w ↦ rw (w.at-is, w.output-is)
          (run-same base (w.decode_line-at.ensures.run values held base reads))
      | else-input-turn w ↦ rw (
        w.at-is,
        w.output-is,
        zero-groups
            (group_symbols c.args.join.now.width),
      )
          (run-none base reads.holds.is_width (take c.args.len c.args.input.now) _ _)
    ]

pub returns-clause-run : goal.returns-clause-run
returns-clause-run g c = λ base reads.
    run-same base (c.decode_windows.ensures.run c.args.values.now c.requires.held base reads)
