use Rattle.std.proofs.Common.{◌≡◌, ◌-◌, ◌++◌, length, take, drop, replicate, refl, sym, ap, ◌∙◌, arith, length-drop}
use Rattle.data_encoding.proofs.decoding.LastGroupLemmas.{begun-reached}
use Rattle.data_encoding.proofs.decoding.ShortLemmas.{joins-reads, loaded, start-reached}
use Rattle.data_encoding.proofs.encoding.EncodingRef.decode_longer.Goals as goal
use Rattle.data_encoding.proofs.encoding.EncodingRef.decode_longer.Goals.{then-input-group_symbols+else-left-eq0+else-left-group_symbols, else-input-group_symbols}

pub returns-then-left-eq0 : goal.returns-then-left-eq0
returns-then-left-eq0 g c =
    record {
      begun = begun-reached c.join-join.ensures.width c.decode_eights-at.ensures.reached
          c.args.stop.now.index c.args.stop.now.kind _ refl;
    }

pub decode_windows-at-requires-clause-start : goal.decode_windows-at-requires-clause-start
decode_windows-at-requires-clause-start g c =
    elim c.if-input-group_symbols.branch [
      | then-input-group_symbols+else-left-eq0+else-left-group_symbols w ↦ rw (w.at-is, w.output-is)
          w.decode_eights-at.ensures.reached
      | else-input-group_symbols w ↦ rw (w.at-is, w.output-is)
          (start-reached c.join-join.ensures.width c.requires.exact)
    ]

pub decode_last-requires-clause-front : goal.decode_last-requires-clause-front
decode_last-requires-clause-front g c =
    let rest = drop c.decode_windows-at.result.read c.args.input.now in
    let within = c.decode_windows-at.ensures.reached.so_far.within in
    let joins = c.join-join.ensures.join in
    let finds = c.requires.finds in
    let found = c.decode_front-front.ensures in
    let len : length rest ≡ length c.args.input.now - c.decode_windows-at.result.read =
    length-drop c.decode_windows-at.result.read c.args.input.now in
    loaded c.args.self.now rest c.decode_front-front.result c.load_at.result
    (c.load_at.ensures ∙ ap (λ n. take 16 rest ++ replicate (16 - n) 0) (sym len)) found.text
    (omega (arith, found.few, c.min-len.ensures)) (omega (arith, found.few, c.min-len.ensures, len))
    (found.front finds.values finds.held c.args.self.now
    (joins-reads joins finds.is_table))
