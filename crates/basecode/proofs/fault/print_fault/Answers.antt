use Rattle.std.proofs.Common.{rules, ◌≡◌}
use Rattle.std.proofs.lemmas.Result.{on_ok_weaker}
use Rattle.basecode.proofs.LineLemmas.{line_sent, line_written}
use Rattle.basecode.proofs.fault.print_fault.Goals as goal

pub returns-in-Ok : goal.returns-in-Ok
returns-in-Ok g c =
    let is : c.as_bytes.result.now ≡ c.writeln.new.self.bytes = search rules in
    on_ok_weaker _
    (line_sent _ (λ line. line.bytes) (λ before bytes after took. took) _ _
    c.new-line.ensures _ c.in-Ok.ensures.writes _ is _ _)
    c.write_all.ensures.bytes

pub returns-in-Err : goal.returns-in-Err
returns-in-Err g c =
    on_ok_weaker _ (line_written _ _ (g.D.Display.output c.args.fault.now))
    c.writeln-in-Err.ensures.bytes
