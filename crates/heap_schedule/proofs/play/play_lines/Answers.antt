use Rattle.std.proofs.Common.{rules, ◌≡◌, ◌++◌, ◌∷◌, [], Err, map, subst, sym}
use Rattle.heap_schedule.specs.Lines.{turn_named}
use Rattle.heap_schedule.specs.Play.{EndsAfter, IsPlayed}
use Rattle.heap_schedule.proofs.Played.{ends_here, one_played}
use Rattle.heap_schedule.proofs.play.play_lines.Goals as goal

pub loop-line-preserved : goal.loop-line-preserved
loop-line-preserved c =
    let inv = c.loop-line.invariant in
    let x = c.line-item.result in
    let added : c.push.new.self.items ≡ c.loop-line.found.items ++ c.in-Ok.word ∷ [] = search rules in
    one_played c.args.lines.now c.loop-line.line-index x x c.args.state.now c.loop-line.state c.play_line.new.state c.loop-line.found.items c.push.new.self.items
    c.in-Ok.word c.loop-line-test.true c.line-item.is inv c.in-Ok.ensures added

pub returns-in-NotEnabled-clause-ends : goal.returns-in-NotEnabled-clause-ends
returns-in-NotEnabled-clause-ends c =
    let inv = c.loop-line.invariant in
    let x = c.line-item.result in
    let p = subst (λ r. IsPlayed c.loop-line.state (turn_named x) c.play_line.new.state (Err r)) c.in-NotEnabled.is c.in-Err.ensures in
    subst (EndsAfter (map turn_named c.args.lines.now) c.args.state.now) (sym inv.long)
    (ends_here c.args.lines.now c.loop-line.line-index x x c.args.state.now c.loop-line.state c.play_line.new.state c.loop-line.found.items
    c.loop-line-test.true c.line-item.is inv p)
