use Rattle.std.proofs.Common.{◌++◌, rules, arith}
use Rattle.heap_rule.proofs.CallLists.{add_step}
use Rattle.heap_rule.proofs.maps.History.add.Goals as goal

pub loop-call-preserved : goal.loop-call-preserved
loop-call-preserved c = add_step c.loop-call.self-inside.calls.items c.as_slice-call-items.result.now (c.args.self.now ++ c.args.other.now)
    c.push.new.self.items c.loop-call.call-index c.call-item.result (c.in_ok-twin.field-0, c.call-item.result.1) (omega arith)
    c.loop-call.invariant (search rules) (search rules)
