use Rattle.std.proofs.Common.{sym, ◌∙◌}
use Rattle.heap_bytes.proofs.Reading.{other_follows}
use Rattle.heap_bytes.proofs.decoding.next_point.Goals as goal

pub returns-then-not-may_follow : goal.returns-then-not-may_follow
returns-then-not-may_follow c = other_follows c.args.encoding c.args.lead c.args.bytes.now c.in_ok-point.rest.now c.in_ok-point.point
    c.in_ok-point.ensures.1 (sym c.may_follow.ensures ∙ c.if-not-may_follow.true)
