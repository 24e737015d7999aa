use Rattle.std.proofs.Common.{rules}
use Rattle.std.proofs.lemmas.Map.Iter.{rest_more}
use Rattle.std.specs.Map.Iter.{deref_pair}
use Rattle.heap_rule.specs.Maps.{laid_over}
use Rattle.heap_rule.specs.Forms.{later_form}
use Rattle.heap_rule.proofs.MapLaying.{lay_start, lay_step}
use Rattle.heap_rule.proofs.overlay.IdMap+Form.lay_later.Goals as goal

pub loop-key-init : goal.loop-key-init
loop-key-init c = lay_start later_form c.args.upper.now (laid_over later_form c.args.self.now c.args.upper.now) c.args.self.now
    c.into_iter-key-iterator.result (search rules) c.iter-key-items.ensures.found

pub loop-key-preserved : goal.loop-key-preserved
loop-key-preserved c = lay_step later_form c.args.upper.now (laid_over later_form c.args.self.now c.args.upper.now) c.loop-key.self
    c.insert.new.self c.loop-key.key-iterator c.next.new.self c.in-Some.key.now c.in-Some.form.now c.later_form-form.result
    (rest_more deref_pair c.loop-key.key-iterator c.next.new.self c.next.result (c.in-Some.key, c.in-Some.form) c.in-Some.is
    c.next.ensures.steps) c.loop-key.invariant.0 c.loop-key.invariant.1 (search rules) (search rules)
