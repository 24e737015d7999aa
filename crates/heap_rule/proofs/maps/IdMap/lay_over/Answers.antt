use Rattle.std.proofs.Common.{rules}
use Rattle.std.proofs.lemmas.Map.Iter.{rest_more}
use Rattle.std.specs.Map.Iter.{deref_pair}
use Rattle.heap_rule.specs.Maps.{upper_one, laid_over}
use Rattle.heap_rule.proofs.MapLaying.{lay_step}
use Rattle.heap_rule.proofs.maps.IdMap.lay_over.Goals as goal

pub loop-key-preserved : goal.loop-key-preserved
loop-key-preserved g c = lay_step upper_one c.args.upper.now (laid_over upper_one c.args.self.now c.args.upper.now) c.loop-key.self
    c.insert.new.self c.loop-key.key-iterator c.next.new.self c.in-Some.key.now c.in-Some.value.now c.in_ok-twin.field-0
    (rest_more deref_pair c.loop-key.key-iterator c.next.new.self c.next.result (c.in-Some.key, c.in-Some.value) c.in-Some.is
    c.next.ensures.steps) c.loop-key.invariant.0 c.loop-key.invariant.1 (search rules) (search rules)
