use Rattle.std.proofs.Common.{◌∙◌, ap}
use Rattle.std.specs.FinMap as map
use Rattle.heap_rule.proofs.MapEntries.{insert_view}
use Rattle.heap_rule.proofs.maps.IdMap.insert.Goals as goal

pub returns-in-Ok-clause-ok : goal.returns-in-Ok-clause-ok
returns-in-Ok-clause-ok g c = insert_view c.self.inside.entries.entries c.insert.new.self.entries c.args.key c.args.value
    c.in-Ok.ensures.updates.0 ∙ ap (λ m. map.insert m c.args.key c.args.value) c.self.view_is
