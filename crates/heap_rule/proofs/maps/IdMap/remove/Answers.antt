use Rattle.std.proofs.Common.{◌∙◌, ap}
use Rattle.std.specs.FinMap as map
use Rattle.heap_rule.proofs.MapEntries.{remove_view}
use Rattle.heap_rule.proofs.maps.IdMap.remove.Goals as goal

pub returns : goal.returns
returns g c = remove_view c.self.inside.entries.entries c.remove.new.self.entries c.args.key c.remove.ensures.updates.0 ∙ ap (λ m. map.remove m c.args.key) c.self.view_is
