use Rattle.std.proofs.Common.{◌∙◌, ap, sym}
use Rattle.std.specs.FinMap as map
use Rattle.heap_rule.proofs.MapEntries.{get_view}
use Rattle.heap_rule.proofs.maps.IdMap.get.Goals as goal

pub returns : goal.returns
returns g c = c.get.ensures.value ∙ (sym (get_view c.self.inside.entries.entries c.args.key) ∙ ap (λ m. map.get m c.args.key) c.self.view_is)
