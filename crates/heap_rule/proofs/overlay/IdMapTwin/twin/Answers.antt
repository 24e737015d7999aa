use Rattle.std.proofs.Common.{◌∙◌, ap, rules}
use Rattle.heap_rule.specs.Maps.{laid_over, upper_one}
use Rattle.heap_rule.proofs.MapLaying.{laid_alone}
use Rattle.heap_rule.proofs.overlay.IdMapTwin.twin.Goals as goal

pub returns : goal.returns
returns g c = search rules ∙ (ap (λ m. laid_over upper_one m c.args.self.now) c.new-map.ensures ∙ laid_alone c.args.self.now)
