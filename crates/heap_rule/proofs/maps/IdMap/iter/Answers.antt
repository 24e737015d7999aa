use Rattle.std.proofs.Common.{◌≡◌, sym, ap, subst, ◌∙◌, Some}
use Rattle.std.specs.List.{All}
use Rattle.std.specs.FinMap as map
use Rattle.heap_rule.proofs.MapEntries.{entries_view, found_view}
use Rattle.heap_rule.proofs.maps.IdMap.iter.Goals as goal

pub returns-clause-rest : goal.returns-clause-rest
returns-clause-rest g c = c.iter.ensures.rest ∙ (sym (entries_view c.self.inside.entries.entries c.iter.ensures.ordered) ∙ ap map.entries c.self.view_is)

pub returns-clause-found : goal.returns-clause-found
returns-clause-found g c = subst (λ m. All (λ e. map.get m e.0 ≡ Some e.1) (map.entries m)) c.self.view_is (found_view c.self.inside.entries.entries c.iter.ensures.ordered c.iter.ensures.found)
