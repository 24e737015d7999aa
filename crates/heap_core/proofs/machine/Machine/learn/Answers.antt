use Rattle.std.proofs.Common.{◌∙◌, ap, sym, subst}
use Rattle.heap_rule.specs.declared.view.View.{View}
use Rattle.heap_rule.specs.Learning.{learned}
use Rattle.heap_core_views.specs.Loading.{loaded_by, HasRoom}
use Rattle.heap_core.specs.Core.{core_of}
use Rattle.heap_core.specs.Events.{looked}
use Rattle.heap_core.proofs.machine.Machine.learn.Goals as goal

pub loaded-requires-clause-room : goal.loaded-requires-clause-room
loaded-requires-clause-room c = subst (λ (v : View). HasRoom (loaded_by v c.args.load)) (sym c.view.ensures) c.requires.room

pub returns-clause-ok : goal.returns-clause-ok
returns-clause-ok c = c.look.ensures ∙ ap (looked (core_of c.args.self.now) c.args.view) (c.in_ok-seen.ensures ∙ ap (λ (v : View). learned (loaded_by v c.args.load) c.args.names.now) c.view.ensures)
