use Rattle.std.proofs.Common.{◌∙◌}
use Rattle.heap_core.specs.Core.{core_of}
use Rattle.heap_core.proofs.HeaderMoves.{exchange_done}
use Rattle.heap_core.proofs.machine.Machine.exchange.Goals as goal

pub returns-clause-after : goal.returns-clause-after
returns-clause-after c = c.store.ensures ∙ exchange_done (core_of c.args.self.now) c.args.id c.form_place-place.result c.moved_word.result
    c.args.old c.args.new c.args.stands c.requires.stands c.form_place-place.ensures c.moved_word.ensures
