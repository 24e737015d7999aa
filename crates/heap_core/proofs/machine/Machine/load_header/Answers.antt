use Rattle.heap_rule.specs.declared.view.View.{View}
use Rattle.heap_rule.specs.Views.{MayUse}
use Rattle.heap_core.specs.Core.{core_of}
use Rattle.heap_core.proofs.StateLemmas.{view_inside}
use Rattle.heap_core.proofs.LoadSteps.{header_run, known_stands, known_inside, header_room, header_became}
use Rattle.heap_core.proofs.machine.Machine.load_header.Goals as goal

pub header_place-requires : goal.header_place-requires
header_place-requires c = let t = known_inside (core_of c.args.self.now) c.requires.core c.args.view c.args.id c.requires.can.0 in (t.0, t.1)

pub header_load-requires-clause-stand : goal.header_load-requires-clause-stand
header_load-requires-clause-stand c = (known_stands (core_of c.args.self.now) c.requires.core c.args.view c.args.id c.requires.can.0).0

pub header_load-requires-clause-born : goal.header_load-requires-clause-born
header_load-requires-clause-born c = (known_stands (core_of c.args.self.now) c.requires.core c.args.view c.args.id c.requires.can.0).1

pub learn-requires-clause-inside : goal.learn-requires-clause-inside
learn-requires-clause-inside c = view_inside c.args.self.now.views.items c.args.view (λ (v : View). MayUse v c.args.id) c.requires.can.0

pub learn-requires-clause-room : goal.learn-requires-clause-room
learn-requires-clause-room c = header_room (core_of c.args.self.now) c.requires.core c.args.view c.args.id c.args.length c.header_load.result c.requires.can.0 c.header_load.ensures

pub learn-requires-clause-run : goal.learn-requires-clause-run
learn-requires-clause-run c = header_run c.args.self.now.size c.args.self.now.words.items c.args.id c.args.length c.header_load.result c.header_load.ensures

pub returns : goal.returns
returns c = header_became (core_of c.args.self.now) c.requires.core c.args.view c.args.id c.args.length c.args.names.now
    c.header_load.result c.header_place.result c.word-found.result (core_of c.learn.new.self) c.requires.can.0 c.header_load.ensures
    c.header_place.ensures c.word-found.ensures c.in_ok-learn.ensures.ok
