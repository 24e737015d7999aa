use Rattle.std.proofs.Common.{◌∙◌, ap, arith}
use Rattle.heap_rule.specs.declared.view.View.{View}
use Rattle.heap_rule.specs.Claims.{loaded_counter}
use Rattle.heap_core.specs.Core.{core_of}
use Rattle.heap_core.proofs.StateLemmas.{view_inside, load_done}
use Rattle.heap_core.proofs.machine.Machine.load_counter.Goals as goal

pub index_mut-requires : goal.index_mut-requires
index_mut-requires c = let l = view_inside c.args.self.now.views.items c.args.view (λ (v : View). Unit {0}) c.requires.can in let ok = c.args.self.now.views.ok in omega arith

pub returns-clause-after : goal.returns-clause-after
returns-clause-after c = (load_done (core_of c.args.self.now) c.args.view c.index_mut.result.now c.args.counter c.place.result
    c.word-found.result c.load_counter.new.view c.requires.can c.place.ensures c.word-found.ensures
    (c.load_counter.ensures ∙ ap (λ (v : View). loaded_counter v c.args.counter c.word-found.result) c.index_mut.ensures.value)).0

pub returns-clause-found : goal.returns-clause-found
returns-clause-found c = (load_done (core_of c.args.self.now) c.args.view c.index_mut.result.now c.args.counter c.place.result
    c.word-found.result c.load_counter.new.view c.requires.can c.place.ensures c.word-found.ensures
    (c.load_counter.ensures ∙ ap (λ (v : View). loaded_counter v c.args.counter c.word-found.result) c.index_mut.ensures.value)).1
