use Rattle.std.proofs.Common.{◌∙◌, ◌<◌, ℕ, Ok, length, sym, ap, subst, arith}
use Rattle.heap_rule.specs.declared.view.View.{View}
use Rattle.heap_rule.specs.Births.{MayStoreLength, stored_length}
use Rattle.heap_core.specs.declared.event.Event.TheVariants.{StoreLength}
use Rattle.heap_core.specs.Core.{Core, core_of}
use Rattle.heap_core.specs.Events.{Made}
use Rattle.heap_core.proofs.StateLemmas.{view_inside, own_id, length_done}
use Rattle.heap_core.proofs.machine.Machine.store_length.Goals as goal

pub length_place-place-requires : goal.length_place-place-requires
length_place-place-requires c = let live = c.requires.can in let t = own_id (core_of c.args.self.now) c.args.view c.args.id c.requires.core (live.0, live.1, live.2, live.3.0) in (t.0, t.1)

pub index_mut-requires : goal.index_mut-requires
index_mut-requires c = let l = view_inside c.args.self.now.views.items c.args.view
    (λ (v : View). MayStoreLength v c.args.id c.args.length) c.requires.can in let ok = c.args.self.now.views.ok in omega arith

pub store-requires : goal.store-requires
store-requires c = let live = c.requires.can in
    let t = own_id (core_of c.args.self.now) c.args.view c.args.id c.requires.core (live.0, live.1, live.2, live.3.0) in subst
    (λ (p : ℕ). p < length c.args.self.now.words.items) (sym c.length_place-place.ensures) t.3

pub returns : goal.returns
returns c = subst (λ (t : Core). Made (core_of c.args.self.now) (StoreLength c.args.view c.args.id c.args.length) t (Ok c.word-found.result)) (sym c.store.ensures)
    (length_done (core_of c.args.self.now) c.args.view c.index_mut.result.now c.args.id c.args.length c.length_place-place.result
    c.word-found.result c.from.result c.store_length.new.view c.requires.can c.length_place-place.ensures c.word-found.ensures c.from.ensures
    (c.in_ok-store_length.ensures.ok ∙ ap (λ (v : View). stored_length v c.args.id c.args.length) c.index_mut.ensures.value))
