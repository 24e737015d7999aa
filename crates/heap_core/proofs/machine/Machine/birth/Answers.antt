use Rattle.std.proofs.Common.{◌≡◌, ◌∙◌, ◌≤◌, ◌<◌, ℕ, None, Ok, length, sym, ap, subst, arith}
use Rattle.std.specs.Prelude.{unwrap_or}
use Rattle.std.specs.FinMap.{get}
use Rattle.heap_rule.specs.declared.view.View.{View}
use Rattle.heap_rule.specs.Layout.{MAX}
use Rattle.heap_rule.specs.Births.{MayBear, units_for, born_with}
use Rattle.heap_rule.specs.Agents.{spent}
use Rattle.heap_rule.proofs.MapLemmas.{key_of}
use Rattle.heap_rule.proofs.ListLemmas.{any_default}
use Rattle.heap_core.specs.declared.event.Event.TheVariants.{Birth}
use Rattle.heap_core.specs.Core.{Core, core_of}
use Rattle.heap_core.specs.Events.{Made}
use Rattle.heap_core.proofs.StateLemmas.{view_inside, own_id, bears_short, bears_range, bears_fresh, birth_done}
use Rattle.heap_core.proofs.machine.Machine.birth.Goals as goal

pub form_place-place-requires : goal.form_place-place-requires
form_place-place-requires c = let live = c.requires.can in
    let t = own_id (core_of c.args.self.now) c.args.view c.args.id c.requires.core
    (live.0, live.1, live.2, key_of live.0.own_ids c.args.id live.3.0 live.3.1) in (t.0, t.1)

pub view-requires : goal.view-requires
view-requires c = view_inside c.args.self.now.views.items c.args.view (λ (v : View). MayBear v c.args.id c.args.form) c.requires.can

pub view-requires-2 : goal.view-requires-2
view-requires-2 c = view_inside c.args.self.now.views.items c.args.view (λ (v : View). MayBear v c.args.id c.args.form) c.requires.can

pub index_mut-requires : goal.index_mut-requires
index_mut-requires c = let l = view_inside c.args.self.now.views.items c.args.view (λ (v : View). MayBear v c.args.id c.args.form) c.requires.can in let ok = c.args.self.now.views.ok in omega arith

pub units_for-requires-clause-short : goal.units_for-requires-clause-short
units_for-requires-clause-short c = subst (λ (m : ℕ). m ≤ MAX) (sym (c.own_length-n.ensures ∙ ap
    (λ (v : View). unwrap_or (get v.own_ids c.args.id) 0) c.view.ensures))
    (bears_short (core_of c.args.self.now) c.args.view c.args.id c.args.form spent c.requires.core c.requires.can)

pub units_for-requires-clause-range : goal.units_for-requires-clause-range
units_for-requires-clause-range c = bears_range (core_of c.args.self.now) c.args.view c.args.id c.args.form c.requires.core c.requires.can

pub bear-requires-clause-short : goal.bear-requires-clause-short
bear-requires-clause-short c = subst (λ (m : ℕ). m ≤ MAX) (sym (c.own_length-n.ensures ∙ ap
    (λ (v : View). unwrap_or (get v.own_ids c.args.id) 0) c.view.ensures))
    (bears_short (core_of c.args.self.now) c.args.view c.args.id c.args.form spent c.requires.core c.requires.can)

pub bear-requires-clause-range : goal.bear-requires-clause-range
bear-requires-clause-range c = bears_range (core_of c.args.self.now) c.args.view c.args.id c.args.form c.requires.core c.requires.can

pub bear-requires-clause-units : goal.bear-requires-clause-units
bear-requires-clause-units c = c.in_ok-units.ensures ∙ ap (λ (v : View). units_for v c.own_length-n.result c.args.form)
    (c.view-2.ensures ∙ (any_default c.args.self.now.views.items c.args.view spent c.index_mut.result.now
    (view_inside c.args.self.now.views.items c.args.view (λ (v : View). MayBear v c.args.id c.args.form) c.requires.can) ∙ sym c.index_mut.ensures.value))

pub bear-requires-clause-fresh : goal.bear-requires-clause-fresh
bear-requires-clause-fresh c = subst (λ (v : View). (get v.units c.args.id ≡ None) × (get v.forms c.args.id ≡ None))
    (sym c.index_mut.ensures.value) (bears_fresh (core_of c.args.self.now) c.args.view c.args.id c.args.form c.index_mut.result.now
    c.requires.core c.requires.can)

pub encode-requires : goal.encode-requires
encode-requires c = bears_range (core_of c.args.self.now) c.args.view c.args.id c.args.form c.requires.core c.requires.can

pub store-requires : goal.store-requires
store-requires c = let live = c.requires.can in
    let t = own_id (core_of c.args.self.now) c.args.view c.args.id c.requires.core
    (live.0, live.1, live.2, key_of live.0.own_ids c.args.id live.3.0 live.3.1) in subst (λ (p : ℕ). p < length c.args.self.now.words.items)
    (sym c.form_place-place.ensures) t.2

pub returns : goal.returns
returns c = subst (λ (t : Core). Made (core_of c.args.self.now) (Birth c.args.view c.args.id c.args.form) t (Ok c.word-found.result)) (sym c.store.ensures)
    (birth_done (core_of c.args.self.now) c.args.view c.index_mut.result.now c.args.id c.own_length-n.result c.form_place-place.result
    c.word-found.result c.encode.result c.args.form c.bear.new.view c.requires.can c.form_place-place.ensures c.word-found.ensures c.encode.ensures.word
    ((c.own_length-n.ensures ∙ ap (λ (v : View). unwrap_or (get v.own_ids c.args.id) 0) c.view.ensures) ∙ ap
    (λ (v : View). unwrap_or (get v.own_ids c.args.id) 0) (any_default c.args.self.now.views.items c.args.view spent c.index_mut.result.now
    (view_inside c.args.self.now.views.items c.args.view (λ (v : View). MayBear v c.args.id c.args.form) c.requires.can)))
    (c.in_ok-bear.ensures.ok ∙ ap (λ (v : View). born_with v c.args.id c.own_length-n.result c.args.form) c.index_mut.ensures.value))
