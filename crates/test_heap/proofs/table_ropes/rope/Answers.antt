use Rattle.std.proofs.Common.{◌∙◌, ◌++◌, inl, false, ap, arith, subst, sym}
use Rattle.js_header.specs.declared.form.Form.TheVariants.{Cons}
use Rattle.heap_rule.specs.declared.view.View.{View}
use Rattle.heap_rule.specs.Births.{MayBear, born, stored_length}
use Rattle.heap_rule.specs.Maps.{Has, HasKey}
use Rattle.heap_rule.proofs.MapLemmas.{key_of}
use Rattle.test_heap.specs.Ropes.{bytes_of}
use Rattle.test_heap.proofs.Making.{cons_fits, cons_form, cons_units, id_own}
use Rattle.test_heap.proofs.table_ropes.rope.Goals as goal

pub store_length-requires-clause-may : goal.store_length-requires-clause-may
store_length-requires-clause-may c = let id = c.in-Ok.id in (subst (λ (y : View). HasKey y.own_ids id) (sym c.in-Ok.ensures.view) (id_own c.eight-2.new.agent.seat.me.0 id), omega arith)

pub birth-requires-clause-fits : goal.birth-requires-clause-fits
birth-requires-clause-fits c = let v : View = c.eight-2.new.agent.seat.me.0 in let id = c.in-Ok.id in let left = c.in-Some.left in let right = c.in-Some-eight.right in
    let a : Has v.units left (bytes_of c.args.first) = c.in-Some-eight.ensures.kept left (bytes_of c.args.first) c.in-Some.ensures.units in
    let b : Has v.units right (bytes_of c.args.second) = c.in-Some-eight.ensures.units in
    let above = c.in-Ok.ensures.above in
    subst (λ (y : View). MayBear y id (Cons false left right)) (sym (c.store_length.ensures.view ∙ ap (λ (y : View). stored_length y id 16) c.in-Ok.ensures.view))
    (cons_fits v id left right c.args.first c.args.second a b (above left (inl (key_of v.units left (bytes_of c.args.first) a))) (above right (inl (key_of v.units right (bytes_of c.args.second) b))))

pub returns-clause-form : goal.returns-clause-form
returns-clause-form c = let v : View = c.eight-2.new.agent.seat.me.0 in let id = c.in-Ok.id in let left = c.in-Some.left in let right = c.in-Some-eight.right in
    let a : Has v.units left (bytes_of c.args.first) = c.in-Some-eight.ensures.kept left (bytes_of c.args.first) c.in-Some.ensures.units in
    let b : Has v.units right (bytes_of c.args.second) = c.in-Some-eight.ensures.units in
    let is = c.birth.ensures.view ∙ ap (λ (y : View). born y id (Cons false left right)) (c.store_length.ensures.view ∙ ap (λ (y : View). stored_length y id 16) c.in-Ok.ensures.view) in
    (tt, subst (λ (y : View). Has y.forms id (Cons false left right)) (sym is) (cons_form v id left right c.args.first c.args.second a b))

pub returns-clause-units : goal.returns-clause-units
returns-clause-units c = let v : View = c.eight-2.new.agent.seat.me.0 in let id = c.in-Ok.id in let left = c.in-Some.left in let right = c.in-Some-eight.right in
    let a : Has v.units left (bytes_of c.args.first) = c.in-Some-eight.ensures.kept left (bytes_of c.args.first) c.in-Some.ensures.units in
    let b : Has v.units right (bytes_of c.args.second) = c.in-Some-eight.ensures.units in
    let is = c.birth.ensures.view ∙ ap (λ (y : View). born y id (Cons false left right)) (c.store_length.ensures.view ∙ ap (λ (y : View). stored_length y id 16) c.in-Ok.ensures.view) in
    subst (λ (y : View). Has y.units id (bytes_of c.args.first ++ bytes_of c.args.second)) (sym is) (cons_units v id left right c.args.first c.args.second a b)
