use Rattle.std.proofs.Common.{◌++◌, ℕ, List, inl, subst, sym}
use Rattle.heap_rule.specs.declared.view.View.{View}
use Rattle.heap_rule.specs.Maps.{Has}
use Rattle.heap_rule.proofs.MapLemmas.{key_of}
use Rattle.test_heap.specs.Ropes.{bytes_of}
use Rattle.test_heap.proofs.table_ropes.one_of_two_flattens.Goals as goal

pub load_form-requires-clause-known : goal.load_form-requires-clause-known
load_form-requires-clause-known g c = let us : List ℕ = bytes_of 7523094288207667809 ++ bytes_of 8101815670912281193 in let id = c.in-Some.id in
    let here : Has c.split-right.new.self.seat.me.0.units id us = subst (λ (y : View). Has y.units id us) (sym c.split-right.ensures.left) c.in-Some.ensures.units in
    inl (key_of c.flatten-won.new.agent.seat.me.0.units id us (c.flatten-won.ensures.kept id us here))
