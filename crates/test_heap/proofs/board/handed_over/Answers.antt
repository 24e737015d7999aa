use Rattle.std.proofs.Common.{ℕ, List, [], ◌∷◌, ◌++◌, sym, subst}
use Rattle.std.specs.Prelude.{Contains}
use Rattle.std.proofs.lemmas.List.Elements.{Contains-append_right, Contains-push}
use Rattle.heap_rule.specs.declared.view.View.{View}
use Rattle.heap_rule.specs.Paths.{Calls}
use Rattle.test_heap.proofs.board.handed_over.Goals as goal

pub slot_of-slot-requires-clause-call : goal.slot_of-slot-requires-clause-call
slot_of-slot-requires-clause-call c = let v : View = c.split_to-taker.new.self.reader.agent.seat.me.0 in
    let w : View = c.intern_units.new.reader.agent.seat.me.0 in let us : List ℕ = c.args.units.now in let i : ℕ = c.in-Ok-intern_units.seat.id in
    (us, Contains-append_right w.seen w.mine (us, i) (subst (λ (m : Calls). Contains m (us, i)) (sym c.in-Ok-intern_units.ensures.interns.answer.0.mine) (Contains-push v.mine (us, i))))
