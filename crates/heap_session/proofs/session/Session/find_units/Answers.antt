use Rattle.std.proofs.Common.{ℕ, true, List, [], ◌∷◌, None, ap, arith}
use Rattle.js_header.specs.declared.form.Form.TheVariants.{Flat}
use Rattle.js_store.specs.Limits.{limit_units}
use Rattle.heap_rule.specs.declared.view.View.{View}
use Rattle.heap_session.specs.Sessions.{table_of}
use Rattle.heap_intern.proofs.KeptKeys.{keys_by}
use Rattle.heap_session.proofs.Lately.{finds_sizes, kept_by}
use Rattle.heap_session.proofs.MadeLately.{recent_by}
use Rattle.heap_session.proofs.OneUnit.{singles_by}
use Rattle.heap_session.proofs.States.{found_step, history_goes, history_looks, settled_test, step_at, step_looks}
use Rattle.heap_intern.proofs.Again.{finds_known}
use Rattle.heap_session.proofs.Owning.{own_goes}
use Rattle.heap_session.proofs.session.Session.find_units.Goals as goal

pub find-requires-clause-short : goal.find-requires-clause-short
find-requires-clause-short g c = let s = c.args.self.now in let a = s.one_limit in let b = s.text.within in omega arith

pub returns-in-Some-clause-ok : goal.returns-in-Some-clause-ok
returns-in-Some-clause-ok g c = let w : View = c.find.new.reader.agent.seat.me.0 in let i = c.in-Some.ensures.finds.answer in let id = c.in-Some.id in
    (i.2.1, settled_test w id (Flat i.2.0.0 i.2.0.1 true, i.2.0.2, λ x. x))

pub returns-in-Some-clause-step : goal.returns-in-Some-clause-step
returns-in-Some-clause-step g c = let s = c.args.self.now in let v : View = s.text.reader.agent.seat.me.0 in
    let w : View = c.find.new.reader.agent.seat.me.0 in let l = limit_units s.limit in
    let t = table_of (g.H.HeapRef.reached s.text.reader.heap) in let i = c.in-Some.ensures.finds.answer in
    step_at v w l t (table_of (g.H.HeapRef.reached c.find.new.reader.heap)) None 0 0
    (ap (λ y. table_of (g.H.HeapRef.reached y)) c.find.ensures.heap)
    (found_step v w ((c.args.units.now, c.in-Some.id) ∷ []) l t s.text.reader.belongs.5 i.0 i.1.0 i.1.1)

pub returns-in-None-clause-step : goal.returns-in-None-clause-step
returns-in-None-clause-step g c = let s = c.args.self.now in let v : View = s.text.reader.agent.seat.me.0 in
    let w : View = c.find.new.reader.agent.seat.me.0 in let l = limit_units s.limit in let t = table_of (g.H.HeapRef.reached s.text.reader.heap) in
    step_at v w l t (table_of (g.H.HeapRef.reached c.find.new.reader.heap)) None 0 0
    (ap (λ y. table_of (g.H.HeapRef.reached y)) c.find.ensures.heap) (step_looks v w l t s.text.reader.belongs.5 c.in-None.ensures.finds.answer.0)

pub returns-in-Some-clause-grown : goal.returns-in-Some-clause-grown
returns-in-Some-clause-grown g c = history_goes c.args.self.now.text.reader.agent.seat.me.0 c.find.new.reader.agent.seat.me.0 ((c.args.units.now, c.in-Some.id) ∷ []) c.in-Some.ensures.finds.answer.0

pub returns-in-None-clause-kept : goal.returns-in-None-clause-kept
returns-in-None-clause-kept g c e = history_looks c.args.self.now.text.reader.agent.seat.me.0 c.find.new.reader.agent.seat.me.0 c.in-None.ensures.finds.answer.0

pub invariant_of-self : goal.invariant_of-self
invariant_of-self g c = let s = c.args.self.now in let v : View = s.text.reader.agent.seat.me.0 in let w : View = c.find.new.reader.agent.seat.me.0 in let us : List ℕ = c.args.units.now in
    let k = finds_known v w us c.find.result c.find.ensures.finds.answer in record {
      one_limit = s.one_limit;
      last_kept = kept_by v w k s.last s.last_kept;
      older_kept = kept_by v w k s.older s.older_kept;
      singles_kept = singles_by v w k s.singles.ids s.singles_kept;
      recent_kept = recent_by v w k s.recent.ids s.recent_kept;
      keys_kept = keys_by v w s.text.reader.belongs.5 k (finds_sizes v w us c.find.result c.find.ensures.finds.answer) s.keys.all s.keys_kept;
      hashes_noted = c.find.ensures.notes.right;
    }

pub returns-in-Some-clause-own : goal.returns-in-Some-clause-own
returns-in-Some-clause-own g c = own_goes c.args.self.now.text.reader.agent.seat.me.0 c.find.new.reader.agent.seat.me.0 ((c.args.units.now, c.in-Some.id) ∷ []) c.in-Some.ensures.finds.answer.0

pub returns-in-None-clause-own : goal.returns-in-None-clause-own
returns-in-None-clause-own g c = own_goes c.args.self.now.text.reader.agent.seat.me.0 c.find.new.reader.agent.seat.me.0 [] c.in-None.ensures.finds.answer.0.goes
