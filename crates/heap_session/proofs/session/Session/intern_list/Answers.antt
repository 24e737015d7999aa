use Rattle.std.proofs.Common.{◌≤◌, ◌∙◌, ℕ, true, List, [], ◌∷◌, None, Some, ap, append-nil, arith}
use Rattle.js_header.specs.declared.form.Form.TheVariants.{Flat}
use Rattle.js_store.specs.Limits.{limit_units}
use Rattle.js_store.specs.Rows.{flat_words}
use Rattle.heap_rule.specs.declared.view.View.{View}
use Rattle.heap_rule.specs.Views.{history}
use Rattle.heap_intern.specs.Answers.{copy_plan, words_of_copy}
use Rattle.heap_session.specs.Faults.{fault_in_table}
use Rattle.heap_session.specs.Sessions.{table_of}
use Rattle.heap_session.proofs.Calls.{flat_is, interned_err, interned_ok, interned_shut}
use Rattle.heap_session.proofs.Lately.{interns_known, kept_by}
use Rattle.heap_session.proofs.MadeLately.{recent_by}
use Rattle.heap_session.proofs.OneUnit.{singles_by}
use Rattle.heap_session.proofs.States.{history_goes, settled_test, step_at}
use Rattle.heap_session.proofs.Owning.{own_goes}
use Rattle.heap_session.proofs.session.Session.intern_list.Goals as goal

pub intern-requires-clause-short : goal.intern-requires-clause-short
intern-requires-clause-short g c = let s = c.args.self.now in let a = s.one_limit in let b = s.text.within in omega arith

pub returns-in-Ok : goal.returns-in-Ok
returns-in-Ok g c = let s = c.args.self.now in let v : View = s.text.reader.agent.seat.me.0 in
    let w : View = c.intern.new.reader.agent.seat.me.0 in let l = limit_units s.limit in let t = table_of (g.H.HeapRef.reached s.text.reader.heap) in
    let us : List ℕ = c.args.units.now in let id : ℕ = c.in-Ok.id in let call = c.in-Ok.ensures.interns in let i = call.answer in
    let most : words_of_copy us ≤ flat_words us = (let e = flat_is us in omega arith) in record {
      interns = record {
        ok = (i.3.1, settled_test w id (Flat i.3.0.0 i.3.0.1 true, i.3.0.2, λ x. x));
        once = step_at v w l t (table_of (g.H.HeapRef.reached c.intern.new.reader.heap)) None 1 (flat_words us) (ap (λ y. table_of (g.H.HeapRef.reached y)) c.intern.ensures.heap)
            (interned_ok v w l t ((us, id) ∷ []) (words_of_copy us) (flat_words us) most s.text.reader.belongs.5 i.0 i.1 i.2);
        grown = history_goes v w ((us, id) ∷ []) i.0;
        kept = tt;
        own = own_goes v w ((us, id) ∷ []) i.0;
        shut = tt;
        again = call.again;
        plan = (i.5, i.4);
        few = call.few;
        passes = c.intern.ensures.passes;
      };
    }

pub returns-in-Err : goal.returns-in-Err
returns-in-Err g c = let s = c.args.self.now in let v : View = s.text.reader.agent.seat.me.0 in
    let w : View = c.intern.new.reader.agent.seat.me.0 in let l = limit_units s.limit in let t = table_of (g.H.HeapRef.reached s.text.reader.heap) in
    let us : List ℕ = c.args.units.now in let call = c.in-Err.ensures.interns in let i = call.answer in let f = c.in-Err.full in
    let at = table_of (g.H.HeapRef.reached c.intern.new.reader.heap) in
    let most : words_of_copy us ≤ flat_words us = (let e = flat_is us in omega arith) in record {
      interns = record {
        ok = tt;
        once = rw c.table_fault.ensures (step_at v w l t at (Some (fault_in_table f)) 1 (flat_words us) (ap (λ y. table_of (g.H.HeapRef.reached y)) c.intern.ensures.heap)
            (interned_err v w us (copy_plan us) l t f (flat_words us) most s.text.reader.belongs.5 i.0 i.1));
        grown = tt;
        kept = history_goes v w [] i.0 ∙ append-nil (history v);
        own = own_goes v w [] i.0;
        shut = rw c.table_fault.ensures (interned_shut v w us (copy_plan us) l at f i.1);
        again = λ j known stands. let bad = (call.again j known stands).0 in absurd (cc);
        plan = (f, c.table_fault.ensures, i.1);
        few = call.few;
        passes = c.intern.ensures.passes;
      };
    }

pub invariant_of-self : goal.invariant_of-self
invariant_of-self g c = let s = c.args.self.now in let v : View = s.text.reader.agent.seat.me.0 in let w : View = c.intern.new.reader.agent.seat.me.0 in let us : List ℕ = c.args.units.now in
    let k = interns_known v w us (copy_plan us) c.intern.result c.intern.ensures.interns.answer in record {
      one_limit = s.one_limit;
      last_kept = kept_by v w k s.last s.last_kept;
      older_kept = kept_by v w k s.older s.older_kept;
      singles_kept = singles_by v w k s.singles.ids s.singles_kept;
      recent_kept = recent_by v w k s.recent.ids s.recent_kept;
      keys_kept = c.intern.ensures.kept;
      hashes_noted = c.intern.ensures.hashed;
    }
