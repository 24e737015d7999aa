use Rattle.std.proofs.Common.{append-nil, Result, Ok, Err, inr, ◌≡◌, ◌∙◌, ℕ, Bool, List, true, [], ◌∷◌, ◌++◌, None, Some, length, ap, subst, sym, arith}
use Rattle.std.specs.Prelude.{unwrap_or}
use Rattle.std.specs.FinMap.{get}
use Rattle.js_header.specs.declared.form.Form.TheVariants.{Flat}
use Rattle.js_store.specs.Faults.{SlotsShut, StoreStep}
use Rattle.js_store.specs.Limits.{limit_units}
use Rattle.js_store.specs.Rows.{intern_words, settle_words, wide_words}
use Rattle.js_store.proofs.Laws.{step_after, step_within}
use Rattle.heap_rule.specs.declared.size.HeapSize.{HeapSize}
use Rattle.heap_rule.specs.declared.view.View.{View}
use Rattle.heap_rule.specs.Maps.{Has}
use Rattle.heap_rule.specs.Paths.{Calls}
use Rattle.heap_rule.specs.Views.{history}
use Rattle.heap_rule.proofs.MapLemmas.{has_key}
use Rattle.heap_table.specs.Agents.{size_of}
use Rattle.heap_text.specs.Settling.{IsBitOf, IsNoRoom}
use Rattle.heap_intern.proofs.Loading.{slots_few, slots_from, slots_most, slots_none}
use Rattle.heap_session.specs.Counted.{FoundFree, GoesByPlan}
use Rattle.heap_intern.proofs.KeptKeys.{keys_by}
use Rattle.heap_session.proofs.GoingByPlan.{goes_by_plan}
use Rattle.heap_read.specs.declared.string.JsStr.{JsStr}
use Rattle.js_store.specs.declared.faults.StoreFault.{StoreFault}
use Rattle.heap_session.specs.Faults.{fault_in_table, fault_in_text}
use Rattle.heap_session.specs.Sessions.{state_by, table_of}
use Rattle.heap_session.specs.Settled.{is_settled}
use Rattle.heap_session.proofs.Calls.{header_most, interned_err, interned_free, interned_ok, interned_shut, settle_free, settle_refused, settled_step, shut_text}
use Rattle.heap_session.proofs.Rows.{settle_part}
use Rattle.heap_read.proofs.Loaded.{known_trans}
use Rattle.heap_session.proofs.Lately.{interns_known, interns_sizes, kept_by}
use Rattle.heap_session.proofs.OneUnit.{singles_by}
use Rattle.heap_session.proofs.MadeLately.{recent_by}
use Rattle.heap_session.proofs.States.{history_continues, history_goes, settled_test, step_at, text_is}
use Rattle.heap_text.proofs.Owned.{own_trans}
use Rattle.heap_session.proofs.Owning.{own_goes}
use Rattle.heap_intern.specs.Hashes.{NotesHash}
use Rattle.heap_intern.proofs.Hashes.{hashes_kept, notes_from}
use Rattle.heap_session.proofs.NotesKept.{notes_still}
use Rattle.heap_session.specs.Noted.{hashes_in}
use Rattle.heap_session.proofs.session.Session.intern_counted.Goals as goal

pub returns-in-Ok-intern-clause-loads : goal.returns-in-Ok-intern-clause-loads
returns-in-Ok-intern-clause-loads g c = let e = c.settle.ensures.continues in
    slots_from c.args.self.now.text.reader.agent.seat.me.0 c.settle.new.self.reader.agent.seat.me.0
    c.intern.new.reader.agent.seat.me.0 (Some c.in-Ok-intern.id) c.args.steps.now c.intern.new.steps e.slot_loads
    e.sizes c.in-Ok-intern.ensures.counts.loads

pub returns-in-Ok-intern-clause-most : goal.returns-in-Ok-intern-clause-most
returns-in-Ok-intern-clause-most g c = slots_most c.args.self.now.text.reader.agent.seat.me.0
    c.intern.new.reader.agent.seat.me.0 (Some c.in-Ok-intern.id) c.args.steps.now c.intern.new.steps
    (returns-in-Ok-intern-clause-loads g c)

pub returns-in-Err-intern-clause-loads : goal.returns-in-Err-intern-clause-loads
returns-in-Err-intern-clause-loads g c = let e = c.settle.ensures.continues in
    slots_from c.args.self.now.text.reader.agent.seat.me.0 c.settle.new.self.reader.agent.seat.me.0
    c.intern.new.reader.agent.seat.me.0 None c.args.steps.now c.intern.new.steps e.slot_loads e.sizes c.in-Err-intern.ensures.counts.loads

pub returns-in-Err-intern-clause-most : goal.returns-in-Err-intern-clause-most
returns-in-Err-intern-clause-most g c = slots_most c.args.self.now.text.reader.agent.seat.me.0
    c.intern.new.reader.agent.seat.me.0 None c.args.steps.now c.intern.new.steps (returns-in-Err-intern-clause-loads g c)

-- a string that is not settled is looked for nowhere
pub returns-in-Err-clause-loads : goal.returns-in-Err-clause-loads
returns-in-Err-clause-loads g c = slots_none c.args.self.now.text.reader.agent.seat.me.0 c.settle.new.self.reader.agent.seat.me.0 None c.args.steps.now c.settle.ensures.continues.slot_loads

pub returns-in-Ok-intern-clause-interns : goal.returns-in-Ok-intern-clause-interns
returns-in-Ok-intern-clause-interns g c = let s = c.args.self.now in let v : View = s.text.reader.agent.seat.me.0 in
    let x : View = c.settle.new.self.reader.agent.seat.me.0 in let w : View = c.intern.new.reader.agent.seat.me.0 in
    let n : ℕ = c.args.s.id in let id : ℕ = c.in-Ok-intern.id in let l = limit_units s.limit in let t = table_of (g.H.HeapRef.reached s.text.reader.heap) in
    let u = has_key v.units n c.requires in let is = text_is v.units n u.0 u.1 in let e = c.settle.ensures in let here = e.continues.known.units n u.0 u.1 in
    let call = c.in-Ok-intern.ensures.interns in let found = call.answer u.0 here in let i = found.2 in
    let r : Result JsStr StoreFault = Ok (record { id = id }) in
    let settling = subst (λ (us : List ℕ). StoreStep (state_by v l t) (state_by x l t) None 0 (settle_words (is_settled (get v.forms n)) (length us))) (sym is)
    (settled_step v x l t n u.0 s.text.reader.belongs.5 e.continues (λ h. (e.settles.again h).1) (c.in-Ok.ensures.settles.used u.0 u.1)) in
    let interning = subst (λ (us : List ℕ). StoreStep (state_by x l t) (state_by w l t) None 1 (wide_words (length us))) (sym is)
    (interned_ok x w l t ((u.0, id) ∷ []) found.0.words (wide_words (length u.0)) (header_most x w n u.0 found.0 found.1)
    c.settle.new.self.reader.belongs.5 i.0 i.1 i.2) in
    let before = hashes_in s.noted in let later = hashes_in c.intern.new.self in record {
      ok = (
        subst (Has w.units id) (sym is) i.3.1,
        settled_test w id (Flat i.3.0.0 i.3.0.1 true, i.3.0.2, λ y. y),
        settled_test w n (i.0.known.settled n c.in-Ok.ensures.settles.settled),
      );
      forwards = call.forwards;
      step = step_at v w l t (table_of (g.H.HeapRef.reached c.intern.new.reader.heap)) None 1
          (intern_words (is_settled (get v.forms n)) (length (unwrap_or (get v.units n) [])))
          (ap (λ y. table_of (g.H.HeapRef.reached y)) (c.intern.ensures.heap ∙ e.kept.heap))
          (step_after settling interning (omega arith) (settle_part (is_settled (get v.forms n)) (length (unwrap_or (get v.units n) []))));
      grown = history_goes x w ((u.0, id) ∷ []) i.0 ∙ (ap (λ (h : Calls). h ++ (u.0, id) ∷ []) (history_continues v x e.continues)
          ∙ ap (λ (us : List ℕ). history v ++ (us, id) ∷ []) (sym is));
      kept = tt;
      own = own_trans v x w e.settles.own (own_goes x w ((u.0, id) ∷ []) i.0);
      shut = tt;
      free = tt;
      plan = subst (λ (us : List ℕ). GoesByPlan v w n us r) (sym is)
          (goes_by_plan v x w n u.0 r s.text.reader.belongs.5 (λ settled. (e.settles.again settled).1) e.settles.later (c.in-Ok.ensures.settles.used u.0 u.1) c.in-Ok.ensures.settles.settled
          (found.0, found.1, (i.5, i.4), call.again u.0 here));
      few = slots_few v w (Some id) c.args.steps.now c.intern.new.steps (returns-in-Ok-intern-clause-loads g c);
      notes = subst (λ (us : List ℕ). NotesHash v w us (Some id) before later) (sym is)
          (notes_from v x w u.0 (Some id) before later e.continues.slot_loads (c.in-Ok-intern.ensures.notes u.0 here));
    }

pub returns-in-Err-intern-clause-interns : goal.returns-in-Err-intern-clause-interns
returns-in-Err-intern-clause-interns g c = let s = c.args.self.now in let v : View = s.text.reader.agent.seat.me.0 in
    let x : View = c.settle.new.self.reader.agent.seat.me.0 in let w : View = c.intern.new.reader.agent.seat.me.0 in
    let n : ℕ = c.args.s.id in let f = c.in-Err-intern.full in let l = limit_units s.limit in let t = table_of (g.H.HeapRef.reached s.text.reader.heap) in
    let u = has_key v.units n c.requires in let is = text_is v.units n u.0 u.1 in let e = c.settle.ensures in let here = e.continues.known.units n u.0 u.1 in
    let call = c.in-Err-intern.ensures.interns in let found = call.answer u.0 here in let i = found.2 in
    let r : Result JsStr StoreFault = Err c.table_fault.result in
    let settling = subst (λ (us : List ℕ). StoreStep (state_by v l t) (state_by x l t) None 0 (settle_words (is_settled (get v.forms n)) (length us))) (sym is)
    (settled_step v x l t n u.0 s.text.reader.belongs.5 e.continues (λ h. (e.settles.again h).1) (c.in-Ok.ensures.settles.used u.0 u.1)) in
    let interning = subst (λ (us : List ℕ). StoreStep (state_by x l t) (state_by w l t) (Some (fault_in_table f)) 1 (wide_words (length us))) (sym is)
    (interned_err x w u.0 found.0 l t f (wide_words (length u.0)) (header_most x w n u.0 found.0 found.1) c.settle.new.self.reader.belongs.5 i.0 i.1) in
    let before = hashes_in s.noted in let later = hashes_in c.intern.new.self in let at = table_of (g.H.HeapRef.reached c.intern.new.reader.heap) in record {
      ok = tt;
      forwards = tt;
      step = rw c.table_fault.ensures (step_at v w l t at (Some (fault_in_table f)) 1
          (intern_words (is_settled (get v.forms n)) (length (unwrap_or (get v.units n) [])))
          (ap (λ y. table_of (g.H.HeapRef.reached y)) (c.intern.ensures.heap ∙ e.kept.heap))
          (step_after settling interning (omega arith) (settle_part (is_settled (get v.forms n)) (length (unwrap_or (get v.units n) [])))));
      grown = tt;
      kept = history_goes x w [] i.0 ∙ (append-nil (history x) ∙ history_continues v x e.continues);
      own = own_trans v x w e.settles.own (own_goes x w [] i.0);
      shut = rw c.table_fault.ensures (subst (λ (us : List ℕ). SlotsShut (state_by w l at) (Some (fault_in_table f)) us) (sym is)
          (interned_shut x w u.0 found.0 l at f i.1));
      free = rw c.table_fault.ensures (subst (λ (us : List ℕ). FoundFree v w us (Some (fault_in_table f))) (sym is)
          (interned_free x w u.0 found.0 v f i.1));
      plan = subst (λ (us : List ℕ). GoesByPlan v w n us r) (sym is)
          (goes_by_plan v x w n u.0 r s.text.reader.belongs.5 (λ settled. (e.settles.again settled).1) e.settles.later (c.in-Ok.ensures.settles.used u.0 u.1) c.in-Ok.ensures.settles.settled
          (found.0, found.1, (f, c.table_fault.ensures, i.1), λ j known stands. let bad = (call.again u.0 here j known stands).0 in absurd (cc)));
      few = slots_few v w None c.args.steps.now c.intern.new.steps (returns-in-Err-intern-clause-loads g c);
      notes = subst (λ (us : List ℕ). NotesHash v w us None before later) (sym is)
          (notes_from v x w u.0 None before later e.continues.slot_loads (c.in-Err-intern.ensures.notes u.0 here));
    }

-- the string wasn't settled, and there is no room to settle it
pub returns-in-Err-clause-interns : goal.returns-in-Err-clause-interns
returns-in-Err-clause-interns g c = let s = c.args.self.now in let v : View = s.text.reader.agent.seat.me.0 in
    let w : View = c.settle.new.self.reader.agent.seat.me.0 in let n : ℕ = c.args.s.id in let l = limit_units s.limit in
    let t = table_of (g.H.HeapRef.reached s.text.reader.heap) in let later = table_of (g.H.HeapRef.reached c.settle.new.self.reader.heap) in
    let u = has_key v.units n c.requires in let is = text_is v.units n u.0 u.1 in let e = c.settle.ensures in let f = c.in-Err.full in
    let sizes : w.sizes ≡ size_of (g.H.HeapRef.reached s.text.reader.heap) = c.settle.new.self.reader.belongs.1 ∙ ap (λ x. size_of (g.H.HeapRef.reached x)) e.kept.heap in
    let room : (wide : Bool) × IsBitOf v n wide × IsNoRoom v w w.sizes u.0 f wide = subst
    (λ (z : HeapSize). (wide : Bool) × IsBitOf v n wide × IsNoRoom v w z u.0 f wide) (sym sizes) (c.in-Err.ensures.settles.refused u.0 u.1) in record {
      ok = tt;
      forwards = tt;
      step = rw c.text_fault.ensures (subst (λ (us : List ℕ). StoreStep (state_by v l t) (state_by w l later) (Some (fault_in_text f)) 1
          (intern_words (is_settled (get v.forms n)) (length us))) (sym is)
          (step_at v w l t later (Some (fault_in_text f)) 1
          (intern_words (is_settled (get v.forms n)) (length u.0)) (ap (λ x. table_of (g.H.HeapRef.reached x)) e.kept.heap)
          (let part = settle_part (is_settled (get v.forms n)) (length u.0) in step_within
          (settle_refused v w l t n u.0 s.text.reader.belongs.5 e.continues f (λ h. let bad = (c.in-Err.ensures.settles.again h).0 in absurd (cc)) room) (omega arith) (omega arith))));
      grown = tt;
      kept = history_continues v w e.continues;
      own = e.settles.own;
      shut = rw c.text_fault.ensures (shut_text w l later f _);
      free = rw c.text_fault.ensures (subst (λ (us : List ℕ). FoundFree v w us (Some (fault_in_text f))) (sym is)
          (settle_free v w u.0 room.0 f room.2 e.continues.slot_loads));
      plan = subst (λ (us : List ℕ). GoesByPlan v w n us (Err c.text_fault.result)) (sym is)
          ((λ settled. let bad = (c.in-Err.ensures.settles.again settled).0 in absurd (cc)), inr (f, c.text_fault.ensures, e.continues.slot_loads, room.0, room.1, room.2));
      few = slots_few v w None c.args.steps.now c.args.steps.now (returns-in-Err-clause-loads g c);
      notes = notes_still v w _ (hashes_in s.noted) e.continues.known e.continues.slot_loads s.hashes_noted;
    }

pub invariant_of-self-2-clause-last_kept : goal.invariant_of-self-2-clause-last_kept
invariant_of-self-2-clause-last_kept g c = let s = c.args.self.now in let v : View = s.text.reader.agent.seat.me.0 in
    let x : View = c.settle.new.self.reader.agent.seat.me.0 in let w : View = c.intern.new.reader.agent.seat.me.0 in
    let e = c.settle.ensures in let u = has_key v.units c.args.s.id c.requires in
    (let found = c.intern.ensures.interns.answer u.0 (e.continues.known.units c.args.s.id u.0 u.1) in kept_by v w
    (known_trans v x w e.continues.known (interns_known x w u.0 found.0 c.intern.result found.2)) s.last s.last_kept)

pub invariant_of-self-2-clause-older_kept : goal.invariant_of-self-2-clause-older_kept
invariant_of-self-2-clause-older_kept g c = let s = c.args.self.now in let v : View = s.text.reader.agent.seat.me.0 in
    let x : View = c.settle.new.self.reader.agent.seat.me.0 in let w : View = c.intern.new.reader.agent.seat.me.0 in
    let e = c.settle.ensures in let u = has_key v.units c.args.s.id c.requires in
    (let found = c.intern.ensures.interns.answer u.0 (e.continues.known.units c.args.s.id u.0 u.1) in kept_by v w
    (known_trans v x w e.continues.known (interns_known x w u.0 found.0 c.intern.result found.2)) s.older s.older_kept)

pub invariant_of-self-2-clause-singles_kept : goal.invariant_of-self-2-clause-singles_kept
invariant_of-self-2-clause-singles_kept g c = let s = c.args.self.now in let v : View = s.text.reader.agent.seat.me.0 in
    let x : View = c.settle.new.self.reader.agent.seat.me.0 in let w : View = c.intern.new.reader.agent.seat.me.0 in
    let e = c.settle.ensures in let u = has_key v.units c.args.s.id c.requires in
    (let found = c.intern.ensures.interns.answer u.0 (e.continues.known.units c.args.s.id u.0 u.1) in singles_by v w
    (known_trans v x w e.continues.known (interns_known x w u.0 found.0 c.intern.result found.2)) s.singles.ids s.singles_kept)

pub invariant_of-self-2-clause-recent_kept : goal.invariant_of-self-2-clause-recent_kept
invariant_of-self-2-clause-recent_kept g c = let s = c.args.self.now in let v : View = s.text.reader.agent.seat.me.0 in
    let x : View = c.settle.new.self.reader.agent.seat.me.0 in let w : View = c.intern.new.reader.agent.seat.me.0 in
    let e = c.settle.ensures in let u = has_key v.units c.args.s.id c.requires in
    (let found = c.intern.ensures.interns.answer u.0 (e.continues.known.units c.args.s.id u.0 u.1) in recent_by v w
    (known_trans v x w e.continues.known (interns_known x w u.0 found.0 c.intern.result found.2)) s.recent.ids s.recent_kept)

pub invariant_of-self-2-clause-keys_kept : goal.invariant_of-self-2-clause-keys_kept
invariant_of-self-2-clause-keys_kept g c = let s = c.args.self.now in let v : View = s.text.reader.agent.seat.me.0 in
    let x : View = c.settle.new.self.reader.agent.seat.me.0 in let w : View = c.intern.new.reader.agent.seat.me.0 in
    let e = c.settle.ensures in let u = has_key v.units c.args.s.id c.requires in
    (let found = c.intern.ensures.interns.answer u.0 (e.continues.known.units c.args.s.id u.0 u.1) in keys_by v w s.text.reader.belongs.5
    (known_trans v x w e.continues.known (interns_known x w u.0 found.0 c.intern.result found.2))
    (interns_sizes x w u.0 found.0 c.intern.result found.2 ∙ e.continues.sizes) s.keys.all s.keys_kept)

pub invariant_of-self-2-clause-hashes_noted : goal.invariant_of-self-2-clause-hashes_noted
invariant_of-self-2-clause-hashes_noted g c = let u = has_key c.args.self.now.text.reader.agent.seat.me.0.units c.args.s.id c.requires in
    (c.intern.ensures.notes u.0 (c.settle.ensures.continues.known.units c.args.s.id u.0 u.1)).right

pub invariant_of-self : goal.invariant_of-self
invariant_of-self g c = let s = c.args.self.now in let v : View = s.text.reader.agent.seat.me.0 in
    let w : View = c.settle.new.self.reader.agent.seat.me.0 in let k = c.settle.ensures.continues.known in record {
      one_limit = c.settle.ensures.kept.limit ∙ s.one_limit;
      last_kept = kept_by v w k s.last s.last_kept;
      older_kept = kept_by v w k s.older s.older_kept;
      singles_kept = singles_by v w k s.singles.ids s.singles_kept;
      recent_kept = recent_by v w k s.recent.ids s.recent_kept;
      keys_kept = keys_by v w s.text.reader.belongs.5 k c.settle.ensures.continues.sizes s.keys.all s.keys_kept;
      hashes_noted = hashes_kept v w k (hashes_in s.noted) s.hashes_noted;
    }

pub intern-requires-clause-settled : goal.intern-requires-clause-settled
intern-requires-clause-settled g c = c.in-Ok.ensures.settles.settled
