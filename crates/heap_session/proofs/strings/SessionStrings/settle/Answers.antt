use Rattle.std.proofs.Common.{◌≡◌, ◌∙◌, ℕ, List, Bool, None, Some, length, ap, subst, sym}
use Rattle.std.specs.FinMap.{get}
use Rattle.js_units.specs.Lanes.{words_over}
use Rattle.heap_rule.specs.declared.size.HeapSize.{HeapSize}
use Rattle.heap_rule.specs.declared.view.View.{View}
use Rattle.heap_rule.proofs.MapLemmas.{has_key}
use Rattle.heap_table.specs.Agents.{size_of}
use Rattle.heap_text.specs.Settling.{IsBitOf, IsNoRoom}
use Rattle.js_store.specs.Faults.{Uses}
use Rattle.js_store.specs.Limits.{limit_units}
use Rattle.js_store.specs.Rows.{settle_words}
use Rattle.heap_session.specs.Faults.{fault_in_text}
use Rattle.heap_session.specs.Sessions.{state_by, table_of}
use Rattle.heap_session.specs.Settled.{is_settled}
use Rattle.heap_intern.proofs.KeptKeys.{keys_by}
use Rattle.heap_session.proofs.Calls.{never_slots, settle_refused, settled_step}
use Rattle.heap_session.proofs.Lately.{kept_by}
use Rattle.heap_session.proofs.OneUnit.{singles_by}
use Rattle.heap_session.proofs.MadeLately.{recent_by}
use Rattle.heap_session.proofs.States.{has_text, history_continues, settled_test, text_is, uses_at}
use Rattle.heap_session.proofs.Owning.{spares_of}
use Rattle.heap_intern.proofs.Hashes.{hashes_kept}
use Rattle.heap_session.specs.Noted.{hashes_in}
use Rattle.heap_session.proofs.strings.SessionStrings.settle.Goals as goal

pub returns-in-Ok-clause-ok : goal.returns-in-Ok-clause-ok
returns-in-Ok-clause-ok g c = settled_test c.settle.new.self.reader.agent.seat.me.0 c.args.s.id c.in-Ok.ensures.settles.settled

pub returns-in-Ok-clause-uses : goal.returns-in-Ok-clause-uses
returns-in-Ok-clause-uses g c = let s = c.args.self.now in let v : View = s.text.reader.agent.seat.me.0 in
    let w : View = c.settle.new.self.reader.agent.seat.me.0 in let i = c.args.s.id in let l = limit_units s.limit in
    let t = table_of (g.H.HeapRef.reached s.text.reader.heap) in
    let p = has_key v.units i c.requires in let e = c.settle.ensures in
    subst (λ (us : List ℕ). Uses (state_by v l t) (state_by w l (table_of (g.H.HeapRef.reached c.settle.new.self.reader.heap))) None 0
    (settle_words (is_settled (get v.forms i)) (length us))) (sym (text_is v.units i p.0 p.1))
    (uses_at v w l t (table_of (g.H.HeapRef.reached c.settle.new.self.reader.heap)) None 0
    (settle_words (is_settled (get v.forms i)) (length p.0)) (ap (λ x. table_of (g.H.HeapRef.reached x)) e.kept.heap) (history_continues v w e.continues) tt
    (settled_step v w l t i p.0 s.text.reader.belongs.5 e.continues (λ h. (e.settles.again h).1) (c.in-Ok.ensures.settles.used p.0 p.1)))

pub returns-in-Err-clause-uses : goal.returns-in-Err-clause-uses
returns-in-Err-clause-uses g c = let s = c.args.self.now in let v : View = s.text.reader.agent.seat.me.0 in
    let w : View = c.settle.new.self.reader.agent.seat.me.0 in let i = c.args.s.id in let l = limit_units s.limit in
    let t = table_of (g.H.HeapRef.reached s.text.reader.heap) in
    let p = has_key v.units i c.requires in let e = c.settle.ensures in let f = c.in-Err.full in
    let sizes : w.sizes ≡ size_of (g.H.HeapRef.reached s.text.reader.heap) = c.settle.new.self.reader.belongs.1 ∙ ap (λ x. size_of (g.H.HeapRef.reached x)) e.kept.heap in
    let room : (wide : Bool) × IsBitOf v c.args.s.id wide × IsNoRoom v w w.sizes p.0 f wide = subst
    (λ (z : HeapSize). (wide : Bool) × IsBitOf v c.args.s.id wide × IsNoRoom v w z p.0 f wide) (sym sizes) (c.in-Err.ensures.settles.refused p.0 p.1) in
    rw c.text_fault.ensures (subst (λ (us : List ℕ). Uses (state_by v l t)
    (state_by w l (table_of (g.H.HeapRef.reached c.settle.new.self.reader.heap))) (Some (fault_in_text f)) 0
    (settle_words (is_settled (get v.forms i)) (length us))) (sym (text_is v.units i p.0 p.1))
    (uses_at v w l t (table_of (g.H.HeapRef.reached c.settle.new.self.reader.heap)) (Some (fault_in_text f)) 0
    (settle_words (is_settled (get v.forms i)) (length p.0)) (ap (λ x. table_of (g.H.HeapRef.reached x)) e.kept.heap)
    (history_continues v w e.continues) (never_slots f)
    (settle_refused v w l t i p.0 s.text.reader.belongs.5 e.continues f (λ h. let bad = (c.in-Err.ensures.settles.again h).0 in absurd (cc)) room)))

pub invariant_of-self-clause-last_kept : goal.invariant_of-self-clause-last_kept
invariant_of-self-clause-last_kept g c = let s = c.args.self.now in let v : View = s.text.reader.agent.seat.me.0 in
    let w : View = c.settle.new.self.reader.agent.seat.me.0 in kept_by v w (c.settle.ensures.continues.known) s.last s.last_kept

pub invariant_of-self-clause-older_kept : goal.invariant_of-self-clause-older_kept
invariant_of-self-clause-older_kept g c = let s = c.args.self.now in let v : View = s.text.reader.agent.seat.me.0 in
    let w : View = c.settle.new.self.reader.agent.seat.me.0 in kept_by v w (c.settle.ensures.continues.known) s.older s.older_kept

pub invariant_of-self-clause-singles_kept : goal.invariant_of-self-clause-singles_kept
invariant_of-self-clause-singles_kept g c = let s = c.args.self.now in let v : View = s.text.reader.agent.seat.me.0 in
    let w : View = c.settle.new.self.reader.agent.seat.me.0 in singles_by v w (c.settle.ensures.continues.known) s.singles.ids s.singles_kept

pub invariant_of-self-clause-recent_kept : goal.invariant_of-self-clause-recent_kept
invariant_of-self-clause-recent_kept g c = let s = c.args.self.now in let v : View = s.text.reader.agent.seat.me.0 in
    let w : View = c.settle.new.self.reader.agent.seat.me.0 in recent_by v w (c.settle.ensures.continues.known) s.recent.ids s.recent_kept

pub invariant_of-self-clause-keys_kept : goal.invariant_of-self-clause-keys_kept
invariant_of-self-clause-keys_kept g c = let s = c.args.self.now in let v : View = s.text.reader.agent.seat.me.0 in
    let w : View = c.settle.new.self.reader.agent.seat.me.0 in keys_by v w s.text.reader.belongs.5 (c.settle.ensures.continues.known) (c.settle.ensures.continues.sizes) s.keys.all s.keys_kept

pub invariant_of-self-clause-hashes_noted : goal.invariant_of-self-clause-hashes_noted
invariant_of-self-clause-hashes_noted g c = let s = c.args.self.now in let v : View = s.text.reader.agent.seat.me.0 in
    let w : View = c.settle.new.self.reader.agent.seat.me.0 in hashes_kept v w (c.settle.ensures.continues.known) (hashes_in s.noted) s.hashes_noted

pub returns-in-Ok-clause-settling : goal.returns-in-Ok-clause-settling
returns-in-Ok-clause-settling g c = c.in-Ok.ensures.settles.used _ (has_text c.args.self.now.text.reader.agent.seat.me.0.units c.args.s.id c.requires)

pub returns-in-Err-clause-spared : goal.returns-in-Err-clause-spared
returns-in-Err-clause-spared g c = let v : View = c.args.self.now.text.reader.agent.seat.me.0 in let w : View = c.settle.new.self.reader.agent.seat.me.0 in
    let p = has_key v.units c.args.s.id c.requires in let r = c.in-Err.ensures.settles.refused p.0 p.1 in
    spares_of v w (words_over r.0 (length p.0)) c.in-Err.full r.2.spared

pub returns-in-Ok-clause-own : goal.returns-in-Ok-clause-own
returns-in-Ok-clause-own g c = c.settle.ensures.settles.own

pub returns-in-Err-clause-own : goal.returns-in-Err-clause-own
returns-in-Err-clause-own g c = c.settle.ensures.settles.own
