use Rattle.std.proofs.Common.{◌≡◌, ◌≤◌, ◌∙◌, ℕ, List, None, Some, Ok, Err, length, slice_range, ap, subst, sym}
use Rattle.js_store.specs.Faults.{Uses}
use Rattle.js_store.specs.Rows.{cut_ids, cut_words}
use Rattle.heap_rule.specs.declared.size.HeapSize.{HeapSize}
use Rattle.heap_rule.specs.declared.view.View.{View}
use Rattle.js_store.specs.Limits.{limit_units}
use Rattle.heap_rule.proofs.MapLemmas.{has_key}
use Rattle.heap_session.specs.Sessions.{table_of}
use Rattle.heap_rule.specs.Maps.{Has}
use Rattle.heap_table.specs.Agents.{size_of}
use Rattle.heap_text.specs.Joins.{IsCut}
use Rattle.heap_session.specs.Faults.{fault_in_text}
use Rattle.heap_session.specs.Sessions.{state_by}
use Rattle.heap_intern.proofs.KeptKeys.{keys_by}
use Rattle.heap_session.proofs.Calls.{cut_err, cut_ok, never_slots}
use Rattle.heap_session.proofs.States.{history_continues, settled_test, test_settled, text_is, uses_at}
use Rattle.heap_session.proofs.Lately.{kept_by}
use Rattle.heap_session.proofs.OneUnit.{singles_by}
use Rattle.heap_session.proofs.MadeLately.{recent_by}
use Rattle.heap_session.proofs.Owning.{cut_spares}
use Rattle.heap_intern.proofs.Hashes.{hashes_kept}
use Rattle.heap_session.specs.Noted.{hashes_in}
use Rattle.heap_session.proofs.session.Session.part_of.Goals as goal

pub slice-requires-clause-settled : goal.slice-requires-clause-settled
slice-requires-clause-settled g c = test_settled c.args.self.now.text.reader.agent.seat.me.0 c.args.s.id c.requires.settled

pub slice-requires-clause-within : goal.slice-requires-clause-within
slice-requires-clause-within g c = let v : View = c.args.self.now.text.reader.agent.seat.me.0 in let u = has_key v.units c.args.s.id c.requires.known in
    (u.0, u.1, c.requires.order, subst (λ (xs : List ℕ). c.args.to ≤ length xs) (text_is v.units c.args.s.id u.0 u.1) c.requires.within)

pub returns-in-Ok-clause-ok : goal.returns-in-Ok-clause-ok
returns-in-Ok-clause-ok g c = let v : View = c.args.self.now.text.reader.agent.seat.me.0 in
    let w : View = c.slice.new.self.reader.agent.seat.me.0 in let u = has_key v.units c.args.s.id c.requires.known in (
      subst (λ (xs : List ℕ). Has w.units c.in-Ok.part.id (slice_range xs c.args.from c.args.to)) (sym (text_is v.units c.args.s.id u.0 u.1))
          (c.in-Ok.ensures.units u.0 u.1),
      settled_test w c.in-Ok.part.id c.in-Ok.ensures.settled,
    )

pub returns-in-Ok-clause-uses : goal.returns-in-Ok-clause-uses
returns-in-Ok-clause-uses g c = let s = c.args.self.now in let v : View = s.text.reader.agent.seat.me.0 in
    let w : View = c.slice.new.self.reader.agent.seat.me.0 in let u = has_key v.units c.args.s.id c.requires.known in let e = c.slice.ensures in
    let l = limit_units s.limit in let t = table_of (g.H.HeapRef.reached s.text.reader.heap) in
    let sizes : w.sizes ≡ size_of (g.H.HeapRef.reached s.text.reader.heap) = c.slice.new.self.reader.belongs.1 ∙ ap
    (λ x. size_of (g.H.HeapRef.reached x)) e.kept.heap in
    let within = subst (λ (xs : List ℕ). c.args.to ≤ length xs) (text_is v.units c.args.s.id u.0 u.1) c.requires.within in
    let cut : IsCut v w w.sizes c.args.s c.args.from c.args.to u.0 (Ok c.in-Ok.part) = subst
    (λ (z : HeapSize). IsCut v w z c.args.s c.args.from c.args.to u.0 (Ok c.in-Ok.part)) (sym sizes) (c.in-Ok.ensures.cut u.0 u.1) in
    subst (λ (xs : List ℕ). Uses (state_by v l t) (state_by w l (table_of (g.H.HeapRef.reached c.slice.new.self.reader.heap))) None
    (cut_ids c.args.from c.args.to (length xs)) (cut_words c.args.from c.args.to (length xs))) (sym (text_is v.units c.args.s.id u.0 u.1))
    (uses_at v w l t (table_of (g.H.HeapRef.reached c.slice.new.self.reader.heap)) None (cut_ids c.args.from c.args.to (length u.0))
    (cut_words c.args.from c.args.to (length u.0)) (ap (λ x. table_of (g.H.HeapRef.reached x)) e.kept.heap) (history_continues v w e.continues) tt
    (cut_ok v w l t c.args.s u.0 c.args.from c.args.to s.text.reader.belongs.5 e.continues c.requires.order within c.in-Ok.part cut))

pub returns-in-Err-clause-uses : goal.returns-in-Err-clause-uses
returns-in-Err-clause-uses g c = let s = c.args.self.now in let v : View = s.text.reader.agent.seat.me.0 in
    let w : View = c.slice.new.self.reader.agent.seat.me.0 in let u = has_key v.units c.args.s.id c.requires.known in let e = c.slice.ensures in
    let l = limit_units s.limit in let t = table_of (g.H.HeapRef.reached s.text.reader.heap) in
    let sizes : w.sizes ≡ size_of (g.H.HeapRef.reached s.text.reader.heap) = c.slice.new.self.reader.belongs.1 ∙ ap
    (λ x. size_of (g.H.HeapRef.reached x)) e.kept.heap in
    let within = subst (λ (xs : List ℕ). c.args.to ≤ length xs) (text_is v.units c.args.s.id u.0 u.1) c.requires.within in
    let cut : IsCut v w w.sizes c.args.s c.args.from c.args.to u.0 (Err c.in-Err.full) = subst
    (λ (z : HeapSize). IsCut v w z c.args.s c.args.from c.args.to u.0 (Err c.in-Err.full)) (sym sizes) (c.in-Err.ensures.cut u.0 u.1) in
    rw c.text_fault.ensures (subst (λ (xs : List ℕ). Uses (state_by v l t)
    (state_by w l (table_of (g.H.HeapRef.reached c.slice.new.self.reader.heap))) (Some (fault_in_text c.in-Err.full))
    (cut_ids c.args.from c.args.to (length xs)) (cut_words c.args.from c.args.to (length xs))) (sym (text_is v.units c.args.s.id u.0 u.1))
    (uses_at v w l t (table_of (g.H.HeapRef.reached c.slice.new.self.reader.heap)) (Some (fault_in_text c.in-Err.full))
    (cut_ids c.args.from c.args.to (length u.0)) (cut_words c.args.from c.args.to (length u.0))
    (ap (λ x. table_of (g.H.HeapRef.reached x)) e.kept.heap) (history_continues v w e.continues) (never_slots c.in-Err.full)
    (cut_err v w l t c.args.s u.0 c.args.from c.args.to s.text.reader.belongs.5 e.continues c.requires.order within c.in-Err.full cut)))

pub invariant_of-self-clause-last_kept : goal.invariant_of-self-clause-last_kept
invariant_of-self-clause-last_kept g c = let s = c.args.self.now in let v : View = s.text.reader.agent.seat.me.0 in
    let w : View = c.slice.new.self.reader.agent.seat.me.0 in kept_by v w (c.slice.ensures.continues.known) s.last s.last_kept

pub invariant_of-self-clause-older_kept : goal.invariant_of-self-clause-older_kept
invariant_of-self-clause-older_kept g c = let s = c.args.self.now in let v : View = s.text.reader.agent.seat.me.0 in
    let w : View = c.slice.new.self.reader.agent.seat.me.0 in kept_by v w (c.slice.ensures.continues.known) s.older s.older_kept

pub invariant_of-self-clause-singles_kept : goal.invariant_of-self-clause-singles_kept
invariant_of-self-clause-singles_kept g c = let s = c.args.self.now in let v : View = s.text.reader.agent.seat.me.0 in
    let w : View = c.slice.new.self.reader.agent.seat.me.0 in singles_by v w (c.slice.ensures.continues.known) s.singles.ids s.singles_kept

pub invariant_of-self-clause-recent_kept : goal.invariant_of-self-clause-recent_kept
invariant_of-self-clause-recent_kept g c = let s = c.args.self.now in let v : View = s.text.reader.agent.seat.me.0 in
    let w : View = c.slice.new.self.reader.agent.seat.me.0 in recent_by v w (c.slice.ensures.continues.known) s.recent.ids s.recent_kept

pub invariant_of-self-clause-keys_kept : goal.invariant_of-self-clause-keys_kept
invariant_of-self-clause-keys_kept g c = let s = c.args.self.now in let v : View = s.text.reader.agent.seat.me.0 in
    let w : View = c.slice.new.self.reader.agent.seat.me.0 in keys_by v w s.text.reader.belongs.5 (c.slice.ensures.continues.known) (c.slice.ensures.continues.sizes) s.keys.all s.keys_kept

pub invariant_of-self-clause-hashes_noted : goal.invariant_of-self-clause-hashes_noted
invariant_of-self-clause-hashes_noted g c = let s = c.args.self.now in let v : View = s.text.reader.agent.seat.me.0 in
    let w : View = c.slice.new.self.reader.agent.seat.me.0 in hashes_kept v w (c.slice.ensures.continues.known) (hashes_in s.noted) s.hashes_noted

pub returns-in-Err-clause-spared : goal.returns-in-Err-clause-spared
returns-in-Err-clause-spared g c = let s = c.args.self.now in let v : View = s.text.reader.agent.seat.me.0 in
    let w : View = c.slice.new.self.reader.agent.seat.me.0 in let u = has_key v.units c.args.s.id c.requires.known in
    cut_spares v w (size_of (g.H.HeapRef.reached s.text.reader.heap)) c.args.s c.args.from c.args.to u.0 c.in-Err.full
    (subst (λ (xs : List ℕ). c.args.to ≤ length xs) (text_is v.units c.args.s.id u.0 u.1) c.requires.within) (c.in-Err.ensures.cut u.0 u.1)
