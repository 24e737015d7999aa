use Rattle.std.proofs.Common.{◌∙◌}
use Rattle.js_store.specs.Limits.{limit_units}
use Rattle.heap_rule.specs.declared.view.View.{View}
use Rattle.heap_session.specs.Sessions.{state_by, table_of}
use Rattle.heap_session.proofs.Shares.{state_total}
use Rattle.heap_session.specs.Lately.{IsWordKept}
use Rattle.heap_session.specs.Singles.{AreSingles}
use Rattle.heap_session.specs.Recent.{AreRecent}
use Rattle.std.proofs.Common.{ap, subst, sym}
use Rattle.heap_table.specs.Known.{KeepsKnown}
use Rattle.heap_intern.proofs.KeptKeys.{keys_by}
use Rattle.heap_intern.proofs.Going.{counted_known}
use Rattle.heap_text.specs.Texts.{KeepsOwn}
use Rattle.heap_intern.proofs.Hashes.{hashes_kept}
use Rattle.heap_session.specs.Noted.{hashes_in}
use Rattle.heap_session.proofs.session.Session.totals.Goals as goal

pub returns-clause-state : goal.returns-clause-state
returns-clause-state g c = let s = c.args.self.now in let v : View = s.text.reader.agent.seat.me.0 in let e = c.totals.ensures in
    (λ i. state_by (e.view i) (limit_units s.limit) (table_of (g.H.HeapRef.reached (e.kept.heap i))))
    ∙ state_total v (limit_units s.limit) (table_of (g.H.HeapRef.reached s.text.reader.heap)) c.totals.result.0 c.totals.result.1 e.used.0 e.used.1

pub invariant_of-self-clause-last_kept : goal.invariant_of-self-clause-last_kept
invariant_of-self-clause-last_kept g c = let s = c.args.self.now in subst (λ (w : View). IsWordKept w s.last) (sym c.totals.ensures.view) s.last_kept

pub invariant_of-self-clause-older_kept : goal.invariant_of-self-clause-older_kept
invariant_of-self-clause-older_kept g c = let s = c.args.self.now in subst (λ (w : View). IsWordKept w s.older) (sym c.totals.ensures.view) s.older_kept

pub invariant_of-self-clause-singles_kept : goal.invariant_of-self-clause-singles_kept
invariant_of-self-clause-singles_kept g c = let s = c.args.self.now in subst (λ (w : View). AreSingles w s.singles.ids) (sym c.totals.ensures.view) s.singles_kept

pub invariant_of-self-clause-recent_kept : goal.invariant_of-self-clause-recent_kept
invariant_of-self-clause-recent_kept g c = let s = c.args.self.now in subst (λ (w : View). AreRecent w s.recent.ids) (sym c.totals.ensures.view) s.recent_kept

pub invariant_of-self-clause-keys_kept : goal.invariant_of-self-clause-keys_kept
invariant_of-self-clause-keys_kept g c = let s = c.args.self.now in let v : View = s.text.reader.agent.seat.me.0 in let w : View = c.totals.new.self.reader.agent.seat.me.0 in
    keys_by v w s.text.reader.belongs.5 (subst (KeepsKnown v) (sym c.totals.ensures.view) (counted_known v c.totals.result.0 c.totals.result.1))
    (ap (λ (u : View). u.sizes) c.totals.ensures.view) s.keys.all s.keys_kept

pub invariant_of-self-clause-hashes_noted : goal.invariant_of-self-clause-hashes_noted
invariant_of-self-clause-hashes_noted g c = let s = c.args.self.now in let v : View = s.text.reader.agent.seat.me.0 in let w : View = c.totals.new.self.reader.agent.seat.me.0 in
    hashes_kept v w (subst (KeepsKnown v) (sym c.totals.ensures.view) (counted_known v c.totals.result.0 c.totals.result.1)) (hashes_in s.noted) s.hashes_noted

pub returns-clause-own : goal.returns-clause-own
returns-clause-own g c = let v : View = c.args.self.now.text.reader.agent.seat.me.0 in subst (KeepsOwn v) (sym c.totals.ensures.view) record { ids = λ i n h. h; words = λ d x h. h }
