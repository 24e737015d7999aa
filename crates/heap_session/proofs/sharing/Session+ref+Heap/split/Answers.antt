use Rattle.std.proofs.Common.{◌∙◌, ap, subst, sym}
use Rattle.heap_table.specs.Known.{KeepsKnown}
use Rattle.heap_intern.proofs.KeptKeys.{keys_by}
use Rattle.heap_intern.proofs.Going.{left_known}
use Rattle.js_store.specs.Limits.{limit_units}
use Rattle.heap_rule.specs.declared.view.View.{View}
use Rattle.heap_session.specs.Sessions.{state_by, table_of}
use Rattle.heap_session.proofs.Shares.{state_left, state_right}
use Rattle.heap_session.proofs.Lately.{kept_none}
use Rattle.heap_session.specs.Lately.{IsWordKept}
use Rattle.heap_session.specs.Singles.{AreSingles}
use Rattle.heap_session.specs.Recent.{AreRecent}
use Rattle.heap_intern.proofs.Hashes.{hashes_kept}
use Rattle.heap_session.specs.Noted.{hashes_in}
use Rattle.heap_session.proofs.NotesKept.{none_noted}
use Rattle.heap_session.proofs.sharing.Session+ref+Heap.split.Goals as goal

pub invariant_of-result : goal.invariant_of-result
invariant_of-result c = record {
  one_limit = c.split.ensures.alike.1 ∙ c.args.self.now.one_limit;
  last_kept = kept_none c.split.result.reader.agent.seat.me.0 c.none.result c.none.ensures;
  older_kept = kept_none c.split.result.reader.agent.seat.me.0 c.none-2.result c.none-2.ensures;
  singles_kept = c.none-3.ensures c.split.result.reader.agent.seat.me.0;
  recent_kept = c.none-4.ensures c.split.result.reader.agent.seat.me.0;
  keys_kept = c.none-5.ensures c.split.result.reader.agent.seat.me.0;
  hashes_noted = none_noted c.split.result.reader.agent.seat.me.0 c.none-6.result c.none-6.ensures;
}

pub returns-clause-left : goal.returns-clause-left
returns-clause-left c = let s = c.args.self.now in let v : View = s.text.reader.agent.seat.me.0 in
    (λ i. state_by (c.split.ensures.left i) (limit_units s.limit) (table_of (c.split.ensures.kept.heap i).now)) ∙ state_left v c.args.give (limit_units s.limit) (table_of s.text.reader.heap.now)

pub returns-clause-right : goal.returns-clause-right
returns-clause-right c = let s = c.args.self.now in let v : View = s.text.reader.agent.seat.me.0 in let l = limit_units s.limit in
    (λ i. state_by (c.split.ensures.right i) l (table_of (c.split.ensures.alike.0 i))) ∙ state_right v c.args.give l (table_of s.text.reader.heap.now)

pub invariant_of-self-clause-last_kept : goal.invariant_of-self-clause-last_kept
invariant_of-self-clause-last_kept c = let s = c.args.self.now in subst (λ (w : View). IsWordKept w s.last) (sym c.split.ensures.left) s.last_kept

pub invariant_of-self-clause-older_kept : goal.invariant_of-self-clause-older_kept
invariant_of-self-clause-older_kept c = let s = c.args.self.now in subst (λ (w : View). IsWordKept w s.older) (sym c.split.ensures.left) s.older_kept

pub invariant_of-self-clause-singles_kept : goal.invariant_of-self-clause-singles_kept
invariant_of-self-clause-singles_kept c = let s = c.args.self.now in subst (λ (w : View). AreSingles w s.singles.ids) (sym c.split.ensures.left) s.singles_kept

pub invariant_of-self-clause-recent_kept : goal.invariant_of-self-clause-recent_kept
invariant_of-self-clause-recent_kept c = let s = c.args.self.now in subst (λ (w : View). AreRecent w s.recent.ids) (sym c.split.ensures.left) s.recent_kept

pub invariant_of-self-clause-keys_kept : goal.invariant_of-self-clause-keys_kept
invariant_of-self-clause-keys_kept c = let s = c.args.self.now in let v : View = s.text.reader.agent.seat.me.0 in let w : View = c.split.new.self.reader.agent.seat.me.0 in
    keys_by v w s.text.reader.belongs.5 (subst (KeepsKnown v) (sym c.split.ensures.left) (left_known v c.args.give))
    (ap (λ (u : View). u.sizes) c.split.ensures.left) s.keys.all s.keys_kept

pub invariant_of-self-clause-hashes_noted : goal.invariant_of-self-clause-hashes_noted
invariant_of-self-clause-hashes_noted c = let s = c.args.self.now in let v : View = s.text.reader.agent.seat.me.0 in let w : View = c.split.new.self.reader.agent.seat.me.0 in
    hashes_kept v w (subst (KeepsKnown v) (sym c.split.ensures.left) (left_known v c.args.give)) (hashes_in s.noted) s.hashes_noted
