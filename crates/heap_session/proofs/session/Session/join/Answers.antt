use Rattle.std.proofs.Common.{◌≡◌, ap, sym, subst}
use Rattle.atomic_table.specs.Seated.{TableId}
use Rattle.js_store.specs.Limits.{limit_units}
use Rattle.heap_rule.specs.declared.view.View.{View}
use Rattle.heap_table.specs.Known.{KeepsKnown}
use Rattle.heap_session.specs.Sessions.{state_by, table_of}
use Rattle.heap_session.specs.Shares.{IsSessionJoined}
use Rattle.heap_intern.proofs.KeptKeys.{keys_by}
use Rattle.heap_session.proofs.Shares.{belongs_here, sizes_are, state_joined}
use Rattle.heap_session.proofs.Lately.{kept_by}
use Rattle.heap_session.proofs.OneUnit.{singles_by}
use Rattle.heap_session.proofs.MadeLately.{recent_by}
use Rattle.heap_intern.proofs.Hashes.{hashes_kept}
use Rattle.heap_session.specs.Noted.{hashes_in}
use Rattle.heap_session.proofs.session.Session.join.Goals as goal

pub join-requires-clause-heap : goal.join-requires-clause-heap
join-requires-clause-heap g c = let s = c.args.self.now in let o = c.args.other in let m = c.requires.may in
    let v : View = s.text.reader.agent.seat.me.0 in let b : View = o.text.reader.agent.seat.me.0 in
    belongs_here s.text.reader.agent o.text.reader.agent (g.H.HeapRef.reached s.text.reader.heap) (g.H.HeapRef.reached o.text.reader.heap)
    s.text.reader.belongs o.text.reader.belongs m.table (sizes_are b.sizes v.sizes m.sizes)

pub join-requires-clause-may : goal.join-requires-clause-may
join-requires-clause-may g c = let m = c.requires.may in (c.args.other.text.reader.belongs.2, m.first, m.second)

pub returns-clause-joined : goal.returns-clause-joined
returns-clause-joined g c = let s = c.args.self.now in let o = c.args.other in let m = c.requires.may in
    let v : View = s.text.reader.agent.seat.me.0 in let b : View = o.text.reader.agent.seat.me.0 in let e = c.join.ensures in
    let l = limit_units s.limit in let t = table_of (g.H.HeapRef.reached s.text.reader.heap) in
    let same : table_of (g.H.HeapRef.reached c.join.new.self.reader.heap) ≡ t = ap (λ x. table_of (g.H.HeapRef.reached x)) e.kept.heap in
    subst (λ (x : TableId). IsSessionJoined (state_by v l t) (state_by b (limit_units o.limit)
    (table_of (g.H.HeapRef.reached o.text.reader.heap))) (state_by c.join.new.self.reader.agent.seat.me.0 l x)) (sym same)
    (subst (λ (w : View). IsSessionJoined (state_by v l t) (state_by b (limit_units o.limit)
    (table_of (g.H.HeapRef.reached o.text.reader.heap))) (state_by w l t)) (sym e.view)
    (state_joined v b l (limit_units o.limit) t (table_of (g.H.HeapRef.reached o.text.reader.heap)) s.text.reader.belongs.5
    o.text.reader.belongs.5 (subst (KeepsKnown v) e.view e.known.0) (subst (KeepsKnown b) e.view e.known.1) (sizes_are b.sizes v.sizes m.sizes)))

pub invariant_of-self-clause-last_kept : goal.invariant_of-self-clause-last_kept
invariant_of-self-clause-last_kept g c = let s = c.args.self.now in let v : View = s.text.reader.agent.seat.me.0 in
    let w : View = c.join.new.self.reader.agent.seat.me.0 in kept_by v w c.join.ensures.known.0 s.last s.last_kept

pub invariant_of-self-clause-older_kept : goal.invariant_of-self-clause-older_kept
invariant_of-self-clause-older_kept g c = let s = c.args.self.now in let v : View = s.text.reader.agent.seat.me.0 in
    let w : View = c.join.new.self.reader.agent.seat.me.0 in kept_by v w c.join.ensures.known.0 s.older s.older_kept

pub invariant_of-self-clause-singles_kept : goal.invariant_of-self-clause-singles_kept
invariant_of-self-clause-singles_kept g c = let s = c.args.self.now in let v : View = s.text.reader.agent.seat.me.0 in
    let w : View = c.join.new.self.reader.agent.seat.me.0 in singles_by v w c.join.ensures.known.0 s.singles.ids s.singles_kept

pub invariant_of-self-clause-recent_kept : goal.invariant_of-self-clause-recent_kept
invariant_of-self-clause-recent_kept g c = let s = c.args.self.now in let v : View = s.text.reader.agent.seat.me.0 in
    let w : View = c.join.new.self.reader.agent.seat.me.0 in recent_by v w c.join.ensures.known.0 s.recent.ids s.recent_kept

pub invariant_of-self-clause-keys_kept : goal.invariant_of-self-clause-keys_kept
invariant_of-self-clause-keys_kept g c = let s = c.args.self.now in let v : View = s.text.reader.agent.seat.me.0 in
    let w : View = c.join.new.self.reader.agent.seat.me.0 in keys_by v w s.text.reader.belongs.5 c.join.ensures.known.0 (ap (λ (u : View). u.sizes) c.join.ensures.view) s.keys.all s.keys_kept

pub invariant_of-self-clause-hashes_noted : goal.invariant_of-self-clause-hashes_noted
invariant_of-self-clause-hashes_noted g c = let s = c.args.self.now in let v : View = s.text.reader.agent.seat.me.0 in
    let w : View = c.join.new.self.reader.agent.seat.me.0 in hashes_kept v w c.join.ensures.known.0 (hashes_in s.noted) s.hashes_noted
