use Rattle.std.proofs.Common.{◌∙◌, [], ap, sym, None}
use Rattle.std.specs.FinMap.{contains_key}
use Rattle.js_store.specs.Limits.{limit_units}
use Rattle.heap_rule.specs.declared.size.HeapSize.{HeapSize}
use Rattle.heap_intern.specs.Counting.{count_below}
use Rattle.heap_session.specs.Sessions.{table_of}
use Rattle.heap_intern.proofs.KeptKeys.{keys_by}
use Rattle.heap_session.proofs.States.{history_looks, step_looks, uses_at}
use Rattle.heap_rule.specs.declared.view.View.{View}
use Rattle.heap_session.proofs.Lately.{kept_by}
use Rattle.heap_session.proofs.OneUnit.{singles_by}
use Rattle.heap_session.proofs.MadeLately.{recent_by}
use Rattle.heap_session.proofs.Owning.{own_goes}
use Rattle.heap_intern.proofs.Hashes.{hashes_kept}
use Rattle.heap_session.specs.Noted.{hashes_in}
use Rattle.heap_session.proofs.session.Session.count_interned.Goals as goal

pub returns-clause-uses : goal.returns-clause-uses
returns-clause-uses g c = let s = c.args.self.now in
    let v : View = s.text.reader.agent.seat.me.0 in let w : View = c.count_interned.new.reader.agent.seat.me.0 in
    uses_at v w (limit_units s.limit) (table_of (g.H.HeapRef.reached s.text.reader.heap))
    (table_of (g.H.HeapRef.reached c.count_interned.new.reader.heap)) None 0 0
    (ap (λ y. table_of (g.H.HeapRef.reached y)) c.count_interned.ensures.heap) (history_looks v w c.count_interned.ensures.looks) tt
    (step_looks v w (limit_units s.limit) (table_of (g.H.HeapRef.reached s.text.reader.heap)) s.text.reader.belongs.5 c.count_interned.ensures.looks)

pub invariant_of-self-clause-last_kept : goal.invariant_of-self-clause-last_kept
invariant_of-self-clause-last_kept g c = let s = c.args.self.now in let v : View = s.text.reader.agent.seat.me.0 in
    let w : View = c.count_interned.new.reader.agent.seat.me.0 in kept_by v w (c.count_interned.ensures.looks.goes.known) s.last s.last_kept

pub invariant_of-self-clause-older_kept : goal.invariant_of-self-clause-older_kept
invariant_of-self-clause-older_kept g c = let s = c.args.self.now in let v : View = s.text.reader.agent.seat.me.0 in
    let w : View = c.count_interned.new.reader.agent.seat.me.0 in kept_by v w (c.count_interned.ensures.looks.goes.known) s.older s.older_kept

pub invariant_of-self-clause-singles_kept : goal.invariant_of-self-clause-singles_kept
invariant_of-self-clause-singles_kept g c = let s = c.args.self.now in let v : View = s.text.reader.agent.seat.me.0 in
    let w : View = c.count_interned.new.reader.agent.seat.me.0 in singles_by v w (c.count_interned.ensures.looks.goes.known) s.singles.ids s.singles_kept

pub invariant_of-self-clause-recent_kept : goal.invariant_of-self-clause-recent_kept
invariant_of-self-clause-recent_kept g c = let s = c.args.self.now in let v : View = s.text.reader.agent.seat.me.0 in
    let w : View = c.count_interned.new.reader.agent.seat.me.0 in recent_by v w (c.count_interned.ensures.looks.goes.known) s.recent.ids s.recent_kept

pub invariant_of-self-clause-keys_kept : goal.invariant_of-self-clause-keys_kept
invariant_of-self-clause-keys_kept g c = let s = c.args.self.now in let v : View = s.text.reader.agent.seat.me.0 in
    let w : View = c.count_interned.new.reader.agent.seat.me.0 in keys_by v w s.text.reader.belongs.5 (c.count_interned.ensures.looks.goes.known) (c.count_interned.ensures.looks.goes.sizes) s.keys.all s.keys_kept

pub invariant_of-self-clause-hashes_noted : goal.invariant_of-self-clause-hashes_noted
invariant_of-self-clause-hashes_noted g c = let s = c.args.self.now in let v : View = s.text.reader.agent.seat.me.0 in
    let w : View = c.count_interned.new.reader.agent.seat.me.0 in hashes_kept v w (c.count_interned.ensures.looks.goes.known) (hashes_in s.noted) s.hashes_noted

pub returns-clause-used : goal.returns-clause-used
returns-clause-used g c = let w : View = c.count_interned.new.reader.agent.seat.me.0 in
    c.count_interned.ensures.used ∙ ap (λ (z : HeapSize). count_below (λ k. contains_key w.slots k) z.slots) (sym (c.count_interned.ensures.looks.goes.sizes ∙ c.args.self.now.text.reader.belongs.1))

pub returns-clause-own : goal.returns-clause-own
returns-clause-own g c = own_goes c.args.self.now.text.reader.agent.seat.me.0 c.count_interned.new.reader.agent.seat.me.0 [] c.count_interned.ensures.looks.goes
