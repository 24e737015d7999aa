use Rattle.std.proofs.Common.{◌∙◌, ℕ, List, None, length, ap, subst, sym, arith}
use Rattle.heap_rule.specs.declared.view.View.{View}
use Rattle.heap_rule.proofs.MapLemmas.{has_key}
use Rattle.heap_read.proofs.Loaded.{reads_trans}
use Rattle.js_store.specs.Limits.{limit_units}
use Rattle.js_units.specs.Units.{IsFirstUnit}
use Rattle.heap_session.specs.Sessions.{table_of}
use Rattle.heap_intern.proofs.KeptKeys.{keys_by}
use Rattle.heap_session.proofs.Lately.{kept_by}
use Rattle.heap_session.proofs.OneUnit.{singles_by}
use Rattle.heap_session.proofs.MadeLately.{recent_by}
use Rattle.heap_session.proofs.States.{history_reads, step_reads, text_is, uses_at}
use Rattle.heap_intern.proofs.Hashes.{hashes_kept}
use Rattle.heap_session.specs.Noted.{hashes_in}
use Rattle.heap_session.proofs.strings.SessionStrings.find_unit.Goals as goal

pub find_in-requires-clause-window : goal.find_in-requires-clause-window
find_in-requires-clause-window g c = let v : View = c.args.self.now.text.reader.agent.seat.me.0 in let u = has_key v.units c.args.s.id c.requires.known in
    (u.0, (c.window-window.ensures.shows u.0 u.1).0)

pub find_in-requires-clause-within : goal.find_in-requires-clause-within
find_in-requires-clause-within g c = let v : View = c.args.self.now.text.reader.agent.seat.me.0 in let u = has_key v.units c.args.s.id c.requires.known in
    let n = (c.window-window.ensures.shows u.0 u.1).1 in let e = ap (length {A = ℕ}) (text_is v.units c.args.s.id u.0 u.1) in let w = c.requires.within in omega arith

pub returns-clause-least : goal.returns-clause-least
returns-clause-least g c = let v : View = c.args.self.now.text.reader.agent.seat.me.0 in let u = has_key v.units c.args.s.id c.requires.known in
    subst (λ (us : List ℕ). IsFirstUnit us c.args.unit c.args.from c.find_in.result) (sym (text_is v.units c.args.s.id u.0 u.1)) (c.find_in.ensures.least u.0 (c.window-window.ensures.shows u.0 u.1).0)

pub returns-clause-uses : goal.returns-clause-uses
returns-clause-uses g c = let s = c.args.self.now in let v : View = s.text.reader.agent.seat.me.0 in
    let x : View = c.window-window.new.self.reader.agent.seat.me.0 in let w : View = c.find_in.new.self.reader.agent.seat.me.0 in
    let r = reads_trans v x w c.window-window.ensures.reads c.find_in.ensures.reads in
    uses_at v w (limit_units s.limit) (table_of (g.H.HeapRef.reached s.text.reader.heap))
    (table_of (g.H.HeapRef.reached c.find_in.new.self.reader.heap)) None 0 0
    (ap (λ y. table_of (g.H.HeapRef.reached y)) (c.find_in.ensures.kept.heap ∙ c.window-window.ensures.kept.heap)) (history_reads v w r) tt
    (step_reads v w (limit_units s.limit) (table_of (g.H.HeapRef.reached s.text.reader.heap)) s.text.reader.belongs.5 r)

pub invariant_of-self-clause-last_kept : goal.invariant_of-self-clause-last_kept
invariant_of-self-clause-last_kept g c = let s = c.args.self.now in let v : View = s.text.reader.agent.seat.me.0 in
    let x : View = c.window-window.new.self.reader.agent.seat.me.0 in let w : View = c.find_in.new.self.reader.agent.seat.me.0 in
    kept_by v w ((reads_trans v x w c.window-window.ensures.reads c.find_in.ensures.reads).known) s.last s.last_kept

pub invariant_of-self-clause-older_kept : goal.invariant_of-self-clause-older_kept
invariant_of-self-clause-older_kept g c = let s = c.args.self.now in let v : View = s.text.reader.agent.seat.me.0 in
    let x : View = c.window-window.new.self.reader.agent.seat.me.0 in let w : View = c.find_in.new.self.reader.agent.seat.me.0 in
    kept_by v w ((reads_trans v x w c.window-window.ensures.reads c.find_in.ensures.reads).known) s.older s.older_kept

pub invariant_of-self-clause-singles_kept : goal.invariant_of-self-clause-singles_kept
invariant_of-self-clause-singles_kept g c = let s = c.args.self.now in let v : View = s.text.reader.agent.seat.me.0 in
    let x : View = c.window-window.new.self.reader.agent.seat.me.0 in let w : View = c.find_in.new.self.reader.agent.seat.me.0 in
    singles_by v w ((reads_trans v x w c.window-window.ensures.reads c.find_in.ensures.reads).known) s.singles.ids s.singles_kept

pub invariant_of-self-clause-recent_kept : goal.invariant_of-self-clause-recent_kept
invariant_of-self-clause-recent_kept g c = let s = c.args.self.now in let v : View = s.text.reader.agent.seat.me.0 in
    let x : View = c.window-window.new.self.reader.agent.seat.me.0 in let w : View = c.find_in.new.self.reader.agent.seat.me.0 in
    recent_by v w ((reads_trans v x w c.window-window.ensures.reads c.find_in.ensures.reads).known) s.recent.ids s.recent_kept

pub invariant_of-self-clause-keys_kept : goal.invariant_of-self-clause-keys_kept
invariant_of-self-clause-keys_kept g c = let s = c.args.self.now in let v : View = s.text.reader.agent.seat.me.0 in
    let x : View = c.window-window.new.self.reader.agent.seat.me.0 in let w : View = c.find_in.new.self.reader.agent.seat.me.0 in
    keys_by v w s.text.reader.belongs.5 ((reads_trans v x w c.window-window.ensures.reads c.find_in.ensures.reads).known) ((reads_trans v x w c.window-window.ensures.reads c.find_in.ensures.reads).sizes) s.keys.all s.keys_kept

pub invariant_of-self-clause-hashes_noted : goal.invariant_of-self-clause-hashes_noted
invariant_of-self-clause-hashes_noted g c = let s = c.args.self.now in let v : View = s.text.reader.agent.seat.me.0 in
    let x : View = c.window-window.new.self.reader.agent.seat.me.0 in let w : View = c.find_in.new.self.reader.agent.seat.me.0 in
    hashes_kept v w ((reads_trans v x w c.window-window.ensures.reads c.find_in.ensures.reads).known) (hashes_in s.noted) s.hashes_noted

pub returns-clause-reads : goal.returns-clause-reads
returns-clause-reads g c = let v : View = c.args.self.now.text.reader.agent.seat.me.0 in
    let x : View = c.window-window.new.self.reader.agent.seat.me.0 in let w : View = c.find_in.new.self.reader.agent.seat.me.0 in
    reads_trans v x w c.window-window.ensures.reads c.find_in.ensures.reads
