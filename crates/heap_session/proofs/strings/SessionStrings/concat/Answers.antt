use Rattle.std.proofs.Common.{◌∙◌, ℕ, List, [], None, Ok, Err, length, ap}
use Rattle.std.specs.Prelude.{unwrap_or}
use Rattle.std.specs.FinMap.{get}
use Rattle.js_store.specs.Faults.{concat_part}
use Rattle.js_store.specs.Limits.{limit_units}
use Rattle.js_store.specs.Rows.{join_ids, join_words}
use Rattle.heap_rule.specs.declared.view.View.{View}
use Rattle.heap_table.specs.Agents.{size_of}
use Rattle.heap_session.specs.Faults.{fault_in_join}
use Rattle.heap_session.specs.Sessions.{table_of}
use Rattle.heap_intern.proofs.KeptKeys.{keys_by}
use Rattle.heap_session.proofs.Calls.{joined_fits, joined_in, joined_ok, joined_step, joined_told, never_join}
use Rattle.heap_session.proofs.States.{has_text, history_continues, uses_at}
use Rattle.heap_session.proofs.Lately.{kept_by}
use Rattle.heap_session.proofs.OneUnit.{singles_by}
use Rattle.heap_session.proofs.MadeLately.{recent_by}
use Rattle.heap_session.proofs.Owning.{joined_spares}
use Rattle.heap_intern.proofs.Hashes.{hashes_kept}
use Rattle.heap_session.specs.Noted.{hashes_in}
use Rattle.heap_session.proofs.strings.SessionStrings.concat.Goals as goal

pub returns-in-Ok-clause-ok : goal.returns-in-Ok-clause-ok
returns-in-Ok-clause-ok g c = let v : View = c.args.self.now.text.reader.agent.seat.me.0 in
    c.in-Ok.ensures.units _ _ (has_text v.units c.args.a.id c.requires.left) (has_text v.units c.args.b.id c.requires.right)

pub returns-in-Ok-clause-answer : goal.returns-in-Ok-clause-answer
returns-in-Ok-clause-answer g c = let s = c.args.self.now in let v : View = s.text.reader.agent.seat.me.0 in let w : View = c.concat.new.self.reader.agent.seat.me.0 in let e = c.concat.ensures in
    let us : List ℕ = unwrap_or (get v.units c.args.a.id) [] in let vs : List ℕ = unwrap_or (get v.units c.args.b.id) [] in
    let h = has_text v.units c.args.a.id c.requires.left in let k = has_text v.units c.args.b.id c.requires.right in
    let l = limit_units s.limit in let t = table_of (g.H.HeapRef.reached s.text.reader.heap) in
    let j = joined_in v w (size_of (g.H.HeapRef.reached s.text.reader.heap)) s.text.limit l c.args.a c.args.b us vs (Ok c.in-Ok.s)
    (c.concat.new.self.reader.belongs.1 ∙ ap (λ x. size_of (g.H.HeapRef.reached x)) e.kept.heap) s.one_limit (c.in-Ok.ensures.joined us vs h k) in
    joined_fits v w l t c.args.a c.args.b us vs s.text.reader.belongs.5 e.continues l c.in-Ok.s j

pub returns-in-Ok-clause-uses : goal.returns-in-Ok-clause-uses
returns-in-Ok-clause-uses g c = let s = c.args.self.now in let v : View = s.text.reader.agent.seat.me.0 in let w : View = c.concat.new.self.reader.agent.seat.me.0 in let e = c.concat.ensures in
    let us : List ℕ = unwrap_or (get v.units c.args.a.id) [] in let vs : List ℕ = unwrap_or (get v.units c.args.b.id) [] in
    let h = has_text v.units c.args.a.id c.requires.left in let k = has_text v.units c.args.b.id c.requires.right in
    let l = limit_units s.limit in let t = table_of (g.H.HeapRef.reached s.text.reader.heap) in
    let j = joined_in v w (size_of (g.H.HeapRef.reached s.text.reader.heap)) s.text.limit l c.args.a c.args.b us vs (Ok c.in-Ok.s)
    (c.concat.new.self.reader.belongs.1 ∙ ap (λ x. size_of (g.H.HeapRef.reached x)) e.kept.heap) s.one_limit (c.in-Ok.ensures.joined us vs h k) in
    uses_at v w l t (table_of (g.H.HeapRef.reached c.concat.new.self.reader.heap)) None (join_ids (length us) (length vs))
    (join_words (length us) (length vs)) (ap (λ x. table_of (g.H.HeapRef.reached x)) e.kept.heap) (history_continues v w e.continues) tt
    (joined_ok v w l t c.args.a c.args.b us vs s.text.reader.belongs.5 e.continues l c.in-Ok.s j)

pub returns-in-Err-clause-answer : goal.returns-in-Err-clause-answer
returns-in-Err-clause-answer g c = let s = c.args.self.now in let v : View = s.text.reader.agent.seat.me.0 in let w : View = c.concat.new.self.reader.agent.seat.me.0 in let e = c.concat.ensures in
    let us : List ℕ = unwrap_or (get v.units c.args.a.id) [] in let vs : List ℕ = unwrap_or (get v.units c.args.b.id) [] in
    let h = has_text v.units c.args.a.id c.requires.left in let k = has_text v.units c.args.b.id c.requires.right in
    let l = limit_units s.limit in let t = table_of (g.H.HeapRef.reached s.text.reader.heap) in
    let j = joined_in v w (size_of (g.H.HeapRef.reached s.text.reader.heap)) s.text.limit l c.args.a c.args.b us vs (Err c.in-Err.fault)
    (c.concat.new.self.reader.belongs.1 ∙ ap (λ x. size_of (g.H.HeapRef.reached x)) e.kept.heap) s.one_limit (c.in-Err.ensures.joined us vs h k) in
    rw c.join_fault.ensures (joined_told v w l t c.args.a c.args.b us vs s.text.reader.belongs.5 e.continues l c.in-Err.fault j)

pub returns-in-Err-clause-uses : goal.returns-in-Err-clause-uses
returns-in-Err-clause-uses g c = let s = c.args.self.now in let v : View = s.text.reader.agent.seat.me.0 in let w : View = c.concat.new.self.reader.agent.seat.me.0 in let e = c.concat.ensures in
    let us : List ℕ = unwrap_or (get v.units c.args.a.id) [] in let vs : List ℕ = unwrap_or (get v.units c.args.b.id) [] in
    let h = has_text v.units c.args.a.id c.requires.left in let k = has_text v.units c.args.b.id c.requires.right in
    let l = limit_units s.limit in let t = table_of (g.H.HeapRef.reached s.text.reader.heap) in
    let j = joined_in v w (size_of (g.H.HeapRef.reached s.text.reader.heap)) s.text.limit l c.args.a c.args.b us vs (Err c.in-Err.fault)
    (c.concat.new.self.reader.belongs.1 ∙ ap (λ x. size_of (g.H.HeapRef.reached x)) e.kept.heap) s.one_limit (c.in-Err.ensures.joined us vs h k) in
    rw c.join_fault.ensures (uses_at v w l t (table_of (g.H.HeapRef.reached c.concat.new.self.reader.heap))
    (concat_part (fault_in_join c.in-Err.fault)) (join_ids (length us) (length vs)) (join_words (length us) (length vs))
    (ap (λ x. table_of (g.H.HeapRef.reached x)) e.kept.heap) (history_continues v w e.continues) (never_join c.in-Err.fault)
    (joined_step v w l t c.args.a c.args.b us vs s.text.reader.belongs.5 e.continues l c.in-Err.fault j))

pub invariant_of-self-clause-last_kept : goal.invariant_of-self-clause-last_kept
invariant_of-self-clause-last_kept g c = let s = c.args.self.now in let v : View = s.text.reader.agent.seat.me.0 in
    let w : View = c.concat.new.self.reader.agent.seat.me.0 in kept_by v w c.concat.ensures.continues.known s.last s.last_kept

pub invariant_of-self-clause-older_kept : goal.invariant_of-self-clause-older_kept
invariant_of-self-clause-older_kept g c = let s = c.args.self.now in let v : View = s.text.reader.agent.seat.me.0 in
    let w : View = c.concat.new.self.reader.agent.seat.me.0 in kept_by v w c.concat.ensures.continues.known s.older s.older_kept

pub invariant_of-self-clause-singles_kept : goal.invariant_of-self-clause-singles_kept
invariant_of-self-clause-singles_kept g c = let s = c.args.self.now in let v : View = s.text.reader.agent.seat.me.0 in
    let w : View = c.concat.new.self.reader.agent.seat.me.0 in singles_by v w c.concat.ensures.continues.known s.singles.ids s.singles_kept

pub invariant_of-self-clause-recent_kept : goal.invariant_of-self-clause-recent_kept
invariant_of-self-clause-recent_kept g c = let s = c.args.self.now in let v : View = s.text.reader.agent.seat.me.0 in
    let w : View = c.concat.new.self.reader.agent.seat.me.0 in recent_by v w c.concat.ensures.continues.known s.recent.ids s.recent_kept

pub invariant_of-self-clause-keys_kept : goal.invariant_of-self-clause-keys_kept
invariant_of-self-clause-keys_kept g c = let s = c.args.self.now in let v : View = s.text.reader.agent.seat.me.0 in
    let w : View = c.concat.new.self.reader.agent.seat.me.0 in keys_by v w s.text.reader.belongs.5 c.concat.ensures.continues.known c.concat.ensures.continues.sizes s.keys.all s.keys_kept

pub invariant_of-self-clause-hashes_noted : goal.invariant_of-self-clause-hashes_noted
invariant_of-self-clause-hashes_noted g c = let s = c.args.self.now in let v : View = s.text.reader.agent.seat.me.0 in
    let w : View = c.concat.new.self.reader.agent.seat.me.0 in hashes_kept v w c.concat.ensures.continues.known (hashes_in s.noted) s.hashes_noted

pub returns-in-Err-clause-spared : goal.returns-in-Err-clause-spared
returns-in-Err-clause-spared g c = let s = c.args.self.now in let v : View = s.text.reader.agent.seat.me.0 in let w : View = c.concat.new.self.reader.agent.seat.me.0 in
    let us : List ℕ = unwrap_or (get v.units c.args.a.id) [] in let vs : List ℕ = unwrap_or (get v.units c.args.b.id) [] in
    let h = has_text v.units c.args.a.id c.requires.left in let k = has_text v.units c.args.b.id c.requires.right in
    joined_spares v w (size_of (g.H.HeapRef.reached s.text.reader.heap)) s.text.limit c.args.a c.args.b us vs c.in-Err.fault (c.in-Err.ensures.joined us vs h k)
