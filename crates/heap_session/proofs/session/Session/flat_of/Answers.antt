use Rattle.std.proofs.Common.{◌≡◌, ◌∙◌, inr, ℕ, List, None, Some, length, ap, arith}
use Rattle.js_header.specs.declared.form.Form.TheVariants.{Flat}
use Rattle.js_units.specs.Lanes.{words_over}
use Rattle.js_store.specs.Rows.{flat_words}
use Rattle.heap_rule.specs.declared.view.View.{View}
use Rattle.js_store.specs.Limits.{limit_units}
use Rattle.heap_session.specs.Sessions.{table_of}
use Rattle.heap_table.specs.Agents.{size_of}
use Rattle.js_units.specs.Lanes as texts
use Rattle.heap_session.specs.Faults.{fault_in_text}
use Rattle.heap_session.specs.Sound.{limit_high}
use Rattle.heap_intern.proofs.KeptKeys.{keys_by}
use Rattle.heap_session.proofs.Calls.{flat_is, never_slots, step_refused, step_used, told_here}
use Rattle.heap_session.proofs.States.{history_continues, settled_test, uses_at}
use Rattle.heap_session.proofs.Lately.{kept_by}
use Rattle.heap_session.proofs.OneUnit.{singles_by}
use Rattle.heap_session.proofs.MadeLately.{recent_by}
use Rattle.heap_session.proofs.Owning.{spares_of}
use Rattle.heap_intern.proofs.Hashes.{hashes_kept}
use Rattle.heap_session.specs.Noted.{hashes_in}
use Rattle.heap_session.proofs.session.Session.flat_of.Goals as goal

pub make_flat-requires : goal.make_flat-requires
make_flat-requires g c = let a = limit_high c.args.self.now.limit in let b = c.requires in record { short = omega arith }

pub returns-in-Ok-clause-ok : goal.returns-in-Ok-clause-ok
returns-in-Ok-clause-ok g c = let w : View = c.make_flat.new.self.reader.agent.seat.me.0 in let f = c.in-Ok.ensures.form in
    (c.in-Ok.ensures.units, settled_test w c.in-Ok.s.id (Flat (texts.is_wide c.args.units.now) f.0 _, f.1, λ x. x))

pub returns-in-Ok-clause-uses : goal.returns-in-Ok-clause-uses
returns-in-Ok-clause-uses g c = let s = c.args.self.now in let v : View = s.text.reader.agent.seat.me.0 in
    let w : View = c.make_flat.new.self.reader.agent.seat.me.0 in let us : List ℕ = c.args.units.now in let l = limit_units s.limit in
    let t = table_of (g.H.HeapRef.reached s.text.reader.heap) in
    uses_at v w l t (table_of (g.H.HeapRef.reached c.make_flat.new.self.reader.heap)) None 1 (flat_words us)
    (ap (λ x. table_of (g.H.HeapRef.reached x)) c.make_flat.ensures.kept.heap) (history_continues v w c.make_flat.ensures.continues) tt
    (step_used v w l t 1 (words_over (texts.is_wide us) (length us)) 1 (flat_words us) (omega arith) (let e = flat_is us in omega arith)
    s.text.reader.belongs.5 c.make_flat.ensures.continues c.in-Ok.ensures.used)

pub returns-in-Ok-clause-made : goal.returns-in-Ok-clause-made
returns-in-Ok-clause-made g c = inr c.in-Ok.ensures.used

pub returns-in-Err-clause-uses : goal.returns-in-Err-clause-uses
returns-in-Err-clause-uses g c = let s = c.args.self.now in let v : View = s.text.reader.agent.seat.me.0 in
    let w : View = c.make_flat.new.self.reader.agent.seat.me.0 in let us : List ℕ = c.args.units.now in let l = limit_units s.limit in
    let t = table_of (g.H.HeapRef.reached s.text.reader.heap) in
    let words : ℕ = words_over (texts.is_wide us) (length us) in
    let sizes : w.sizes ≡ size_of (g.H.HeapRef.reached s.text.reader.heap) = c.make_flat.new.self.reader.belongs.1 ∙ ap
    (λ x. size_of (g.H.HeapRef.reached x)) c.make_flat.ensures.kept.heap in
    rw c.text_fault.ensures (uses_at v w l t (table_of (g.H.HeapRef.reached c.make_flat.new.self.reader.heap))
    (Some (fault_in_text c.in-Err.full)) 1 (flat_words us) (ap (λ x. table_of (g.H.HeapRef.reached x)) c.make_flat.ensures.kept.heap)
    (history_continues v w c.make_flat.ensures.continues) (never_slots c.in-Err.full)
    (step_refused v w l t words (flat_words us) c.in-Err.full (let e = flat_is us in omega arith) s.text.reader.belongs.5
    c.make_flat.ensures.continues (told_here w (size_of (g.H.HeapRef.reached s.text.reader.heap)) words c.in-Err.full sizes
    c.in-Err.ensures.refused) c.in-Err.ensures.spared))

pub invariant_of-self-clause-last_kept : goal.invariant_of-self-clause-last_kept
invariant_of-self-clause-last_kept g c = let s = c.args.self.now in let v : View = s.text.reader.agent.seat.me.0 in
    let w : View = c.make_flat.new.self.reader.agent.seat.me.0 in kept_by v w (c.make_flat.ensures.continues.known) s.last s.last_kept

pub invariant_of-self-clause-older_kept : goal.invariant_of-self-clause-older_kept
invariant_of-self-clause-older_kept g c = let s = c.args.self.now in let v : View = s.text.reader.agent.seat.me.0 in
    let w : View = c.make_flat.new.self.reader.agent.seat.me.0 in kept_by v w (c.make_flat.ensures.continues.known) s.older s.older_kept

pub invariant_of-self-clause-singles_kept : goal.invariant_of-self-clause-singles_kept
invariant_of-self-clause-singles_kept g c = let s = c.args.self.now in let v : View = s.text.reader.agent.seat.me.0 in
    let w : View = c.make_flat.new.self.reader.agent.seat.me.0 in singles_by v w (c.make_flat.ensures.continues.known) s.singles.ids s.singles_kept

pub invariant_of-self-clause-recent_kept : goal.invariant_of-self-clause-recent_kept
invariant_of-self-clause-recent_kept g c = let s = c.args.self.now in let v : View = s.text.reader.agent.seat.me.0 in
    let w : View = c.make_flat.new.self.reader.agent.seat.me.0 in recent_by v w (c.make_flat.ensures.continues.known) s.recent.ids s.recent_kept

pub invariant_of-self-clause-keys_kept : goal.invariant_of-self-clause-keys_kept
invariant_of-self-clause-keys_kept g c = let s = c.args.self.now in let v : View = s.text.reader.agent.seat.me.0 in
    let w : View = c.make_flat.new.self.reader.agent.seat.me.0 in keys_by v w s.text.reader.belongs.5 (c.make_flat.ensures.continues.known) (c.make_flat.ensures.continues.sizes) s.keys.all s.keys_kept

pub invariant_of-self-clause-hashes_noted : goal.invariant_of-self-clause-hashes_noted
invariant_of-self-clause-hashes_noted g c = let s = c.args.self.now in let v : View = s.text.reader.agent.seat.me.0 in
    let w : View = c.make_flat.new.self.reader.agent.seat.me.0 in hashes_kept v w (c.make_flat.ensures.continues.known) (hashes_in s.noted) s.hashes_noted

pub returns-in-Err-clause-spared : goal.returns-in-Err-clause-spared
returns-in-Err-clause-spared g c = let v : View = c.args.self.now.text.reader.agent.seat.me.0 in let w : View = c.make_flat.new.self.reader.agent.seat.me.0 in let us : List ℕ = c.args.units.now in
    spares_of v w (words_over (texts.is_wide us) (length us)) c.in-Err.full c.in-Err.ensures.spared
