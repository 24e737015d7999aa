use Rattle.std.proofs.Common.{◌∙◌, ℕ, None, length, ap, sym, arith}
use Rattle.heap_rule.specs.declared.view.View.{View}
use Rattle.js_store.specs.Limits.{limit_units}
use Rattle.heap_rule.proofs.MapLemmas.{has_key}
use Rattle.heap_rule.proofs.Possible.{possible_short}
use Rattle.heap_session.specs.Sessions.{table_of}
use Rattle.heap_intern.proofs.KeptKeys.{keys_by}
use Rattle.heap_session.proofs.States.{history_reads, step_reads, text_is, uses_at}
use Rattle.heap_session.proofs.Lately.{kept_by}
use Rattle.heap_session.proofs.OneUnit.{singles_by}
use Rattle.heap_session.proofs.MadeLately.{recent_by}
use Rattle.heap_intern.proofs.Hashes.{hashes_kept}
use Rattle.heap_session.specs.Noted.{hashes_in}
use Rattle.heap_session.proofs.strings.SessionStrings.len.Goals as goal

pub returns-clause-value : goal.returns-clause-value
returns-clause-value g c = let v : View = c.args.self.now.text.reader.agent.seat.me.0 in
    let u = has_key v.units c.args.s.id c.requires in c.len.ensures.length u.0 u.1 ∙ ap (length {A = ℕ}) (sym (text_is v.units c.args.s.id u.0 u.1))

pub returns-clause-most : goal.returns-clause-most
returns-clause-most g c = let v : View = c.args.self.now.text.reader.agent.seat.me.0 in let u = has_key v.units c.args.s.id c.requires in
    let n = c.len.ensures.length u.0 u.1 in let m = possible_short v c.args.self.now.text.reader.belongs.5 c.args.s.id u.0 u.1 in omega arith

pub returns-clause-uses : goal.returns-clause-uses
returns-clause-uses g c = let s = c.args.self.now in let v : View = s.text.reader.agent.seat.me.0 in let w : View = c.len.new.self.reader.agent.seat.me.0 in
    uses_at v w (limit_units s.limit) (table_of (g.H.HeapRef.reached s.text.reader.heap))
    (table_of (g.H.HeapRef.reached c.len.new.self.reader.heap)) None 0 0
    (ap (λ x. table_of (g.H.HeapRef.reached x)) c.len.ensures.kept.heap) (history_reads v w c.len.ensures.reads) tt
    (step_reads v w (limit_units s.limit) (table_of (g.H.HeapRef.reached s.text.reader.heap)) s.text.reader.belongs.5 c.len.ensures.reads)

pub invariant_of-self-clause-last_kept : goal.invariant_of-self-clause-last_kept
invariant_of-self-clause-last_kept g c = let s = c.args.self.now in let v : View = s.text.reader.agent.seat.me.0 in
    let w : View = c.len.new.self.reader.agent.seat.me.0 in kept_by v w (c.len.ensures.reads.known) s.last s.last_kept

pub invariant_of-self-clause-older_kept : goal.invariant_of-self-clause-older_kept
invariant_of-self-clause-older_kept g c = let s = c.args.self.now in let v : View = s.text.reader.agent.seat.me.0 in
    let w : View = c.len.new.self.reader.agent.seat.me.0 in kept_by v w (c.len.ensures.reads.known) s.older s.older_kept

pub invariant_of-self-clause-singles_kept : goal.invariant_of-self-clause-singles_kept
invariant_of-self-clause-singles_kept g c = let s = c.args.self.now in let v : View = s.text.reader.agent.seat.me.0 in
    let w : View = c.len.new.self.reader.agent.seat.me.0 in singles_by v w (c.len.ensures.reads.known) s.singles.ids s.singles_kept

pub invariant_of-self-clause-recent_kept : goal.invariant_of-self-clause-recent_kept
invariant_of-self-clause-recent_kept g c = let s = c.args.self.now in let v : View = s.text.reader.agent.seat.me.0 in
    let w : View = c.len.new.self.reader.agent.seat.me.0 in recent_by v w (c.len.ensures.reads.known) s.recent.ids s.recent_kept

pub invariant_of-self-clause-keys_kept : goal.invariant_of-self-clause-keys_kept
invariant_of-self-clause-keys_kept g c = let s = c.args.self.now in let v : View = s.text.reader.agent.seat.me.0 in
    let w : View = c.len.new.self.reader.agent.seat.me.0 in keys_by v w s.text.reader.belongs.5 (c.len.ensures.reads.known) (c.len.ensures.reads.sizes) s.keys.all s.keys_kept

pub invariant_of-self-clause-hashes_noted : goal.invariant_of-self-clause-hashes_noted
invariant_of-self-clause-hashes_noted g c = let s = c.args.self.now in let v : View = s.text.reader.agent.seat.me.0 in
    let w : View = c.len.new.self.reader.agent.seat.me.0 in hashes_kept v w (c.len.ensures.reads.known) (hashes_in s.noted) s.hashes_noted
