use Rattle.std.proofs.Common.{◌∙◌, None, ap}
use Rattle.js_store.specs.Limits.{limit_units}
use Rattle.heap_rule.specs.declared.view.View.{View}
use Rattle.heap_session.specs.Sessions.{table_of}
use Rattle.heap_intern.proofs.KeptKeys.{keys_by}
use Rattle.heap_session.proofs.Lately.{kept_by}
use Rattle.heap_session.proofs.OneUnit.{singles_by}
use Rattle.heap_session.proofs.MadeLately.{recent_by}
use Rattle.heap_session.proofs.States.{history_reads, step_reads, test_settled, uses_at}
use Rattle.heap_read.proofs.Loaded.{reads_refl}
use Rattle.heap_intern.proofs.Hashes.{hashes_kept}
use Rattle.heap_session.specs.Noted.{hashes_in}
use Rattle.heap_session.proofs.session.Session.recent_of.Goals as goal

pub has_units-requires-clause-settled : goal.has_units-requires-clause-settled
has_units-requires-clause-settled g c = let s = c.args.self.now in let v : View = s.text.reader.agent.seat.me.0 in test_settled v c.in-Some.kept.id (c.in-Some.ensures v s.recent_kept).1

pub invariant_of-self : goal.invariant_of-self
invariant_of-self g c = let s = c.args.self.now in let v : View = s.text.reader.agent.seat.me.0 in
    let w : View = c.has_units.new.text.reader.agent.seat.me.0 in let k = c.has_units.ensures.reads.known in record {
      one_limit = c.has_units.ensures.limit ∙ s.one_limit;
      last_kept = kept_by v w k s.last s.last_kept;
      older_kept = kept_by v w k s.older s.older_kept;
      singles_kept = singles_by v w k s.singles.ids s.singles_kept;
      recent_kept = recent_by v w k s.recent.ids s.recent_kept;
      keys_kept = keys_by v w s.text.reader.belongs.5 k c.has_units.ensures.reads.sizes s.keys.all s.keys_kept;
      hashes_noted = hashes_kept v w k (hashes_in s.noted) s.hashes_noted;
    }

pub returns-then-has_units-clause-uses : goal.returns-then-has_units-clause-uses
returns-then-has_units-clause-uses g c = let s = c.args.self.now in let v : View = s.text.reader.agent.seat.me.0 in
    let w : View = c.has_units.new.text.reader.agent.seat.me.0 in let l = limit_units s.limit in
    let t = table_of (g.H.HeapRef.reached s.text.reader.heap) in let e = c.has_units.ensures in
    uses_at v w l t (table_of (g.H.HeapRef.reached c.has_units.new.text.reader.heap)) None 0 0
    (ap (λ x. table_of (g.H.HeapRef.reached x)) e.heap) (history_reads v w e.reads) tt (step_reads v w l t s.text.reader.belongs.5 e.reads)

pub returns-clause-uses : goal.returns-clause-uses
returns-clause-uses g c = let s = c.args.self.now in let v : View = s.text.reader.agent.seat.me.0 in
    let w : View = c.has_units.new.text.reader.agent.seat.me.0 in let l = limit_units s.limit in
    let t = table_of (g.H.HeapRef.reached s.text.reader.heap) in let e = c.has_units.ensures in
    uses_at v w l t (table_of (g.H.HeapRef.reached c.has_units.new.text.reader.heap)) None 0 0
    (ap (λ x. table_of (g.H.HeapRef.reached x)) e.heap) (history_reads v w e.reads) tt (step_reads v w l t s.text.reader.belongs.5 e.reads)

pub returns-in-None-clause-reads : goal.returns-in-None-clause-reads
returns-in-None-clause-reads g c = reads_refl c.args.self.now.text.reader.agent.seat.me.0
