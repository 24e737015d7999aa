use Rattle.std.proofs.Common.{◌∙◌}
use Rattle.heap_rule.specs.declared.view.View.{View}
use Rattle.heap_intern.proofs.KeptKeys.{keys_by}
use Rattle.heap_session.proofs.Lately.{kept_by}
use Rattle.heap_session.proofs.OneUnit.{singles_by}
use Rattle.heap_session.proofs.MadeLately.{recent_by}
use Rattle.heap_intern.proofs.Hashes.{hashes_kept}
use Rattle.heap_session.specs.Noted.{hashes_in}
use Rattle.heap_session.proofs.session.Session.unit_by_loads.Goals as goal

pub invariant_of-self : goal.invariant_of-self
invariant_of-self g c = let s = c.args.self.now in let v : View = s.text.reader.agent.seat.me.0 in
    let w : View = c.word_with-unit.new.text.reader.agent.seat.me.0 in let e = c.word_with-unit.ensures in record {
      one_limit = e.limit ∙ s.one_limit;
      last_kept = e.kept;
      older_kept = kept_by v w e.reads.known s.older s.older_kept;
      singles_kept = singles_by v w e.reads.known s.singles.ids s.singles_kept;
      recent_kept = recent_by v w e.reads.known s.recent.ids s.recent_kept;
      keys_kept = keys_by v w s.text.reader.belongs.5 e.reads.known e.reads.sizes s.keys.all s.keys_kept;
      hashes_noted = hashes_kept v w e.reads.known (hashes_in s.noted) s.hashes_noted;
    }

pub invariant_of-self-2 : goal.invariant_of-self-2
invariant_of-self-2 g c = let s = c.args.self.now in let v : View = s.text.reader.agent.seat.me.0 in
    let w : View = c.word_with-unit.new.text.reader.agent.seat.me.0 in let e = c.word_with-unit.ensures in record {
      one_limit = e.limit ∙ s.one_limit;
      last_kept = e.kept;
      older_kept = kept_by v w e.reads.known s.last s.last_kept;
      singles_kept = singles_by v w e.reads.known s.singles.ids s.singles_kept;
      recent_kept = recent_by v w e.reads.known s.recent.ids s.recent_kept;
      keys_kept = keys_by v w s.text.reader.belongs.5 e.reads.known e.reads.sizes s.keys.all s.keys_kept;
      hashes_noted = hashes_kept v w e.reads.known (hashes_in s.noted) s.hashes_noted;
    }
