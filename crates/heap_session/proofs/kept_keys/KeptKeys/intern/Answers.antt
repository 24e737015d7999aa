use Rattle.heap_rule.specs.declared.view.View.{View}
use Rattle.heap_intern.specs.Seats.{IsSeatOf}
use Rattle.heap_intern.proofs.Hashes.{hashes_kept}
use Rattle.heap_intern.proofs.KeptKeys.{keys_by}
use Rattle.heap_session.specs.Noted.{hashes_in}
use Rattle.heap_session.proofs.NotesKept.{passes_again}
use Rattle.heap_session.proofs.kept_keys.KeptKeys.intern.Goals as goal

pub intern_again-requires : goal.intern_again-requires
intern_again-requires g c = (c.args.units.now, c.in-Some.ensures c.args.reader.now.agent.seat.me.0 c.requires.kept)

pub returns-in-Some-clause-interns : goal.returns-in-Some-clause-interns
returns-in-Some-clause-interns g c = c.intern_again.ensures.interns c.args.units.now (c.in-Some.ensures c.args.reader.now.agent.seat.me.0 c.requires.kept).1

pub returns-in-Some-clause-kept : goal.returns-in-Some-clause-kept
returns-in-Some-clause-kept g c = let v : View = c.args.reader.now.agent.seat.me.0 in let w : View = c.intern_again.new.reader.agent.seat.me.0 in
    let goes = (returns-in-Some-clause-interns g c).answer.0 in keys_by v w c.args.reader.now.belongs.5 goes.known goes.sizes c.args.self.now.all c.requires.kept

pub returns-in-Some-clause-hashed : goal.returns-in-Some-clause-hashed
returns-in-Some-clause-hashed g c = let v : View = c.args.reader.now.agent.seat.me.0 in let w : View = c.intern_again.new.reader.agent.seat.me.0 in
    hashes_kept v w (returns-in-Some-clause-interns g c).answer.0.known (hashes_in c.args.noted.now) c.requires.hashed

pub returns-in-Some-clause-passes : goal.returns-in-Some-clause-passes
returns-in-Some-clause-passes g c = let v : View = c.args.reader.now.agent.seat.me.0 in let w : View = c.intern_again.new.reader.agent.seat.me.0 in
    let seat : IsSeatOf v c.args.units.now c.in-Some.seat = c.in-Some.ensures v c.requires.kept in
    passes_again v w c.args.units.now (hashes_in c.args.noted.now) c.in-Some.seat c.requires.hashed seat c.intern_again.ensures.loads

pub returns-in-Err-clause-kept : goal.returns-in-Err-clause-kept
returns-in-Err-clause-kept g c = let v : View = c.args.reader.now.agent.seat.me.0 in let w : View = c.intern_units.new.reader.agent.seat.me.0 in
    let goes = c.in-Err.ensures.interns.answer.0 in keys_by v w c.args.reader.now.belongs.5 goes.known goes.sizes c.args.self.now.all c.requires.kept

pub returns-in-Ok-clause-kept : goal.returns-in-Ok-clause-kept
returns-in-Ok-clause-kept g c = let v : View = c.args.reader.now.agent.seat.me.0 in let w : View = c.intern_units.new.reader.agent.seat.me.0 in
    let goes = c.in-Ok.ensures.interns.answer.0 in
    c.keep_key.ensures.right w (keys_by v w c.args.reader.now.belongs.5 goes.known goes.sizes c.args.self.now.all c.requires.kept) c.in-Ok.ensures.seated
