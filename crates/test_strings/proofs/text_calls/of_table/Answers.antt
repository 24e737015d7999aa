use Rattle.std.proofs.Common.{Ok, Err}
use Rattle.heap_rule.specs.declared.view.View.{View}
use Rattle.heap_intern.specs.Answers.{copy_plan}
use Rattle.heap_intern.proofs.Hashes.{no_hashes}
use Rattle.test_strings.proofs.Turning.{found_key, turns_finds, turns_interns}
use Rattle.test_strings.proofs.text_calls.of_table.Goals as goal

pub intern_units-requires-clause-hashed : goal.intern_units-requires-clause-hashed
intern_units-requires-clause-hashed c = no_hashes c.args.text.now.reader.agent.seat.me.0

pub returns-in-Ok-clause-goes : goal.returns-in-Ok-clause-goes
returns-in-Ok-clause-goes c = let v : View = c.args.text.now.reader.agent.seat.me.0 in let w : View = c.intern_units.new.reader.agent.seat.me.0 in let e = c.in-Ok.ensures in
    record { heap = c.intern_units.ensures.heap; view = turns_interns v w c.args.units.now (copy_plan c.args.units.now) (Ok c.in-Ok.seat.id) e.interns.answer }

pub returns-in-Err-clause-goes : goal.returns-in-Err-clause-goes
returns-in-Err-clause-goes c = let v : View = c.args.text.now.reader.agent.seat.me.0 in let w : View = c.intern_units.new.reader.agent.seat.me.0 in let e = c.in-Err.ensures in
    record { heap = c.intern_units.ensures.heap; view = turns_interns v w c.args.units.now (copy_plan c.args.units.now) (Err c.in-Err.full) e.interns.answer }

pub returns-in-Some-clause-goes : goal.returns-in-Some-clause-goes
returns-in-Some-clause-goes c = let v : View = c.args.text.now.reader.agent.seat.me.0 in let w : View = c.find_units.new.reader.agent.seat.me.0 in let e = c.find_units.ensures in
    record { heap = e.heap; view = turns_finds v w c.args.units.now c.find_units.result e.finds }

pub returns-in-None-clause-goes : goal.returns-in-None-clause-goes
returns-in-None-clause-goes c = let v : View = c.args.text.now.reader.agent.seat.me.0 in let w : View = c.find_units.new.reader.agent.seat.me.0 in let e = c.find_units.ensures in
    record { heap = e.heap; view = turns_finds v w c.args.units.now c.find_units.result e.finds }
