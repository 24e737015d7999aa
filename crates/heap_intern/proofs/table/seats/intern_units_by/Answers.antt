use Rattle.std.proofs.Common.{◌∙◌, refl, ap}
use Rattle.js_units.specs.Lanes.{hash_of}
use Rattle.heap_rule.specs.declared.view.View.{View}
use Rattle.heap_intern.specs.Answers.{copy_plan}
use Rattle.heap_intern.specs.Seats.{id_in}
use Rattle.heap_intern.specs.SlotLoads.{answered}
use Rattle.heap_intern.proofs.Again.{found_again}
use Rattle.heap_intern.proofs.Loading.{slots_few}
use Rattle.heap_intern.proofs.Seats.{seated_all}
use Rattle.heap_intern.proofs.table.seats.intern_units_by.Goals as goal

pub intern_wanted-requires-clause-wanted : goal.intern_wanted-requires-clause-wanted
intern_wanted-requires-clause-wanted g c = (c.args.units.now, (refl, c.requires.short))

pub intern_wanted-requires-clause-hash : goal.intern_wanted-requires-clause-hash
intern_wanted-requires-clause-hash g c us h = c.hash_units-hash.ensures ∙ ap hash_of h.0

pub returns-clause-interns : goal.returns-clause-interns
returns-clause-interns g c = let v : View = c.args.reader.now.agent.seat.me.0 in let w : View = c.intern_wanted.new.reader.agent.seat.me.0 in
    let us = c.args.units.now in let done = c.intern_wanted.ensures.interns us (refl, c.requires.short) in record {
      answer = done;
      again = λ i u s. found_again v w us c.args.reader.now.belongs.5 c.intern_wanted.new.reader.belongs.5 i u s (copy_plan us) (id_in c.intern_wanted.result) done;
      forms = c.intern_wanted.ensures.forms;
      few = slots_few v w (answered (id_in c.intern_wanted.result)) _ c.intern_wanted.new.steps c.intern_wanted.ensures.loads;
    }

pub returns-clause-seated : goal.returns-clause-seated
returns-clause-seated g c = let v : View = c.args.reader.now.agent.seat.me.0 in let w : View = c.intern_wanted.new.reader.agent.seat.me.0 in
    let us = c.args.units.now in seated_all v w us (copy_plan us) _ c.intern_wanted.result (refl, c.requires.short)
    (c.intern_wanted.ensures.interns us (refl, c.requires.short)) c.intern_wanted.ensures.stands

pub returns-clause-notes : goal.returns-clause-notes
returns-clause-notes g c = c.intern_wanted.ensures.notes c.args.units.now (refl, c.requires.short)
