use Rattle.std.proofs.Common.{◌≡◌, ◌∙◌, sym, subst, ℕ, Option, None}
use Rattle.heap_table.specs.Agents.{view_of}
use Rattle.heap_export.specs.Encoded.{IsEncodedInto, past_latin1}
use Rattle.heap_export.proofs.Windows.{loads_on, still_shown}
use Rattle.heap_export.proofs.latin1.write.Goals as goal

pub write_all-requires : goal.write_all-requires
write_all-requires g c = let us = c.requires.window.0 in let h = c.requires.window.1 in
    record {
      narrow = (
        us,
        still_shown (view_of c.args.text.now.reader.agent) (view_of c.first_past.new.text.reader.agent) c.args.w us
            c.first_past.ensures.loads h,
        sym (c.first_past.ensures.first us h) ∙ c.in-None.is,
      );
    }

pub returns-in-None-clause-loads : goal.returns-in-None-clause-loads
returns-in-None-clause-loads g c = loads_on (view_of c.args.text.now.reader.agent) (view_of c.first_past.new.text.reader.agent)
    (view_of c.write_all.new.text.reader.agent) c.first_past.ensures.loads c.write_all.ensures.loads

pub returns-in-None-clause-written : goal.returns-in-None-clause-written
returns-in-None-clause-written g c us h =
    let none : None ≡ past_latin1 0 us = sym c.in-None.is ∙ c.first_past.ensures.first us h in
    subst (λ (o : Option ℕ). IsEncodedInto o us c.args.out.now c.write_all.new.out c.write_all.result) none
    (c.write_all.ensures.written us (still_shown (view_of c.args.text.now.reader.agent) (view_of c.first_past.new.text.reader.agent) c.args.w us c.first_past.ensures.loads h))
