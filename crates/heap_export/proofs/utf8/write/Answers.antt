use Rattle.std.proofs.Common.{sym, subst, ℕ, Option}
use Rattle.heap_table.specs.Agents.{view_of}
use Rattle.heap_export.specs.Encoded.{IsEncodedInto, bytes_of}
use Rattle.heap_export.proofs.Windows.{loads_on, still_shown}
use Rattle.heap_export.proofs.utf8.write.Goals as goal

pub write_all-requires : goal.write_all-requires
write_all-requires g c = let us = c.requires.window.0 in let h = c.requires.window.1 in
    record { size = (us, still_shown (view_of c.args.text.now.reader.agent) (view_of c.size_of.new.text.reader.agent) c.args.w us c.size_of.ensures.loads h, c.in-Ok.ensures.size us h) }

pub returns-in-Ok-clause-loads : goal.returns-in-Ok-clause-loads
returns-in-Ok-clause-loads g c = loads_on (view_of c.args.text.now.reader.agent) (view_of c.size_of.new.text.reader.agent)
    (view_of c.write_all.new.text.reader.agent) c.size_of.ensures.loads c.write_all.ensures.loads

pub returns-in-Ok-clause-written : goal.returns-in-Ok-clause-written
returns-in-Ok-clause-written g c us h =
    subst (λ (o : Option ℕ). IsEncodedInto o (bytes_of c.args.unpaired us) c.args.out.now c.write_all.new.out c.write_all.result) (sym (c.in-Ok.ensures.whole us h))
    (c.write_all.ensures.written us (still_shown (view_of c.args.text.now.reader.agent) (view_of c.size_of.new.text.reader.agent) c.args.w us c.size_of.ensures.loads h) (c.in-Ok.ensures.size us h))
