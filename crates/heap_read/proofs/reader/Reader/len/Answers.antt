use Rattle.std.proofs.Common.{subst, sym}
use Rattle.heap_rule.specs.declared.view.View.{View}
use Rattle.heap_rule.specs.Maps.{Has}
use Rattle.heap_rule.proofs.MapLemmas.{insert_same}
use Rattle.heap_rule.proofs.Possible.{possible_length}
use Rattle.heap_read.proofs.Loaded.{reads_length}
use Rattle.heap_read.proofs.Storing.{forms_length}
use Rattle.heap_read.proofs.reader.Reader.len.Goals as goal

pub returns-clause-length : goal.returns-clause-length
returns-clause-length g c us h = let v : View = c.args.self.now.agent.seat.me.0 in let w : View = c.load_length.new.self.seat.me.0 in let e = c.load_length.ensures in
    possible_length w e.belongs.5 c.args.s.id c.load_length.result us (e.known.units c.args.s.id us h)
    (subst (λ (x : View). Has x.lengths c.args.s.id c.load_length.result) (sym e.view) (insert_same v.lengths c.args.s.id c.load_length.result))

pub returns-clause-reads : goal.returns-clause-reads
returns-clause-reads g c = let e = c.load_length.ensures in record {
  heap = cc;
  view = reads_length c.args.self.now.agent.seat.me.0 c.load_length.new.self.seat.me.0 c.args.s.id c.load_length.result e.known e.view;
}

pub returns-clause-forms : goal.returns-clause-forms
returns-clause-forms g c = forms_length c.args.self.now.agent.seat.me.0 c.load_length.new.self.seat.me.0 c.args.s.id c.load_length.result c.load_length.ensures.view
