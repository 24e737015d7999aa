use Rattle.std.proofs.Common.{subst, sym}
use Rattle.heap_rule.specs.declared.view.View.{View}
use Rattle.heap_rule.specs.Maps.{Has}
use Rattle.heap_rule.proofs.MapLemmas.{insert_same}
use Rattle.heap_read.proofs.Leading.{led_later, led_window}
use Rattle.heap_read.proofs.Loaded.{reads_length}
use Rattle.heap_read.proofs.Storing.{forms_length}
use Rattle.heap_read.proofs.reader.Reader.window_over.Goals as goal

pub returns-clause-reads : goal.returns-clause-reads
returns-clause-reads g c = let f = c.load_length.ensures in record {
  heap = cc;
  view = reads_length c.args.self.now.agent.seat.me.0 c.load_length.new.self.seat.me.0 c.args.by c.load_length.result f.known f.view;
}

pub returns-clause-forms : goal.returns-clause-forms
returns-clause-forms g c = forms_length c.args.self.now.agent.seat.me.0 c.load_length.new.self.seat.me.0 c.args.by c.load_length.result c.load_length.ensures.view

pub returns-clause-shows : goal.returns-clause-shows
returns-clause-shows g c us h = let v : View = c.args.self.now.agent.seat.me.0 in let w : View = c.load_length.new.self.seat.me.0 in let f = c.load_length.ensures in let n = c.load_length.result in
    led_window v w c.args.of.id c.args.by c.args.run.wide c.args.run.start c.args.before n us f.belongs.5 f.forms f.known c.requires.led
    (subst (λ (x : View). Has x.lengths c.args.by n) (sym f.view) (insert_same v.lengths c.args.by n)) (f.known.units c.args.of.id us h)

pub returns-clause-over : goal.returns-clause-over
returns-clause-over g c = let v : View = c.args.self.now.agent.seat.me.0 in let w : View = c.load_length.new.self.seat.me.0 in let f = c.load_length.ensures in let n = c.load_length.result in record {
  by = c.args.by;
  led = led_later v w c.args.of.id c.args.by c.args.run.wide c.args.run.start c.args.before f.forms c.requires.led;
  long = subst (λ (x : View). Has x.lengths c.args.by n) (sym f.view) (insert_same v.lengths c.args.by n);
}
