use Rattle.heap_rule.specs.declared.view.View.{View}
use Rattle.heap_read.proofs.Loaded.{reads_trans}
use Rattle.heap_text.proofs.Linking.{side_kept}
use Rattle.heap_text.proofs.making.side_forms.Goals as goal

pub returns-clause-reads : goal.returns-clause-reads
returns-clause-reads g c = let v : View = c.args.reader.now.agent.seat.me.0 in
    let u : View = c.form_now-front.new.self.agent.seat.me.0 in record {
      heap = cc;
      view = reads_trans v u c.form_now.new.self.agent.seat.me.0 c.form_now-front.ensures.reads.view c.form_now.ensures.reads.view;
    }

pub returns-clause-sides : goal.returns-clause-sides
returns-clause-sides g c = (
  side_kept c.form_now-front.new.self.agent.seat.me.0 c.form_now.new.self.agent.seat.me.0
      c.form_now.ensures.reads.view.known c.form_now-front.result c.form_now-front.ensures.side,
  c.form_now.ensures.side,
)
