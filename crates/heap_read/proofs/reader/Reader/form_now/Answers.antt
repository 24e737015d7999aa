use Rattle.heap_read.proofs.Loaded.{reads_form}
use Rattle.heap_read.proofs.Seeing.{one_load, others_stay, side_met, target_met}
use Rattle.heap_read.proofs.Showing.{form_there}
use Rattle.heap_read.proofs.reader.Reader.form_now.Goals as goal

pub returns-clause-reads : goal.returns-clause-reads
returns-clause-reads g c = let e = c.load_form.ensures in record { heap = cc; view = reads_form c.args.self.now.agent.seat.me.0 c.load_form.new.self.seat.me.0 c.args.id e.view.0 e.known e.view.2 }

pub returns-clause-seen : goal.returns-clause-seen
returns-clause-seen g c = let e = c.load_form.ensures in form_there c.args.self.now.agent.seat.me.0 c.load_form.new.self.seat.me.0 c.args.id e.view.0 c.load_form.result e.view.1 e.view.2

pub returns-clause-others : goal.returns-clause-others
returns-clause-others g c i ne = let e = c.load_form.ensures in others_stay c.args.self.now.agent.seat.me.0 c.load_form.new.self.seat.me.0 c.args.id e.view.0 i e.view.2 ne

pub returns-clause-side : goal.returns-clause-side
returns-clause-side g c = let e = c.load_form.ensures in side_met c.args.self.now.agent.seat.me.0 c.load_form.new.self.seat.me.0 c.args.id e.view.0 c.load_form.result e.view.1 e.view.2

pub returns-clause-loads : goal.returns-clause-loads
returns-clause-loads g c = let e = c.load_form.ensures in one_load c.args.self.now.agent.seat.me.0 c.load_form.new.self.seat.me.0 c.args.id e.view.0 e.view.2

pub returns-clause-target : goal.returns-clause-target
returns-clause-target g c t is known =
    let e = c.load_form.ensures in target_met c.args.self.now.agent.seat.me.0 c.load_form.new.self.seat.me.0 c.args.id e.view.0 t
    c.load_form.result e.view.1 is e.view.2 known
