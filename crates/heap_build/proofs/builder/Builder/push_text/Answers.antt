use Rattle.std.proofs.Common.{ap, arith, length, length-append}
use Rattle.heap_rule.proofs.MapLemmas.{has_key}
use Rattle.heap_table.specs.Agents.{view_of}
use Rattle.heap_read.proofs.Loaded.{reads_trans}
use Rattle.heap_build.proofs.builder.Builder.push_text.Goals as goal

pub fill_window-requires-clause-window : goal.fill_window-requires-clause-window
fill_window-requires-clause-window g c = let u = has_key (view_of c.args.text.now.reader.agent).units c.args.s.id c.requires.known in (u.0, (c.window-window.ensures.shows u.0 u.1).0)

pub invariant_of-self : goal.invariant_of-self
invariant_of-self g c = let u = has_key (view_of c.args.text.now.reader.agent).units c.args.s.id c.requires.known in let shown = c.window-window.ensures.shows u.0 u.1 in
    record {
      short = omega (
        arith,
        ap length (c.fill_window.ensures.added u.0 shown.0),
        length-append c.make_room.new.self.units.items u.0,
        ap length c.make_room.ensures.units,
        c.in-Ok.ensures.answer.0,
        shown.1,
      );
    }

pub returns-in-Ok-clause-reads : goal.returns-in-Ok-clause-reads
returns-in-Ok-clause-reads g c = reads_trans _ _ _ c.window-window.ensures.reads c.fill_window.ensures.reads
