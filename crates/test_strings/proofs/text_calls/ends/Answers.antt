use Rattle.std.proofs.Common.{◌∙◌}
use Rattle.heap_rule.specs.declared.view.View.{View}
use Rattle.heap_rule.proofs.MapLemmas.{has_key, key_of}
use Rattle.heap_read.proofs.Going.{continues_reads, continues_trans}
use Rattle.heap_read.proofs.Loaded.{reads_trans}
use Rattle.heap_read.proofs.Showing.{forms_held, window_frozen, window_kept}
use Rattle.test_strings.proofs.Turning.{turns_continues}
use Rattle.test_strings.proofs.text_calls.ends.Goals as goal

pub window-window-requires-clause-known : goal.window-window-requires-clause-known
window-window-requires-clause-known g c = let v : View = c.args.text.now.reader.agent.seat.me.0 in let p = has_key v.units c.args.s.id c.requires.known in
    key_of c.settle_counted.new.self.reader.agent.seat.me.0.units c.args.s.id p.0 (c.settle_counted.ensures.continues.known.units c.args.s.id p.0 p.1)

pub unit_in-requires-clause-frozen : goal.unit_in-requires-clause-frozen
unit_in-requires-clause-frozen g c = let v : View = c.args.text.now.reader.agent.seat.me.0 in
    let p = has_key v.units c.args.s.id c.requires.known in let w : View = c.window-window.new.self.reader.agent.seat.me.0 in
    let x : View = c.unit_in-first.new.self.reader.agent.seat.me.0 in
    let shows = (c.window-window.ensures.shows p.0 (c.settle_counted.ensures.continues.known.units c.args.s.id p.0 p.1)).0 in
    window_frozen x c.window-window.result p.0 (window_kept w x (forms_held w x c.unit_in-first.ensures.forms.0) c.window-window.result p.0 c.unit_in-first.ensures.reads.known shows)

pub returns-then-window-eq0 : goal.returns-then-window-eq0
returns-then-window-eq0 g c = let v : View = c.args.text.now.reader.agent.seat.me.0 in
    let u : View = c.settle_counted.new.self.reader.agent.seat.me.0 in let w : View = c.window-window.new.self.reader.agent.seat.me.0 in
    record {
      goes = record {
        heap = c.window-window.ensures.kept.heap ∙ c.settle_counted.ensures.kept.heap;
        view = turns_continues v w (continues_trans v u w c.settle_counted.ensures.continues (continues_reads u w c.window-window.ensures.reads));
      };
    }

pub returns : goal.returns
returns g c = let v : View = c.args.text.now.reader.agent.seat.me.0 in let u : View = c.settle_counted.new.self.reader.agent.seat.me.0 in
    let w : View = c.window-window.new.self.reader.agent.seat.me.0 in let x : View = c.unit_in-first.new.self.reader.agent.seat.me.0 in
    let y : View = c.unit_in.new.self.reader.agent.seat.me.0 in
    record {
      goes = record {
        heap = c.unit_in.ensures.kept.heap ∙ (c.unit_in-first.ensures.kept.heap ∙ (c.window-window.ensures.kept.heap ∙ c.settle_counted.ensures.kept.heap));
        view = turns_continues v y (continues_trans v u y c.settle_counted.ensures.continues
            (continues_reads u y (reads_trans u w y c.window-window.ensures.reads (reads_trans w x y c.unit_in-first.ensures.reads c.unit_in.ensures.reads))));
      };
    }
