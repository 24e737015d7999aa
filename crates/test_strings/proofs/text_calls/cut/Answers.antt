use Rattle.std.proofs.Common.{◌-◌, ◌∙◌, arith}
use Rattle.heap_rule.specs.declared.view.View.{View}
use Rattle.heap_rule.proofs.MapLemmas.{has_key}
use Rattle.heap_read.proofs.Going.{continues_reads, continues_trans}
use Rattle.heap_read.proofs.Loaded.{key_kept}
use Rattle.test_strings.proofs.Turning.{cut_known, turns_continues}
use Rattle.test_strings.proofs.text_calls.cut.Goals as goal

pub len-n-requires : goal.len-n-requires
len-n-requires c = record { known = key_kept c.args.text.now.reader.agent.seat.me.0 c.settle.new.self.reader.agent.seat.me.0 c.args.s.id c.settle.ensures.continues.known c.requires.known }

pub slice-requires-clause-settled : goal.slice-requires-clause-settled
slice-requires-clause-settled c = c.len-n.ensures.reads.known.settled c.args.s.id c.in-Ok.ensures.settles.settled

pub slice-requires-clause-within : goal.slice-requires-clause-within
slice-requires-clause-within c = let v : View = c.args.text.now.reader.agent.seat.me.0 in
    let p = has_key v.units c.args.s.id c.requires.known in let there = c.settle.ensures.continues.known.units c.args.s.id p.0 p.1 in
    let n = c.len-n.ensures.length p.0 there in (p.0, c.len-n.ensures.reads.known.units c.args.s.id p.0 there, omega arith, omega arith)

pub returns-then-from-to-clause-goes : goal.returns-then-from-to-clause-goes
returns-then-from-to-clause-goes c = let w : View = c.settle.new.self.reader.agent.seat.me.0 in let x : View = c.len-n.new.self.reader.agent.seat.me.0 in
    record {
      heap = c.len-n.ensures.kept.heap ∙ c.settle.ensures.kept.heap;
      view = turns_continues _ x (continues_trans c.args.text.now.reader.agent.seat.me.0 w x c.settle.ensures.continues
          (continues_reads w x c.len-n.ensures.reads));
    }

pub returns-clause-goes : goal.returns-clause-goes
returns-clause-goes c = let w : View = c.settle.new.self.reader.agent.seat.me.0 in let x : View = c.len-n.new.self.reader.agent.seat.me.0 in let y : View = c.slice.new.self.reader.agent.seat.me.0 in
    record {
      heap = c.slice.ensures.kept.heap ∙ (c.len-n.ensures.kept.heap ∙ c.settle.ensures.kept.heap);
      view = turns_continues _ y (continues_trans c.args.text.now.reader.agent.seat.me.0 w y c.settle.ensures.continues
          (continues_trans w x y (continues_reads w x c.len-n.ensures.reads) c.slice.ensures.continues));
    }

pub returns-clause-known : goal.returns-clause-known
returns-clause-known c = let v : View = c.args.text.now.reader.agent.seat.me.0 in let p = has_key v.units c.args.s.id c.requires.known in
    let there = c.settle.ensures.continues.known.units c.args.s.id p.0 p.1 in
    cut_known c.len-n.new.self.reader.agent.seat.me.0 c.slice.new.self.reader.agent.seat.me.0 c.args.s.id c.args.from
    (c.args.to - c.args.from) c.slice.result p.0 (c.len-n.ensures.reads.known.units c.args.s.id p.0 there) c.slice.ensures.units
