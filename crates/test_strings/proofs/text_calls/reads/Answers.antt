use Rattle.heap_rule.specs.declared.view.View.{View}
use Rattle.heap_rule.proofs.MapLemmas.{has_key}
use Rattle.std.proofs.Common.{◌∙◌, sym, arith}
use Rattle.heap_read.proofs.Going.{continues_reads, continues_trans}
use Rattle.heap_read.proofs.Loaded.{known_trans, reads_trans}
use Rattle.heap_read.proofs.Showing.{forms_held, window_frozen, window_kept, window_length}
use Rattle.test_strings.proofs.Turning.{turns_continues}
use Rattle.test_strings.proofs.text_calls.reads.Goals as goal

pub loop-i-init : goal.loop-i-init
loop-i-init c = let v : View = c.args.text.now.reader.agent.seat.me.0 in let w1 : View = c.settle.new.self.reader.agent.seat.me.0 in
    let w2 : View = c.len.new.self.reader.agent.seat.me.0 in let w3 : View = c.window-window.new.self.reader.agent.seat.me.0 in
    let s = c.settle.ensures.continues in let r = reads_trans w1 w2 w3 c.len.ensures.reads c.window-window.ensures.reads in
    let k2 = known_trans v w1 w2 s.known c.len.ensures.reads.known in let p = has_key v.units c.args.s.id c.requires.known in
    let n = c.len.ensures.length p.0 (s.known.units c.args.s.id p.0 p.1) in let m = (c.window-window.ensures.shows p.0 (k2.units c.args.s.id p.0 p.1)).1 in let test = c.if-len-want.false in record {
      heap = c.window-window.ensures.kept.heap ∙ (c.len.ensures.kept.heap ∙ c.settle.ensures.kept.heap);
      continues = continues_trans v w1 w3 s (continues_reads w1 w3 r);
      settled = r.known.settled c.args.s.id c.in-Ok.ensures.settles.settled;
      shows = λ us h. (c.window-window.ensures.shows us (k2.units c.args.s.id us h)).0;
      count = omega arith;
    }

pub unit_in-requires-clause-frozen : goal.unit_in-requires-clause-frozen
unit_in-requires-clause-frozen c = let v : View = c.args.text.now.reader.agent.seat.me.0 in let p = has_key v.units c.args.s.id c.requires.known in
    window_frozen c.loop-i.text.reader.agent.seat.me.0 c.window-window.result p.0 (c.loop-i.invariant.shows p.0 p.1)

pub loop-i-preserved : goal.loop-i-preserved
loop-i-preserved c = let v : View = c.args.text.now.reader.agent.seat.me.0 in let u : View = c.loop-i.text.reader.agent.seat.me.0 in let x : View = c.unit_in.new.self.reader.agent.seat.me.0 in
    let i = c.loop-i.invariant in let e = c.unit_in.ensures in record {
      heap = e.kept.heap ∙ i.heap;
      continues = continues_trans v u x i.continues (continues_reads u x e.reads);
      settled = e.reads.known.settled c.args.s.id i.settled;
      shows = λ us h. window_kept u x (forms_held u x e.forms.0) c.window-window.result us e.reads.known (i.shows us h);
      count = i.count;
    }

pub loop-k-init : goal.loop-k-init
loop-k-init c = let i = c.loop-i.invariant in record {
  heap = i.heap;
  continues = i.continues;
  settled = i.settled;
  long = λ us h. sym (window_length c.loop-i.text.reader.agent.seat.me.0 c.window-window.result us (i.shows us h));
  count = i.count;
}

pub unit_at-requires-clause-within : goal.unit_at-requires-clause-within
unit_at-requires-clause-within c = let v : View = c.args.text.now.reader.agent.seat.me.0 in let p = has_key v.units c.args.s.id c.requires.known in
    let n = c.loop-k.invariant.long p.0 p.1 in let l = c.loop-k-test.true in (p.0, c.loop-k.invariant.continues.known.units c.args.s.id p.0 p.1, omega arith)

pub loop-k-preserved : goal.loop-k-preserved
loop-k-preserved c = let v : View = c.args.text.now.reader.agent.seat.me.0 in let u : View = c.loop-k.text.reader.agent.seat.me.0 in let x : View = c.unit_at.new.self.reader.agent.seat.me.0 in
    let i = c.loop-k.invariant in let e = c.unit_at.ensures in record {
      heap = e.kept.heap ∙ i.heap;
      continues = continues_trans v u x i.continues (continues_reads u x e.reads);
      settled = e.reads.known.settled c.args.s.id i.settled;
      long = i.long;
      count = i.count;
    }

pub returns-then-unit_in-want : goal.returns-then-unit_in-want
returns-then-unit_in-want c = let u : View = c.loop-i.text.reader.agent.seat.me.0 in let x : View = c.unit_in.new.self.reader.agent.seat.me.0 in record {
  goes = record {
    heap = c.unit_in.ensures.kept.heap ∙ c.loop-i.invariant.heap;
    view = turns_continues _ x (continues_trans c.args.text.now.reader.agent.seat.me.0 u x c.loop-i.invariant.continues (continues_reads u x c.unit_in.ensures.reads));
  };
}

pub returns-then-unit_at-want : goal.returns-then-unit_at-want
returns-then-unit_at-want c = let u : View = c.loop-k.text.reader.agent.seat.me.0 in let x : View = c.unit_at.new.self.reader.agent.seat.me.0 in record {
  goes = record {
    heap = c.unit_at.ensures.kept.heap ∙ c.loop-k.invariant.heap;
    view = turns_continues _ x (continues_trans c.args.text.now.reader.agent.seat.me.0 u x c.loop-k.invariant.continues (continues_reads u x c.unit_at.ensures.reads));
  };
}

pub returns-then-len-want : goal.returns-then-len-want
returns-then-len-want c = let w1 : View = c.settle.new.self.reader.agent.seat.me.0 in let w2 : View = c.len.new.self.reader.agent.seat.me.0 in record {
  goes = record {
    heap = c.len.ensures.kept.heap ∙ c.settle.ensures.kept.heap;
    view = turns_continues _ w2 (continues_trans c.args.text.now.reader.agent.seat.me.0 w1 w2 c.settle.ensures.continues (continues_reads w1 w2 c.len.ensures.reads));
  };
}
