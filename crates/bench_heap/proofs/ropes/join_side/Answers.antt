use Rattle.heap_rule.specs.declared.view.View.{View}
use Rattle.heap_rule.proofs.MapLemmas.{has_key, key_of}
use Rattle.bench_heap.proofs.ropes.join_side.Goals as goal

pub returns-then-front-clause-side : goal.returns-then-front-clause-side
returns-then-front-clause-side c = let v : View = c.args.text.now.reader.agent.seat.me.0 in
    let p = has_key v.units c.args.side.id c.requires.side in key_of c.concat.new.self.reader.agent.seat.me.0.units c.args.side.id p.0
    (c.concat.ensures.continues.known.units c.args.side.id p.0 p.1)

pub returns-then-front-clause-known : goal.returns-then-front-clause-known
returns-then-front-clause-known c = let v : View = c.args.text.now.reader.agent.seat.me.0 in
    let p = has_key v.units c.args.side.id c.requires.side in let q = has_key v.units c.args.s.id c.requires.known in
    key_of c.concat.new.self.reader.agent.seat.me.0.units c.in-Ok.t.id _ (c.in-Ok.ensures.units p.0 q.0 p.1 q.1)

pub returns-clause-side : goal.returns-clause-side
returns-clause-side c = let v : View = c.args.text.now.reader.agent.seat.me.0 in
    let p = has_key v.units c.args.side.id c.requires.side in key_of c.concat-2.new.self.reader.agent.seat.me.0.units c.args.side.id p.0
    (c.concat-2.ensures.continues.known.units c.args.side.id p.0 p.1)

pub returns-clause-known : goal.returns-clause-known
returns-clause-known c = let v : View = c.args.text.now.reader.agent.seat.me.0 in let p = has_key v.units c.args.side.id c.requires.side in let q = has_key v.units c.args.s.id c.requires.known in
    key_of c.concat-2.new.self.reader.agent.seat.me.0.units c.in-Ok-concat.t.id _ (c.in-Ok-concat.ensures.units q.0 p.0 q.1 p.1)
