use Rattle.std.proofs.Common.{◌++◌, subst, sym}
use Rattle.heap_rule.specs.declared.view.View.{View}
use Rattle.heap_rule.specs.Maps.{Has}
use Rattle.heap_rule.proofs.MapLemmas.{key_of}
use Rattle.heap_example.proofs.Made.{one_list}
use Rattle.heap_example.proofs.greeting.greetings.Goals as goal

pub read-requires : goal.read-requires
read-requires g c = let made = rw c.in_ok-one.was at c.greet_both-one.ensures.first in
    let hello = subst (λ (v : View). Has v.units c.in_ok-hello.hello.id c.args.hello.now) (sym c.split-right.ensures.left) c.in_ok-hello.ensures.units in
    record {
      known = key_of c.join.new.self.reader.agent.seat.me.0.units c.in_ok-one.field-0.id (c.args.hello.now ++ c.args.first.now)
          (c.join.ensures.known.0.units c.in_ok-one.field-0.id (c.args.hello.now ++ c.args.first.now) (made c.args.hello.now hello));
    }

pub read-requires-2 : goal.read-requires-2
read-requires-2 g c = let made = rw c.in_ok-other.was at c.greet_both-one.ensures.second in let id = c.in_ok-other.field-0.id in let all = c.args.hello.now ++ c.args.second.now in
    let hello = subst (λ (v : View). Has v.units c.in_ok-hello.hello.id c.args.hello.now) (sym c.split-right.ensures.right) c.in_ok-hello.ensures.units in
    record { known = key_of c.read.new.text.reader.agent.seat.me.0.units id all (c.read.ensures.known.units id all (c.join.ensures.known.1.units id all (made c.args.hello.now hello))) }

pub returns-clause-first : goal.returns-clause-first
returns-clause-first g c = let made = rw c.in_ok-one.was at c.greet_both-one.ensures.first in let id = c.in_ok-one.field-0.id in let all = c.args.hello.now ++ c.args.first.now in
    let hello = subst (λ (v : View). Has v.units c.in_ok-hello.hello.id c.args.hello.now) (sym c.split-right.ensures.left) c.in_ok-hello.ensures.units in
    one_list c.join.new.self.reader.agent.seat.me.0.units id c.in_ok-first.first.items all c.in_ok-first.ensures.units (c.join.ensures.known.0.units id all (made c.args.hello.now hello))

pub returns-clause-second : goal.returns-clause-second
returns-clause-second g c = let made = rw c.in_ok-other.was at c.greet_both-one.ensures.second in let id = c.in_ok-other.field-0.id in let all = c.args.hello.now ++ c.args.second.now in
    let hello = subst (λ (v : View). Has v.units c.in_ok-hello.hello.id c.args.hello.now) (sym c.split-right.ensures.right) c.in_ok-hello.ensures.units in
    one_list c.read.new.text.reader.agent.seat.me.0.units id c.in_ok-second.second.items all c.in_ok-second.ensures.units
    (c.read.ensures.known.units id all (c.join.ensures.known.1.units id all (made c.args.hello.now hello)))
