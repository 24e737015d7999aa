use Rattle.std.proofs.Common.{◌≡◌, ◌∙◌, ◌≤◌, ap, refl, sym, arith}
use Rattle.js_units.specs.Lanes.{hash_of}
use Rattle.heap_rule.specs.declared.size.HeapSize.{HeapSize}
use Rattle.heap_rule.specs.declared.view.View.{View}
use Rattle.heap_rule.proofs.Possible.{possible_lawful}
use Rattle.heap_table.specs.Agents.{size_of}
use Rattle.heap_intern.proofs.Adopting.{ahead_first, ahead_next, loaded_once, never_passed, none_behind, one_units}
use Rattle.heap_intern.proofs.Going.{forms_self, forms_trans, looks_self, looks_trans}
use Rattle.heap_intern.proofs.table.adopting.walk_to.Goals as goal

pub nonzero_rem-start : goal.nonzero_rem-start
nonzero_rem-start g c = let v : View = c.args.reader.now.agent.seat.me.0 in let some : 1 ≤ v.sizes.slots = (possible_lawful v c.args.reader.now.belongs.5).4 in
    let is : c.size-n.result.slots ≡ v.sizes.slots = ap (λ (z : HeapSize). z.slots) ((c.size-n.ensures ∙ ap size_of c.heap.ensures) ∙ sym c.args.reader.now.belongs.1) in omega arith

pub loop-r-init : goal.loop-r-init
loop-r-init g c = let a : View = c.args.reader.now.agent.seat.me.0 in record { heap = refl; ahead = λ us h. ahead_first a us c.args.id (looks_self a) (forms_self a) }

pub loop-r-preserved : goal.loop-r-preserved
loop-r-preserved g c = let a : View = c.args.reader.now.agent.seat.me.0 in let v : View = c.loop-r.reader.agent.seat.me.0 in
    let w : View = c.has_string.new.reader.agent.seat.me.0 in let e = c.has_string.ensures in
    let n = c.size-n.result.slots in
    let slots : n ≡ a.sizes.slots = ap (λ (z : HeapSize). z.slots) ((c.size-n.ensures ∙ ap size_of c.heap.ensures) ∙
    sym c.args.reader.now.belongs.1) in let own = c.requires.hash in record {
      heap = e.heap ∙ c.loop-r.invariant.heap;
      ahead = λ us h. let hash : c.args.hash ≡ hash_of us = own.2 ∙ ap hash_of (one_units a c.args.id own.0 us own.1 h) in
          ahead_next a v w c.args.reader.now.belongs.5 us c.args.id c.loop-r.r n c.args.hash (c.loop-r.invariant.ahead us h) slots hash
          c.loop-r-test.true e.looks e.forms e.loads (λ there. let t = e.stands.1 there in absurd (cc));
    }

pub returns-then-has_string-clause-looks : goal.returns-then-has_string-clause-looks
returns-then-has_string-clause-looks g c = let a : View = c.args.reader.now.agent.seat.me.0 in
    let v : View = c.loop-r.reader.agent.seat.me.0 in let w : View = c.has_string.new.reader.agent.seat.me.0 in let own = c.requires.hash in
    looks_trans a v w (c.loop-r.invariant.ahead own.0 own.1).looks c.has_string.ensures.looks

pub returns-then-has_string-clause-forms : goal.returns-then-has_string-clause-forms
returns-then-has_string-clause-forms g c = let a : View = c.args.reader.now.agent.seat.me.0 in
    let v : View = c.loop-r.reader.agent.seat.me.0 in let w : View = c.has_string.new.reader.agent.seat.me.0 in let own = c.requires.hash in
    forms_trans a v w (c.loop-r.invariant.ahead own.0 own.1).forms c.has_string.ensures.forms

pub returns-then-has_string-clause-once : goal.returns-then-has_string-clause-once
returns-then-has_string-clause-once g c = let a : View = c.args.reader.now.agent.seat.me.0 in
    let v : View = c.loop-r.reader.agent.seat.me.0 in let w : View = c.has_string.new.reader.agent.seat.me.0 in let own = c.requires.hash in
    let n = c.size-n.result.slots in let slots : n ≡ a.sizes.slots = ap (λ (z : HeapSize). z.slots) ((c.size-n.ensures ∙ ap size_of c.heap.ensures) ∙ sym c.args.reader.now.belongs.1) in
    loaded_once a v w c.args.reader.now.belongs.5 own.0 c.args.id c.loop-r.r n c.args.hash (c.loop-r.invariant.ahead own.0 own.1) slots own.2 c.loop-r-test.true c.has_string.ensures.looks.goes.sizes c.has_string.ensures.loads

pub returns-then-has_string-clause-few : goal.returns-then-has_string-clause-few
returns-then-has_string-clause-few g c us h = let a : View = c.args.reader.now.agent.seat.me.0 in
    let v : View = c.loop-r.reader.agent.seat.me.0 in let w : View = c.has_string.new.reader.agent.seat.me.0 in let own = c.requires.hash in
    let n = c.size-n.result.slots in let slots : n ≡ a.sizes.slots = ap (λ (z : HeapSize). z.slots) ((c.size-n.ensures ∙ ap size_of c.heap.ensures) ∙ sym c.args.reader.now.belongs.1) in
    let hash : c.args.hash ≡ hash_of us = own.2 ∙ ap hash_of (one_units a c.args.id own.0 us own.1 h) in
    none_behind a v w c.args.reader.now.belongs.5 us c.args.id c.loop-r.r n c.args.hash (c.loop-r.invariant.ahead us h) slots hash c.loop-r-test.true c.has_string.ensures.looks.goes.sizes c.has_string.ensures.loads

pub unreachable-requires : goal.unreachable-requires
unreachable-requires g c = let a : View = c.args.reader.now.agent.seat.me.0 in let v : View = c.loop-r.reader.agent.seat.me.0 in let own = c.requires.hash in let there = c.requires.stands in
    let n = c.size-n.result.slots in let slots : n ≡ a.sizes.slots = ap (λ (z : HeapSize). z.slots) ((c.size-n.ensures ∙ ap size_of c.heap.ensures) ∙ sym c.args.reader.now.belongs.1) in
    never_passed a v c.args.reader.now.belongs.5 own.0 c.args.id c.loop-r.r n (c.loop-r.invariant.ahead own.0 own.1) slots c.loop-r-test.false there.0 there.1
