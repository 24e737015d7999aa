use Rattle.std.proofs.Common.{◌≡◌, ◌+◌, ◌<◌, ◌∙◌, ℕ, Ok, ap, sym, subst, arith}
use Rattle.heap_rule.specs.declared.size.HeapSize.{HeapSize}
use Rattle.heap_rule.specs.declared.view.View.{View}
use Rattle.heap_rule.specs.Maps.{Has}
use Rattle.heap_rule.specs.Slots.{entry_in}
use Rattle.heap_table.specs.Agents.{size_of}
use Rattle.heap_rule.proofs.Possible.{possible_inside}
use Rattle.heap_read.proofs.Showing.{forms_held}
use Rattle.heap_intern.proofs.Adopting.{here_once}
use Rattle.heap_intern.proofs.Interned.{interns_settled}
use Rattle.heap_intern.proofs.Seats.{again_forwards, again_given, again_interns, again_sizes, again_unused, here_few, seat_of}
use Rattle.heap_intern.proofs.table.seats.load_again.Goals as goal

pub load_slot-requires-clause-inside : goal.load_slot-requires-clause-inside
load_slot-requires-clause-inside g c = let v : View = c.args.reader.now.agent.seat.me.0 in let x = seat_of v c.args.id c.args.slot c.requires in
    subst (λ (z : HeapSize). c.args.slot < z.slots) (c.args.reader.now.belongs.1 ∙ sym (ap size_of c.heap.ensures)) (possible_inside v c.args.reader.now.belongs.5 c.args.slot x.target x.stands)

pub returns-clause-loads : goal.returns-clause-loads
returns-clause-loads g c = let v : View = c.args.reader.now.agent.seat.me.0 in here_once v c.load_slot.new.self.seat.me.0 c.args.slot
    (c.in-Some.target + 1) (entry_in v c.args.slot) c.in-Some.ensures.view

pub returns-clause-interns : goal.returns-clause-interns
returns-clause-interns g c = let v : View = c.args.reader.now.agent.seat.me.0 in let w : View = c.load_slot.new.self.seat.me.0 in
    let s : ℕ = c.args.id in let k : ℕ = c.args.slot in let x = seat_of v s k c.requires in let t : ℕ = c.in-Some.target in
    let one : t + 1 ≡ x.target + 1 = c.in-Some.ensures.found.again x.target x.stands in let same : t ≡ x.target = omega arith in
    let e = c.load_slot.ensures in let p = c.args.reader.now.belongs.5 in
    interns_settled v w s (Ok t) p e.belongs.5 (again_interns v w s k t x e.known c.in-Some.ensures.view same (again_sizes v w s k t x e.known c.in-Some.ensures.view same) p)
    (again_forwards v w s k t x e.known c.in-Some.ensures.view same) (here_few v w k (returns-clause-loads g c))

pub returns-clause-given : goal.returns-clause-given
returns-clause-given g c = let v : View = c.args.reader.now.agent.seat.me.0 in let w : View = c.load_slot.new.self.seat.me.0 in
    let s : ℕ = c.args.id in let k : ℕ = c.args.slot in let x = seat_of v s k c.requires in let t : ℕ = c.in-Some.target in
    let one : t + 1 ≡ x.target + 1 = c.in-Some.ensures.found.again x.target x.stands in let same : t ≡ x.target = omega arith in
    again_given v w s k t x c.load_slot.ensures.known c.in-Some.ensures.view same (again_sizes v w s k t x c.load_slot.ensures.known c.in-Some.ensures.view same) c.args.reader.now.belongs.5
    c.load_slot.ensures.belongs.5 (forms_held v w c.load_slot.ensures.forms) (here_few v w k (returns-clause-loads g c))

pub returns-clause-there : goal.returns-clause-there
returns-clause-there g c i h = let one : c.in-Some.target + 1 ≡ i + 1 = c.in-Some.ensures.found.again i h in omega arith

pub returns-clause-nothing : goal.returns-clause-nothing
returns-clause-nothing g c = let v : View = c.args.reader.now.agent.seat.me.0 in let w : View = c.load_slot.new.self.seat.me.0 in
    let s : ℕ = c.args.id in let k : ℕ = c.args.slot in let x = seat_of v s k c.requires in let t : ℕ = c.in-Some.target in
    let one : t + 1 ≡ x.target + 1 = c.in-Some.ensures.found.again x.target x.stands in let same : t ≡ x.target = omega arith in
    again_unused v w s k t x c.load_slot.ensures.known c.in-Some.ensures.view same

pub returns-clause-stands : goal.returns-clause-stands
returns-clause-stands g c = let v : View = c.args.reader.now.agent.seat.me.0 in let w : View = c.load_slot.new.self.seat.me.0 in
    let s : ℕ = c.args.id in let k : ℕ = c.args.slot in let x = seat_of v s k c.requires in let t : ℕ = c.in-Some.target in
    let one : t + 1 ≡ x.target + 1 = c.in-Some.ensures.found.again x.target x.stands in let same : t ≡ x.target = omega arith in
    subst (λ (i : ℕ). Has w.slots k i) (sym same) (c.load_slot.ensures.known.slots k x.target x.stands)
