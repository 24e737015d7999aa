use Rattle.std.proofs.Common.{◌≡◌, ◌+◌, ◌<◌, ◌≤◌, ◌∙◌, ℕ, List, Some, refl, subst, sym, arith}
use Rattle.js_units.specs.Lanes.{hash_of}
use Rattle.heap_rule.specs.declared.view.View.{View}
use Rattle.heap_rule.specs.declared.size.HeapSize.{HeapSize}
use Rattle.heap_rule.proofs.Possible.{possible_lawful}
use Rattle.std.proofs.lemmas.Result.{IfOk-weaker}
use Rattle.heap_intern.specs.SlotLoads.{answered}
use Rattle.heap_intern.specs.Visits.{IsAnswer, IsNext, IsPassed, Walking}
use Rattle.heap_intern.specs.Seats.{id_in}
use Rattle.heap_intern.proofs.Giving.{one_few, place_is_behind, place_next, place_once, place_passed, settled_after}
use Rattle.heap_intern.proofs.Going.{forms_trans}
use Rattle.heap_intern.proofs.Hashes.{hashes_kept}
use Rattle.heap_intern.proofs.Loading.{none_loaded, slots_few, walked_put, walking_same, walking_start}
use Rattle.heap_intern.proofs.Visiting.{behind_kept, each_fixed, each_wanted, wanted_stays}
use Rattle.heap_intern.proofs.Wanting.{wanted_kept}
use Rattle.heap_intern.proofs.table.given.place.Goals as goal

pub put-requires-clause-inside : goal.put-requires-clause-inside
put-requires-clause-inside g c = let u = c.requires.wanted in subst (λ (z : HeapSize). c.args.slot < z.slots) c.args.reader.now.belongs.1 (c.requires.place u.0 u.1).inside

pub put-requires-clause-behind : goal.put-requires-clause-behind
put-requires-clause-behind g c us h = place_is_behind c.args.reader.now.agent.seat.me.0 us c.args.slot c.args.at (c.requires.place us h)

pub returns-in-Answer-clause-forms : goal.returns-in-Answer-clause-forms
returns-in-Answer-clause-forms g c = let u = c.requires.wanted in let v : View = c.args.reader.now.agent.seat.me.0 in let y : View = c.put.new.reader.agent.seat.me.0 in let t : IsAnswer v y u.0 c.args.slot c.in-Answer.id = c.in-Answer.ensures.visited u.0 u.1 in t.forms

pub returns-in-Answer-clause-places : goal.returns-in-Answer-clause-places
returns-in-Answer-clause-places g c us h = let v : View = c.args.reader.now.agent.seat.me.0 in let y : View = c.put.new.reader.agent.seat.me.0 in let t : IsAnswer v y us c.args.slot c.in-Answer.id = c.in-Answer.ensures.visited us h in
    (t.goes, t.fixed, (c.args.slot, t.stands, behind_kept v y c.args.reader.now.belongs.5 t.goes.known us t.goes.sizes c.args.slot (place_is_behind v us c.args.slot c.args.at (c.requires.place us h))))

pub returns-in-Answer-clause-stands : goal.returns-in-Answer-clause-stands
returns-in-Answer-clause-stands g c us h = let v : View = c.args.reader.now.agent.seat.me.0 in let y : View = c.put.new.reader.agent.seat.me.0 in let t : IsAnswer v y us c.args.slot c.in-Answer.id = c.in-Answer.ensures.visited us h in
    (t.stands, behind_kept v y c.args.reader.now.belongs.5 t.goes.known us t.goes.sizes c.args.slot (place_is_behind v us c.args.slot c.args.at (c.requires.place us h)))

pub returns-in-Answer-clause-nothing : goal.returns-in-Answer-clause-nothing
returns-in-Answer-clause-nothing g c = let u = c.requires.wanted in let v : View = c.args.reader.now.agent.seat.me.0 in let y : View = c.put.new.reader.agent.seat.me.0 in let t : IsAnswer v y u.0 c.args.slot c.in-Answer.id = c.in-Answer.ensures.visited u.0 u.1 in t.nothing

pub returns-in-Answer-clause-loads : goal.returns-in-Answer-clause-loads
returns-in-Answer-clause-loads g c us h b m p = let v : View = c.args.reader.now.agent.seat.me.0 in let y : View = c.put.new.reader.agent.seat.me.0 in let t : IsAnswer v y us c.args.slot c.in-Answer.id = c.in-Answer.ensures.visited us h in
    walked_put b v y us (c.args.at + 1) m c.args.steps.now c.put.new.steps c.args.slot 1 p (subst (λ (z : HeapSize). c.args.slot < z.slots) p.sizes (c.requires.place us h).inside)
    c.in-Answer.ensures.loads (Some c.in-Answer.id) (omega arith) c.in-Answer.id refl t.stands

pub returns-in-Answer-clause-once : goal.returns-in-Answer-clause-once
returns-in-Answer-clause-once g c us h k l = one_few c.args.reader.now.agent.seat.me.0 c.put.new.reader.agent.seat.me.0 c.args.slot 1 _ _ c.in-Answer.ensures.loads k 1 (omega arith)

pub returns-in-Answer-clause-most : goal.returns-in-Answer-clause-most
returns-in-Answer-clause-most g c k = one_few c.args.reader.now.agent.seat.me.0 c.put.new.reader.agent.seat.me.0 c.args.slot 1 _ _ c.in-Answer.ensures.loads k 2 (omega arith)

pub returns-in-Answer-clause-apart : goal.returns-in-Answer-clause-apart
returns-in-Answer-clause-apart g c k ne apart = c.in-Answer.ensures.loads.others k ne

pub overflow_add-at : goal.overflow_add-at
overflow_add-at g c = let u = c.requires.wanted in let v : View = c.args.reader.now.agent.seat.me.0 in let l = place_next v u.0 c.args.slot c.args.at (c.requires.place u.0 u.1) in
    let small = possible_lawful v c.args.reader.now.belongs.5 in omega (arith, l)

pub place_behind-requires-clause-wanted : goal.place_behind-requires-clause-wanted
place_behind-requires-clause-wanted g c = let u = c.requires.wanted in let v : View = c.args.reader.now.agent.seat.me.0 in let y : View = c.put.new.reader.agent.seat.me.0 in let t : IsNext v y u.0 c.args.slot = c.in-Next.ensures.visited u.0 u.1 in
    wanted_stays v y c.args.reader.now.belongs.5 t.looks.goes.known t.forms c.args.wanted.now u

pub place_behind-requires-clause-fixed : goal.place_behind-requires-clause-fixed
place_behind-requires-clause-fixed g c = let u = c.requires.wanted in let v : View = c.args.reader.now.agent.seat.me.0 in let y : View = c.put.new.reader.agent.seat.me.0 in let t : IsNext v y u.0 c.args.slot = c.in-Next.ensures.visited u.0 u.1 in
    each_fixed v y c.args.reader.now.belongs.5 t.looks.goes.known t.forms c.args.wanted.now u c.args.header c.requires.fixed

pub place_behind-requires-clause-hash : goal.place_behind-requires-clause-hash
place_behind-requires-clause-hash g c = let u = c.requires.wanted in let v : View = c.args.reader.now.agent.seat.me.0 in let y : View = c.put.new.reader.agent.seat.me.0 in let t : IsNext v y u.0 c.args.slot = c.in-Next.ensures.visited u.0 u.1 in
    each_wanted v y c.args.reader.now.belongs.5 t.looks.goes.known t.forms c.args.wanted.now u (λ (us : List ℕ). c.args.hash ≡ hash_of us) (c.requires.hash u.0 u.1)

pub place_behind-requires-clause-from : goal.place_behind-requires-clause-from
place_behind-requires-clause-from g c = let u = c.requires.wanted in let v : View = c.args.reader.now.agent.seat.me.0 in let y : View = c.put.new.reader.agent.seat.me.0 in let t : IsNext v y u.0 c.args.slot = c.in-Next.ensures.visited u.0 u.1 in
    let l = place_next v u.0 c.args.slot c.args.at (c.requires.place u.0 u.1) in
    subst (λ (z : HeapSize). c.args.at + 1 ≤ z.slots) (sym t.looks.goes.sizes ∙ c.put.new.reader.belongs.1) l

pub place_behind-requires-clause-passed : goal.place_behind-requires-clause-passed
place_behind-requires-clause-passed g c = let u = c.requires.wanted in let v : View = c.args.reader.now.agent.seat.me.0 in let y : View = c.put.new.reader.agent.seat.me.0 in let t : IsNext v y u.0 c.args.slot = c.in-Next.ensures.visited u.0 u.1 in
    each_wanted v y c.args.reader.now.belongs.5 t.looks.goes.known t.forms c.args.wanted.now u (λ (us : List ℕ). IsPassed y us (c.args.at + 1))
    (place_passed v y u.0 c.args.slot c.args.at c.args.reader.now.belongs.5 t.looks.goes.known t.looks.goes.sizes (c.requires.place u.0 u.1) t.shut)

pub place_behind-requires-clause-hashed : goal.place_behind-requires-clause-hashed
place_behind-requires-clause-hashed g c = let u = c.requires.wanted in let v : View = c.args.reader.now.agent.seat.me.0 in let y : View = c.put.new.reader.agent.seat.me.0 in let t : IsNext v y u.0 c.args.slot = c.in-Next.ensures.visited u.0 u.1 in
    hashes_kept v y t.looks.goes.known c.args.hashes.now c.requires.hashed

pub returns-in-Next-clause-forms : goal.returns-in-Next-clause-forms
returns-in-Next-clause-forms g c = let u = c.requires.wanted in let v : View = c.args.reader.now.agent.seat.me.0 in let y : View = c.put.new.reader.agent.seat.me.0 in let w : View = c.place_behind.new.reader.agent.seat.me.0 in let t : IsNext v y u.0 c.args.slot = c.in-Next.ensures.visited u.0 u.1 in forms_trans v y w t.forms c.place_behind.ensures.forms

pub returns-in-Next-clause-places : goal.returns-in-Next-clause-places
returns-in-Next-clause-places g c us h = let v : View = c.args.reader.now.agent.seat.me.0 in let y : View = c.put.new.reader.agent.seat.me.0 in let w : View = c.place_behind.new.reader.agent.seat.me.0 in let t : IsNext v y us c.args.slot = c.in-Next.ensures.visited us h in
    settled_after v y w us (id_in c.place_behind.result) t.looks.goes (c.place_behind.ensures.places us (wanted_kept v y t.looks.goes.known t.forms c.args.wanted.now us h))

pub returns-in-Next-clause-nothing : goal.returns-in-Next-clause-nothing
returns-in-Next-clause-nothing g c = let u = c.requires.wanted in let v : View = c.args.reader.now.agent.seat.me.0 in let y : View = c.put.new.reader.agent.seat.me.0 in let t : IsNext v y u.0 c.args.slot = c.in-Next.ensures.visited u.0 u.1 in let n = c.place_behind.ensures.nothing in
    (n.0 ∙ t.looks.used, n.1 ∙ t.looks.words)

pub returns-in-Next-clause-stands : goal.returns-in-Next-clause-stands
returns-in-Next-clause-stands g c = let u = c.requires.wanted in let v : View = c.args.reader.now.agent.seat.me.0 in let y : View = c.put.new.reader.agent.seat.me.0 in let t : IsNext v y u.0 c.args.slot = c.in-Next.ensures.visited u.0 u.1 in
    IfOk-weaker c.place_behind.result _ _ (λ s stands us h. stands us (wanted_kept v y t.looks.goes.known t.forms c.args.wanted.now us h)) c.place_behind.ensures.stands

pub returns-in-Next-clause-loads : goal.returns-in-Next-clause-loads
returns-in-Next-clause-loads g c us h b m p = let v : View = c.args.reader.now.agent.seat.me.0 in let y : View = c.put.new.reader.agent.seat.me.0 in let t : IsNext v y us c.args.slot = c.in-Next.ensures.visited us h in
    let still = none_loaded v y c.args.slot c.args.steps.now c.put.new.steps c.in-Next.ensures.loads in
    c.place_behind.ensures.loads us (wanted_kept v y t.looks.goes.known t.forms c.args.wanted.now us h) b m
    (subst (λ (x : ℕ). Walking b y us (c.args.at + 1) m x) (sym still.0) (walking_same b v y us (c.args.at + 1) m c.args.steps.now t.looks.goes.sizes still.1 p))

pub returns-in-Next-clause-once : goal.returns-in-Next-clause-once
returns-in-Next-clause-once g c us h k l = let v : View = c.args.reader.now.agent.seat.me.0 in let y : View = c.put.new.reader.agent.seat.me.0 in let w : View = c.place_behind.new.reader.agent.seat.me.0 in let t : IsNext v y us c.args.slot = c.in-Next.ensures.visited us h in
    place_once v y w us c.args.slot c.args.at 0 _ _ t.looks.goes.sizes c.in-Next.ensures.loads (omega arith)
    (c.place_behind.ensures.before us (wanted_kept v y t.looks.goes.known t.forms c.args.wanted.now us h)) k l

pub returns-in-Next-clause-most : goal.returns-in-Next-clause-most
returns-in-Next-clause-most g c k = let u = c.requires.wanted in let v : View = c.args.reader.now.agent.seat.me.0 in let w : View = c.place_behind.new.reader.agent.seat.me.0 in
    slots_few v w (answered (id_in c.place_behind.result)) _ _ (returns-in-Next-clause-loads g c u.0 u.1 v c.args.steps.now (walking_start v u.0 (c.args.at + 1) c.args.steps.now)) k

pub returns-in-Next-clause-apart : goal.returns-in-Next-clause-apart
returns-in-Next-clause-apart g c k ne apart = c.place_behind.ensures.apart k apart ∙ c.in-Next.ensures.loads.others k ne
