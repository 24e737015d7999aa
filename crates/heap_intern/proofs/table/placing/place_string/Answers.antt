use Rattle.std.proofs.Common.{◌≡◌, ◌+◌, ◌≤◌, ◌∙◌, ℕ, List, ap, subst, sym}
use Rattle.std.specs.Prelude.{unwrap_or}
use Rattle.std.specs.FinMap.{FinMap, get}
use Rattle.std.specs.Ordering.{nat_cmp}
use Rattle.std.proofs.lemmas.Result.{IfOk-weaker}
use Rattle.js_units.specs.Lanes.{hash_of}
use Rattle.heap_rule.specs.declared.view.View.{View}
use Rattle.heap_rule.specs.declared.size.Counters.{Counters}
use Rattle.heap_rule.specs.declared.size.HeapSize.{HeapSize}
use Rattle.heap_rule.specs.Paths.{rank}
use Rattle.heap_table.specs.Known.{KeepsKnown}
use Rattle.heap_intern.specs.Answers.{HeaderPlan, IsFixed}
use Rattle.heap_intern.specs.Headers.{header_plan}
use Rattle.heap_intern.specs.SlotLoads.{loads_at}
use Rattle.heap_intern.specs.Taking.{IsKeyAnswer, without_given}
use Rattle.heap_intern.specs.Visits.{IsPlace}
use Rattle.heap_intern.specs.Seats.{id_in}
use Rattle.heap_intern.proofs.Giving.{flat_fixed, given_known, place_kept, settled_after, settled_known}
use Rattle.heap_intern.proofs.Going.{forms_trans}
use Rattle.heap_intern.proofs.Hashes.{hashes_kept}
use Rattle.heap_intern.proofs.Opened.{opening_place, opening_taken}
use Rattle.heap_intern.proofs.Searches.{opening_wanted}
use Rattle.heap_intern.proofs.Visiting.{only_units}
use Rattle.heap_intern.proofs.table.placing.place_string.Goals as goal

pub place-requires-clause-wanted : goal.place-requires-clause-wanted
place-requires-clause-wanted g c = let v : View = c.args.reader.now.agent.seat.me.0 in let x : View = c.make_string.new.reader.agent.seat.me.0 in let o = c.requires.opening in let m = c.make_string.ensures in
    (o.0, opening_wanted v x o.0 c.args.opening (given_known v x c.args.opening.words c.args.given m.goes.known) m.forms o.1)

pub place-requires-clause-hash : goal.place-requires-clause-hash
place-requires-clause-hash g c us h = let v : View = c.args.reader.now.agent.seat.me.0 in let x : View = c.make_string.new.reader.agent.seat.me.0 in let o = c.requires.opening in let m = c.make_string.ensures in
    let k : KeepsKnown v x = given_known v x c.args.opening.words c.args.given m.goes.known in
    only_units x.units c.args.opening.sought.id us o.0 (λ (xs : List ℕ). c.args.opening.opening.hash ≡ hash_of xs) (k.units c.args.opening.sought.id o.0 o.1.units) h.1 o.1.opening.hash

pub place-requires-clause-hashed : goal.place-requires-clause-hashed
place-requires-clause-hashed g c = let v : View = c.args.reader.now.agent.seat.me.0 in let x : View = c.make_string.new.reader.agent.seat.me.0 in
    hashes_kept v x (given_known v x c.args.opening.words c.args.given c.make_string.ensures.goes.known) c.args.hashes.now c.requires.hashed

pub place-requires-clause-place : goal.place-requires-clause-place
place-requires-clause-place g c us h = let v : View = c.args.reader.now.agent.seat.me.0 in let x : View = c.make_string.new.reader.agent.seat.me.0 in let o = c.requires.opening in let m = c.make_string.ensures in
    let p = c.args.opening.opening in let k : KeepsKnown v x = given_known v x c.args.opening.words c.args.given m.goes.known in
    only_units x.units c.args.opening.sought.id us o.0 (λ (xs : List ℕ). IsPlace x xs p.slot p.rank) (k.units c.args.opening.sought.id o.0 o.1.units) h.1
    (place_kept v x o.0 p.slot p.rank c.args.reader.now.belongs.5 k m.goes.sizes (opening_place v o.0 p o.1.opening))

pub place-requires-clause-fixed : goal.place-requires-clause-fixed
place-requires-clause-fixed g c us h = let v : View = c.args.reader.now.agent.seat.me.0 in let x : View = c.make_string.new.reader.agent.seat.me.0 in let o = c.requires.opening in let m = c.make_string.ensures in
    let s = c.args.opening.sought in let k : KeepsKnown v x = given_known v x c.args.opening.words c.args.given m.goes.known in let plan : HeaderPlan = header_plan s o.0 in
    only_units x.units s.id us o.0 (λ (xs : List ℕ). IsFixed x xs c.args.given.id) (k.units s.id o.0 o.1.units) h.1
    (flat_fixed x plan.wide (unwrap_or plan.start c.args.given.start) o.0 c.args.given.id (m.flat o.0 o.1))

pub returns-clause-forms : goal.returns-clause-forms
returns-clause-forms g c = let v : View = c.args.reader.now.agent.seat.me.0 in let x : View = c.make_string.new.reader.agent.seat.me.0 in
    forms_trans v x c.place.new.reader.agent.seat.me.0 c.make_string.ensures.forms c.place.ensures.forms

pub returns-clause-interns : goal.returns-clause-interns
returns-clause-interns g c us h = let v : View = c.args.reader.now.agent.seat.me.0 in let x : View = c.make_string.new.reader.agent.seat.me.0 in let w : View = c.place.new.reader.agent.seat.me.0 in
    let m = c.make_string.ensures in let o = c.args.opening in let gave = c.args.given in let plan : HeaderPlan = header_plan o.sought us in
    let want = opening_wanted v x us o (given_known v x o.words gave m.goes.known) m.forms h in
    let settles = settled_after (without_given v o.words gave) x w us (id_in c.place.result) m.goes (c.place.ensures.places us want) in
    let k : KeepsKnown x w = (settled_known x w us (id_in c.place.result) (c.place.ensures.places us want)).0 in let f = m.flat us h in
    opening_taken v w us plan gave (id_in c.place.result) o.opening c.args.reader.now.belongs.5 h.opening
    (subst (λ (n : ℕ). IsKeyAnswer (without_given v n gave) w us (id_in c.place.result)) h.words settles)
    (k.flats gave.id plan.wide (unwrap_or plan.start gave.start) f.0, k.units gave.id us f.1)

pub returns-clause-nothing : goal.returns-clause-nothing
returns-clause-nothing g c = let n = c.place.ensures.nothing in
    (n.0 ∙ ap (λ (u : Counters). u.ids) c.make_string.ensures.used, n.1 ∙ ap (λ (u : Counters). u.words) c.make_string.ensures.used)

pub returns-clause-stands : goal.returns-clause-stands
returns-clause-stands g c = let v : View = c.args.reader.now.agent.seat.me.0 in let x : View = c.make_string.new.reader.agent.seat.me.0 in let m = c.make_string.ensures in
    IfOk-weaker c.place.result _ _ (λ s t us h. t us (opening_wanted v x us c.args.opening (given_known v x c.args.opening.words c.args.given m.goes.known) m.forms h)) c.place.ensures.stands

pub returns-clause-once : goal.returns-clause-once
returns-clause-once g c us h k l = let v : View = c.args.reader.now.agent.seat.me.0 in let x : View = c.make_string.new.reader.agent.seat.me.0 in let w : View = c.place.new.reader.agent.seat.me.0 in
    let m = c.make_string.ensures in let want = opening_wanted v x us c.args.opening (given_known v x c.args.opening.words c.args.given m.goes.known) m.forms h in
    subst (λ (n : FinMap nat_cmp ℕ). loads_at w k ≤ unwrap_or (get n k) 0 + 1) m.loads
    (c.place.ensures.once us want k (subst (λ (z : HeapSize). rank us z.slots k ≤ c.args.opening.opening.rank) (sym m.goes.sizes) l))

pub returns-clause-most : goal.returns-clause-most
returns-clause-most g c k = let w : View = c.place.new.reader.agent.seat.me.0 in
    subst (λ (m : FinMap nat_cmp ℕ). loads_at w k ≤ unwrap_or (get m k) 0 + 2) c.make_string.ensures.loads (c.place.ensures.most k)

pub returns-clause-apart : goal.returns-clause-apart
returns-clause-apart g c k ne apart = c.place.ensures.apart k ne apart ∙ ap (λ (m : FinMap nat_cmp ℕ). unwrap_or (get m k) 0) c.make_string.ensures.loads
