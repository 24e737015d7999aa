use Rattle.std.proofs.Common.{◌≡◌, ◌+◌, ◌≤◌, ◌∙◌, ℕ, List, None, ap, subst, sym, arith}
use Rattle.std.specs.Prelude.{unwrap_or}
use Rattle.std.specs.FinMap.{FinMap, get}
use Rattle.std.specs.Ordering.{nat_cmp}
use Rattle.std.proofs.lemmas.Result.{IfOk-weaker}
use Rattle.js_units.specs.Lanes.{hash_of}
use Rattle.heap_rule.specs.declared.view.View.{View}
use Rattle.heap_rule.specs.declared.size.HeapSize.{HeapSize}
use Rattle.heap_rule.specs.Paths.{rank}
use Rattle.heap_intern.specs.Answers.{IsFixed}
use Rattle.heap_intern.specs.Searching.{IsOpening}
use Rattle.heap_intern.specs.SlotLoads.{loads_at}
use Rattle.heap_intern.specs.Visits.{IsPlace}
use Rattle.heap_intern.specs.Seats.{id_in}
use Rattle.heap_intern.specs.Wanted.{wanted_plan}
use Rattle.heap_intern.proofs.Giving.{place_kept}
use Rattle.heap_intern.proofs.Going.{forms_trans}
use Rattle.heap_intern.proofs.Hashes.{hashes_kept}
use Rattle.heap_intern.proofs.Loading.{same_loads, walked_all, walking_same}
use Rattle.heap_intern.proofs.Opened.{answer_new, opening_place, refused_new}
use Rattle.heap_intern.proofs.Planning.{fixed_of}
use Rattle.heap_intern.proofs.Visiting.{each_wanted, wanted_stays}
use Rattle.heap_intern.proofs.Wanting.{only_wanted, wanted_kept}
use Rattle.heap_intern.proofs.table.searching.place_new.Goals as goal

pub make_header-requires : goal.make_header-requires
make_header-requires g c = record { wanted = (c.requires.wanted.0, c.requires.wanted.1) }

pub place-requires-clause-wanted : goal.place-requires-clause-wanted
place-requires-clause-wanted g c = let v : View = c.args.reader.now.agent.seat.me.0 in let u : View = c.make_header.new.reader.agent.seat.me.0 in let m = c.make_header.ensures in
    wanted_stays v u c.args.reader.now.belongs.5 m.goes.known m.forms c.args.wanted.now (c.requires.wanted.0, c.requires.wanted.1)

pub place-requires-clause-hash : goal.place-requires-clause-hash
place-requires-clause-hash g c = let v : View = c.args.reader.now.agent.seat.me.0 in let u : View = c.make_header.new.reader.agent.seat.me.0 in let m = c.make_header.ensures in
    each_wanted v u c.args.reader.now.belongs.5 m.goes.known m.forms c.args.wanted.now (c.requires.wanted.0, c.requires.wanted.1) (λ (us : List ℕ). c.args.opening.hash ≡ hash_of us) c.requires.wanted.2.hash

pub place-requires-clause-hashed : goal.place-requires-clause-hashed
place-requires-clause-hashed g c = let v : View = c.args.reader.now.agent.seat.me.0 in let u : View = c.make_header.new.reader.agent.seat.me.0 in
    hashes_kept v u c.make_header.ensures.goes.known c.args.hashes.now c.requires.hashed

pub place-requires-clause-place : goal.place-requires-clause-place
place-requires-clause-place g c = let v : View = c.args.reader.now.agent.seat.me.0 in let u : View = c.make_header.new.reader.agent.seat.me.0 in let m = c.make_header.ensures in
    let o = c.args.opening in let want = c.requires.wanted in
    each_wanted v u c.args.reader.now.belongs.5 m.goes.known m.forms c.args.wanted.now (want.0, want.1) (λ (us : List ℕ). IsPlace u us o.slot o.rank)
    (place_kept v u want.0 o.slot o.rank c.args.reader.now.belongs.5 m.goes.known m.goes.sizes (opening_place v want.0 o want.2))

pub place-requires-clause-fixed : goal.place-requires-clause-fixed
place-requires-clause-fixed g c = let v : View = c.args.reader.now.agent.seat.me.0 in let u : View = c.make_header.new.reader.agent.seat.me.0 in let m = c.make_header.ensures in
    let want = c.requires.wanted in let x = c.args.wanted.now in
    each_wanted v u c.args.reader.now.belongs.5 m.goes.known m.forms x (want.0, want.1) (λ (us : List ℕ). IsFixed u us c.in-Ok.header)
    (fixed_of u (wanted_plan x want.0) want.0 c.in-Ok.header (c.in-Ok.ensures.ok want.0 want.1).0)

pub returns-in-Err-clause-loads : goal.returns-in-Err-clause-loads
returns-in-Err-clause-loads g c us h a n p = let v : View = c.args.reader.now.agent.seat.me.0 in let u : View = c.make_header.new.reader.agent.seat.me.0 in let e = c.in-Err.ensures in
    walked_all a u us (c.args.opening.rank + 1) n c.args.steps.now None
    (walking_same a v u us (c.args.opening.rank + 1) n c.args.steps.now e.goes.sizes (same_loads v u e.loads) p)

pub returns-clause-loads : goal.returns-clause-loads
returns-clause-loads g c us h a n p = let v : View = c.args.reader.now.agent.seat.me.0 in let u : View = c.make_header.new.reader.agent.seat.me.0 in let e = c.make_header.ensures in
    c.place.ensures.loads us (wanted_kept v u e.goes.known e.forms c.args.wanted.now us h) a n
    (walking_same a v u us (c.args.opening.rank + 1) n c.args.steps.now e.goes.sizes (same_loads v u e.loads) p)

pub returns-in-Err-clause-interns : goal.returns-in-Err-clause-interns
returns-in-Err-clause-interns g c us h = let v : View = c.args.reader.now.agent.seat.me.0 in let u : View = c.make_header.new.reader.agent.seat.me.0 in
    let o = c.args.opening in let want = c.requires.wanted in let e = c.in-Err.ensures in let x = c.args.wanted.now in
    refused_new v u us (wanted_plan x us) o c.in-Err.full c.args.reader.now.belongs.5 c.make_header.new.reader.belongs.5
    (only_wanted v x us want.0 (λ (ws : List ℕ). IsOpening v ws o) want.1 h want.2) e.goes e.slots (e.err us h)

pub returns-in-Err-clause-once : goal.returns-in-Err-clause-once
returns-in-Err-clause-once g c us h k l = let e = ap (λ (m : FinMap nat_cmp ℕ). unwrap_or (get m k) 0) c.make_header.ensures.loads in omega (arith, e)

pub returns-in-Err-clause-most : goal.returns-in-Err-clause-most
returns-in-Err-clause-most g c k = let e = ap (λ (m : FinMap nat_cmp ℕ). unwrap_or (get m k) 0) c.make_header.ensures.loads in omega (arith, e)

pub returns-in-Err-clause-apart : goal.returns-in-Err-clause-apart
returns-in-Err-clause-apart g c k ne apart = ap (λ (m : FinMap nat_cmp ℕ). unwrap_or (get m k) 0) c.make_header.ensures.loads

pub returns-clause-forms : goal.returns-clause-forms
returns-clause-forms g c = let v : View = c.args.reader.now.agent.seat.me.0 in let u : View = c.make_header.new.reader.agent.seat.me.0 in
    forms_trans v u c.place.new.reader.agent.seat.me.0 c.make_header.ensures.forms c.place.ensures.forms

pub returns-clause-interns : goal.returns-clause-interns
returns-clause-interns g c us h = let v : View = c.args.reader.now.agent.seat.me.0 in let u : View = c.make_header.new.reader.agent.seat.me.0 in let w : View = c.place.new.reader.agent.seat.me.0 in
    let o = c.args.opening in let want = c.requires.wanted in let e = c.in-Ok.ensures in let x = c.args.wanted.now in
    answer_new v u w us (wanted_plan x us) o c.in-Ok.header c.args.reader.now.belongs.5 c.make_header.new.reader.belongs.5
    (only_wanted v x us want.0 (λ (ws : List ℕ). IsOpening v ws o) want.1 h want.2) e.goes e.used (e.ok us h)
    c.place.ensures.nothing (id_in c.place.result) (c.place.ensures.places us (wanted_kept v u e.goes.known e.forms x us h))

pub returns-clause-stands : goal.returns-clause-stands
returns-clause-stands g c = let v : View = c.args.reader.now.agent.seat.me.0 in let u : View = c.make_header.new.reader.agent.seat.me.0 in let e = c.in-Ok.ensures in
    IfOk-weaker c.place.result _ _ (λ s h us want. h us (wanted_kept v u e.goes.known e.forms c.args.wanted.now us want)) c.place.ensures.stands

pub returns-clause-once : goal.returns-clause-once
returns-clause-once g c us h k l = let v : View = c.args.reader.now.agent.seat.me.0 in let u : View = c.make_header.new.reader.agent.seat.me.0 in let w : View = c.place.new.reader.agent.seat.me.0 in
    let e = c.make_header.ensures in
    subst (λ (m : FinMap nat_cmp ℕ). loads_at w k ≤ unwrap_or (get m k) 0 + 1) e.loads
    (c.place.ensures.once us (wanted_kept v u e.goes.known e.forms c.args.wanted.now us h) k (subst (λ (z : HeapSize). rank us z.slots k ≤ c.args.opening.rank) (sym e.goes.sizes) l))

pub returns-clause-most : goal.returns-clause-most
returns-clause-most g c k = let w : View = c.place.new.reader.agent.seat.me.0 in
    subst (λ (m : FinMap nat_cmp ℕ). loads_at w k ≤ unwrap_or (get m k) 0 + 2) c.make_header.ensures.loads (c.place.ensures.most k)

pub returns-clause-apart : goal.returns-clause-apart
returns-clause-apart g c k ne apart = c.place.ensures.apart k ne apart ∙ ap (λ (m : FinMap nat_cmp ℕ). unwrap_or (get m k) 0) c.make_header.ensures.loads
