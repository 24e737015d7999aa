use Rattle.std.proofs.Common.{◌≡◌, ◌+◌, ◌-◌, ◌<◌, ℕ, Some, None, refl, subst, arith}
use Rattle.std.specs.Prelude.{slice_index}
use Rattle.heap_rule.specs.declared.view.View.{View}
use Rattle.heap_rule.proofs.MapLemmas.{has_key}
use Rattle.heap_rule.proofs.Possible.{possible_inside, possible_lawful}
use Rattle.heap_intern.specs.Adopted.{LoadsHere}
use Rattle.heap_intern.specs.Answers.{FindsString}
use Rattle.heap_intern.specs.Seats.{IsSeated}
use Rattle.heap_intern.proofs.Again.{find_again}
use Rattle.heap_intern.proofs.Hashes.{hashes_kept}
use Rattle.heap_intern.proofs.Searches.{finds_ready, search_known}
use Rattle.heap_intern.proofs.Seats.{here_few, seats_kept, seats_with}
use Rattle.heap_intern.proofs.table.strings.search_string.Goals as goal

pub load_again-found-requires : goal.load_again-found-requires
load_again-found-requires g c = let v : View = c.args.reader.now.agent.seat.me.0 in let e : slice_index c.args.seats.now c.args.id ≡ c.in-Some.slot + 1 = c.in-Some.ensures.some c.in-Some.slot refl in
    let some : 0 < slice_index c.args.seats.now c.args.id = omega (arith, e) in let is : slice_index c.args.seats.now c.args.id - 1 ≡ c.in-Some.slot = omega (arith, e) in
    subst (IsSeated v c.args.id) is (c.requires.seated c.args.id some)

pub returns-in-Some-clause-searches : goal.returns-in-Some-clause-searches
returns-in-Some-clause-searches g c us h = let v : View = c.args.reader.now.agent.seat.me.0 in let w : View = c.load_again-found.new.reader.agent.seat.me.0 in let e = c.load_again-found.ensures in
    let t = e.interns.answer us h in let i : ℕ = c.load_again-found.result in let f = finds_ready v w us t.0 i e.nothing t.2 in record {
      searched = record {
        finds = record {
          answer = f;
          again = λ j has stands. find_again v w us c.args.reader.now.belongs.5 c.load_again-found.new.reader.belongs.5 j has stands (Some i) f;
          few = here_few v w c.in-Some.slot e.loads;
        };
        ends = tt;
      };
      plan = t.0;
      planned = (t.1, e.interns.forwards);
    }

pub returns-in-Some-clause-once : goal.returns-in-Some-clause-once
returns-in-Some-clause-once g c some = let v : View = c.args.reader.now.agent.seat.me.0 in let w : View = c.load_again-found.new.reader.agent.seat.me.0 in
    let e : slice_index c.args.seats.now c.args.id ≡ c.in-Some.slot + 1 = c.in-Some.ensures.some c.in-Some.slot refl in
    let is : c.in-Some.slot ≡ slice_index c.args.seats.now c.args.id - 1 = omega (arith, e) in subst (λ (k : ℕ). LoadsHere v w k 1) is c.load_again-found.ensures.loads

pub returns-in-Some-clause-seated : goal.returns-in-Some-clause-seated
returns-in-Some-clause-seated g c = let v : View = c.args.reader.now.agent.seat.me.0 in let w : View = c.load_again-found.new.reader.agent.seat.me.0 in
    let u = has_key v.units c.args.id c.requires.known in let goes = (c.load_again-found.ensures.interns.answer u.0 u.1).2.0 in
    seats_kept v w c.args.reader.now.belongs.5 goes.known goes.sizes c.args.seats.now c.requires.seated

pub returns-in-Some-clause-hashed : goal.returns-in-Some-clause-hashed
returns-in-Some-clause-hashed g c = let v : View = c.args.reader.now.agent.seat.me.0 in let w : View = c.load_again-found.new.reader.agent.seat.me.0 in
    let u = has_key v.units c.args.id c.requires.known in hashes_kept v w (c.load_again-found.ensures.interns.answer u.0 u.1).2.0.known c.args.hashes.now c.requires.hashed

pub note_seat-requires : goal.note_seat-requires
note_seat-requires g c = let v : View = c.args.reader.now.agent.seat.me.0 in let w : View = c.search_seat_by.new.reader.agent.seat.me.0 in
    let p = c.search_seat_by.new.reader.belongs.5 in let u = has_key v.units c.args.id c.requires.known in
    let there = c.in-Found.ensures.stands c.in-Found.seat refl u.0 u.1 in let inside = possible_inside w p c.in-Found.seat.slot c.in-Found.seat.id there.0 in
    let lawful = possible_lawful w p in let a = lawful.5 in omega (arith, inside, a)

pub returns-in-Found-clause-seated : goal.returns-in-Found-clause-seated
returns-in-Found-clause-seated g c = let v : View = c.args.reader.now.agent.seat.me.0 in let w : View = c.search_seat_by.new.reader.agent.seat.me.0 in
    let u = has_key v.units c.args.id c.requires.known in let t = c.in-Found.ensures.searches u.0 u.1 in let seat = c.in-Found.seat in
    let f : FindsString v w u.0 (Some seat.id) = t.searched.finds.answer in let there = c.in-Found.ensures.stands seat refl u.0 u.1 in
    seats_with w c.args.seats.now c.note_seat.new.seats c.args.id seat.slot c.note_seat.ensures.only
    (seats_kept v w c.args.reader.now.belongs.5 f.0.known f.0.sizes c.args.seats.now c.requires.seated) (record {
      target = seat.id;
      units = u.0;
      here = f.0.known.units c.args.id u.0 u.1;
      fixed = f.2;
      stands = there.0;
      behind = there.1;
      forwards = t.planned.1;
    })

pub returns-in-Open-clause-seated : goal.returns-in-Open-clause-seated
returns-in-Open-clause-seated g c = let v : View = c.args.reader.now.agent.seat.me.0 in let w : View = c.search_seat_by.new.reader.agent.seat.me.0 in
    let u = has_key v.units c.args.id c.requires.known in let t = c.in-Open.ensures.searches u.0 u.1 in
    let k = search_known v w u.0 None t.searched.finds.answer in seats_kept v w c.args.reader.now.belongs.5 k.0 k.1 c.args.seats.now c.requires.seated

pub returns-in-Shut-clause-seated : goal.returns-in-Shut-clause-seated
returns-in-Shut-clause-seated g c = let v : View = c.args.reader.now.agent.seat.me.0 in let w : View = c.search_seat_by.new.reader.agent.seat.me.0 in
    let u = has_key v.units c.args.id c.requires.known in let t = c.in-Shut.ensures.searches u.0 u.1 in
    let k = search_known v w u.0 None t.searched.finds.answer in seats_kept v w c.args.reader.now.belongs.5 k.0 k.1 c.args.seats.now c.requires.seated
