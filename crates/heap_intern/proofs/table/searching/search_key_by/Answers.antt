use Rattle.std.proofs.Common.{◌≡◌, ◌∙◌, ℕ, List, Some, None, ap, sym}
use Rattle.js_units.specs.Lanes.{hash_of}
use Rattle.heap_rule.specs.declared.view.View.{View}
use Rattle.heap_rule.specs.declared.size.HeapSize.{HeapSize}
use Rattle.heap_table.specs.Agents.{size_of}
use Rattle.heap_intern.specs.Answers.{FindsString}
use Rattle.heap_intern.specs.Keys.{units_of_key}
use Rattle.heap_intern.specs.Visits.{IsFreeAt}
use Rattle.heap_intern.proofs.Again.{find_again}
use Rattle.heap_intern.proofs.Hashes.{notes_answer, notes_none}
use Rattle.heap_intern.proofs.Loading.{slots_few}
use Rattle.heap_intern.proofs.Opened.{opening_of}
use Rattle.heap_intern.proofs.Seats.{seat_itself}
use Rattle.heap_intern.proofs.Visiting.{none_passed}
use Rattle.heap_intern.proofs.Wanting.{one_wanted}
use Rattle.heap_intern.proofs.table.searching.search_key_by.Goals as goal

pub walk_path-requires-clause-wanted : goal.walk_path-requires-clause-wanted
walk_path-requires-clause-wanted g c = (units_of_key c.args.key.now, c.wanted.ensures.wanted c.args.reader.now.agent.seat.me.0)

pub walk_path-requires-clause-hash : goal.walk_path-requires-clause-hash
walk_path-requires-clause-hash g c us h = let v : View = c.args.reader.now.agent.seat.me.0 in
    c.hash-hash.ensures ∙ ap hash_of (one_wanted v c.wanted.result (units_of_key c.args.key.now) us (c.wanted.ensures.wanted v) h)

pub walk_path-requires-clause-passed : goal.walk_path-requires-clause-passed
walk_path-requires-clause-passed g c us h = none_passed c.args.reader.now.agent.seat.me.0 us

pub returns-in-Found-clause-searches : goal.returns-in-Found-clause-searches
returns-in-Found-clause-searches g c = let v : View = c.args.reader.now.agent.seat.me.0 in let u : View = c.walk_path.new.reader.agent.seat.me.0 in let ks : List ℕ = units_of_key c.args.key.now in
    let f : FindsString v u ks (Some c.in-Found.seat.id) = c.in-Found.ensures.finds ks (c.wanted.ensures.wanted v) in record {
      finds = record {
        answer = f;
        again = λ i has stands. find_again v u ks c.args.reader.now.belongs.5 c.walk_path.new.reader.belongs.5 i has stands (Some c.in-Found.seat.id) f;
        few = slots_few v u (Some c.in-Found.seat.id) _ _ c.in-Found.ensures.loads;
      };
      ends = tt;
    }

pub returns-in-Found-clause-seated : goal.returns-in-Found-clause-seated
returns-in-Found-clause-seated g c = let v : View = c.args.reader.now.agent.seat.me.0 in let u : View = c.walk_path.new.reader.agent.seat.me.0 in let ks : List ℕ = units_of_key c.args.key.now in
    let f : FindsString v u ks (Some c.in-Found.seat.id) = c.in-Found.ensures.finds ks (c.wanted.ensures.wanted v) in
    seat_itself u ks c.in-Found.seat f.2 (c.in-Found.ensures.ends ks (c.wanted.ensures.wanted v))

pub returns-in-Found-clause-notes : goal.returns-in-Found-clause-notes
returns-in-Found-clause-notes g c = let v : View = c.args.reader.now.agent.seat.me.0 in let u : View = c.walk_path.new.reader.agent.seat.me.0 in let ks : List ℕ = units_of_key c.args.key.now in
    let f : FindsString v u ks (Some c.in-Found.seat.id) = c.in-Found.ensures.finds ks (c.wanted.ensures.wanted v) in let n = c.note_hash.ensures in
    notes_answer v u c.walk_path.new.reader.belongs.5 ks c.args.hashes.now c.note_hash.new.hashes c.hash-hash.result c.hash-hash.ensures f.0.known c.requires.hashed
    c.walk_path.ensures.apart c.in-Found.seat.slot c.in-Found.seat.id c.max.result c.max.ensures (c.in-Found.ensures.ends ks (c.wanted.ensures.wanted v)).0 f.2.1 n.room n.only n.there

pub returns-in-Free-clause-searches : goal.returns-in-Free-clause-searches
returns-in-Free-clause-searches g c = let v : View = c.args.reader.now.agent.seat.me.0 in let u : View = c.walk_path.new.reader.agent.seat.me.0 in let ks : List ℕ = units_of_key c.args.key.now in
    let wanted = c.wanted.ensures.wanted v in let f : FindsString v u ks None = c.in-Free.ensures.finds ks wanted in
    let e : IsFreeAt v u ks c.in-Free.slot c.in-Free.rank = c.in-Free.ensures.ends ks wanted in record {
      finds = record {
        answer = f;
        again = λ i has stands. find_again v u ks c.args.reader.now.belongs.5 c.walk_path.new.reader.belongs.5 i has stands None f;
        few = slots_few v u None _ _ c.in-Free.ensures.loads;
      };
      ends = (opening_of u ks _ c.hash-hash.ensures e.place e.free, record { once = e.once; ahead = e.ahead });
    }

pub returns-in-Free-clause-notes : goal.returns-in-Free-clause-notes
returns-in-Free-clause-notes g c = let v : View = c.args.reader.now.agent.seat.me.0 in let u : View = c.walk_path.new.reader.agent.seat.me.0 in let ks : List ℕ = units_of_key c.args.key.now in
    let f : FindsString v u ks None = c.in-Free.ensures.finds ks (c.wanted.ensures.wanted v) in
    notes_none v u c.walk_path.new.reader.belongs.5 ks c.args.hashes.now c.args.hashes.now c.hash-hash.result c.hash-hash.ensures f.0.goes.known c.requires.hashed c.walk_path.ensures.apart

pub returns-clause-searches : goal.returns-clause-searches
returns-clause-searches g c = let v : View = c.args.reader.now.agent.seat.me.0 in let u : View = c.walk_path.new.reader.agent.seat.me.0 in let ks : List ℕ = units_of_key c.args.key.now in
    let wanted = c.wanted.ensures.wanted v in let f : FindsString v u ks None = c.in-Shut.ensures.finds ks wanted in
    let n : c.size.result.slots ≡ u.sizes.slots = ap (λ (z : HeapSize). z.slots) ((c.size.ensures ∙ ap size_of c.heap.ensures) ∙ sym c.walk_path.new.reader.belongs.1) in record {
      finds = record {
        answer = f;
        again = λ i has stands. find_again v u ks c.args.reader.now.belongs.5 c.walk_path.new.reader.belongs.5 i has stands None f;
        few = slots_few v u None _ _ c.in-Shut.ensures.loads;
      };
      ends = (n, c.in-Shut.ensures.ends ks wanted);
    }

pub returns-clause-notes : goal.returns-clause-notes
returns-clause-notes g c = let v : View = c.args.reader.now.agent.seat.me.0 in let u : View = c.walk_path.new.reader.agent.seat.me.0 in let ks : List ℕ = units_of_key c.args.key.now in
    let f : FindsString v u ks None = c.in-Shut.ensures.finds ks (c.wanted.ensures.wanted v) in
    notes_none v u c.walk_path.new.reader.belongs.5 ks c.args.hashes.now c.args.hashes.now c.hash-hash.result c.hash-hash.ensures f.0.goes.known c.requires.hashed c.walk_path.ensures.apart
