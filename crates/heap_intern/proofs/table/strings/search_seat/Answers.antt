use Rattle.std.proofs.Common.{◌≡◌, ◌∙◌, ℕ, List, Option, Some, None, ap, refl, subst, sym}
use Rattle.std.specs.Prelude.{IfSome}
use Rattle.js_units.specs.Lanes.{hash_of}
use Rattle.heap_rule.specs.declared.size.HeapSize.{HeapSize}
use Rattle.heap_rule.specs.declared.view.View.{View}
use Rattle.heap_rule.specs.Maps.{Has}
use Rattle.heap_rule.proofs.MapLemmas.{has_key, key_of}
use Rattle.heap_table.specs.Agents.{size_of}
use Rattle.heap_table.specs.Known.{KeepsKnown}
use Rattle.heap_intern.specs.declared.table.probing.Seat.{Seat}
use Rattle.heap_intern.specs.declared.table.searching.Opening.{Opening}
use Rattle.heap_intern.specs.Answers.{FindsString, IsFixed, IsForwarded}
use Rattle.heap_intern.specs.Goes.{LoadsAlone}
use Rattle.heap_intern.specs.Headers.{header_plan}
use Rattle.heap_intern.specs.Visits.{IsFreeAt, StandsAt}
use Rattle.heap_read.proofs.Showing.{forms_held}
use Rattle.heap_read.proofs.Loaded.{key_kept, known_trans}
use Rattle.heap_intern.proofs.Again.{find_again}
use Rattle.heap_intern.proofs.Going.{looks_reads, looks_trans}
use Rattle.heap_intern.proofs.Hashes.{hashes_kept, notes_answer, notes_from, notes_none, notes_none_then, notes_then}
use Rattle.heap_intern.proofs.Loading.{slots_few, slots_from, slots_then}
use Rattle.heap_intern.proofs.Opened.{opening_of}
use Rattle.heap_intern.proofs.Planning.{makes_none, plan_is, ready_fixed}
use Rattle.heap_intern.proofs.Searches.{finds_around, loads_around, never_thin, none_before_walk, opened_around, opening_around, stands_around}
use Rattle.heap_intern.proofs.Seeking.{frozen_kept, sought_kept, sought_window}
use Rattle.heap_intern.proofs.Visiting.{only_units}
use Rattle.heap_intern.proofs.Wanting.{wanted_str}
use Rattle.heap_intern.proofs.table.strings.search_seat.Goals as goal

pub hash_in-hash-requires : goal.hash_in-hash-requires
hash_in-hash-requires g c = let v : View = c.args.reader.now.agent.seat.me.0 in let w : View = c.seek-s.new.reader.agent.seat.me.0 in
    let u = has_key v.units c.args.id c.requires.known in
    let here : Has w.units c.seek-s.result.id u.0 = subst (λ (i : ℕ). Has w.units i u.0) (sym c.seek-s.ensures.id)
    (c.seek-s.ensures.looks.goes.known.units c.args.id u.0 u.1) in
    (u.0, sought_window w c.seek-s.new.reader.belongs.5 c.seek-s.result u.0 c.seek-s.ensures.lies here)

pub walk_ready-requires-clause-wanted : goal.walk_ready-requires-clause-wanted
walk_ready-requires-clause-wanted g c = let v : View = c.seek-s.new.reader.agent.seat.me.0 in let u : View = c.hash_in-hash.new.self.agent.seat.me.0 in let s = c.seek-s.result in
    let p = has_key c.args.reader.now.agent.seat.me.0.units c.args.id c.requires.known in
    let l = looks_trans c.args.reader.now.agent.seat.me.0 v u c.seek-s.ensures.looks (looks_reads v u c.hash_in-hash.ensures.reads.view) in
    let here : Has u.units s.id p.0 = subst (λ (i : ℕ). Has u.units i p.0) (sym c.seek-s.ensures.id) (l.goes.known.units c.args.id p.0 p.1) in
    (p.0, (wanted_str v u s p.0 c.hash_in-hash.ensures.reads.view.known (forms_held v u c.hash_in-hash.ensures.forms.0) c.seek-s.ensures.lies c.hash_in-hash.ensures.frozen here))

pub walk_ready-requires-clause-hash : goal.walk_ready-requires-clause-hash
walk_ready-requires-clause-hash g c us h = let v : View = c.args.reader.now.agent.seat.me.0 in
    let w : View = c.seek-s.new.reader.agent.seat.me.0 in let u : View = c.hash_in-hash.new.self.agent.seat.me.0 in let s = c.seek-s.result in
    let k = has_key v.units c.args.id c.requires.known in
    let here : Has w.units s.id k.0 = subst (λ (i : ℕ). Has w.units i k.0) (sym c.seek-s.ensures.id) (c.seek-s.ensures.looks.goes.known.units c.args.id k.0 k.1) in let e = c.hash_in-hash.ensures in
    only_units u.units s.id us k.0 (λ (xs : List ℕ). c.hash_in-hash.result ≡ hash_of xs) (e.reads.view.known.units s.id k.0 here) h.1
    (e.hash k.0 (sought_window w c.seek-s.new.reader.belongs.5 s k.0 c.seek-s.ensures.lies here))

pub walk_ready-requires-clause-ready : goal.walk_ready-requires-clause-ready
walk_ready-requires-clause-ready g c us h = let v : View = c.seek-s.new.reader.agent.seat.me.0 in let u : View = c.hash_in-hash.new.self.agent.seat.me.0 in let s = c.seek-s.result in
    subst (λ (o : Option ℕ). IfSome o (IsFixed u us)) (sym c.forwards_to-ready.ensures)
    (ready_fixed u c.hash_in-hash.new.self.belongs.5 s us h.0 h.1 (λ t is. key_kept v u t c.hash_in-hash.ensures.reads.view.known
    (c.seek-s.ensures.target t is)))

pub walk_ready-requires-clause-hashed : goal.walk_ready-requires-clause-hashed
walk_ready-requires-clause-hashed g c = let a : View = c.args.reader.now.agent.seat.me.0 in let v : View = c.seek-s.new.reader.agent.seat.me.0 in let u : View = c.hash_in-hash.new.self.agent.seat.me.0 in
    let l = looks_trans a v u c.seek-s.ensures.looks (looks_reads v u c.hash_in-hash.ensures.reads.view) in hashes_kept a u l.goes.known c.args.hashes.now c.requires.hashed

pub forward-requires-clause-lies : goal.forward-requires-clause-lies
forward-requires-clause-lies g c = let a : View = c.args.reader.now.agent.seat.me.0 in let v : View = c.seek-s.new.reader.agent.seat.me.0 in let u : View = c.hash_in-hash.new.self.agent.seat.me.0 in
    let w : View = c.walk_ready.new.reader.agent.seat.me.0 in let s = c.seek-s.result in let h = c.hash_in-hash.ensures in
    let a0 : View = c.args.reader.now.agent.seat.me.0 in let v0 : View = c.seek-s.new.reader.agent.seat.me.0 in let u0 : View = c.hash_in-hash.new.self.agent.seat.me.0 in
    let k0 = has_key a0.units c.args.id c.requires.known in
    let l0 = looks_trans a0 v0 u0 c.seek-s.ensures.looks (looks_reads v0 u0 c.hash_in-hash.ensures.reads.view) in
    let here0 : Has u0.units c.seek-s.result.id k0.0 = subst (λ (i : ℕ). Has u0.units i k0.0) (sym c.seek-s.ensures.id) (l0.goes.known.units c.args.id k0.0 k0.1) in
    let w0 = wanted_str v0 u0 c.seek-s.result k0.0 c.hash_in-hash.ensures.reads.view.known (forms_held v0 u0 c.hash_in-hash.ensures.forms.0) c.seek-s.ensures.lies c.hash_in-hash.ensures.frozen here0 in let f : FindsString u w k0.0 (Some c.in-Found.seat.id) = c.in-Found.ensures.finds k0.0 w0 in
    sought_kept u w f.0.known c.walk_ready.ensures.forms s w0.0

pub forward-requires-clause-stands : goal.forward-requires-clause-stands
forward-requires-clause-stands g c = let a0 : View = c.args.reader.now.agent.seat.me.0 in let v0 : View = c.seek-s.new.reader.agent.seat.me.0 in let u0 : View = c.hash_in-hash.new.self.agent.seat.me.0 in
    let k0 = has_key a0.units c.args.id c.requires.known in
    let l0 = looks_trans a0 v0 u0 c.seek-s.ensures.looks (looks_reads v0 u0 c.hash_in-hash.ensures.reads.view) in
    let here0 : Has u0.units c.seek-s.result.id k0.0 = subst (λ (i : ℕ). Has u0.units i k0.0) (sym c.seek-s.ensures.id) (l0.goes.known.units c.args.id k0.0 k0.1) in
    let w0 = wanted_str v0 u0 c.seek-s.result k0.0 c.hash_in-hash.ensures.reads.view.known (forms_held v0 u0 c.hash_in-hash.ensures.forms.0) c.seek-s.ensures.lies c.hash_in-hash.ensures.frozen here0 in let t = c.in-Found.ensures.ends k0.0 w0 in (c.in-Found.seat.slot, t.0)

pub forward-requires-clause-units : goal.forward-requires-clause-units
forward-requires-clause-units g c = let u : View = c.hash_in-hash.new.self.agent.seat.me.0 in let w : View = c.walk_ready.new.reader.agent.seat.me.0 in let s = c.seek-s.result in
    let a0 : View = c.args.reader.now.agent.seat.me.0 in let v0 : View = c.seek-s.new.reader.agent.seat.me.0 in let u0 : View = c.hash_in-hash.new.self.agent.seat.me.0 in
    let k0 = has_key a0.units c.args.id c.requires.known in
    let l0 = looks_trans a0 v0 u0 c.seek-s.ensures.looks (looks_reads v0 u0 c.hash_in-hash.ensures.reads.view) in
    let here0 : Has u0.units c.seek-s.result.id k0.0 = subst (λ (i : ℕ). Has u0.units i k0.0) (sym c.seek-s.ensures.id) (l0.goes.known.units c.args.id k0.0 k0.1) in
    let w0 = wanted_str v0 u0 c.seek-s.result k0.0 c.hash_in-hash.ensures.reads.view.known (forms_held v0 u0 c.hash_in-hash.ensures.forms.0) c.seek-s.ensures.lies c.hash_in-hash.ensures.frozen here0 in let f : FindsString u w k0.0 (Some c.in-Found.seat.id) = c.in-Found.ensures.finds k0.0 w0 in
    (k0.0, f.0.known.units s.id k0.0 w0.1, f.2.1)

pub header_need-wide-requires-clause-lies : goal.header_need-wide-requires-clause-lies
header_need-wide-requires-clause-lies g c = let u : View = c.hash_in-hash.new.self.agent.seat.me.0 in let w : View = c.walk_ready.new.reader.agent.seat.me.0 in
    let a0 : View = c.args.reader.now.agent.seat.me.0 in let v0 : View = c.seek-s.new.reader.agent.seat.me.0 in let u0 : View = c.hash_in-hash.new.self.agent.seat.me.0 in
    let k0 = has_key a0.units c.args.id c.requires.known in
    let l0 = looks_trans a0 v0 u0 c.seek-s.ensures.looks (looks_reads v0 u0 c.hash_in-hash.ensures.reads.view) in
    let here0 : Has u0.units c.seek-s.result.id k0.0 = subst (λ (i : ℕ). Has u0.units i k0.0) (sym c.seek-s.ensures.id) (l0.goes.known.units c.args.id k0.0 k0.1) in
    let w0 = wanted_str v0 u0 c.seek-s.result k0.0 c.hash_in-hash.ensures.reads.view.known (forms_held v0 u0 c.hash_in-hash.ensures.forms.0) c.seek-s.ensures.lies c.hash_in-hash.ensures.frozen here0 in let f : FindsString u w k0.0 None = c.in-Free.ensures.finds k0.0 w0 in
    sought_kept u w f.0.goes.known c.walk_ready.ensures.forms c.seek-s.result w0.0

pub header_need-wide-requires-clause-known : goal.header_need-wide-requires-clause-known
header_need-wide-requires-clause-known g c = let u : View = c.hash_in-hash.new.self.agent.seat.me.0 in let w : View = c.walk_ready.new.reader.agent.seat.me.0 in let s = c.seek-s.result in
    let a0 : View = c.args.reader.now.agent.seat.me.0 in let v0 : View = c.seek-s.new.reader.agent.seat.me.0 in let u0 : View = c.hash_in-hash.new.self.agent.seat.me.0 in
    let k0 = has_key a0.units c.args.id c.requires.known in
    let l0 = looks_trans a0 v0 u0 c.seek-s.ensures.looks (looks_reads v0 u0 c.hash_in-hash.ensures.reads.view) in
    let here0 : Has u0.units c.seek-s.result.id k0.0 = subst (λ (i : ℕ). Has u0.units i k0.0) (sym c.seek-s.ensures.id) (l0.goes.known.units c.args.id k0.0 k0.1) in
    let w0 = wanted_str v0 u0 c.seek-s.result k0.0 c.hash_in-hash.ensures.reads.view.known (forms_held v0 u0 c.hash_in-hash.ensures.forms.0) c.seek-s.ensures.lies c.hash_in-hash.ensures.frozen here0 in let f : FindsString u w k0.0 None = c.in-Free.ensures.finds k0.0 w0 in
    key_of w.units s.id k0.0 (f.0.goes.known.units s.id k0.0 w0.1)

pub returns-in-Found-clause-searches : goal.returns-in-Found-clause-searches
returns-in-Found-clause-searches g c us h = let a : View = c.args.reader.now.agent.seat.me.0 in let v : View = c.seek-s.new.reader.agent.seat.me.0 in let u : View = c.hash_in-hash.new.self.agent.seat.me.0 in
    let w : View = c.walk_ready.new.reader.agent.seat.me.0 in let x : View = c.forward.new.reader.agent.seat.me.0 in let s = c.seek-s.result in let e = c.seek-s.ensures in let b = c.hash_in-hash.ensures in
    let l : LoadsAlone a u = looks_trans a v u e.looks (looks_reads v u b.reads.view) in
    let here : Has u.units s.id us = subst (λ (i : ℕ). Has u.units i us) (sym e.id) (l.goes.known.units c.args.id us h) in
    let want = wanted_str v u s us b.reads.view.known (forms_held v u b.forms.0) e.lies b.frozen here in
    let f : FindsString u w us (Some c.in-Found.seat.id) = c.in-Found.ensures.finds us want in let m = c.forward.ensures.looks in
    let all : FindsString a x us (Some c.in-Found.seat.id) = finds_around a u w x us c.in-Found.seat.id c.walk_ready.new.reader.belongs.5 l f m in record {
      searched = record {
        finds = record {
          answer = all;
          again = λ i has stands. find_again a x us c.args.reader.now.belongs.5 c.forward.new.reader.belongs.5 i has stands (Some c.in-Found.seat.id) all;
          few = slots_few a x (Some c.in-Found.seat.id) c.args.steps.now c.walk_ready.new.steps
              (slots_then a w x (Some c.in-Found.seat.id) c.args.steps.now c.walk_ready.new.steps c.forward.ensures.loads m.goes.known.slots
              (slots_from a u w (Some c.in-Found.seat.id) c.args.steps.now c.walk_ready.new.steps (b.reads.view.slot_loads ∙ e.loads) (b.reads.view.sizes ∙ e.looks.goes.sizes) c.in-Found.ensures.loads));
        };
        ends = tt;
      };
      plan = header_plan s us;
      planned = (
        (
          s.form,
          e.found,
          plan_is u c.hash_in-hash.new.self.belongs.5 s us want.0 here x (known_trans u w x f.0.known m.goes.known),
          makes_none a x s.form (λ i is. all.1),
        ),
        subst (λ (i : ℕ). IsForwarded x i c.in-Found.seat.id) e.id c.forward.ensures.forwards,
      );
    }

pub returns-in-Found-clause-stands : goal.returns-in-Found-clause-stands
returns-in-Found-clause-stands g c seat is us h = let a : View = c.args.reader.now.agent.seat.me.0 in let v : View = c.seek-s.new.reader.agent.seat.me.0 in let u : View = c.hash_in-hash.new.self.agent.seat.me.0 in
    let w : View = c.walk_ready.new.reader.agent.seat.me.0 in let x : View = c.forward.new.reader.agent.seat.me.0 in let s = c.seek-s.result in let e = c.seek-s.ensures in let b = c.hash_in-hash.ensures in
    let l : LoadsAlone a u = looks_trans a v u e.looks (looks_reads v u b.reads.view) in
    let here : Has u.units s.id us = subst (λ (i : ℕ). Has u.units i us) (sym e.id) (l.goes.known.units c.args.id us h) in
    let want = wanted_str v u s us b.reads.view.known (forms_held v u b.forms.0) e.lies b.frozen here in
    let t = stands_around w x us c.in-Found.seat.slot c.in-Found.seat.id c.walk_ready.new.reader.belongs.5 c.forward.ensures.looks (c.in-Found.ensures.ends us want) in
    let one : c.in-Found.seat ≡ seat = cc in subst (λ (q : Seat). StandsAt x us q.slot q.id) one t

pub returns-in-Found-clause-notes : goal.returns-in-Found-clause-notes
returns-in-Found-clause-notes g c us h = let a : View = c.args.reader.now.agent.seat.me.0 in let v : View = c.seek-s.new.reader.agent.seat.me.0 in let u : View = c.hash_in-hash.new.self.agent.seat.me.0 in
    let w : View = c.walk_ready.new.reader.agent.seat.me.0 in let x : View = c.forward.new.reader.agent.seat.me.0 in let s = c.seek-s.result in let e = c.seek-s.ensures in let b = c.hash_in-hash.ensures in
    let l : LoadsAlone a u = looks_trans a v u e.looks (looks_reads v u b.reads.view) in
    let here : Has u.units s.id us = subst (λ (i : ℕ). Has u.units i us) (sym e.id) (l.goes.known.units c.args.id us h) in
    let want = wanted_str v u s us b.reads.view.known (forms_held v u b.forms.0) e.lies b.frozen here in
    let f : FindsString u w us (Some c.in-Found.seat.id) = c.in-Found.ensures.finds us want in let m = c.forward.ensures.looks in
    let n = c.note_hash.ensures in let stands = (c.in-Found.ensures.ends us want).0 in let later = c.note_hash.new.hashes in
    notes_then a w x c.forward.new.reader.belongs.5 us c.in-Found.seat.id c.in-Found.seat.slot c.args.hashes.now later stands m.goes.known c.forward.ensures.loads
    (notes_from a u w us (Some c.in-Found.seat.id) c.args.hashes.now later (b.reads.view.slot_loads ∙ e.loads)
    (notes_answer u w c.walk_ready.new.reader.belongs.5 us c.args.hashes.now later c.hash_in-hash.result (b.hash us (sought_window v c.seek-s.new.reader.belongs.5 s us e.lies (subst (λ (i : ℕ). Has v.units i us) (sym e.id) (e.looks.goes.known.units c.args.id us h)))) f.0.known
    (hashes_kept a u l.goes.known c.args.hashes.now c.requires.hashed) c.walk_ready.ensures.apart c.in-Found.seat.slot c.in-Found.seat.id c.max.result c.max.ensures stands f.2.1 n.room n.only n.there))

pub returns-in-Free-clause-searches : goal.returns-in-Free-clause-searches
returns-in-Free-clause-searches g c us h = let a : View = c.args.reader.now.agent.seat.me.0 in let v : View = c.seek-s.new.reader.agent.seat.me.0 in let u : View = c.hash_in-hash.new.self.agent.seat.me.0 in
    let w : View = c.walk_ready.new.reader.agent.seat.me.0 in let x : View = c.header_need-wide.new.reader.agent.seat.me.0 in let s = c.seek-s.result in let e = c.seek-s.ensures in let b = c.hash_in-hash.ensures in
    let l : LoadsAlone a u = looks_trans a v u e.looks (looks_reads v u b.reads.view) in
    let here : Has u.units s.id us = subst (λ (i : ℕ). Has u.units i us) (sym e.id) (l.goes.known.units c.args.id us h) in
    let want = wanted_str v u s us b.reads.view.known (forms_held v u b.forms.0) e.lies b.frozen here in
    let f : FindsString u w us None = c.in-Free.ensures.finds us want in let m = c.header_need-wide.ensures.reads.view in
    let free : IsFreeAt u w us c.in-Free.slot c.in-Free.rank = c.in-Free.ensures.ends us want in
    let o : Opening = record { slot = c.in-Free.slot; rank = c.in-Free.rank; hash = c.hash_in-hash.result } in
    let p = c.walk_ready.new.reader.belongs.5 in let q = c.header_need-wide.new.reader.belongs.5 in
    let first = b.reads.view.slot_loads ∙ e.loads in
    let opening = opening_of w us o (b.hash us (sought_window v c.seek-s.new.reader.belongs.5 s us e.lies (subst (λ (i : ℕ). Has v.units i us) (sym e.id) (e.looks.goes.known.units c.args.id us h)))) free.place free.free in
    let all : FindsString a x us None = opened_around a u w x us o p q l first f free opening m in
    let known : KeepsKnown u x = known_trans u w x f.0.goes.known m.known in
    let there : Has w.units s.id us = f.0.goes.known.units s.id us here in
    let kept = sought_kept w x m.known (forms_held w x c.header_need-wide.ensures.forms.0) s (sought_kept u w f.0.goes.known c.walk_ready.ensures.forms s want.0) in record {
      searched = record {
        finds = record {
          answer = all;
          again = λ i has stands. find_again a x us c.args.reader.now.belongs.5 q i has stands None all;
          few = slots_few a x None c.args.steps.now c.walk_ready.new.steps
              (slots_then a w x None c.args.steps.now c.walk_ready.new.steps m.slot_loads m.known.slots
              (slots_from a u w None c.args.steps.now c.walk_ready.new.steps first (b.reads.view.sizes ∙ e.looks.goes.sizes) c.in-Free.ensures.loads));
        };
        ends = (opening_around a u w x us o p q l first f free opening m, loads_around a u w x us o p q l first f free opening m);
      };
      plan = header_plan s us;
      planned = (
        e.id,
        e.found,
        refl,
        record {
          sought = kept;
          units = m.known.units s.id us there;
          frozen = frozen_kept u x known s.window want.2;
          alone = never_thin s.form (sym c.forwards_to-ready.ensures ∙ c.in-Free.ensures.free tt);
          wide = c.header_need-wide.ensures.wide us there;
          words = c.header_need-wide.ensures.words us there;
          opening = opening_around a u w x us o p q l first f free opening m;
        },
      );
    }

pub returns-in-Free-clause-notes : goal.returns-in-Free-clause-notes
returns-in-Free-clause-notes g c us h = let a : View = c.args.reader.now.agent.seat.me.0 in let v : View = c.seek-s.new.reader.agent.seat.me.0 in let u : View = c.hash_in-hash.new.self.agent.seat.me.0 in
    let w : View = c.walk_ready.new.reader.agent.seat.me.0 in let x : View = c.header_need-wide.new.reader.agent.seat.me.0 in let s = c.seek-s.result in let e = c.seek-s.ensures in let b = c.hash_in-hash.ensures in
    let l : LoadsAlone a u = looks_trans a v u e.looks (looks_reads v u b.reads.view) in
    let here : Has u.units s.id us = subst (λ (i : ℕ). Has u.units i us) (sym e.id) (l.goes.known.units c.args.id us h) in
    let want = wanted_str v u s us b.reads.view.known (forms_held v u b.forms.0) e.lies b.frozen here in
    let f : FindsString u w us None = c.in-Free.ensures.finds us want in let m = c.header_need-wide.ensures.reads.view in
    notes_none_then a w x us c.args.hashes.now m.known m.slot_loads
    (notes_from a u w us None c.args.hashes.now c.args.hashes.now (b.reads.view.slot_loads ∙ e.loads)
    (notes_none u w c.walk_ready.new.reader.belongs.5 us c.args.hashes.now c.args.hashes.now c.hash_in-hash.result (b.hash us (sought_window v c.seek-s.new.reader.belongs.5 s us e.lies (subst (λ (i : ℕ). Has v.units i us) (sym e.id) (e.looks.goes.known.units c.args.id us h)))) f.0.goes.known
    (hashes_kept a u l.goes.known c.args.hashes.now c.requires.hashed) c.walk_ready.ensures.apart))

pub returns-in-Shut-clause-searches : goal.returns-in-Shut-clause-searches
returns-in-Shut-clause-searches g c us h = let a : View = c.args.reader.now.agent.seat.me.0 in let v : View = c.seek-s.new.reader.agent.seat.me.0 in let u : View = c.hash_in-hash.new.self.agent.seat.me.0 in
    let w : View = c.walk_ready.new.reader.agent.seat.me.0 in let s = c.seek-s.result in let e = c.seek-s.ensures in let b = c.hash_in-hash.ensures in
    let l : LoadsAlone a u = looks_trans a v u e.looks (looks_reads v u b.reads.view) in
    let here : Has u.units s.id us = subst (λ (i : ℕ). Has u.units i us) (sym e.id) (l.goes.known.units c.args.id us h) in
    let want = wanted_str v u s us b.reads.view.known (forms_held v u b.forms.0) e.lies b.frozen here in
    let f : FindsString u w us None = c.in-Shut.ensures.finds us want in let all : FindsString a w us None = none_before_walk a u w us l f in
    let n : c.size.result.slots ≡ w.sizes.slots = ap (λ (z : HeapSize). z.slots) ((c.size.ensures ∙ ap size_of c.heap.ensures) ∙ sym c.walk_ready.new.reader.belongs.1) in record {
      searched = record {
        finds = record {
          answer = all;
          again = λ i has stands. find_again a w us c.args.reader.now.belongs.5 c.walk_ready.new.reader.belongs.5 i has stands None all;
          few = slots_few a w None c.args.steps.now c.walk_ready.new.steps
              (slots_from a u w None c.args.steps.now c.walk_ready.new.steps (b.reads.view.slot_loads ∙ e.loads) (b.reads.view.sizes ∙ e.looks.goes.sizes) c.in-Shut.ensures.loads);
        };
        ends = (n, c.in-Shut.ensures.ends us want);
      };
      plan = header_plan s us;
      planned = (
        s.form,
        e.found,
        plan_is u c.hash_in-hash.new.self.belongs.5 s us want.0 here w f.0.goes.known,
        makes_none a w s.form (λ i is. (all.0.used, all.0.words)),
      );
    }

pub returns-in-Shut-clause-notes : goal.returns-in-Shut-clause-notes
returns-in-Shut-clause-notes g c us h = let a : View = c.args.reader.now.agent.seat.me.0 in let v : View = c.seek-s.new.reader.agent.seat.me.0 in let u : View = c.hash_in-hash.new.self.agent.seat.me.0 in
    let w : View = c.walk_ready.new.reader.agent.seat.me.0 in let s = c.seek-s.result in let e = c.seek-s.ensures in let b = c.hash_in-hash.ensures in
    let l : LoadsAlone a u = looks_trans a v u e.looks (looks_reads v u b.reads.view) in
    let here : Has u.units s.id us = subst (λ (i : ℕ). Has u.units i us) (sym e.id) (l.goes.known.units c.args.id us h) in
    let want = wanted_str v u s us b.reads.view.known (forms_held v u b.forms.0) e.lies b.frozen here in
    let f : FindsString u w us None = c.in-Shut.ensures.finds us want in
    notes_from a u w us None c.args.hashes.now c.args.hashes.now (b.reads.view.slot_loads ∙ e.loads)
    (notes_none u w c.walk_ready.new.reader.belongs.5 us c.args.hashes.now c.args.hashes.now c.hash_in-hash.result (b.hash us (sought_window v c.seek-s.new.reader.belongs.5 s us e.lies (subst (λ (i : ℕ). Has v.units i us) (sym e.id) (e.looks.goes.known.units c.args.id us h)))) f.0.goes.known
    (hashes_kept a u l.goes.known c.args.hashes.now c.requires.hashed) c.walk_ready.ensures.apart)
