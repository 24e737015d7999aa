use Rattle.std.proofs.Common.{◌+◌, ◌≤◌, ◌∙◌, ℕ, List, ap, subst, sym}
use Rattle.std.specs.Prelude.{unwrap_or}
use Rattle.std.specs.FinMap.{FinMap, get}
use Rattle.std.specs.Ordering.{nat_cmp}
use Rattle.std.proofs.lemmas.Result.{IfOk-weaker}
use Rattle.js_units.specs.Lanes.{hash_of, is_wide}
use Rattle.heap_rule.specs.declared.view.View.{View}
use Rattle.heap_rule.specs.declared.size.Counters.{Counters}
use Rattle.heap_rule.specs.declared.size.HeapSize.{HeapSize}
use Rattle.heap_rule.specs.Paths.{rank}
use Rattle.heap_table.specs.Known.{KeepsKnown}
use Rattle.heap_intern.specs.Answers.{IsFixed, words_of_copy}
use Rattle.heap_intern.specs.Keys.{units_of_key}
use Rattle.heap_intern.specs.SlotLoads.{loads_at}
use Rattle.heap_intern.specs.Taking.{without_given}
use Rattle.heap_intern.specs.Visits.{IsPlace}
use Rattle.heap_intern.specs.Seats.{id_in}
use Rattle.heap_intern.proofs.Giving.{flat_fixed, given_known, place_kept, settled_after, settled_known}
use Rattle.heap_intern.proofs.Going.{forms_trans}
use Rattle.heap_intern.proofs.Hashes.{hashes_kept}
use Rattle.heap_intern.proofs.Wanting.{one_wanted}
use Rattle.heap_intern.proofs.table.given.place_given.Goals as goal

pub place-requires-clause-wanted : goal.place-requires-clause-wanted
place-requires-clause-wanted g c = (units_of_key c.args.key.now, c.wanted.ensures.wanted c.make_given.new.reader.agent.seat.me.0)

pub place-requires-clause-hash : goal.place-requires-clause-hash
place-requires-clause-hash g c us h = let x : View = c.make_given.new.reader.agent.seat.me.0 in
    c.requires.hash ∙ ap hash_of (one_wanted x c.wanted.result (units_of_key c.args.key.now) us (c.wanted.ensures.wanted x) h)

pub place-requires-clause-hashed : goal.place-requires-clause-hashed
place-requires-clause-hashed g c = let v : View = c.args.reader.now.agent.seat.me.0 in let x : View = c.make_given.new.reader.agent.seat.me.0 in
    hashes_kept v x (given_known v x (words_of_copy (units_of_key c.args.key.now)) c.args.given c.make_given.ensures.goes.known) c.args.hashes.now c.requires.hashed

pub place-requires-clause-place : goal.place-requires-clause-place
place-requires-clause-place g c us h = let v : View = c.args.reader.now.agent.seat.me.0 in let x : View = c.make_given.new.reader.agent.seat.me.0 in
    let ks : List ℕ = units_of_key c.args.key.now in
    subst (λ (ws : List ℕ). IsPlace x ws c.args.slot c.args.at) (one_wanted x c.wanted.result ks us (c.wanted.ensures.wanted x) h)
    (place_kept v x ks c.args.slot c.args.at c.args.reader.now.belongs.5 (given_known v x (words_of_copy ks) c.args.given c.make_given.ensures.goes.known) c.make_given.ensures.goes.sizes c.requires.place)

pub place-requires-clause-fixed : goal.place-requires-clause-fixed
place-requires-clause-fixed g c us h = let x : View = c.make_given.new.reader.agent.seat.me.0 in let ks : List ℕ = units_of_key c.args.key.now in
    subst (λ (ws : List ℕ). IsFixed x ws c.args.given.id) (one_wanted x c.wanted.result ks us (c.wanted.ensures.wanted x) h)
    (flat_fixed x (is_wide ks) c.args.given.start ks c.args.given.id c.make_given.ensures.flat)

pub returns-clause-forms : goal.returns-clause-forms
returns-clause-forms g c = let v : View = c.args.reader.now.agent.seat.me.0 in let x : View = c.make_given.new.reader.agent.seat.me.0 in
    forms_trans v x c.place.new.reader.agent.seat.me.0 c.make_given.ensures.forms c.place.ensures.forms

pub returns-clause-places : goal.returns-clause-places
returns-clause-places g c = let v : View = c.args.reader.now.agent.seat.me.0 in let x : View = c.make_given.new.reader.agent.seat.me.0 in let w : View = c.place.new.reader.agent.seat.me.0 in
    let ks : List ℕ = units_of_key c.args.key.now in
    settled_after (without_given v (words_of_copy ks) c.args.given) x w ks (id_in c.place.result) c.make_given.ensures.goes (c.place.ensures.places ks (c.wanted.ensures.wanted x))

pub returns-clause-flat : goal.returns-clause-flat
returns-clause-flat g c = let x : View = c.make_given.new.reader.agent.seat.me.0 in let w : View = c.place.new.reader.agent.seat.me.0 in
    let ks : List ℕ = units_of_key c.args.key.now in let f = c.make_given.ensures.flat in
    let k : KeepsKnown x w = (settled_known x w ks (id_in c.place.result) (c.place.ensures.places ks (c.wanted.ensures.wanted x))).0 in
    (k.flats c.args.given.id (is_wide ks) c.args.given.start f.0, k.units c.args.given.id ks f.1)

pub returns-clause-nothing : goal.returns-clause-nothing
returns-clause-nothing g c = let n = c.place.ensures.nothing in
    (n.0 ∙ ap (λ (u : Counters). u.ids) c.make_given.ensures.used, n.1 ∙ ap (λ (u : Counters). u.words) c.make_given.ensures.used)

pub returns-clause-stands : goal.returns-clause-stands
returns-clause-stands g c = let x : View = c.make_given.new.reader.agent.seat.me.0 in
    IfOk-weaker c.place.result _ _ (λ s h. h (units_of_key c.args.key.now) (c.wanted.ensures.wanted x)) c.place.ensures.stands

pub returns-clause-once : goal.returns-clause-once
returns-clause-once g c k l = let v : View = c.args.reader.now.agent.seat.me.0 in let x : View = c.make_given.new.reader.agent.seat.me.0 in let w : View = c.place.new.reader.agent.seat.me.0 in
    let ks : List ℕ = units_of_key c.args.key.now in
    subst (λ (m : FinMap nat_cmp ℕ). loads_at w k ≤ unwrap_or (get m k) 0 + 1) c.make_given.ensures.loads
    (c.place.ensures.once ks (c.wanted.ensures.wanted x) k (subst (λ (z : HeapSize). rank ks z.slots k ≤ c.args.at) (sym c.make_given.ensures.goes.sizes) l))

pub returns-clause-most : goal.returns-clause-most
returns-clause-most g c k = let w : View = c.place.new.reader.agent.seat.me.0 in
    subst (λ (m : FinMap nat_cmp ℕ). loads_at w k ≤ unwrap_or (get m k) 0 + 2) c.make_given.ensures.loads (c.place.ensures.most k)

pub returns-clause-apart : goal.returns-clause-apart
returns-clause-apart g c k ne apart = c.place.ensures.apart k ne apart ∙ ap (λ (m : FinMap nat_cmp ℕ). unwrap_or (get m k) 0) c.make_given.ensures.loads
