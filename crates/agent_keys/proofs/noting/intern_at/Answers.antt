use Rattle.std.proofs.Common.{◌≡◌, ◌∙◌, ℕ, List, Option, length, subst, sym}
use Rattle.std.proofs.lemmas.List.{take_at}
use Rattle.heap_rule.specs.declared.view.View.{View}
use Rattle.heap_table.specs.Agents.{view_of}
use Rattle.heap_intern.specs.Answers.{copy_plan}
use Rattle.heap_intern.specs.Hashes.{AreHashes}
use Rattle.heap_intern.specs.Keys.{units_of_key}
use Rattle.heap_intern.specs.KeptKeys.{AreKeptKeys}
use Rattle.heap_intern.specs.Searching.{IsOpening}
use Rattle.heap_intern.specs.Seats.{AreSeats}
use Rattle.heap_intern.proofs.KeptKeys.{keys_by}
use Rattle.heap_intern.proofs.Seats.{seats_kept}
use Rattle.heap_reserve.specs.Reserves.{IsReserve}
use Rattle.heap_agents.specs.Shared.{SharedText, view_if}
use Rattle.agent_keys.proofs.Interned.{Leaves, leaves_at}
use Rattle.agent_keys.proofs.noting.intern_at.Goals as goal

pub intern_at-requires-clause-reserve : goal.intern_at-requires-clause-reserve
intern_at-requires-clause-reserve c = subst (λ (o : Option SharedText). IsReserve (view_if o) c.args.reserve.now) c.in-Some.is c.requires.reserved

pub intern_at-requires-clause-opening : goal.intern_at-requires-clause-opening
intern_at-requires-clause-opening c = subst (λ (o : Option SharedText). IsOpening (view_if o) (units_of_key c.args.key.now) c.args.opening) c.in-Some.is c.requires.opening

pub intern_at-requires-clause-hashed : goal.intern_at-requires-clause-hashed
intern_at-requires-clause-hashed c = let v = view_of c.in-Some.text.reader.agent in let s = c.args.seats.now in
    subst (λ (l : List ℕ). AreHashes v l) (sym c.as_mut_slice-hashes.ensures.value)
    (subst (λ (o : Option SharedText). AreHashes (view_if o) s.hashes.items) c.in-Some.is c.requires.noted.1)

pub returns-clause-noted : goal.returns-clause-noted
returns-clause-noted c = let call = c.intern_at in let s = c.args.seats.now in let t = c.in-Some.text in
    let v : View = view_of t.reader.agent in let w : View = view_of call.new.text.reader.agent in let us : List ℕ = units_of_key c.args.key.now in
    let l : Leaves v w us call.result = leaves_at v w c.args.reserve.now call.new.self us (copy_plan us) call.result call.ensures.interns in
    let len : length call.new.hashes ≡ s.hashes.len = call.ensures.notes.room ∙ c.as_mut_slice-hashes.ensures.len in (
      seats_kept v w t.reader.belongs.5 l.known l.sizes s.slots.items
          (subst (λ (o : Option SharedText). AreSeats (view_if o) s.slots.items) c.in-Some.is c.requires.noted.0),
      subst (λ (l : List ℕ). AreHashes w l) (sym (take_at call.new.hashes _ s.hashes.len len)) call.ensures.notes.right,
      keys_by v w t.reader.belongs.5 l.known l.sizes s.keys.items (subst (λ (o : Option SharedText). AreKeptKeys (view_if o) s.keys.items) c.in-Some.is c.requires.noted.2),
    )
