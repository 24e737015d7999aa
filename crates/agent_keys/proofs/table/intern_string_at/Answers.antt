use Rattle.std.proofs.Common.{◌≡◌, ◌∙◌, ℕ, List, Option, length, subst, sym}
use Rattle.std.proofs.lemmas.List.{take_at}
use Rattle.heap_rule.specs.declared.view.View.{View}
use Rattle.heap_table.specs.Agents.{view_of}
use Rattle.heap_intern.specs.Hashes.{AreHashes}
use Rattle.heap_intern.specs.KeptKeys.{AreKeptKeys}
use Rattle.heap_intern.specs.Searching.{IsStringOpening, opening_plan}
use Rattle.heap_intern.specs.Seats.{AreSeats}
use Rattle.heap_intern.proofs.KeptKeys.{keys_by}
use Rattle.heap_reserve.specs.Reserves.{IsReserve}
use Rattle.heap_agents.specs.Shared.{SharedText, view_if}
use Rattle.agent_keys.proofs.Interned.{Leaves, leaves_at}
use Rattle.agent_keys.proofs.table.intern_string_at.Goals as goal

pub intern_string_at-requires-clause-reserve : goal.intern_string_at-requires-clause-reserve
intern_string_at-requires-clause-reserve c = subst (λ (o : Option SharedText). IsReserve (view_if o) c.args.reserve.now) c.in-Some.is c.requires.reserved

pub intern_string_at-requires-clause-opening : goal.intern_string_at-requires-clause-opening
intern_string_at-requires-clause-opening c = (
  c.requires.opening.0,
  subst (λ (o : Option SharedText). IsStringOpening (view_if o) c.requires.opening.0 c.args.opening) c.in-Some.is c.requires.opening.1,
)

pub intern_string_at-requires-clause-seated : goal.intern_string_at-requires-clause-seated
intern_string_at-requires-clause-seated c = let v = view_of c.in-Some.text.reader.agent in let s = c.args.seats.now in
    subst (λ (l : List ℕ). AreSeats v l) (sym c.as_mut_slice.ensures.value)
    (subst (λ (o : Option SharedText). AreSeats (view_if o) s.slots.items) c.in-Some.is c.requires.noted.0)

pub intern_string_at-requires-clause-hashed : goal.intern_string_at-requires-clause-hashed
intern_string_at-requires-clause-hashed c = let v = view_of c.in-Some.text.reader.agent in let s = c.args.seats.now in
    subst (λ (l : List ℕ). AreHashes v l) (sym c.as_mut_slice-in-Some.ensures.value)
    (subst (λ (o : Option SharedText). AreHashes (view_if o) s.hashes.items) c.in-Some.is c.requires.noted.1)

pub returns-clause-noted : goal.returns-clause-noted
returns-clause-noted c = let call = c.intern_string_at in let s = c.args.seats.now in let o = c.requires.opening in let v : View = view_of c.in-Some.text.reader.agent in
    let w : View = view_of call.new.text.reader.agent in
    let opening : IsStringOpening v o.0 c.args.opening = subst (λ (t : Option SharedText). IsStringOpening (view_if t) o.0 c.args.opening) c.in-Some.is o.1 in
    let notes = call.ensures.notes o.0 opening in
    let l : Leaves v w o.0 call.result = leaves_at v w c.args.reserve.now call.new.self o.0 (opening_plan c.args.opening o.0) call.result (call.ensures.interns o.0 opening) in
    let len : length call.new.seats ≡ s.slots.len = call.ensures.room ∙ c.as_mut_slice.ensures.len in
    let hash_len : length call.new.hashes ≡ s.hashes.len = notes.room ∙ c.as_mut_slice-in-Some.ensures.len in (
      subst (λ (l : List ℕ). AreSeats (view_of call.new.text.reader.agent) l) (sym (take_at call.new.seats _ s.slots.len len)) call.ensures.seated,
      subst (λ (l : List ℕ). AreHashes (view_of call.new.text.reader.agent) l) (sym (take_at call.new.hashes _ s.hashes.len hash_len)) notes.right,
      keys_by v w c.in-Some.text.reader.belongs.5 l.known l.sizes s.keys.items (subst (λ (o : Option SharedText). AreKeptKeys (view_if o) s.keys.items) c.in-Some.is c.requires.noted.2),
    )
