use Rattle.std.proofs.Common.{◌≡◌, ◌∙◌, ℕ, List, Option, length, subst, sym}
use Rattle.std.specs.Prelude.{slice_index}
use Rattle.std.proofs.lemmas.List.{take_at}
use Rattle.heap_rule.specs.declared.view.View.{View}
use Rattle.heap_rule.specs.Maps.{Has, HasKey}
use Rattle.heap_rule.proofs.MapLemmas.{has_key}
use Rattle.heap_table.specs.Agents.{view_of}
use Rattle.heap_intern.specs.declared.table.kept.KeptKey.{KeptKey}
use Rattle.heap_intern.specs.Answers.{FindsString}
use Rattle.heap_intern.specs.Hashes.{AreHashes}
use Rattle.heap_intern.specs.KeptKeys.{AreKeptKeys}
use Rattle.heap_intern.specs.Searching.{SearchesString, found_key, key_search}
use Rattle.heap_intern.specs.Seats.{AreSeats}
use Rattle.heap_agents.specs.Shared.{SharedText, view_if}
use Rattle.heap_intern.proofs.KeptKeys.{keys_by}
use Rattle.agent_keys.proofs.Interned.{known_found, sizes_found}
use Rattle.heap_agents.proofs.Marks.{same_hashes, same_seats}
use Rattle.agent_keys.proofs.table.search_string.Goals as goal

pub search_string-requires-clause-seated : goal.search_string-requires-clause-seated
search_string-requires-clause-seated c = let v = view_of c.in-Some.text.reader.agent in
    subst (λ (l : List ℕ). AreSeats v l) (sym c.as_mut_slice.ensures.value) (same_seats v c.args.seats.now.slots.items c.reach_hashes.new.self.slots.items
    (λ i. (λ j. slice_index (c.reach_hashes.ensures.slots j).items i) ∙ c.reach.ensures.slots i)
    (subst (λ (o : Option SharedText). AreSeats (view_if o) c.args.seats.now.slots.items) c.in-Some.is c.requires.noted.0))

pub search_string-requires-clause-hashed : goal.search_string-requires-clause-hashed
search_string-requires-clause-hashed c = let v = view_of c.in-Some.text.reader.agent in
    subst (λ (l : List ℕ). AreHashes v l) (sym c.as_mut_slice-in-Some.ensures.value) (same_hashes v c.args.seats.now.hashes.items c.reach_hashes.new.self.hashes.items
    (λ k. c.reach_hashes.ensures.hashes k ∙ (λ j. slice_index (c.reach.ensures.hashes j).items k))
    (subst (λ (o : Option SharedText). AreHashes (view_if o) c.args.seats.now.hashes.items) c.in-Some.is c.requires.noted.1))

pub returns-clause-noted : goal.returns-clause-noted
returns-clause-noted c = let call = c.search_string in let t = c.in-Some.text in let v : View = view_of t.reader.agent in let w : View = view_of call.new.reader.agent in let s = c.args.seats.now in
    let u = has_key v.units c.args.s (subst (λ (o : Option SharedText). HasKey (view_if o).units c.args.s) c.in-Some.is c.requires.known) in
    let r = found_key (key_search call.result) in let f : FindsString v w u.0 r = (call.ensures.searches u.0 u.1).searched.finds.answer in
    let len : length call.new.seats ≡ c.reach_hashes.new.self.slots.len = call.ensures.room ∙ c.as_mut_slice.ensures.len in
    let hash_len : length call.new.hashes ≡ c.reach_hashes.new.self.hashes.len = call.ensures.hash_room ∙ c.as_mut_slice-in-Some.ensures.len in (
      subst (λ (l : List ℕ). AreSeats (view_of call.new.reader.agent) l) (sym (take_at call.new.seats _ c.reach_hashes.new.self.slots.len len)) call.ensures.seated,
      subst (λ (l : List ℕ). AreHashes (view_of call.new.reader.agent) l) (sym (take_at call.new.hashes _ c.reach_hashes.new.self.hashes.len hash_len)) call.ensures.hashed,
      subst (λ (q : List KeptKey). AreKeptKeys w q) (λ i. (sym c.reach_hashes.ensures.keys i).items)
          (subst (λ (q : List KeptKey). AreKeptKeys w q) (λ i. (sym c.reach.ensures.keys i).items)
          (keys_by v w t.reader.belongs.5 (known_found v w u.0 r f) (sizes_found v w u.0 r f) s.keys.items
          (subst (λ (o : Option SharedText). AreKeptKeys (view_if o) s.keys.items) c.in-Some.is c.requires.noted.2))),
    )

pub returns-clause-searches : goal.returns-clause-searches
returns-clause-searches c = let w = view_of c.search_string.new.reader.agent in
    subst (λ (o : Option SharedText). (us : List ℕ) → Has (view_if o).units c.args.s us → SearchesString (view_if o) w c.args.s us c.search_string.result) (sym c.in-Some.is) c.search_string.ensures.searches
