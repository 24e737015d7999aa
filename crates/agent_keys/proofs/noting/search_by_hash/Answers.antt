use Rattle.std.proofs.Common.{◌≡◌, ◌∙◌, ℕ, List, length, subst, sym}
use Rattle.std.proofs.lemmas.List.{take_at}
use Rattle.heap_rule.specs.declared.view.View.{View}
use Rattle.heap_table.specs.Agents.{view_of}
use Rattle.heap_intern.specs.declared.table.kept.KeptKey.{KeptKey}
use Rattle.heap_intern.specs.Answers.{FindsString}
use Rattle.heap_intern.specs.Hashes.{AreHashes}
use Rattle.heap_intern.specs.Keys.{units_of_key}
use Rattle.heap_intern.specs.KeptKeys.{AreKeptKeys}
use Rattle.heap_intern.specs.Searching.{found_key}
use Rattle.heap_intern.specs.Seats.{AreSeats}
use Rattle.heap_intern.proofs.KeptKeys.{keys_by}
use Rattle.heap_intern.proofs.Seats.{seats_kept}
use Rattle.agent_keys.proofs.Interned.{known_found, sizes_found}
use Rattle.heap_agents.proofs.Marks.{same_hashes}
use Rattle.agent_keys.proofs.noting.search_by_hash.Goals as goal

pub search_key-requires-clause-hashed : goal.search_key-requires-clause-hashed
search_key-requires-clause-hashed c = let v = view_of c.args.text.now.reader.agent in let s = c.args.seats.now in
    subst (λ (l : List ℕ). AreHashes v l) (sym c.as_mut_slice-hashes.ensures.value)
    (same_hashes v s.hashes.items c.reach_hashes.new.self.hashes.items c.reach_hashes.ensures.hashes c.requires.noted.1)

pub returns-clause-noted : goal.returns-clause-noted
returns-clause-noted c = let call = c.search_key in let s = c.args.seats.now in let t = c.args.text.now in
    let v : View = view_of t.reader.agent in let w : View = view_of call.new.reader.agent in let us : List ℕ = units_of_key c.args.key.now in
    let f : FindsString v w us (found_key call.result) = call.ensures.searches.finds.answer in
    let known = known_found v w us (found_key call.result) f in let sizes = sizes_found v w us (found_key call.result) f in
    let len : length call.new.hashes ≡ c.reach_hashes.new.self.hashes.len = call.ensures.notes.room ∙ c.as_mut_slice-hashes.ensures.len in (
      subst (λ (q : List ℕ). AreSeats w q) (λ i. (sym c.reach_hashes.ensures.slots i).items) (seats_kept v w t.reader.belongs.5 known sizes s.slots.items c.requires.noted.0),
      subst (λ (l : List ℕ). AreHashes w l) (sym (take_at call.new.hashes _ c.reach_hashes.new.self.hashes.len len)) call.ensures.notes.right,
      subst (λ (q : List KeptKey). AreKeptKeys w q) (λ i. (sym c.reach_hashes.ensures.keys i).items) (keys_by v w t.reader.belongs.5 known sizes s.keys.items c.requires.noted.2),
    )
