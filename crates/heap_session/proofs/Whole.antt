-- A view that has the whole share knows every used slot, each by a call of its own.
use Rattle.std.proofs.Common.{◌≡◌, ℕ, zero, suc, ◌+◌, ◌<◌, ◌≤◌, Bool, true, false, List, sym, refl, ◌∙◌, arith, if◌then◌else◌}
use Rattle.std.specs.Prelude.{Contains}
use Rattle.std.proofs.Math.Logic.{∥∥₁_elim}
use Rattle.std.proofs.Props.{props}
use Rattle.std.proofs.lemmas.List.Elements.{Contains-append_right}
use Rattle.std.specs.FinMap.{get, contains_key}
use Rattle.atomic_table.specs.Seated.{TableId}
use Rattle.heap_rule.specs.declared.view.View.{View}
use Rattle.heap_rule.specs.declared.size.Counter.TheVariants.{Ids, Words}
use Rattle.heap_rule.specs.Maps.{Has}
use Rattle.heap_rule.specs.Sound.{IsPossible, StandsIn}
use Rattle.heap_rule.specs.Views.{history}
use Rattle.heap_rule.proofs.MapLemmas.{key_of}
use Rattle.heap_rule.proofs.SlotTests.{shut_exactly}
use Rattle.heap_rule.proofs.Steps.{counter_found}
use Rattle.heap_rule.proofs.Whole.{whole_counter, whole_slot}
use Rattle.heap_intern.specs.Counting.{count_below, different}
use Rattle.heap_intern.proofs.SlotLoads.{possible_counted}
use Rattle.heap_intern.proofs.Distinct.{used_below}
use Rattle.heap_session.specs.Sessions.{state_by}
use Rattle.heap_session.specs.Whole.{HasWholeCounts}

counts_in : (v : View) → StandsIn v → v.share ≡ v.agents → (v.low.ids ≤ v.used.ids) × (v.low.words ≤ v.used.words) × (v.used.ids ≤ v.sizes.ids) × (v.used.words ≤ v.sizes.words)
counts_in v (z, agents, W, vs, j, s, at, live) whole =
    let ids = counter_found z agents W vs s j v at live Ids in let words = counter_found z agents W vs s j v at live Words in
    let used_ids = whole_counter z agents W vs s j v at live Ids whole in let used_words = whole_counter z agents W vs s j v at live Words whole in
    let a = ids.0 in let b = ids.1 in let c = words.0 in let d = words.1 in (omega arith, omega arith, omega arith, omega arith)

called_in : (v : View) → StandsIn v → v.share ≡ v.agents → (k i : ℕ) → Has v.slots k i → (u : List ℕ) × Contains (history v) (u, i)
called_in v (z, agents, W, vs, j, s, at, live) whole k i h = let p = (s.knows j v at live).of_slots k i h in let t = whole_slot z agents W vs s j v at live whole k i p.0 p.1 in
    (t.0, Contains-append_right v.seen v.mine (t.0, i) t.1)

-- the ids in the slots are different ones, and lie below the counter
slot_ids_in : (v : View) → StandsIn v → v.share ≡ v.agents → count_below (λ k. contains_key v.slots k) v.sizes.slots ≤ v.used.ids
slot_ids_in v (z, agents, W, vs, j, s, at, live) whole = let know = s.knows j v at live in let used = whole_counter z agents W vs s j v at live Ids whole in
    used_below (λ k. get v.slots k) v.sizes.slots v.used.ids
    (λ k l i a b e g. let p = know.of_slots k i e in let q = know.of_slots l i g in s.different k l i i p.0 q.0 p.1 q.1 refl)
    (λ k i a e. let p = know.of_slots k i e in let b = (s.standing i (s.slots k i p.0 p.1).born).below in omega arith)

counts : (v : View) → IsPossible v → v.share ≡ v.agents → (v.low.ids ≤ v.used.ids) × (v.low.words ≤ v.used.words) × (v.used.ids ≤ v.sizes.ids) × (v.used.words ≤ v.sizes.words)
counts v p whole = ∥∥₁_elim p (Prim.hlevel props) (λ t. counts_in v t whole)

counted : (v : View) → IsPossible v → v.share ≡ v.agents → count_below (λ k. contains_key v.slots k) v.sizes.slots ≡ different (history v)
counted v p whole = ∥∥₁_elim p (Prim.hlevel props) (λ t. possible_counted v p (called_in v t whole))

slot_ids : (v : View) → IsPossible v → v.share ≡ v.agents → count_below (λ k. contains_key v.slots k) v.sizes.slots ≤ v.used.ids
slot_ids v p whole = ∥∥₁_elim p (Prim.hlevel props) (λ t. slot_ids_in v t whole)

one_more : (b : Bool) (c n : ℕ) → c ≤ n → c + (if b then 1 else 0) ≤ suc n
one_more true c n e = omega arith
one_more false c n e = omega arith

count_most : (f : ℕ → Bool) (n : ℕ) → count_below f n ≤ n
count_most f zero = omega arith
count_most f (suc n) = one_more (f n) (count_below f n) n (count_most f n)

one_for : (b : Bool) (c n : ℕ) → b ≡ true → c ≡ n → c + (if b then 1 else 0) ≡ suc n
one_for true c n h e = omega (arith, e)
one_for false c n h e = cc

count_all : (f : ℕ → Bool) (n : ℕ) → ((k : ℕ) → k < n → f k ≡ true) → count_below f n ≡ n
count_all f zero h = refl
count_all f (suc n) h = one_for (f n) (count_below f n) n (h n (omega arith)) (count_all f n (λ k l. h k (omega arith)))

pub whole_all : (v : View) (l : ℕ) (t : TableId) → IsPossible v → v.share ≡ v.agents → HasWholeCounts (state_by v l t)
whole_all v l t p whole = let c = counts v p whole in let e = counted v p whole in record {
  low_ids = c.0;
  low_words = c.1;
  ids = c.2;
  words = c.3;
  slots = (let m = count_most (λ k. contains_key v.slots k) v.sizes.slots in omega arith);
  slot_ids = (let m = slot_ids v p whole in omega arith);
  shut = λ u h. sym e ∙ count_all (λ k. contains_key v.slots k) v.sizes.slots (λ k less. let s = (shut_exactly v u v.sizes.slots).0 h k less in key_of v.slots k s.0 s.1);
}
