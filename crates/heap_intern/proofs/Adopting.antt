-- Strings by their slots: what loads of a slot leave and count, what adopting one gives, and where the walk to the slot of a string ends.
use Rattle.std.proofs.Common.{◌≡◌, ◌≢◌, ℕ, ◌+◌, ◌%◌, ◌<◌, ◌≤◌, inl, true, List, [], ◌∷◌, length, sym, refl, ap, ◌∙◌, subst, arith, Option, Some}
use Rattle.std.specs.Prelude.{Contains, unwrap_or}
use Rattle.std.proofs.Math.Logic.{∥∥₁_elim}
use Rattle.std.proofs.Props.{props}
use Rattle.std.proofs.lemmas.List.{take_all}
use std.HLevel.{Σ_prop_path}
use Rattle.std.specs.FinMap.{FinMap, get, insert}
use Rattle.std.specs.Ordering.{nat_cmp}
use Rattle.js_units.specs.Lanes.{hash_of}
use Rattle.heap_rule.specs.declared.view.View.{View}
use Rattle.heap_rule.specs.declared.size.Counters.{Counters}
use Rattle.heap_rule.specs.declared.size.HeapSize.{HeapSize}
use Rattle.heap_rule.specs.Learning.{learned_all}
use Rattle.heap_rule.specs.Loads.{added_loads}
use Rattle.heap_rule.specs.Maps.{Has, HasKey}
use Rattle.heap_rule.specs.Paths.{rank, path_slot}
use Rattle.heap_rule.specs.Slots.{entry_in, loaded_slot}
use Rattle.heap_rule.specs.Sound.{IsPossible, StandsIn}
use Rattle.heap_rule.specs.Views.{history}
use Rattle.heap_rule.proofs.MapLemmas.{has_key, insert_other, insert_same}
use Rattle.heap_rule.proofs.Paths.{place_inside, place_rank, rank_inside, rank_place}
use Rattle.heap_rule.proofs.Possible.{possible_inside, possible_length}
use Rattle.heap_table.specs.Known.{KeepsKnown}
use Rattle.heap_read.specs.declared.string.Window.{Window}
use Rattle.heap_read.specs.Frozen.{AreFrozen, IsFixedWindow, IsLearned}
use Rattle.heap_read.specs.Reads.{HoldsForms}
use Rattle.heap_read.specs.Windows.{IsWindow}
use Rattle.heap_intern.specs.Adopted.{IsAdopted, LoadsHere, LoadsNoneBehind}
use Rattle.heap_intern.specs.Answers.{IsFixed}
use Rattle.heap_intern.specs.Goes.{LoadsAlone}
use Rattle.heap_intern.specs.SlotLoads.{counted_on, loads_at}
use Rattle.heap_intern.proofs.Going.{forms_trans, goes_slot, goes_trans, looks_trans}
use Rattle.heap_intern.specs.Visits.{Walking}
use Rattle.heap_intern.proofs.Loading.{on_most, walking_next, walking_none}
use Rattle.heap_intern.proofs.Seeking.{words_frozen}
use Rattle.heap_intern.proofs.Visiting.{entered_is, fixed_kept}

-- loads of one slot
pub here_once : (v w : View) (k x : ℕ) (entry : Option (List ℕ)) → w ≡ learned_all (loaded_slot v k entry x) → LoadsHere v w k 1
here_once v w k x entry e = let n : ℕ = added_loads (loads_at v k) 1 in let is : w.slot_loads ≡ insert v.slot_loads k n = ap (λ (u : View). u.slot_loads) e in record {
  here = ap (λ (m : FinMap nat_cmp ℕ). unwrap_or (get m k) 0) is ∙ ap (λ (o : Option ℕ). unwrap_or o 0) (insert_same v.slot_loads k n);
  others = λ j ne. ap (λ (m : FinMap nat_cmp ℕ). unwrap_or (get m j) 0) is ∙ ap (λ (o : Option ℕ). unwrap_or o 0) (insert_other v.slot_loads k j n ne);
}

pub here_from : (u v w : View) (k n : ℕ) → v.slot_loads ≡ u.slot_loads → LoadsHere v w k n → LoadsHere u w k n
here_from u v w k n e h = subst (λ (m : FinMap nat_cmp ℕ). LoadsHere (record u { slot_loads = m }) w k n) e record { here = h.here; others = h.others }

pub here_twice : (u v w : View) (k : ℕ) → LoadsHere u v k 1 → LoadsHere v w k 1 → LoadsHere u w k 2
here_twice u v w k g h = record {
  here = h.here ∙ ap (λ (n : ℕ). added_loads n 1) g.here;
  others = λ j ne. h.others j ne ∙ g.others j ne;
}

-- a fixed Flat all of whose words were loaded has units
pub fixed_units : (v : View) (i : ℕ) (t : Window) → IsFixedWindow v i t → IsLearned v → AreFrozen v t → HasKey v.units i
fixed_units v i t h learned all = learned.each i t.wide t.start true t.len h.form h.long (words_frozen v t h.whole all)

-- the window of a fixed Flat shows its units
pub fixed_shows : (v : View) → IsPossible v → (i : ℕ) (t : Window) (us : List ℕ) → IsFixedWindow v i t → Has v.units i us → IsWindow v t us
fixed_shows v p i t us h u = let n : t.len ≡ length us = possible_length v p i t.len us u h.long in let none = h.whole in record {
  of = i;
  whole = us;
  known = u;
  id = i;
  before = 0;
  leads = inl (inl refl, refl);
  fixed = true;
  form = h.form;
  length_known = inl (let e : t.len ≡ 0 + length us = omega arith in subst (λ (m : ℕ). Has v.lengths i m) e h.long);
  from = 0;
  place = omega arith;
  within = omega arith;
  shows = sym (take_all t.len us (omega arith));
}

-- the load of its slot that enters the call
pub adopted_by : (u v w : View) (k i x : ℕ) → IsPossible v → LoadsAlone u v → Has v.slots k i → (t : Window) → IsFixedWindow v i t → HasKey
    v.units i → KeepsKnown v w → w ≡ learned_all (loaded_slot v k (entry_in v k) x) → IsAdopted u w k i
adopted_by u v w k i x p l there t h known kept e = let us = has_key v.units i known in let go = goes_slot v w k x (entry_in v k) ((us.0, i) ∷ []) (entered_is v k i us.0 there us.1) kept e in record {
  units = us.0;
  goes = goes_trans u v w [] ((us.0, i) ∷ []) l.goes go.0;
  nothing = (ap (λ (n : Counters). n.ids) go.1 ∙ l.used, ap (λ (n : Counters). n.words) go.1 ∙ l.words);
  fixed = let f : IsFixed v us.0 i = ((t.wide, t.start, h.form), us.1) in fixed_kept v w p kept us.0 i f;
  stands = kept.slots k i there;
}

pub adopted_after : (a v w : View) (k i : ℕ) → LoadsAlone a v → IsAdopted v w k i → IsAdopted a w k i
adopted_after a v w k i l h = record {
  units = h.units;
  goes = goes_trans a v w [] ((h.units, i) ∷ []) l.goes h.goes;
  nothing = (h.nothing.0 ∙ l.used, h.nothing.1 ∙ l.words);
  fixed = h.fixed;
  stands = h.stands;
}

-- the slot of a string is one
slot_in : (v : View) → StandsIn v → (u : List ℕ) (i : ℕ) → Contains (history v) (u, i) → (k : ℕ) × Has v.slots k i
slot_in v (z, agents, W, vs, j, s, at, live) u i c = (s.recalls j v at live u i c).0

one_slot_in : (v : View) → StandsIn v → (k l i : ℕ) → Has v.slots k i → Has v.slots l i → k ≡ l
one_slot_in v (z, agents, W, vs, j, s, at, live) k l i a b = let know = s.knows j v at live in let here = know.of_slots k i a in
    let there = know.of_slots l i b in s.different k l i i here.0 there.0 here.1 there.1 refl

pub one_slot : (v : View) → IsPossible v → (k l i : ℕ) → Has v.slots k i → Has v.slots l i → k ≡ l
one_slot v p k l i a b = ∥∥₁_elim p (Prim.hlevel props) (λ t. one_slot_in v t k l i a b)

-- a string of the history stands in a slot
pub called_slot : (v : View) → IsPossible v → (u : List ℕ) (i : ℕ) → Contains (history v) (u, i) → (k : ℕ) × Has v.slots k i
called_slot v p u i c = ∥∥₁_elim p (λ a b. Σ_prop_path (λ k. Prim.hlevel props) (one_slot v p a.0 b.0 i a.1 b.1)) (λ t. slot_in v t u i c)

-- The walk to a string's slot, which it has not passed when it comes to the slot of rank r.
pub record IsAhead (a v : View) (us : List ℕ) (i r : ℕ) : Type 0 where
  pub looks : LoadsAlone a v
  pub forms : HoldsForms a v
  pub ahead : (k : ℕ) → Has a.slots k i → r ≤ rank us a.sizes.slots k
  pub walking : Walking a v us r 0 r

pub ahead_first : (a : View) (us : List ℕ) (i : ℕ) → LoadsAlone a a → HoldsForms a a → IsAhead a a us i 0
ahead_first a us i l f = record { looks = l; forms = f; ahead = λ k h. omega arith; walking = walking_none a us 0 }

-- the slot of rank r, which is loaded once
module _ (a v w : View) (possible : IsPossible a) (us : List ℕ) (i r n h : ℕ) (p : IsAhead a v us i r) (slots : n ≡ a.sizes.slots) (hash : h ≡ hash_of us) (l : r < n) where
  place : (h % n + r) % n ≡ path_slot us a.sizes.slots r
  place = λ j. (hash j % slots j + r) % slots j

  pub place_within : (h % n + r) % n < a.sizes.slots
  place_within = subst (λ (k : ℕ). k < a.sizes.slots) (sym place) (place_inside us a.sizes.slots r (omega arith))

  at_rank : rank us a.sizes.slots ((h % n + r) % n) ≡ r
  at_rank = subst (λ (k : ℕ). rank us a.sizes.slots k ≡ r) (sym place) (rank_place us a.sizes.slots r (omega arith))

  walked : w.sizes ≡ v.sizes → LoadsHere v w ((h % n + r) % n) 1 → Walking a w us (r + 1) 0 (r + 1)
  walked z e = walking_next a v w us r 0 r (r + 1) ((h % n + r) % n) 1 p.walking place_within
      (record { times = 1; few = omega arith; here = e.here; others = e.others; sum = refl }) at_rank z (omega arith)

  -- it has another string, or none
  pub ahead_next : LoadsAlone v w → HoldsForms v w → LoadsHere v w ((h % n + r) % n) 1 → (Has w.slots ((h % n + r) % n) i → ⊥) → IsAhead a w us i (r + 1)
  ahead_next go forms e never = record {
    looks = looks_trans a v w p.looks go;
    forms = forms_trans a v w p.forms forms;
    ahead = λ k has. let before = p.ahead k has in let inside = possible_inside a possible k i has in let there : Has w.slots k i = go.goes.known.slots k i (p.looks.goes.known.slots k i has) in
        let other : r ≢ rank us a.sizes.slots k = (λ same. never (subst (λ (q : ℕ). Has w.slots q i)
        (sym (place ∙ (ap (path_slot us a.sizes.slots) same ∙ place_rank us a.sizes.slots k inside))) there)) in omega arith;
    walking = walked go.goes.sizes e;
  }

  -- the walk ends there
  pub loaded_once : w.sizes ≡ v.sizes → LoadsHere v w ((h % n + r) % n) 1 → (j : ℕ) → loads_at w j ≤ loads_at a j + 1
  loaded_once z e j = let t = walked z e in let each = t.each j in let few = t.once j in let most = on_most (loads_at a j) (t.times j) in omega arith

  pub none_behind : w.sizes ≡ v.sizes → LoadsHere v w ((h % n + r) % n) 1 → LoadsNoneBehind a w us ((h % n + r) % n)
  none_behind z e j less = let t = walked z e in let at = at_rank in t.each j ∙ ap (counted_on (loads_at a j)) (t.ahead j (omega arith))

-- it comes to the string before the path ends
pub never_passed : (a v : View) → IsPossible a → (us : List ℕ) (i r n : ℕ) → IsAhead a v us i r → n ≡ a.sizes.slots → n ≤ r → (k : ℕ) → Has a.slots k i → ⊥
never_passed a v possible us i r n p slots end k has = let before = p.ahead k has in let inside = rank_inside us a.sizes.slots k (possible_inside a possible k i has) in absurd (omega arith)

pub one_units : (v : View) (i : ℕ) (us ws : List ℕ) → Has v.units i us → Has v.units i ws → us ≡ ws
one_units v i us ws a b = let e : Some us ≡ Some ws = sym a ∙ b in cc

-- loads of other words before the walk
pub behind_from : (u v w : View) (us : List ℕ) (k : ℕ) → v.slot_loads ≡ u.slot_loads → v.sizes ≡ u.sizes → LoadsNoneBehind v w us k → LoadsNoneBehind u w us k
behind_from u v w us k e z h j less = h j (subst (λ (y : HeapSize). rank us y.slots k < rank us y.slots j) (sym z) less) ∙ ap (λ (m : FinMap nat_cmp ℕ). unwrap_or (get m j) 0) e
