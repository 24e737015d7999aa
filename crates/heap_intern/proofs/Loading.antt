-- Loads of slots, one by one and along the path.
use Rattle.std.proofs.Common.{◌≡◌, ◌≢◌, ℕ, zero, suc, ◌+◌, ◌*◌, ◌<◌, ◌≤◌, List, sym, refl, ap, ◌∙◌, subst, arith, Option, Some, None, nat_eq, if◌then◌else◌, Bool, eq-eqb, ne_eqb}
use Rattle.std.specs.Prelude.{unwrap_or}
use mathlib.Core.Logic.{dite}
use native.Mathlib.Decide.{ℕ_discrete}
use Rattle.std.specs.FinMap.{FinMap, get, insert}
use Rattle.std.specs.Ordering.{nat_cmp}
use Rattle.heap_rule.specs.declared.view.View.{View}
use Rattle.heap_rule.specs.declared.size.HeapSize.{HeapSize}
use Rattle.heap_rule.specs.Learning.{learned_all}
use Rattle.heap_rule.specs.Loads.{added_loads}
use Rattle.heap_rule.specs.Maps.{Has}
use Rattle.heap_rule.specs.Paths.{rank}
use Rattle.heap_rule.specs.Slots.{loaded_slot, took_slot}
use Rattle.heap_rule.proofs.MapLemmas.{insert_other, insert_same}
use Rattle.heap_intern.specs.declared.table.finding.WalkEnd.{WalkEnd}
use Rattle.heap_intern.specs.declared.table.finding.WalkEnd.TheVariants.{Found, Free, Shut}
use Rattle.heap_intern.specs.SlotLoads.{LoadsSlots, counted_on, loads_at, sum_below}
use Rattle.heap_intern.specs.Visits.{LoadsOne, Walking, WalksOn, found_id}

-- a claim of a slot is no load
took_by : (v : View) (k i x : ℕ) → (learned_all (took_slot v k i x)).slot_loads ≡ v.slot_loads
took_by v k i zero = refl
took_by v k i (suc x) = refl

pub loads_took : (v w : View) (k i x : ℕ) → w ≡ learned_all (took_slot v k i x) → w.slot_loads ≡ v.slot_loads
loads_took v w k i x e = ap (λ (u : View). u.slot_loads) e ∙ took_by v k i x

-- counts that go on
on_more : (a m n : ℕ) → counted_on (counted_on a m) n ≡ counted_on a (m + n)
on_more a m zero = let e : m ≡ m + 0 = omega arith in ap (counted_on a) e
on_more a m (suc n) = let e : suc (m + n) ≡ m + suc n = omega arith in ap (λ (x : ℕ). added_loads x 1) (on_more a m n) ∙ ap (counted_on a) e

pub on_most : (a n : ℕ) → counted_on a n ≤ a + n
on_most a zero = omega arith
on_most a (suc n) = let h = on_most a n in omega arith

-- steps that load no slot, and one that does
pub loads_none : (v w : View) (k most before : ℕ) → w.slot_loads ≡ v.slot_loads → LoadsOne v w k most before before
loads_none v w k most before e = record {
  times = 0;
  few = omega arith;
  here = ap (λ (m : FinMap nat_cmp ℕ). unwrap_or (get m k) 0) e;
  others = λ j ne. ap (λ (m : FinMap nat_cmp ℕ). unwrap_or (get m j) 0) e;
  sum = omega arith;
}

pub loads_once : (v w : View) (k x before after : ℕ) (entry : Option (List ℕ)) → w ≡ learned_all (loaded_slot v k entry x) → after ≡ before + 1 → LoadsOne v w k 1 before after
loads_once v w k x before after entry e more = let n : ℕ = added_loads (loads_at v k) 1 in let is : w.slot_loads ≡ insert v.slot_loads k n = ap (λ (u : View). u.slot_loads) e in record {
  times = 1;
  few = omega arith;
  here = ap (λ (m : FinMap nat_cmp ℕ). unwrap_or (get m k) 0) is ∙ ap (λ (o : Option ℕ). unwrap_or o 0) (insert_same v.slot_loads k n);
  others = λ j ne. ap (λ (m : FinMap nat_cmp ℕ). unwrap_or (get m j) 0) is ∙ ap (λ (o : Option ℕ). unwrap_or o 0) (insert_other v.slot_loads k j n ne);
  sum = more;
}

pub loads_after : (u v w : View) (k m n most before between after : ℕ) → LoadsOne u v k m before between → LoadsOne v w k n between after → m + n ≤ most → LoadsOne u w k most before after
loads_after u v w k m n most before between after g h l = let a = g.few in let b = h.few in let c = g.sum in let d = h.sum in record {
  times = g.times + h.times;
  few = omega arith;
  here = h.here ∙ (ap (λ (x : ℕ). counted_on x h.times) g.here ∙ on_more (loads_at u k) g.times h.times);
  others = λ j ne. h.others j ne ∙ g.others j ne;
  sum = omega arith;
}

-- loads of other words before or behind
pub loads_from : (u v w : View) (k most before after : ℕ) → v.slot_loads ≡ u.slot_loads → LoadsOne v w k most before after → LoadsOne u w k most before after
loads_from u v w k most before after e h = loads_after u v w k 0 most most before before after (loads_none u v k 0 before e) h (omega arith)

-- the counts of one slot that go on, in a sum
abbrev with_more : (ℕ → ℕ) → ℕ → ℕ → ℕ → ℕ
with_more f k n j = f j + (if nat_eq j k then n else 0)

more_here : (f : ℕ → ℕ) (k n j : ℕ) → j ≡ k → with_more f k n j ≡ f j + n
more_here f k n j e = ap (λ (b : Bool). f j + (if b then n else 0)) (eq-eqb j k e)

more_other : (f : ℕ → ℕ) (k n j : ℕ) → j ≢ k → with_more f k n j ≡ f j
more_other f k n j ne = let plain : f j + 0 ≡ f j = omega arith in ap (λ (b : Bool). f j + (if b then n else 0)) (ne_eqb j k ne) ∙ plain

sum_same : (f : ℕ → ℕ) (k n m : ℕ) → m ≤ k → sum_below (with_more f k n) m ≡ sum_below f m
sum_same f k n zero l = refl
sum_same f k n (suc m) l = let a = sum_same f k n m (omega arith) in let b = more_other f k n m (λ e. omega arith) in omega arith

sum_more : (f : ℕ → ℕ) (k n m : ℕ) → k < m → sum_below (with_more f k n) m ≡ sum_below f m + n
sum_more f k n zero l = absurd (omega arith)
sum_more f k n (suc m) l = dite (ℕ_discrete m k)
    (λ e. let a = sum_same f k n m (omega arith) in let b = more_here f k n m e in omega arith)
    (λ ne. let a = sum_more f k n m (omega arith) in let b = more_other f k n m ne in omega arith)

sum_most : (f : ℕ → ℕ) (n : ℕ) → ((k : ℕ) → f k ≤ 2) → sum_below f n ≤ 2 * n
sum_most f zero l = omega arith
sum_most f (suc n) l = let a = sum_most f n l in let b = l n in omega arith

sum_none : (f : ℕ → ℕ) (n : ℕ) → ((k : ℕ) → f k ≡ 0) → sum_below f n ≡ 0
sum_none f zero z = refl
sum_none f (suc n) z = let a = sum_none f n z in let b = z n in omega arith

-- A walk.
pub walking_none : (a : View) (us : List ℕ) (before : ℕ) → Walking a a us 0 before before
walking_none a us before = let z = sum_none (λ k. 0) a.sizes.slots (λ k. refl) in record {
  sizes = refl;
  times = λ k. 0;
  each = λ k. refl;
  once = λ k. omega arith;
  ahead = λ k l. refl;
  inside = λ k l. absurd (omega arith);
  sum = omega arith;
}

-- a walk that begins at any rank
pub walking_start : (a : View) (us : List ℕ) (r before : ℕ) → Walking a a us r before before
walking_start a us r before = let p = walking_none a us before in record {
  sizes = refl;
  times = p.times;
  each = p.each;
  once = p.once;
  ahead = λ k l. p.ahead k (omega arith);
  inside = p.inside;
  sum = p.sum;
}

-- at the first slot none was loaded so far
pub walking_first : (a v : View) (us : List ℕ) (r before now : ℕ) → Walking a v us r before now → r ≡ 0 → now ≡ before
walking_first a v us r before now p e = let s = p.sum in let z = sum_none p.times a.sizes.slots (λ k. p.ahead k (omega arith)) in omega arith

-- one more slot, with the count of its loads
module _ (a v w : View) (us : List ℕ) (r before now after k most : ℕ) (p : Walking a v us r before now) (inside : k < a.sizes.slots) (h : LoadsOne v w k most now after) where
  abbrev loaded : ℕ → ℕ
  loaded = with_more p.times k h.times

  none_so_far : rank us a.sizes.slots k ≡ r → p.times k ≡ 0
  none_so_far at = p.ahead k (omega arith)

  loaded_each : (j : ℕ) → loads_at w j ≡ counted_on (loads_at a j) (loaded j)
  loaded_each j = dite (ℕ_discrete j k)
      (λ e. subst (λ (i : ℕ). loads_at w i ≡ counted_on (loads_at a i) (loaded i)) (sym e)
      (h.here ∙ (ap (λ (x : ℕ). counted_on x h.times) (p.each k) ∙ (on_more (loads_at a k) (p.times k) h.times ∙ ap (counted_on (loads_at a k)) (sym (more_here p.times k h.times k refl))))))
      (λ ne. h.others j ne ∙ (p.each j ∙ ap (counted_on (loads_at a j)) (sym (more_other p.times k h.times j ne))))

  loaded_inside : (j : ℕ) → 0 < loaded j → j < a.sizes.slots
  loaded_inside j l = dite (ℕ_discrete j k)
      (λ e. subst (λ (i : ℕ). i < a.sizes.slots) (sym e) inside)
      (λ ne. let m = more_other p.times k h.times j ne in p.inside j (omega arith))

  loaded_sum : after ≡ before + sum_below loaded a.sizes.slots
  loaded_sum = let c = p.sum in let d = h.sum in let e = sum_more p.times k h.times a.sizes.slots inside in omega arith

  -- it has rank r, and is passed
  pub walking_next : rank us a.sizes.slots k ≡ r → w.sizes ≡ v.sizes → most ≤ 1 → Walking a w us (r + 1) before after
  walking_next at z few = record {
    sizes = z ∙ p.sizes;
    times = loaded;
    each = loaded_each;
    once = λ j. dite (ℕ_discrete j k)
        (λ e. let m = more_here p.times k h.times j e in let z = p.once j in let n = none_so_far at in let n' : p.times j ≡ 0 = ap p.times e ∙ n in let f = h.few in omega arith)
        (λ ne. let m = more_other p.times k h.times j ne in let z = p.once j in omega arith);
    ahead = λ j l. let ne : j ≢ k = (λ e. let same : rank us a.sizes.slots j ≡ rank us a.sizes.slots k = ap (rank us a.sizes.slots) e in omega arith) in
        more_other p.times k h.times j ne ∙ p.ahead j (omega arith);
    inside = loaded_inside;
    sum = loaded_sum;
  }

  -- the walk ends there
  pub walked_to : rank us a.sizes.slots k ≡ r → (answer : Option ℕ) → most ≤ 2 → (1 < most → (i : ℕ) × (answer ≡ Some i) × Has w.slots k i) → LoadsSlots a w answer before after
  walked_to at answer few has = record {
    times = loaded;
    each = loaded_each;
    twice = λ j. dite (ℕ_discrete j k)
        (λ e. let m = more_here p.times k h.times j e in let n' : p.times j ≡ 0 = ap p.times e ∙ none_so_far at in let f = h.few in omega arith)
        (λ ne. let m = more_other p.times k h.times j ne in let z = p.once j in omega arith);
    entered = λ j l. dite (ℕ_discrete j k)
        (λ e. let m = more_here p.times k h.times j e in let n' : p.times j ≡ 0 = ap p.times e ∙ none_so_far at in let f = h.few in let t = has (omega arith) in
        (t.0, t.1, subst (λ (i : ℕ). Has w.slots i t.0) (sym e) t.2))
        (λ ne. let m = more_other p.times k h.times j ne in let z = p.once j in absurd (omega arith));
    inside = loaded_inside;
    sum = loaded_sum;
  }

  -- it was loaded before, and has the answer
  pub walked_put : (answer : Option ℕ) → most ≤ 1 → (i : ℕ) → answer ≡ Some i → Has w.slots k i → LoadsSlots a w answer before after
  walked_put answer few i is has = record {
    times = loaded;
    each = loaded_each;
    twice = λ j. dite (ℕ_discrete j k)
        (λ e. let m = more_here p.times k h.times j e in let z = p.once j in let f = h.few in omega arith)
        (λ ne. let m = more_other p.times k h.times j ne in let z = p.once j in omega arith);
    entered = λ j l. dite (ℕ_discrete j k)
        (λ e. (i, is, subst (λ (x : ℕ). Has w.slots x i) (sym e) has))
        (λ ne. let m = more_other p.times k h.times j ne in let z = p.once j in absurd (omega arith));
    inside = loaded_inside;
    sum = loaded_sum;
  }

-- steps that load no slot
pub walking_same : (a v w : View) (us : List ℕ) (r before now : ℕ) → w.sizes ≡ v.sizes → ((j : ℕ) → loads_at w j ≡ loads_at v j) → Walking a v us r before now → Walking a w us r before now
walking_same a v w us r before now z same p = record {
  sizes = z ∙ p.sizes;
  times = p.times;
  each = λ k. same k ∙ p.each k;
  once = p.once;
  ahead = p.ahead;
  inside = p.inside;
  sum = p.sum;
}

pub same_loads : (v w : View) → w.slot_loads ≡ v.slot_loads → (j : ℕ) → loads_at w j ≡ loads_at v j
same_loads v w e j = ap (λ (m : FinMap nat_cmp ℕ). unwrap_or (get m j) 0) e

none_times : (a n : ℕ) → n ≡ 0 → counted_on a n ≡ a
none_times a n e = ap (counted_on a) e

pub none_loaded : (v w : View) (k before after : ℕ) → LoadsOne v w k 0 before after → (after ≡ before) × ((j : ℕ) → loads_at w j ≡ loads_at v j)
none_loaded v w k before after h = let f = h.few in let s = h.sum in let none : h.times ≡ 0 = omega arith in (
  omega arith,
  λ j. dite (ℕ_discrete j k) (λ e. subst (λ (i : ℕ). loads_at w i ≡ loads_at v i) (sym e) (h.here ∙ none_times (loads_at v k) h.times none)) (λ ne. h.others j ne),
)

-- it ends at a slot that is free: none was loaded twice, and none behind it
pub free_once : (a v : View) (us : List ℕ) (r before now : ℕ) → Walking a v us r before now → (j : ℕ) → loads_at v j ≤ loads_at a j + 1
free_once a v us r before now p j = let e = p.each j in let m = on_most (loads_at a j) (p.times j) in let o = p.once j in omega (arith, e, m, o)

pub free_ahead : (a v : View) (us : List ℕ) (r before now : ℕ) → v.sizes ≡ a.sizes → Walking a v us (r + 1) before now → (j : ℕ) → r < rank us v.sizes.slots j → loads_at v j ≡ loads_at a j
free_ahead a v us r before now z p j l = let m : r < rank us a.sizes.slots j = subst (λ (y : HeapSize). r < rank us y.slots j) z l in
    p.each j ∙ ap (counted_on (loads_at a j)) (p.ahead j (omega (arith, m)))

-- a load of a slot leaves the count of those that were passed before
pub before_on : (a v w : View) (us : List ℕ) (slot from r most before after : ℕ) → rank us a.sizes.slots slot ≡ r → from ≤ r → LoadsOne v w slot most before after →
    ((k : ℕ) → rank us a.sizes.slots k < from → loads_at v k ≡ loads_at a k) → (k : ℕ) → rank us a.sizes.slots k < from → loads_at w k ≡ loads_at a k
before_on a v w us slot from r most before after at low h none k l = let ne : k ≢ slot = (λ e.
    let same : rank us a.sizes.slots k ≡ rank us a.sizes.slots slot = ap (rank us a.sizes.slots) e in omega (arith, same, at, low, l)) in
    h.others k ne ∙ none k l

-- it passed all slots
pub walked_all : (a v : View) (us : List ℕ) (r before now : ℕ) (answer : Option ℕ) → Walking a v us r before now → LoadsSlots a v answer before now
walked_all a v us r before now answer p = record {
  times = p.times;
  each = p.each;
  twice = λ k. let z = p.once k in omega arith;
  entered = λ k l. let z = p.once k in absurd (omega arith);
  inside = p.inside;
  sum = p.sum;
}

pub walks_loads : (v w : View) (us : List ℕ) (r : ℕ) (end : WalkEnd) (before now : ℕ) → WalksOn v w us r end before now → LoadsSlots v w (found_id end) before now
walks_loads v w us r (Found s) before now h = h v before (walking_start v us r before)
walks_loads v w us r (Free k q) before now h = walked_all v w us (q + 1) before now None (h v before (walking_start v us r before))
walks_loads v w us r Shut before now h = h v before (walking_start v us r before)

-- no slot was loaded
pub slots_none : (v w : View) (answer : Option ℕ) (before : ℕ) → w.slot_loads ≡ v.slot_loads → LoadsSlots v w answer before before
slots_none v w answer before e = let z = sum_none (λ k. 0) v.sizes.slots (λ k. refl) in record {
  times = λ k. 0;
  each = λ k. ap (λ (m : FinMap nat_cmp ℕ). unwrap_or (get m k) 0) e;
  twice = λ k. omega arith;
  entered = λ k l. absurd (omega arith);
  inside = λ k l. absurd (omega arith);
  sum = omega arith;
}

-- loads of other words before the walk
pub slots_from : (u v w : View) (answer : Option ℕ) (before after : ℕ) → v.slot_loads ≡ u.slot_loads → v.sizes ≡ u.sizes → LoadsSlots v w answer before after → LoadsSlots u w answer before after
slots_from u v w answer before after e z h = record {
  times = h.times;
  each = λ k. h.each k ∙ ap (λ (m : FinMap nat_cmp ℕ). counted_on (unwrap_or (get m k) 0) (h.times k)) e;
  twice = h.twice;
  entered = h.entered;
  inside = λ k l. subst (λ (y : HeapSize). k < y.slots) z (h.inside k l);
  sum = h.sum ∙ ap (λ (y : HeapSize). before + sum_below h.times y.slots) z;
}

-- a step after the walk that loads no slot
pub slots_then : (v w x : View) (answer : Option ℕ) (before after : ℕ) → x.slot_loads ≡ w.slot_loads →
    ((k i : ℕ) → Has w.slots k i → Has x.slots k i) → LoadsSlots v w answer before after → LoadsSlots v x answer before after
slots_then v w x answer before after e slots h = record {
  times = h.times;
  each = λ k. ap (λ (m : FinMap nat_cmp ℕ). unwrap_or (get m k) 0) e ∙ h.each k;
  twice = h.twice;
  entered = λ k l. let t = h.entered k l in (t.0, t.1, slots k t.0 t.2);
  inside = h.inside;
  sum = h.sum;
}

-- no slot more than twice, and all together at most twice their number
pub slots_few : (v w : View) (answer : Option ℕ) (before after : ℕ) → LoadsSlots v w answer before after → (k : ℕ) → loads_at w k ≤ loads_at v k + 2
slots_few v w answer before after h k = let a = h.each k in let b = on_most (loads_at v k) (h.times k) in let c = h.twice k in omega arith

pub slots_most : (v w : View) (answer : Option ℕ) (before after : ℕ) → LoadsSlots v w answer before after → after ≤ before + 2 * v.sizes.slots
slots_most v w answer before after h = let a = h.sum in let b = sum_most h.times v.sizes.slots h.twice in omega arith
