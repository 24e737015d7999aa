-- Whoever has seen all slots, each used one in a call of its own, has as many used slots as its history has different lists.
use Rattle.std.proofs.Common.{◌≡◌, ℕ, zero, suc, ◌+◌, ◌<◌, ◌≤◌, Bool, false, List, ◌++◌, sym, refl, ap, ◌∙◌, subst, arith, append-nil, Option, Some, None, if◌then◌else◌}
use Rattle.std.specs.Prelude.{Contains, is_some}
use Rattle.std.proofs.Math.Logic.{∥∥₁_elim}
use Rattle.std.proofs.Props.{props}
use Rattle.std.proofs.lemmas.List.Elements.{Contains-append_right}
use mathlib.Core.Logic.{dite}
use native.Mathlib.Decide.{ℕ_discrete}
use Rattle.std.specs.FinMap.{FinMap, get, insert, contains_key}
use Rattle.std.specs.Ordering.{nat_cmp}
use Rattle.heap_rule.specs.declared.view.View.{View}
use Rattle.heap_rule.specs.declared.size.HeapSize.{HeapSize}
use Rattle.heap_rule.specs.Contents.{units_of}
use Rattle.heap_rule.specs.Learning.{learned_all}
use Rattle.heap_rule.specs.Maps.{Has}
use Rattle.heap_rule.specs.Paths.{Calls}
use Rattle.heap_rule.specs.Slots.{loaded_slot}
use Rattle.heap_rule.specs.Sound.{IsPossible, StandsIn}
use Rattle.heap_rule.specs.Views.{history}
use Rattle.heap_rule.proofs.MapLemmas.{insert_other, insert_same}
use Rattle.heap_rule.proofs.Possible.{possible_inside}
use Rattle.heap_table.specs.Known.{KeepsKnown}
use Rattle.heap_table.specs.Plays.{FoundSlot}
use Rattle.heap_intern.specs.Counting.{count_below, different}
use Rattle.heap_intern.specs.Goes.{LoadsAlone}
use Rattle.heap_intern.specs.Visits.{Counted}
use Rattle.heap_intern.proofs.Distinct.{used_different}
use Rattle.heap_intern.proofs.Going.{looks_self, looks_slot, looks_trans}

module _ (z : HeapSize) (W : List ℕ) where
  -- the units of the string in a slot, as the view has it
  abbrev units_in_slot : Option ℕ → Option (List ℕ)
  units_in_slot None = None
  units_in_slot (Some i) = Some (units_of z W i)

  some_units : (o : Option ℕ) (u : List ℕ) → units_in_slot o ≡ Some u → (i : ℕ) × (o ≡ Some i) × (units_of z W i ≡ u)
  some_units None u e = absurd (cc)
  some_units (Some i) u e = let is : units_of z W i ≡ u = cc in (i, refl, is)

  some_kept : (o : Option ℕ) → is_some (units_in_slot o) ≡ is_some o
  some_kept None = refl
  some_kept (Some i) = refl

count_same : (f g : ℕ → Bool) → ((k : ℕ) → f k ≡ g k) → (n : ℕ) → count_below f n ≡ count_below g n
count_same f g e zero = refl
count_same f g e (suc n) = ap (λ (x : ℕ). x + (if f n then 1 else 0)) (count_same f g e n) ∙ ap (λ (b : Bool). count_below g n + (if b then 1 else 0)) (e n)

abbrev AreCalled : View → Type 0
AreCalled v = (k i : ℕ) → Has v.slots k i → (u : List ℕ) × Contains (history v) (u, i)

counted_in : (v : View) → StandsIn v → AreCalled v → count_below (λ k. contains_key v.slots k) v.sizes.slots ≡ different (history v)
counted_in v (z, agents, W, vs, j, s, at, live) into =
    let know = s.knows j v at live in subst (λ (y : HeapSize). count_below (λ k. contains_key v.slots k) y.slots ≡ different (history v))
    (sym (s.members j v at live).1)
    (count_same (λ k. contains_key v.slots k) (λ k. is_some (units_in_slot z W (get v.slots k))) (λ k. sym (some_kept z W (get v.slots k))) z.slots
    ∙ used_different (λ k. units_in_slot z W (get v.slots k)) z.slots (history v)
    (λ k l u a b e g. let p = some_units z W (get v.slots k) u e in let q = some_units z W (get v.slots l) u g in
    s.different k l p.0 q.0 a b (know.of_slots k p.0 p.1).1 (know.of_slots l q.0 q.1).1 (p.2 ∙ sym q.2))
    (λ k u a e. let p = some_units z W (get v.slots k) u e in let c = into k p.0 p.1 in
    (p.0, subst (λ (w : List ℕ). Contains (history v) (w, p.0)) ((s.recalls j v at live c.0 p.0 c.1).1 ∙ p.2) c.1))
    (λ u i c. let r = s.recalls j v at live u i c in (r.0.0, (know.of_slots r.0.0 i r.0.1).0, ap (units_in_slot z W) r.0.1 ∙ ap Some (sym r.1))))

pub possible_counted : (v : View) → IsPossible v → AreCalled v → count_below (λ k. contains_key v.slots k) v.sizes.slots ≡ different (history v)
possible_counted v p into = ∥∥₁_elim p (Prim.hlevel props) (λ t. counted_in v t into)

pub counted_none : (a : View) → Counted a a 0 0
counted_none a = record { looks = looks_self a; number = refl; entered = λ k i l h. absurd (omega arith) }

-- one more slot that is read leaves what was counted below it
count_insert : (m : FinMap nat_cmp ℕ) (k x n : ℕ) → n ≤ k → count_below (λ l. contains_key (insert m k x) l) n ≡ count_below (λ l. contains_key m l) n
count_insert m k x zero l = refl
count_insert m k x (suc n) l = ap (λ (c : ℕ). c + (if contains_key (insert m k x) n then 1 else 0)) (count_insert m k x n (omega arith))
    ∙ ap (λ (o : Option ℕ). count_below (λ l. contains_key m l) n + (if is_some o then 1 else 0)) (insert_other m k n x (λ e. omega arith))

-- slot k was found used, or free
abbrev pub found_one : ℕ → ℕ
found_one zero = 0
found_one (suc i) = 1

none_at : (o : Option ℕ) → ((i : ℕ) → o ≡ Some i → ⊥) → is_some o ≡ false
none_at None never = refl
none_at (Some i) never = absurd (never i refl)

module _ (a v : View) (k count : ℕ) (c : Counted a v k count) where
  number_at : (x : ℕ) → ((i : ℕ) → Has v.slots k i → x ≡ i + 1) → count + found_one x ≡ count_below (λ l. contains_key (learned_all (loaded_slot v k None x)).slots l) (k + 1)
  number_at zero again = let next : suc k ≡ k + 1 = omega arith in subst (λ (n : ℕ). count + 0 ≡ count_below (λ l. contains_key v.slots l) n) next
      (let free : contains_key v.slots k ≡ false = none_at (get v.slots k) (λ i e. let z = again i e in omega arith) in
      ap (λ (n : ℕ). n + 0) c.number ∙ ap (λ (b : Bool). count_below (λ l. contains_key v.slots l) k + (if b then 1 else 0)) (sym free))
  number_at (suc i) again = let next : suc k ≡ k + 1 = omega arith in subst (λ (n : ℕ). count + 1 ≡ count_below (λ l. contains_key (insert v.slots k i) l) n) next
      (ap (λ (n : ℕ). n + 1) (c.number ∙ sym (count_insert v.slots k i k (omega arith)))
      ∙ ap (λ (o : Option ℕ). count_below (λ l. contains_key (insert v.slots k i) l) k + (if is_some o then 1 else 0)) (sym (insert_same v.slots k i)))

  entered_at : (x : ℕ) → ((i : ℕ) → x ≡ i + 1 → (u : List ℕ) × Contains v.mine (u, i)) → ((i : ℕ) → Has v.slots k i → x ≡ i + 1) → (l i : ℕ)
      → l < k + 1 → Has (learned_all (loaded_slot v k None x)).slots l i → (u : List ℕ) × Contains v.mine (u, i)
  entered_at zero whole again l i m h = dite (ℕ_discrete l k) (λ (e : l ≡ k). let here : Has v.slots k i = ap (get v.slots) (sym e) ∙ h in
      let t = again i here in absurd (omega arith)) (λ ne. c.entered l i (omega arith) h)
  entered_at (suc x) whole again l i m h = dite (ℕ_discrete l k)
      (λ (e : l ≡ k). let s : Some x ≡ Some i = sym (insert_same v.slots k x) ∙ (ap (get (insert v.slots k x)) (sym e) ∙ h) in let is : x ≡ i = cc in whole i (omega arith))
      (λ ne. c.entered l i (omega arith) (sym (insert_other v.slots k l x ne) ∙ h))

  pub counted_next : (w : View) (x : ℕ) → FoundSlot v k x → v.share ≡ v.agents → KeepsKnown v w → w ≡ learned_all (loaded_slot v k None x) → Counted a w (k + 1) (count + found_one x)
  counted_next w x f all known e = let u : View = learned_all (loaded_slot v k None x) in subst (λ (y : View). Counted a y (k + 1) (count + found_one x)) (sym e) record {
    looks = looks_trans a v u c.looks (looks_slot v u k x (subst (KeepsKnown v) e known) refl);
    number = number_at x f.again;
    entered = λ l i m h. entered_at x (f.whole all) f.again l i m h;
  }

pub found_some : (t : ℕ) → 1 ≡ found_one (t + 1)
found_some t = let e : suc t ≡ t + 1 = omega arith in subst (λ (n : ℕ). 1 ≡ found_one n) e refl

pub history_looked : (a v : View) → LoadsAlone a v → history v ≡ history a
history_looked a v l = ap (λ (h : Calls). h ++ v.mine) l.goes.seen ∙ ap (λ (h : Calls). a.seen ++ h) (l.goes.mine ∙ append-nil a.mine)

pub counted_all : (a v : View) (n count : ℕ) → IsPossible v → n ≡ a.sizes.slots → Counted a v n count → count ≡ different (history a)
counted_all a v n count p is c = let all : n ≡ v.sizes.slots = is ∙ ap (λ (z : HeapSize). z.slots) (sym c.looks.goes.sizes) in
    c.number ∙ (ap (count_below (λ k. contains_key v.slots k)) all
    ∙ (possible_counted v p (λ k i h. let l = possible_inside v p k i h in let t = c.entered k i (omega arith) h in (t.0, Contains-append_right v.seen v.mine (t.0, i) t.1))
    ∙ ap different (history_looked a v c.looks)))
