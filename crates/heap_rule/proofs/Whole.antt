-- An agent that holds the whole share is the only live one, so it claimed all that was claimed.
use Rattle.std.proofs.Common.{◌≡◌, ℕ, zero, suc, ◌+◌, ◌<◌, ◌≤◌, Bool, true, false, cond, List, [], ◌∷◌, get_or, sym, refl, ap, ◌∙◌, subst, arith}
use Rattle.std.specs.Prelude.{Contains}
use Rattle.std.proofs.lemmas.List.Sums.{sum_by-cons}
use mathlib.Core.Option.{some-injective, some-ne-none}
use Rattle.heap_rule.specs.declared.view.View.{View}
use Rattle.heap_rule.specs.declared.size.HeapSize.{HeapSize}
use Rattle.heap_rule.specs.declared.size.Counter.{Counter}
use Rattle.heap_rule.specs.declared.size.Counter.TheVariants.{Ids, Words}
use Rattle.heap_rule.specs.Layout.{counter_value, counter_at, slot}
use Rattle.heap_rule.specs.Sound.{At, EachLive, IsSound, of_live, total}
use Rattle.heap_rule.proofs.ListLemmas.{of_live_true}

abbrev pub share : View → ℕ
share v = v.share

abbrev pub HaveShares : List View → Type 0
HaveShares vs = EachLive vs (λ _ v. 1 ≤ v.share)

-- a view without a share isn't live
nothing_of : (f : View → ℕ) (v : View) (b : Bool) → v.live ≡ b → (b ≡ true → 1 ≤ v.share) → cond b v.share 0 ≡ 0 → of_live f v ≡ 0
nothing_of f v true is some none = let h = some refl in let z : v.share ≡ 0 = none in absurd (omega arith)
nothing_of f v false is some none = ap (λ b. cond b (f v) 0) is

nothing_here : (f : View → ℕ) (v : View) → (v.live ≡ true → 1 ≤ v.share) → of_live share v ≡ 0 → of_live f v ≡ 0
nothing_here f v some none = nothing_of f v v.live refl some none

nothing_left : (f : View → ℕ) (vs : List View) → HaveShares vs → total share vs ≡ 0 → total f vs ≡ 0
nothing_left f [] h e = refl
nothing_left f (x ∷ xs) h e = let a : total share (x ∷ xs) ≡ of_live share x + total share xs = sum_by-cons (of_live share) x xs in
    let b : total f (x ∷ xs) ≡ of_live f x + total f xs = sum_by-cons (of_live f) x xs in
    let here : of_live f x ≡ 0 = nothing_here f x (λ l. h 0 x refl l) (omega arith) in
    let rest : total f xs ≡ 0 = nothing_left f xs (λ k u at l. h (suc k) u at l) (omega arith) in omega arith

pub part_of : (f : View → ℕ) (vs : List View) (j : ℕ) (v : View) → At vs j v → v.live ≡ true → f v ≤ total f vs
part_of f [] j v at live = absurd (some-ne-none v (sym at))
part_of f (x ∷ xs) zero v at live = let a : total f (x ∷ xs) ≡ of_live f x + total f xs = sum_by-cons (of_live f) x xs in
    let b : of_live f x ≡ f v = ap (of_live f) (some-injective x v at) ∙ of_live_true f v live in omega arith
part_of f (x ∷ xs) (suc j) v at live = let a : total f (x ∷ xs) ≡ of_live f x + total f xs = sum_by-cons (of_live f) x xs in let b = part_of f xs j v at live in omega arith

alone : (f : View → ℕ) (vs : List View) (j : ℕ) (v : View) → At vs j v → v.live ≡ true → HaveShares vs → total share vs ≡ v.share → total f vs ≡ f v
alone f [] j v at live h e = absurd (some-ne-none v (sym at))
alone f (x ∷ xs) zero v at live h e = let is = some-injective x v at in let a : total share (x ∷ xs) ≡ of_live share x + total share xs = sum_by-cons (of_live share) x xs in
    let s : of_live share x ≡ v.share = ap (of_live share) is ∙ of_live_true share v live in let b : of_live f x ≡ f v = ap (of_live f) is ∙ of_live_true f v live in
    let c : total f (x ∷ xs) ≡ of_live f x + total f xs = sum_by-cons (of_live f) x xs in
    let rest : total f xs ≡ 0 = nothing_left f xs (λ k u at' l. h (suc k) u at' l) (omega arith) in omega arith
alone f (x ∷ xs) (suc j) v at live h e = let a : total share (x ∷ xs) ≡ of_live share x + total share xs = sum_by-cons (of_live share) x xs in
    let within : v.share ≤ total share xs = part_of share xs j v at live in let c : total f (x ∷ xs) ≡ of_live f x + total f xs = sum_by-cons (of_live f) x xs in
    let here : of_live f x ≡ 0 = nothing_here f x (λ l. h 0 x refl l) (omega arith) in
    let rest : total f xs ≡ f v = alone f xs j v at live (λ k u at' l. h (suc k) u at' l) (omega arith) in omega arith

-- who holds the whole share is the only live view
only_at : (vs : List View) (j : ℕ) (v : View) → At vs j v → v.live ≡ true → HaveShares vs → total share vs ≡ v.share → (k : ℕ) (u : View) → At vs k u → u.live ≡ true → (k ≡ j) × (u ≡ v)
only_at [] j v at live h e k u at' l = absurd (some-ne-none v (sym at))
only_at (x ∷ xs) zero v at live h e zero u at' l = (refl, sym (some-injective x u at') ∙ some-injective x v at)
only_at (x ∷ xs) zero v at live h e (suc k) u at' l = let a : total share (x ∷ xs) ≡ of_live share x + total share xs = sum_by-cons (of_live share) x xs in
    let b : of_live share x ≡ v.share = ap (of_live share) (some-injective x v at) ∙ of_live_true share v live in
    let c : u.share ≤ total share xs = part_of share xs k u at' l in let d : 1 ≤ u.share = h (suc k) u at' l in absurd (omega arith)
only_at (x ∷ xs) (suc j) v at live h e zero u at' l = let a : total share (x ∷ xs) ≡ of_live share x + total share xs = sum_by-cons (of_live share) x xs in
    let b : of_live share x ≡ u.share = ap (of_live share) (some-injective x u at') ∙ of_live_true share u l in
    let c : v.share ≤ total share xs = part_of share xs j v at live in let d : 1 ≤ u.share = h zero u at' l in absurd (omega arith)
only_at (x ∷ xs) (suc j) v at live h e (suc k) u at' l = let a : total share (x ∷ xs) ≡ of_live share x + total share xs = sum_by-cons (of_live share) x xs in
    let c : v.share ≤ total share xs = part_of share xs j v at live in
    let t = only_at xs j v at live (λ i w p q. h (suc i) w p q) (omega arith) k u at' l in (ap suc t.0, t.1)

module _ (z : HeapSize) (agents : ℕ) (W : List ℕ) (vs : List View) (s : IsSound z agents W vs) (j : ℕ) (v : View) (at : At vs j v) (live : v.live ≡ true) where
  shares : HaveShares vs
  shares k u at' l = (s.members k u at' l).0

  -- the counter is what the agent used
  pub whole_counter : (k : Counter) → v.share ≡ v.agents → get_or W (counter_at k) 0 ≡ counter_value v.used k
  whole_counter Ids e = s.added.ids ∙ alone (λ u. u.used.ids) vs j v at live shares (s.added.shares ∙ (sym (s.members j v at live).2 ∙ sym e))
  whole_counter Words e = s.added.words ∙ alone (λ u. u.used.words) vs j v at live shares (s.added.shares ∙ (sym (s.members j v at live).2 ∙ sym e))

  -- no share is larger than the number of agents
  pub share_within : v.share ≤ agents
  share_within = let a = part_of share vs j v at live in let b = s.added.shares in omega arith

  -- each used slot stands in the agent's own calls
  pub whole_slot : v.share ≡ v.agents → (k i : ℕ) → k < z.slots → slot z W k ≡ i + 1 → (u : List ℕ) × Contains v.mine (u, i)
  whole_slot e k i l h = let t = s.entered k i l h in let only = only_at vs j v at live shares (s.added.shares ∙ (sym (s.members j v at live).2 ∙ sym e)) t.0 t.1 t.3 t.4 in
      (t.2, subst (λ (w : View). Contains w.mine (t.2, i)) only.1 t.5)
