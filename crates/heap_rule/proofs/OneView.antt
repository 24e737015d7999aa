-- A step of one live view that moves no form keeps the rule, where the step's own obligations hold.
use Rattle.std.proofs.Common.{◌≡◌, ◌≢◌, ℕ, ◌+◌, ◌<◌, ◌⊎◌, ⊎_elim, true, List, set, sym, refl, ap, ◌∙◌, subst, arith}
use Rattle.std.specs.Prelude.{Contains}
use mathlib.Core.Logic.{dite}
use native.Mathlib.Decide.{ℕ_discrete}
use mathlib.Core.Option.{some-injective}
use lib.ListN.{get_elem?}
use Rattle.std.specs.FinMap.{FinMap}
use Rattle.std.specs.Ordering.{nat_cmp}
use Rattle.heap_rule.specs.declared.view.View.{View}
use Rattle.heap_rule.specs.declared.size.HeapSize.{HeapSize}
use Rattle.heap_rule.specs.Layout.{slot, IsBorn}
use Rattle.heap_rule.specs.Contents.{units_of}
use Rattle.heap_rule.specs.Sound.{IsUsed, At, EachLive, IsCounted, OwnsIds, OwnsWords, IsStanding, AreApart, Knows, Recalls, AreAdded, IsLow, IsMember, IsSound}
use Rattle.heap_rule.proofs.ListLemmas.{set_else, set_there, each_set}
use Rattle.heap_rule.proofs.Agreement.{Agrees}
use Rattle.heap_rule.proofs.Carried.{standing_then, knows_then, slots_then, different_then, recalls_then}

-- what a step owes for a slot that becomes used
pub record NewSlots (z : HeapSize) (W : List ℕ) (vs : List View) (W' : List ℕ) (vs' : List View) : Type 0 where
  pub used : (k i : ℕ) → k < z.slots → slot z W k ≡ 0 → slot z W' k ≡ i + 1 → IsUsed z W' vs' k i
  pub other : (k i l j : ℕ) → k < z.slots → l < z.slots → slot z W k ≡ 0 → slot z W' k ≡ i + 1 → slot z W l ≡ j + 1 → units_of z W' i ≡ units_of z W j → ⊥
  pub one : (k i l j : ℕ) → slot z W k ≡ 0 → slot z W' k ≡ i + 1 → slot z W l ≡ 0 → slot z W' l ≡ j + 1 → k < z.slots → l < z.slots → k ≡ l
  pub entered : (k i : ℕ) → k < z.slots → slot z W k ≡ 0 → slot z W' k ≡ i + 1 → (j : ℕ) × (v : View) × (u : List ℕ) × At vs' j v × (v.live ≡ true) × Contains v.mine (u, i)

-- a step that changes no slot
pub no_slot : (z : HeapSize) (W : List ℕ) (vs : List View) (W' : List ℕ) (vs' : List View) → ((k : ℕ) → k < z.slots → slot z W' k ≡ slot z W k) → NewSlots z W vs W' vs'
no_slot z W vs W' vs' same = record {
  used = λ k i l a b. let e = same k l in absurd (omega arith);
  other = λ k i l j p q a b c d. let e = same k p in absurd (omega arith);
  one = λ k i l j a b c d p q. let e = same k p in absurd (omega arith);
  entered = λ k i l a b. let e = same k l in absurd (omega arith);
}

-- what a step owes: of the words, of the view that changes, and of the others
pub record Owes (z : HeapSize) (agents : ℕ) (W : List ℕ) (vs : List View) (j : ℕ) (v : View) (W' : List ℕ) (w : View) : Type 0 where
  pub live : w.live ≡ true
  pub agrees : Agrees z W vs W' (set vs j w)
  pub counted : IsCounted z W'
  pub newborn : (i : ℕ) → IsBorn z W' i → IsBorn z W i ⊎ IsStanding z W' (set vs j w) i
  pub own_ids : OwnsIds z W' w.own_ids
  pub own_words : OwnsWords z W' w.own_words
  pub others_ids : (k : ℕ) (u : View) → k ≢ j → At vs k u → u.live ≡ true → OwnsIds z W' u.own_ids × AreApart w.own_ids u.own_ids
  pub others_words : (k : ℕ) (u : View) → k ≢ j → At vs k u → u.live ≡ true → OwnsWords z W' u.own_words × AreApart w.own_words u.own_words
  pub knows : Knows z W' (set vs j w) w
  pub recalls : Recalls z W' (set vs j w) w
  pub mine : (u : List ℕ) (i : ℕ) → Contains v.mine (u, i) → Contains w.mine (u, i)
  pub added : AreAdded z agents W' (set vs j w)
  pub low : IsLow W' w.low
  pub member : IsMember z agents w
  pub new_slots : NewSlots z W vs W' (set vs j w)

module _ (z : HeapSize) (agents : ℕ) (W : List ℕ) (vs : List View) (j : ℕ) (v : View) (W' : List ℕ) (w : View) where
  -- two of the new views, one of which may be w
  pub apart_pairs : (own : View → FinMap nat_cmp ℕ)
      → EachLive vs (λ k u. EachLive vs (λ l x. k ≢ l → AreApart (own u) (own x)))
      → ((k : ℕ) (u : View) → k ≢ j → At vs k u → u.live ≡ true → AreApart (own w) (own u))
      → EachLive (set vs j w) (λ k u. EachLive (set vs j w) (λ l x. k ≢ l → AreApart (own u) (own x)))
  apart_pairs own old fresh = each_set (λ k u. EachLive (set vs j w) (λ l x. k ≢ l → AreApart (own u) (own x))) vs j w
      (each_set (λ l x. j ≢ l → AreApart (own w) (own x)) vs j w (λ ne. absurd (ne refl)) (λ l x ne at live _. fresh l x ne at live))
      (λ k u ne at live. each_set (λ l x. k ≢ l → AreApart (own u) (own x)) vs j w (λ _ q a b. fresh k u ne at live q b a) (λ l x ne' at' live'. old k u at live l x at' live'))

  pub one_view : IsSound z agents W vs → At vs j v → v.live ≡ true → Owes z agents W vs j v W' w → IsSound z agents W' (set vs j w)
  one_view s at live o = let vs' : List View = set vs j w in let a = o.agrees in let st = s.standing in record {
    lawful = s.lawful;
    counted = o.counted;
    own_ids = each_set (λ _ u. OwnsIds z W' u.own_ids) vs j w o.own_ids (λ k u ne e l. (o.others_ids k u ne e l).0);
    own_words = each_set (λ _ u. OwnsWords z W' u.own_words) vs j w o.own_words (λ k u ne e l. (o.others_words k u ne e l).0);
    ids_apart = apart_pairs (λ u. u.own_ids) s.ids_apart (λ k u ne e l. (o.others_ids k u ne e l).1);
    words_apart = apart_pairs (λ u. u.own_words) s.words_apart (λ k u ne e l. (o.others_words k u ne e l).1);
    standing = λ i b. ⊎_elim (λ h. standing_then z W vs st W' vs' a i h) (λ h. h) (o.newborn i b);
    knows = each_set (λ _ u. Knows z W' vs' u) vs j w o.knows (λ k u ne e l. knows_then z W vs st W' vs' a u (s.knows k u e l));
    slots = slots_then z W vs st W' vs' a s.slots o.new_slots.used;
    different = different_then z W vs st W' vs' a s.slots s.different o.new_slots.other o.new_slots.one;
    recalls = each_set (λ _ u. Recalls z W' vs' u) vs j w o.recalls (λ k u ne e l. recalls_then z W vs st W' vs' a u (s.knows k u e l) s.slots (s.recalls k u e l));
    entered = λ k i l e. ⊎_elim (λ stays. let t = s.entered k i l (sym stays ∙ e) in dite (ℕ_discrete t.0 j)
        (λ is. let same : v ≡ t.1 = some-injective v t.1 (sym at ∙ (ap (get_elem? vs) (sym is) ∙ t.3)) in
        (j, w, t.2, set_there vs j w v at, o.live, o.mine t.2 i (subst (λ (x : View). Contains x.mine (t.2, i)) (sym same) t.5)))
        (λ ne. (t.0, t.1, t.2, set_else vs j t.0 w ne ∙ t.3, t.4, t.5))) (λ free. o.new_slots.entered k i l free e) (a.slots k l);
    added = o.added;
    lows = each_set (λ _ u. IsLow W' u.low) vs j w o.low (λ k u ne e l. let p = s.lows k u e l in let p0 = p.0 in let p1 = p.1 in let q0 = a.ids in let q1 = a.words in (omega arith, omega arith));
    members = each_set (λ _ u. IsMember z agents u) vs j w o.member (λ k u ne e l. s.members k u e l);
  }
