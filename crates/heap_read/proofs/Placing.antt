-- Lanes of a run of words in which one word is changed, and runs that are filled one after the other.
use Rattle.std.proofs.Common.{◌≡◌, ◌≢◌, ℕ, ◌+◌, ◌-◌, ◌/◌, ◌%◌, ◌<◌, ◌≤◌, Bool, true, false, List, ◌++◌, length, get_or, refl, ap, sym, ◌∙◌, ◌⊎◌, inl, inr, arith}
use Rattle.std.proofs.lemmas.List.{get_or_append_left, get_or-append_right}
use Rattle.std.proofs.lemmas.Bool.{cases_eq, cases_lt}
use Rattle.js_units.specs.Lanes.{lane_base, lane_count, lane_of, with_lane, words_over}
use Rattle.heap_rule.specs.Contents.{lane_in}
use Rattle.heap_read.specs.Filling.{IsFilled, IsPlaced}
use Rattle.heap_read.proofs.Changed.{lane_here, lane_other}

pub lane_small : (wide : Bool) (o : ℕ) → o % lane_count wide < lane_count wide
lane_small true o = omega arith
lane_small false o = omega arith

pub unit_inside : (wide : Bool) (n o : ℕ) → o < n → o / lane_count wide < words_over wide n
unit_inside true n o l = omega arith
unit_inside false n o l = omega arith

-- one more lane of a word
placed_by : (wide : Bool) (before now low k u : ℕ) (unit : ℕ → ℕ) → IsPlaced wide before now low k unit → low + k < lane_count wide → u <
    lane_base wide → u ≡ unit k → (j : ℕ) → j < k + 1 → (j ≡ k) ⊎ (j ≢ k) → lane_of wide (with_lane wide now (low + k) u) (low + j) ≡ unit j
placed_by wide before now low k u unit p l s is j m (inl e) = rw e (lane_here wide (low + k) now u l s ∙ is)
placed_by wide before now low k u unit p l s is j m (inr n) = lane_other wide (low + k) (low + j) now u l (omega arith) (λ e. n (omega arith)) s ∙ p.inside j (omega arith)

pub placed_more : (wide : Bool) (before now low k u : ℕ) (unit : ℕ → ℕ) → IsPlaced wide before now low k unit → low + k < lane_count wide →
    u < lane_base wide → u ≡ unit k → IsPlaced wide before (with_lane wide now (low + k) u) low (k + 1) unit
placed_more wide before now low k u unit p l s is = record {
  inside = λ j m. placed_by wide before now low k u unit p l s is j m (cases_eq j k);
  below = λ q m. lane_other wide (low + k) q now u l (omega arith) (λ e. absurd (omega arith)) s ∙ p.below q m;
  above = λ q r m. lane_other wide (low + k) q now u l r (λ e. absurd (omega arith)) s ∙ p.above q r (omega arith);
}

-- a word of a run is changed
pub in_word : (wide : Bool) (at k count : ℕ) → at % lane_count wide + count ≤ lane_count wide → k < count →
    ((at + k) / lane_count wide ≡ at / lane_count wide) × ((at + k) % lane_count wide ≡ at % lane_count wide + k)
in_word true at k count l m = (omega arith, omega arith)
in_word false at k count l m = (omega arith, omega arith)

lane_before : (wide : Bool) (at o : ℕ) → o < at → o / lane_count wide ≡ at / lane_count wide → o % lane_count wide < at % lane_count wide
lane_before true at o l e = omega arith
lane_before false at o l e = omega arith

lane_behind : (wide : Bool) (at o count : ℕ) → at % lane_count wide + count ≤ lane_count wide → at + count ≤ o → o / lane_count wide ≡ at /
    lane_count wide → at % lane_count wide + count ≤ o % lane_count wide
lane_behind true at o count l m e = omega arith
lane_behind false at o count l m e = omega arith

-- word `number` became x, and no other changed
pub record IsStored (before after : ℕ → ℕ) (number x : ℕ) : Type 0 where
  pub here : after number ≡ x
  pub others : (c : ℕ) → c ≢ number → after c ≡ before c

other_by : (wide : Bool) (before after : ℕ → ℕ) (start number x o : ℕ) → IsStored before after (start + number) x →
    (o / lane_count wide ≡ number) ⊎ (o / lane_count wide ≢ number) → (o / lane_count wide ≡ number → lane_of wide x (o % lane_count wide) ≡
    lane_of wide (before (start + number)) (o % lane_count wide))
    → lane_of wide (after (start + o / lane_count wide)) (o % lane_count wide) ≡ lane_of wide (before (start + o / lane_count wide)) (o % lane_count wide)
other_by wide before after start number x o s (inl e) h = rw (e, s.here) (h e)
other_by wide before after start number x o s (inr n) h = ap (λ (w : ℕ). lane_of wide w (o % lane_count wide)) (s.others (start + o / lane_count wide) (λ e. n (omega arith)))

pub placed_filled : (wide : Bool) (start : ℕ) (before after : ℕ → ℕ) (at count x : ℕ) (unit : ℕ → ℕ) → at % lane_count wide + count ≤
    lane_count wide → IsStored before after (start + at / lane_count wide) x → IsPlaced wide (before (start + at / lane_count wide)) x
    (at % lane_count wide) count unit
    → IsFilled wide start before after at count unit
unfolding lane_in
placed_filled wide start before after at count x unit l s p = record {
  inside = λ k b. let e = in_word wide at k count l b in rw (e.0, e.1, s.here) (p.inside k b);
  below = λ o b. other_by wide before after start (at / lane_count wide) x o s (cases_eq (o / lane_count wide) (at / lane_count wide)) (λ e. p.below (o % lane_count wide) (lane_before wide at o b e));
  above = λ o b. other_by wide before after start (at / lane_count wide) x o s (cases_eq (o / lane_count wide) (at / lane_count wide))
      (λ e. p.above (o % lane_count wide) (lane_small wide o) (lane_behind wide at o count l b e));
}

-- a whole word
pub whole_placed : (wide : Bool) (before x low count : ℕ) (unit : ℕ → ℕ) → count ≡ lane_count wide → low + count
    ≤ lane_count wide → ((k : ℕ) → k < lane_count wide → lane_of wide x k ≡ unit k) → IsPlaced wide before x low count unit
whole_placed wide before x low count unit c l h = record {
  inside = λ k b. let e : low + k ≡ k = omega arith in ap (lane_of wide x) e ∙ h k (omega arith);
  below = λ q b. absurd (omega arith);
  above = λ q r b. absurd (omega arith);
}

-- one run after another
on_by : (wide : Bool) (start : ℕ) (a b c : ℕ → ℕ) (at m n : ℕ) (unit : ℕ → ℕ) → IsFilled wide start a b at m unit → IsFilled wide start b c
    (at + m) n (λ k. unit (m + k)) → (k : ℕ) → k < m + n → (k < m) ⊎ (m ≤ k) → lane_in c wide start (at + k) ≡ unit k
on_by wide start a b c at m n unit f g k l (inl s) = g.below (at + k) (omega arith) ∙ f.inside k s
on_by wide start a b c at m n unit f g k l (inr s) = let p : at + k ≡ at + m + (k - m) = omega arith in
    let q : m + (k - m) ≡ k = omega arith in ap (lane_in c wide start) p ∙ (g.inside (k - m) (omega arith) ∙ ap unit q)

pub filled_on : (wide : Bool) (start : ℕ) (a b c : ℕ → ℕ) (at m n : ℕ) (unit : ℕ → ℕ) → IsFilled wide start a b at m unit → IsFilled wide
    start b c (at + m) n (λ k. unit (m + k)) → IsFilled wide start a c at (m + n) unit
filled_on wide start a b c at m n unit f g = record {
  inside = λ k l. on_by wide start a b c at m n unit f g k l (cases_lt k m);
  below = λ o l. g.below o (omega arith) ∙ f.below o l;
  above = λ o l. g.above o (omega arith) ∙ f.above o (omega arith);
}

then_by : (wide : Bool) (start : ℕ) (a b c : ℕ → ℕ) (us vs : List ℕ) (at m n : ℕ) → length us ≡ m → IsFilled wide start a b at m
    (λ k. get_or us k 0) → IsFilled wide start b c (at + m) n (λ k. get_or vs k 0) → (k : ℕ) → k < m + n → (k < m) ⊎ (m ≤ k) → lane_in c wide
    start (at + k) ≡ get_or (us ++ vs) k 0
then_by wide start a b c us vs at m n e f g k l (inl s) = g.below (at + k) (omega arith) ∙ (f.inside k s ∙ sym (get_or_append_left us vs 0 k (omega arith)))
then_by wide start a b c us vs at m n e f g k l (inr s) =
    let p : at + k ≡ at + m + (k - m) = omega arith in ap (lane_in c wide start) p ∙ (g.inside (k - m) (omega arith) ∙ sym (get_or-append_right us vs m k 0 e s))

back_by : (wide : Bool) (start : ℕ) (a b c : ℕ → ℕ) (us vs : List ℕ) (at m n : ℕ) → length us ≡ m → IsFilled wide start a b (at + m) n
    (λ k. get_or vs k 0) → IsFilled wide start b c at m (λ k. get_or us k 0) → (k : ℕ) → k < m + n → (k < m) ⊎ (m ≤ k) → lane_in c wide start
    (at + k) ≡ get_or (us ++ vs) k 0
back_by wide start a b c us vs at m n e f g k l (inl s) = g.inside k s ∙ sym (get_or_append_left us vs 0 k (omega arith))
back_by wide start a b c us vs at m n e f g k l (inr s) =
    let p : at + k ≡ at + m + (k - m) = omega arith in g.above (at + k) (omega arith) ∙
    (ap (lane_in b wide start) p ∙ (f.inside (k - m) (omega arith) ∙ sym (get_or-append_right us vs m k 0 e s)))

-- two runs side by side, the first one written first
pub filled_then : (wide : Bool) (start : ℕ) (a b c : ℕ → ℕ) (us vs : List ℕ) (at m n : ℕ) → length us ≡ m → IsFilled wide start a b at m
    (λ k. get_or us k 0) → IsFilled wide start b c (at + m) n (λ k. get_or vs k 0) → IsFilled wide start a c at (m + n) (λ k. get_or (us ++ vs) k 0)
filled_then wide start a b c us vs at m n e f g = record {
  inside = λ k l. then_by wide start a b c us vs at m n e f g k l (cases_lt k m);
  below = λ o l. g.below o (omega arith) ∙ f.below o l;
  above = λ o l. g.above o (omega arith) ∙ f.above o (omega arith);
}

-- the second one written first
pub filled_back : (wide : Bool) (start : ℕ) (a b c : ℕ → ℕ) (us vs : List ℕ) (at m n : ℕ) → length us ≡ m → IsFilled wide start a b (at + m)
    n (λ k. get_or vs k 0) → IsFilled wide start b c at m (λ k. get_or us k 0) → IsFilled wide start a c at (m + n) (λ k. get_or (us ++ vs) k 0)
filled_back wide start a b c us vs at m n e f g = record {
  inside = λ k l. back_by wide start a b c us vs at m n e f g k l (cases_lt k m);
  below = λ o l. g.below o l ∙ f.below o (omega arith);
  above = λ o l. g.above o (omega arith) ∙ f.above o (omega arith);
}

pub filled_none : (wide : Bool) (start : ℕ) (a : ℕ → ℕ) (at : ℕ) (unit : ℕ → ℕ) → IsFilled wide start a a at 0 unit
filled_none wide start a at unit = record { inside = λ k l. absurd (omega arith); below = λ o l. refl; above = λ o l. refl }

-- the same units by other words
pub filled_same : (wide : Bool) (start : ℕ) (a b : ℕ → ℕ) (at n : ℕ) (unit other : ℕ → ℕ) → IsFilled wide start a b
    at n unit → ((k : ℕ) → k < n → unit k ≡ other k) → IsFilled wide start a b at n other
filled_same wide start a b at n unit other f h = record {
  inside = λ k l. f.inside k l ∙ h k l;
  below = f.below;
  above = f.above;
}

-- a unit fits a lane
pub lane_fits : (wide : Bool) (u : ℕ) → (wide ≡ false → u < 256) → u < 65536 → u < lane_base wide
lane_fits true u narrow l = l
lane_fits false u narrow l = narrow refl
