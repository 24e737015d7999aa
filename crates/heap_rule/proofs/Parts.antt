-- The part of a parent that a view shows is right, so that a Sliced born over it has the units that the view takes for it.
use Rattle.std.proofs.Common.{◌≡◌, ℕ, zero, suc, ◌+◌, ◌-◌, ◌≤◌, ⊎_elim, List, [], ◌∷◌, take, drop, length, sym, refl, ap, ◌∙◌, subst, arith, eqb, eqb-true, Option, Some, None}
use Rattle.std.specs.Prelude.{◌&&◌, nat_le}
use Rattle.std.specs.FinMap.{get, keys}
use Rattle.js_header.specs.declared.form.Form.{Form}
use Rattle.js_header.specs.declared.form.Form.TheVariants.{Unborn, Flat, Cons, Sliced, Thin}
use Rattle.heap_rule.specs.declared.view.View.{View}
use Rattle.heap_rule.specs.declared.size.HeapSize.{HeapSize}
use Rattle.heap_rule.specs.Layout.{length_word, IsBorn}
use Rattle.heap_rule.specs.Contents.{units_of}
use Rattle.heap_rule.specs.Maps.{first_in}
use Rattle.heap_rule.specs.Sound.{IsStanding, Knows}
use Rattle.heap_rule.specs.Births.{part, part_within, part_by, shown_part}
use Rattle.heap_rule.proofs.Learning.{first_found, either_way, if_some, both_true}

drop_further : (a b c : ℕ) (us : List ℕ) → b + a ≡ c → drop a (drop b us) ≡ drop c us
drop_further a zero c us e = let same : a ≡ c = omega arith in ap (λ (x : ℕ). drop x us) same
drop_further a (suc b) zero us e = absurd (omega arith)
drop_further zero (suc b) (suc c) [] e = refl
drop_further (suc a) (suc b) (suc c) [] e = refl
drop_further a (suc b) (suc c) (u ∷ us) e = drop_further a b c us (omega arith)

take_less : (n m : ℕ) (us : List ℕ) → n ≤ m → take n (take m us) ≡ take n us
take_less zero m us l = refl
take_less (suc n) zero us l = absurd (omega arith)
take_less (suc n) (suc m) [] l = refl
take_less (suc n) (suc m) (u ∷ us) l = λ i. u ∷ take_less n m us (omega arith) i

drop_taken : (a m d : ℕ) (us : List ℕ) → m - a ≡ d → drop a (take m us) ≡ take d (drop a us)
drop_taken zero m d us e = let same : m ≡ d = omega arith in ap (λ (x : ℕ). take x us) same
drop_taken (suc a) zero zero us e = refl
drop_taken (suc a) zero (suc d) us e = absurd (omega arith)
drop_taken (suc a) (suc m) zero [] e = refl
drop_taken (suc a) (suc m) (suc d) [] e = refl
drop_taken (suc a) (suc m) d (u ∷ us) e = drop_taken a m d us (omega arith)

-- n units from o on, by the m units from `offset` on
inner : (o n offset m : ℕ) (us : List ℕ) → offset ≤ o → o + n ≤ offset + m → take n (drop (o - offset) (take m (drop offset us))) ≡ take n (drop o us)
inner o n offset m us l h = ap (take n) (drop_taken (o - offset) m (m - (o - offset)) (drop offset us) refl)
    ∙ (take_less n (m - (o - offset)) (drop (o - offset) (drop offset us)) (omega arith) ∙ ap (take n) (drop_further (o - offset) offset o us (omega arith)))

within : (o n offset : ℕ) (x : Option (List ℕ)) (us : List ℕ) → part_within o n offset x ≡ Some us → (ws : List ℕ) × (x ≡ Some ws) ×
    (offset ≤ o) × (o + n ≤ offset + length ws) × (us ≡ part (o - offset) n ws)
within o n offset None us e = absurd (cc)
within o n offset (Some ws) us e =
    let t = if_some (nat_le offset o && nat_le (o + n) (offset + length ws)) (Some (part (o - offset) n ws)) us e in
    let b = both_true (nat_le offset o) (nat_le (o + n) (offset + length ws)) t.0 in
    (ws, refl, grind (arith, b.0), grind (arith, b.1), (cc))

module _ (z : HeapSize) (W : List ℕ) (vs : List View) (stand : (i : ℕ) → IsBorn z W i → IsStanding z W vs i) (v : View) (k : Knows z W vs v) (p o n : ℕ) where
  -- the part, and the room that there is for it
  abbrev Right : List ℕ → Type 0
  Right us = (us ≡ take n (drop o (units_of z W p))) × (o + n ≤ length (units_of z W p))

  by_sliced : (j : ℕ) (us : List ℕ) (f : Option Form) → get v.forms j ≡ f → part_by v p o n j f ≡ Some us → Right us
  by_sliced j us (Some (Sliced wide parent offset)) is e = let t = if_some (eqb parent p) (part_within o n offset (get v.units j)) us e in let w = within o n offset (get v.units j) us t.1 in
      let f = k.of_forms j (Sliced wide parent offset) is in let s = f.shows in let same : parent ≡ p = eqb-true parent p t.0 in let u = (k.of_units j w.0 w.1).1 in
      let m : ℕ = length_word z W j in let long : m ≡ length w.0 = (stand j f.born).length_is ∙ ap length u in
      let whole : w.0 ≡ take m (drop offset (units_of z W p)) = sym u ∙ (s.2 ∙ (λ i. take m (drop offset (units_of z W (same i))))) in
      let room : offset + m ≤ length (units_of z W p) = subst (λ (x : ℕ). offset + m ≤ length (units_of z W x)) same s.3 in
      let low = w.2 in let high : o + n ≤ offset + m = subst (λ (x : ℕ). o + n ≤ offset + x) (sym long) w.3 in
      (w.4 ∙ (ap (λ (l : List ℕ). take n (drop (o - offset) l)) whole ∙ inner o n offset m (units_of z W p) low high), omega arith)
  by_sliced j us (Some Unborn) is e = absurd (cc)
  by_sliced j us (Some (Flat a b c)) is e = absurd (cc)
  by_sliced j us (Some (Cons a b c)) is e = absurd (cc)
  by_sliced j us (Some (Thin a)) is e = absurd (cc)
  by_sliced j us None is e = absurd (cc)

  pub shown_part_right : (us : List ℕ) → shown_part v p o n ≡ Some us → Right us
  shown_part_right us e = ⊎_elim
      (λ h. let w = within o n 0 (get v.units p) us h in let u = (k.of_units p w.0 w.1).1 in let room = w.3 in let plain : o - 0 ≡ o = omega arith in
      (w.4 ∙ ((λ i. take n (drop (plain i) (sym u i)))), subst (λ (l : List ℕ). o + n ≤ length l) (sym u) (omega arith)))
      (λ h. let t = first_found (λ j. part_by v p o n j (get v.forms j)) (keys v.forms) us h in by_sliced t.0 us (get v.forms t.0) refl t.1)
      (either_way (part_within o n 0 (get v.units p)) (first_in (λ j. part_by v p o n j (get v.forms j)) (keys v.forms)) us e)
