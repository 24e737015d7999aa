-- What a view's data justify is right.
use Rattle.std.proofs.Common.{◌≡◌, ◌≢◌, ℕ, zero, suc, ◌+◌, ◌<◌, ◌≤◌, ◌⊎◌, inl, inr, ⊎_elim, Bool, true, false, cond, List, [], ◌∷◌, ◌++◌, take, drop, length}
use Rattle.std.proofs.Common.{sym, refl, ap, ◌∙◌, subst, arith, eqb, eqb-true, Option, Some, None}
use Rattle.std.specs.Prelude.{◌&&◌, unwrap_or, is_some}
use mathlib.Core.Logic.{dite}
use native.Mathlib.Decide.{ℕ_discrete}
use Rattle.std.specs.FinMap.{FinMap, get, keys, contains_key}
use Rattle.std.specs.Ordering.{nat_cmp}
use Rattle.js_units.specs.Lanes.{words_over}
use Rattle.js_header.specs.declared.form.Form.{Form}
use Rattle.js_header.specs.declared.form.Form.TheVariants.{Unborn, Flat, Cons, Sliced, Thin}
use Rattle.heap_rule.specs.declared.view.View.{View}
use Rattle.heap_rule.specs.declared.size.HeapSize.{HeapSize}
use Rattle.heap_rule.specs.Layout.{content, length_word, IsBorn}
use Rattle.heap_rule.specs.Contents.{units_of, span}
use Rattle.heap_rule.specs.Maps.{Has, first_some, first_in}
use Rattle.heap_rule.specs.Sound.{IsStanding, Knows}
use Rattle.heap_rule.specs.Learning.{by_thin, by_cons, split_by, by_flat, all_frozen, frozen_word, justified, learn_one, learn_into, learned}
use Rattle.heap_rule.proofs.MapLemmas.{has_insert}
use Rattle.heap_rule.proofs.UnitLemmas.{flat_same}

pub first_found : {A X : Type 0} (f : A → Option X) (l : List A) (x : X) → first_in f l ≡ Some x → (a : A) × (f a ≡ Some x)
first_found f [] x e = absurd (cc)
first_found f (a ∷ l) x e = elim (f a) as (λ o. f a ≡ o → first_some o (first_in f l) ≡ Some x → (b : _) × (f b ≡ Some x)) [
  | Some y ↦ λ is h. (a, is ∙ h)
  | None ↦ λ is h. first_found f l x h
] refl e

pub either_way : {X : Type 0} (a b : Option X) (x : X) → first_some a b ≡ Some x → (a ≡ Some x) ⊎ (b ≡ Some x)
either_way (Some y) b x e = inl e
either_way None b x e = inr e

pub if_some : {X : Type 0} (b : Bool) (o : Option X) (x : X) → cond b o None ≡ Some x → (b ≡ true) × (o ≡ Some x)
if_some true o x e = (refl, e)
if_some false o x e = absurd (cc)

pub both_true : (a b : Bool) → (a && b) ≡ true → (a ≡ true) × (b ≡ true)
both_true true b e = (refl, e)
both_true false b e = absurd (cc)

take_front : (a b : List ℕ) → take (length a) (a ++ b) ≡ a
take_front [] b = refl
take_front (x ∷ a) b = λ i. x ∷ take_front a b i

drop_front : (a b : List ℕ) → drop (length a) (a ++ b) ≡ b
drop_front [] b = refl
drop_front (x ∷ a) b = drop_front a b

module _ (z : HeapSize) (W : List ℕ) (vs : List View) (stand : (i : ℕ) → IsBorn z W i → IsStanding z W vs i) (v : View) (k : Knows z W vs v) where
  abbrev Right : ℕ → List ℕ → Type 0
  Right i us = IsBorn z W i × (units_of z W i ≡ us)

  thin_right : (i j : ℕ) (us : List ℕ) (o : Option Form) → get v.forms j ≡ o → by_thin v i j o ≡ Some us → Right i us
  thin_right i j us (Some (Thin target)) is e = let t = if_some (eqb target i) (get v.units j) us e in let s = (k.of_forms j (Thin target) is).shows in let same = eqb-true target i t.0 in
      subst (λ (x : ℕ). Right x us) same (s.0, s.1 ∙ (k.of_units j us t.1).1)
  thin_right i j us (Some Unborn) is e = absurd (cc)
  thin_right i j us (Some (Flat a b c)) is e = absurd (cc)
  thin_right i j us (Some (Cons a b c)) is e = absurd (cc)
  thin_right i j us (Some (Sliced a b c)) is e = absurd (cc)
  thin_right i j us None is e = absurd (cc)

  split_right : (front : Bool) (j left right : ℕ) (wide : Bool) (us : List ℕ) (o : Option (List ℕ)) (n : Option ℕ) → Has v.forms j (Cons wide left right) → get v.units j ≡ o → get v.lengths left ≡ n
      → split_by front o n ≡ Some us → Right (cond front left right) us
  split_right true j left right wide us (Some ws) (Some n) is a b e = let s = (k.of_forms j (Cons wide left right) is).shows in let l = k.of_lengths left n b in let u = (k.of_units j ws a).1 in
      let size : length (units_of z W left) ≡ n = sym (stand left l.0).length_is ∙ l.1 in let taken : take n ws ≡ us = cc in
      (l.0, sym (take_front (units_of z W left) (units_of z W right)) ∙ ((λ d. take (size d) ((sym s.2 ∙ u) d)) ∙ taken))
  split_right false j left right wide us (Some ws) (Some n) is a b e = let s = (k.of_forms j (Cons wide left right) is).shows in let l = k.of_lengths left n b in let u = (k.of_units j ws a).1 in
      let size : length (units_of z W left) ≡ n = sym (stand left l.0).length_is ∙ l.1 in let dropped : drop n ws ≡ us = cc in
      (s.1, sym (drop_front (units_of z W left) (units_of z W right)) ∙ ((λ d. drop (size d) ((sym s.2 ∙ u) d)) ∙ dropped))
  split_right true j left right wide us None n is a b e = absurd (cc)
  split_right false j left right wide us None n is a b e = absurd (cc)
  split_right true j left right wide us (Some ws) None is a b e = absurd (cc)
  split_right false j left right wide us (Some ws) None is a b e = absurd (cc)

  cons_by : (i j left right : ℕ) (wide : Bool) (us : List ℕ) → Has v.forms j (Cons wide left right) → (a b : Bool) → (a ≡ true → left ≡ i) → (b ≡ true → right ≡ i)
      → cond a (split_by true (get v.units j) (get v.lengths left)) (cond b (split_by false (get v.units j) (get v.lengths left)) None) ≡ Some us → Right i us
  cons_by i j left right wide us is true b f g e = subst (λ (x : ℕ). Right x us) (f refl) (split_right true j left right wide us (get v.units j) (get v.lengths left) is refl refl e)
  cons_by i j left right wide us is false true f g e = subst (λ (x : ℕ). Right x us) (g refl) (split_right false j left right wide us (get v.units j) (get v.lengths left) is refl refl e)
  cons_by i j left right wide us is false false f g e = absurd (cc)

  cons_right : (i j : ℕ) (us : List ℕ) (o : Option Form) → get v.forms j ≡ o → by_cons v i j o ≡ Some us → Right i us
  cons_right i j us (Some (Cons wide left right)) is e = cons_by i j left right wide us is (eqb left i) (eqb right i) (eqb-true left i) (eqb-true right i) e
  cons_right i j us (Some Unborn) is e = absurd (cc)
  cons_right i j us (Some (Flat a b c)) is e = absurd (cc)
  cons_right i j us (Some (Thin a)) is e = absurd (cc)
  cons_right i j us (Some (Sliced a b c)) is e = absurd (cc)
  cons_right i j us None is e = absurd (cc)

  word_right : (c : ℕ) (o : Option ℕ) → get v.frozen c ≡ o → is_some o ≡ true → unwrap_or o 0 ≡ content z W c
  word_right c (Some x) is e = sym (k.of_frozen c x is).1
  word_right c None is e = absurd (cc)

  words_right : (start n : ℕ) → all_frozen v start n ≡ true → (c : ℕ) → start ≤ c → c < start + n → frozen_word v c ≡ content z W c
  words_right start zero e c lo hi = absurd (omega arith)
  words_right start (suc n) e c lo hi = let t = both_true (contains_key v.frozen start) (all_frozen v (suc start) n) e in
      dite (ℕ_discrete c start)
      (λ is. subst (λ (d : ℕ). frozen_word v d ≡ content z W d) (sym is) (word_right start (get v.frozen start) refl t.0))
      (λ ne. words_right (suc start) n t.1 c (omega arith) (omega arith))

  flat_right : (i : ℕ) (us : List ℕ) (o : Option Form) (n : Option ℕ) → get v.forms i ≡ o → get v.lengths i ≡ n → by_flat v i o n ≡ Some us → Right i us
  flat_right i us (Some (Flat wide start fixed)) (Some n) is l e =
      let t = if_some (all_frozen v start (words_over wide n)) (Some (span (frozen_word v) wide start 0 n)) us e in
      let f = k.of_forms i (Flat wide start fixed) is in
      let size : length_word z W i ≡ n = (k.of_lengths i n l).1 in let shown : span (frozen_word v) wide start 0 n ≡ us = cc in
      (f.born, f.shows.0 ∙ (ap (λ (m : ℕ). span (content z W) wide start 0 m) size ∙ (sym (flat_same (frozen_word v) (content z W) wide start n (words_right start (words_over wide n) t.0)) ∙ shown)))
  flat_right i us (Some (Flat wide start fixed)) None is l e = absurd (cc)
  flat_right i us (Some Unborn) n is l e = absurd (cc)
  flat_right i us (Some (Cons a b c)) n is l e = absurd (cc)
  flat_right i us (Some (Thin a)) n is l e = absurd (cc)
  flat_right i us (Some (Sliced a b c)) n is l e = absurd (cc)
  flat_right i us None n is l e = absurd (cc)

  pub justified_right : (i : ℕ) (us : List ℕ) → justified v i ≡ Some us → Right i us
  unfolding justified
  justified_right i us e = ⊎_elim
      (λ h. let t = first_found (λ j. by_thin v i j (get v.forms j)) (keys v.forms) us h in thin_right i t.0 us (get v.forms t.0) refl t.1)
      (λ h. ⊎_elim
      (λ g. let t = first_found (λ j. by_cons v i j (get v.forms j)) (keys v.forms) us g in cons_right i t.0 us (get v.forms t.0) refl t.1)
      (λ g. flat_right i us (get v.forms i) (get v.lengths i) refl refl g)
      (either_way _ _ us h))
      (either_way _ _ us e)

  learned_one : (m : FinMap nat_cmp (List ℕ)) (i : ℕ) (o : Option (List ℕ)) → ((us : List ℕ) → o ≡ Some us →
      Right i us) → ((q : ℕ) (us : List ℕ) → Has m q us → Right q us) → (q : ℕ) (us : List ℕ) → Has (learn_one m i o) q us → Right q us
  learned_one m i None f g q us h = g q us h
  learned_one m i (Some ws) f g q us h = ⊎_elim (λ (t : (q ≡ i) × (ws ≡ us)). let r = f ws refl in subst (λ (x : ℕ). Right x us) (sym t.0)
      (r.0, r.1 ∙ t.1)) (λ (t : (q ≢ i) × Has m q us). g q us t.1) (has_insert m i q ws us h)

  learned_into : (names : List ℕ) (m : FinMap nat_cmp (List ℕ)) → ((q : ℕ) (us : List ℕ) → Has m q us → Right q us) → (q : ℕ) (us : List ℕ) → Has (learn_into (justified v) m names) q us → Right q us
  learned_into [] m g q us h = g q us h
  learned_into (i ∷ names) m g q us h = learned_into names (learn_one m i (justified v i)) (learned_one m i (justified v i) (justified_right i) g) q us h

  -- learning keeps what the view knows right, whatever ids it names
  pub knows_learned : (names : List ℕ) → Knows z W vs (learned v names)
  knows_learned names = record { of_met = k.of_met; of_units = learned_into names v.units k.of_units; of_forms = k.of_forms; of_lengths = k.of_lengths; of_frozen = k.of_frozen; of_slots = k.of_slots }
