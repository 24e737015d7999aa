-- Whatever the data of a view justify it knows, once it has learned.
use Rattle.std.proofs.Common.{◌≡◌, ℕ, zero, suc, ◌+◌, ◌<◌, ◌⊎◌, inl, inr, ⊎_elim, Bool, true, cond, List, [], ◌∷◌, ◌++◌, map, sym, refl, ap, ◌∙◌, subst, arith, eq-eqb, ne_eqb, Option, Some, None}
use Rattle.std.proofs.lemmas.Bool.{and_from}
use mathlib.Core.Logic.{dite}
use native.Mathlib.Decide.{ℕ_discrete}
use Rattle.std.specs.Ordering.{nat_cmp}
use Rattle.std.specs.Cmp.{unsigned_tied}
use Rattle.std.specs.FinMap.{FinMap, get, insert, entries, find, get-entries, keys}
use Rattle.js_units.specs.Lanes.{words_over}
use Rattle.js_header.specs.declared.form.Form.{Form}
use Rattle.js_header.specs.declared.form.Form.TheVariants.{Flat, Thin}
use Rattle.heap_rule.specs.declared.view.View.{View}
use Rattle.heap_rule.specs.Contents.{span}
use Rattle.heap_rule.specs.Maps.{Has, HasKey, first_some, first_in}
use Rattle.heap_rule.specs.Learning.{all_frozen, all_named, by_cons, by_flat, by_thin, frozen_word, justified, learn_into, learn_one, learned_all, named_by}
use Rattle.heap_rule.proofs.MapLemmas.{has_key, insert_other, insert_same, key_of}
use Rattle.heap_read.specs.Frozen.{IsLearned}

abbrev IsIn : ℕ → List ℕ → Type 0
IsIn i [] = ⊥
IsIn i (n ∷ ns) = (i ≡ n) ⊎ IsIn i ns

in_right : (i : ℕ) (a b : List ℕ) → IsIn i b → IsIn i (a ++ b)
in_right i [] b h = h
in_right i (n ∷ a) b h = inr (in_right i a b h)

in_left : (i : ℕ) (a b : List ℕ) → IsIn i a → IsIn i (a ++ b)
in_left i [] b h = absurd h
in_left i (n ∷ a) b h = ⊎_elim (λ (e : i ≡ n). inl e) (λ (r : IsIn i a). inr (in_left i a b r)) h

-- what the form of an id names is among what all forms name
named_in : (es : List (ℕ × Form)) (j i : ℕ) (f : Form) → IsIn i (named_by (j, f)) → find nat_cmp j es ≡ Some f → IsIn i (all_named es)
named_in [] j i f n h = absurd (cc)
named_in (e ∷ es) j i f n h = dite (ℕ_discrete j e.0)
    (λ (is : j ≡ e.0). let here : Some e.1 ≡ Some f = sym (ap (λ b. cond b (Some e.1) (find nat_cmp j es)) (unsigned_tied j e.0 ∙ eq-eqb j e.0 is)) ∙ h in let form : e.1 ≡ f = cc in
    in_left i (named_by e) (all_named es) (subst (λ (k : ℕ). IsIn i (named_by (k, e.1))) is (subst (λ (g : Form). IsIn i (named_by (j, g))) (sym form) n)))
    (λ ne. in_right i (named_by e) (all_named es) (named_in es j i f n (sym (ap (λ b. cond b (Some e.1) (find nat_cmp j es)) (unsigned_tied j e.0 ∙ ne_eqb j e.0 ne)) ∙ h)))

module _ {X : Type 0} where
  key_more : (m : FinMap nat_cmp X) (k q : ℕ) (x : X) → HasKey m q → HasKey (insert m k x) q
  key_more m k q x h = dite (ℕ_discrete q k)
      (λ e. key_of (insert m k x) q x (ap (get (insert m k x)) e ∙ insert_same m k x))
      (λ ne. let p = has_key m q h in key_of (insert m k x) q p.0 (insert_other m k q x ne ∙ p.1))

one_more : (m : FinMap nat_cmp (List ℕ)) (n q : ℕ) (o : Option (List ℕ)) → HasKey m q → HasKey (learn_one m n o) q
one_more m n q None h = h
one_more m n q (Some us) h = key_more m n q us h

into_more : (f : ℕ → Option (List ℕ)) (names : List ℕ) (m : FinMap nat_cmp (List ℕ)) (q : ℕ) → HasKey m q → HasKey (learn_into f m names) q
into_more f [] m q h = h
into_more f (n ∷ names) m q h = into_more f names (learn_one m n (f n)) q (one_more m n q (f n) h)

learned_in : (f : ℕ → Option (List ℕ)) (names : List ℕ) (m : FinMap nat_cmp (List ℕ)) (i : ℕ) (us : List ℕ) → f i ≡ Some us → IsIn i names → HasKey (learn_into f m names) i
learned_in f [] m i us e h = absurd h
learned_in f (n ∷ names) m i us e h = ⊎_elim
    (λ (is : i ≡ n). into_more f names (learn_one m n (f n)) i
    (subst (λ (o : Option (List ℕ)). HasKey (learn_one m n o) i) (sym (ap f (sym is) ∙ e)) (key_of (insert m n us) i us (ap (get (insert m n us)) is ∙ insert_same m n us))))
    (λ (r : IsIn i names). learned_in f names (learn_one m n (f n)) i us e r)
    h

some_last : {X : Type 0} (a : Option X) (x : X) → (y : X) × (first_some a (Some x) ≡ Some y)
some_last None x = (x, refl)
some_last (Some y) x = (y, refl)

-- a way by which an id of the map tells
first_by : {X : Type 0} (tell : ℕ → Option X) (es : List (ℕ × Form)) (j : ℕ) (f : Form) (x : X) → find nat_cmp j es ≡ Some f → tell j ≡ Some x → (y : X) × (first_in tell (map (λ e. e.0) es) ≡ Some y)
first_by tell [] j f x h t = absurd (cc)
first_by tell (e ∷ es) j f x h t = dite (ℕ_discrete j e.0)
    (λ (is : j ≡ e.0). (x, ap (λ o. first_some o (first_in tell (map (λ d. d.0) es))) (ap tell (sym is) ∙ t)))
    (λ ne. let r = first_by tell es j f x (sym (ap (λ b. cond b (Some e.1) (find nat_cmp j es)) (unsigned_tied j e.0 ∙ ne_eqb j e.0 ne)) ∙ h) t in
    let u = some_last (tell e.0) r.0 in (u.0, ap (first_some (tell e.0)) r.1 ∙ u.1))

-- two ways before one that tells
some_third : {X : Type 0} (a b c : Option X) (x : X) → c ≡ Some x → (y : X) × (first_some a (first_some b c) ≡ Some y)
some_third a b c x e = let t = some_last b x in let u = some_last a t.0 in (u.0, ap (λ o. first_some a (first_some b o)) e ∙ (ap (first_some a) t.1 ∙ u.1))

module _ (v : View) where
  all_are : (start n : ℕ) → ((q : ℕ) → q < n → HasKey v.frozen (start + q)) → all_frozen v start n ≡ true
  all_are start zero h = refl
  all_are start (suc n) h = let plain : start + 0 ≡ start = omega arith in
      and_from _ _ (subst (HasKey v.frozen) plain (h 0 (omega arith)))
      (all_are (suc start) n (λ q l. let e : start + suc q ≡ suc start + q = omega arith in subst (HasKey v.frozen) e (h (suc q) (omega arith))))

  flat_tells : (i : ℕ) (wide : Bool) (start : ℕ) (fixed : Bool) (n : ℕ) → Has v.forms i (Flat wide start fixed) → Has v.lengths i n → all_frozen v start (words_over wide n) ≡ true
      → by_flat v i (get v.forms i) (get v.lengths i) ≡ Some (span (frozen_word v) wide start 0 n)
  flat_tells i wide start fixed n f l all = (λ j. by_flat v i (f j) (l j)) ∙ ap (λ (b : Bool). cond b (Some (span (frozen_word v) wide start 0 n)) None) all

  flat_justified : (i : ℕ) (wide : Bool) (start : ℕ) (fixed : Bool) (n : ℕ) → Has v.forms i (Flat wide start fixed) → Has v.lengths i n →
      all_frozen v start (words_over wide n) ≡ true → (us : List ℕ) × (justified v i ≡ Some us)
  unfolding justified
  flat_justified i wide start fixed n f l all = some_third (first_in (λ j. by_thin v i j (get v.forms j)) (keys v.forms)) (first_in (λ j. by_cons v i j (get v.forms j)) (keys v.forms))
      (by_flat v i (get v.forms i) (get v.lengths i)) (span (frozen_word v) wide start 0 n) (flat_tells i wide start fixed n f l all)

  pub is_learned : IsLearned (learned_all v)
  is_learned = record {
    each = λ i wide start fixed n f l h. let t = flat_justified i wide start fixed n f l (all_are start (words_over wide n) h) in
        learned_in (justified v) (all_named (entries v.forms)) v.units i t.0 t.1 (named_in (entries v.forms) i i (Flat wide start fixed) (inl refl) (sym (get-entries v.forms i) ∙ f));
  }

  thin_tells : (j t : ℕ) (us : List ℕ) → Has v.forms j (Thin t) → Has v.units j us → by_thin v t j (get v.forms j) ≡ Some us
  thin_tells j t us f u = ap (by_thin v t j) f ∙ (ap (λ (b : Bool). cond b (get v.units j) None) (eq-eqb t t refl) ∙ u)

  thin_justified : (j t : ℕ) (us : List ℕ) → Has v.forms j (Thin t) → Has v.units j us → (xs : List ℕ) × (justified v t ≡ Some xs)
  unfolding justified
  thin_justified j t us f u = let e = first_by (λ i. by_thin v t i (get v.forms i)) (entries v.forms) j (Thin t) us (sym (get-entries v.forms j) ∙ f) (thin_tells j t us f u) in
      (e.0, ap (λ o. first_some o (first_some (first_in (λ i. by_cons v t i (get v.forms i)) (keys v.forms)) (by_flat v t (get v.forms t) (get v.lengths t)))) e.1)

  -- the units of a string to which one with known units forwards
  pub thin_learned : (j t : ℕ) → Has v.forms j (Thin t) → HasKey v.units j → HasKey (learned_all v).units t
  thin_learned j t f u = let us = has_key v.units j u in let x = thin_justified j t us.0 f us.1 in
      learned_in (justified v) (all_named (entries v.forms)) v.units t x.0 x.1 (named_in (entries v.forms) j t (Thin t) (inl refl) (sym (get-entries v.forms j) ∙ f))

pub learned_then : (v w : View) → w ≡ learned_all v → IsLearned w
learned_then v w e = subst IsLearned (sym e) (is_learned v)
