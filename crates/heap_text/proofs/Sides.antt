-- The sides of a Cons: their units are learned by the length of the left one, and both joined are the units of the Cons.
use Rattle.std.proofs.Common.{◌≡◌, ℕ, ◌+◌, ◌<◌, ◌≤◌, ◌==◌, ◌⊎◌, inl, inr, ⊎_elim, Bool, true, false, cond, List, [], ◌∷◌, ◌++◌, length, take, drop, sym, refl}
use Rattle.std.proofs.Common.{ap, ◌∙◌, subst, arith, eq-eqb, ne_eqb, Option, Some, None}
use Rattle.std.proofs.lemmas.List.{length-append}
use Rattle.std.proofs.Math.Logic.{∥∥₁_elim}
use Rattle.std.proofs.Props.{props}
use Rattle.std.specs.Prelude.{unwrap_or}
use mathlib.Core.Logic.{dite}
use native.Mathlib.Decide.{ℕ_discrete}
use Rattle.std.specs.List.{list_any}
use Rattle.std.specs.Ordering.{nat_cmp, eq_by_cmp}
use Rattle.std.specs.Cmp.{unsigned_tied}
use Rattle.std.specs.FinMap.{FinMap, contains_key-keys, entries, find, get, get-entries, insert, keys}
use Rattle.js_header.specs.declared.form.Form.{Form}
use Rattle.js_header.specs.declared.form.Form.TheVariants.{Cons}
use Rattle.heap_rule.specs.declared.view.View.{View}
use Rattle.heap_rule.specs.Layout.{length_word}
use Rattle.heap_rule.specs.Learning.{all_named, by_cons, by_flat, by_thin, justified, learn_into, learn_one, learned_all, named_by, split_by}
use Rattle.heap_rule.specs.Maps.{Has, HasKey, first_in, first_some}
use Rattle.heap_rule.specs.Sound.{IsPossible, StandsIn}
use Rattle.heap_rule.proofs.MapLemmas.{has_key, insert_same, key_of}
use Rattle.heap_table.proofs.Fitting.{or_rest}
use Rattle.heap_text.specs.Filling.{IsBoth, units_at}
use Rattle.heap_read.proofs.Loaded.{key_more}

abbrev IsIn : ℕ → List ℕ → Type 0
IsIn i [] = ⊥
IsIn i (n ∷ ns) = (i ≡ n) ⊎ IsIn i ns

in_right : (i : ℕ) (a b : List ℕ) → IsIn i b → IsIn i (a ++ b)
in_right i [] b h = h
in_right i (n ∷ a) b h = inr (in_right i a b h)

-- the sides of a Cons are among those that the forms name
named_sides : (es : List (ℕ × Form)) (i : ℕ) (wide : Bool) (l r : ℕ) → find nat_cmp i es ≡ Some (Cons wide l r) → IsIn l (all_named es) × IsIn r (all_named es)
named_sides [] i wide l r h = absurd (cc)
named_sides (e ∷ es) i wide l r h = dite (ℕ_discrete i e.0)
    (λ (is : i ≡ e.0). let here : Some e.1 ≡ Some (Cons wide l r) = sym
    (ap (λ b. cond b (Some e.1) (find nat_cmp i es)) (unsigned_tied i e.0 ∙ eq-eqb i e.0 is)) ∙ h in let form : e.1 ≡ Cons wide l r = cc in
    subst (λ (f : Form). IsIn l (named_by (e.0, f) ++ all_named es) × IsIn r (named_by (e.0, f) ++ all_named es)) (sym form) (inl refl, inr (inl refl)))
    (λ ne. let t = named_sides es i wide l r (sym (ap (λ b. cond b (Some e.1) (find nat_cmp i es)) (unsigned_tied i e.0 ∙ ne_eqb i e.0 ne)) ∙ h) in
    (in_right l (named_by e) (all_named es) t.0, in_right r (named_by e) (all_named es) t.1))

one_more : (m : FinMap nat_cmp (List ℕ)) (n q : ℕ) (o : Option (List ℕ)) → HasKey m q → HasKey (learn_one m n o) q
one_more m n q None h = h
one_more m n q (Some us) h = key_more m n q us h

into_more : (f : ℕ → Option (List ℕ)) (names : List ℕ) (m : FinMap nat_cmp (List ℕ)) (q : ℕ) → HasKey m q → HasKey (learn_into f m names) q
into_more f [] m q h = h
into_more f (n ∷ names) m q h = into_more f names (learn_one m n (f n)) q (one_more m n q (f n) h)

learned_in : (f : ℕ → Option (List ℕ)) (names : List ℕ) (m : FinMap nat_cmp (List ℕ)) (i : ℕ) (us : List ℕ) → f i ≡ Some us → IsIn i names → HasKey (learn_into f m names) i
learned_in f [] m i us e h = absurd h
learned_in f (n ∷ names) m i us e h = ⊎_elim
    (λ (is : i ≡ n). into_more f names (learn_one m n (f n)) i
    (subst (λ (o : Option (List ℕ)). HasKey (learn_one m n o) i) (sym (ap f (sym is) ∙ e)) (key_of (insert m n us) i us (ap (get (insert m n us)) is ∙ insert_same m n us))))
    (λ (r : IsIn i names). learned_in f names (learn_one m n (f n)) i us e r)
    h

module _ {X : Type 0} where
  pub first_two : (a b : Option X) → (a ≡ None → (y : X) × (b ≡ Some y)) → (y : X) × (first_some a b ≡ Some y)
  first_two (Some y) b h = (y, refl)
  first_two None b h = h refl

  -- where one of the keys gives a value, the first that does gives one
  pub first_at : (f : ℕ → Option X) (j : ℕ) (ks : List ℕ) (x : X) → list_any (eq_by_cmp nat_cmp j) ks ≡ true → f j ≡ Some x → (y : X) × (first_in f ks ≡ Some y)
  first_at f j [] x h e = absurd (cc)
  first_at f j (k ∷ ks) x h e = first_two (f k) (first_in f ks) (λ none. dite (ℕ_discrete j k)
      (λ is. let bad : Some x ≡ None = sym e ∙ (ap f is ∙ none) in absurd (cc))
      (λ ne. first_at f j ks x (or_rest (eq_by_cmp nat_cmp j k) (list_any (eq_by_cmp nat_cmp j) ks) (unsigned_tied j k ∙ ne_eqb j k ne) h) e))

  second_of : (a b c : Option X) (x : X) → b ≡ Some x → (y : X) × (first_some a (first_some b c) ≡ Some y)
  second_of a b c x e = first_two a (first_some b c) (λ none. (x, ap (λ o. first_some o c) e))

picked : (b c : Bool) (x y : List ℕ) → c ≡ true → (z : List ℕ) × (cond b (Some x) (cond c (Some y) None) ≡ Some z)
picked true c x y e = (x, refl)
picked false c x y e = (y, ap (λ d. cond d (Some y) None) e)

module _ (v : View) (i : ℕ) (wide : Bool) (l r : ℕ) (us : List ℕ) (m : ℕ) (f : Has v.forms i (Cons wide l r)) (u : Has v.units i us) (n : Has v.lengths l m) where
  left_told : (y : List ℕ) × (by_cons v l i (get v.forms i) ≡ Some y)
  left_told = (take m us, (λ j. by_cons v l i (f j)) ∙ ((λ j. cond (eq-eqb l l refl j) (split_by true (u j) (n j)) (cond (r == l) (split_by false (u j) (n j)) None)) ∙ refl))

  right_told : (y : List ℕ) × (by_cons v r i (get v.forms i) ≡ Some y)
  right_told = let p = picked (l == r) (r == r) (take m us) (drop m us) (eq-eqb r r refl) in
      (p.0, (λ j. by_cons v r i (f j)) ∙ ((λ j. cond (l == r) (split_by true (u j) (n j)) (cond (r == r) (split_by false (u j) (n j)) None)) ∙ p.1))

  told : (q : ℕ) (y : List ℕ) → by_cons v q i (get v.forms i) ≡ Some y → (x : List ℕ) × (justified v q ≡ Some x)
  unfolding justified
  told q y e = let t = first_at (λ j. by_cons v q j (get v.forms j)) i (keys v.forms) y (sym (contains_key-keys v.forms i) ∙ key_of v.forms i (Cons wide l r) f) e in
      second_of (first_in (λ j. by_thin v q j (get v.forms j)) (keys v.forms)) (first_in (λ j. by_cons v q j (get v.forms j)) (keys v.forms)) (by_flat v q (get v.forms q) (get v.lengths q)) t.0 t.1

  -- both sides are known once the view has learned
  pub sides_known : HasKey (learned_all v).units l × HasKey (learned_all v).units r
  sides_known = let names = named_sides (entries v.forms) i wide l r (sym (get-entries v.forms i) ∙ f) in
      let a = told l left_told.0 left_told.1 in let b = told r right_told.0 right_told.1 in
      (learned_in (justified v) (all_named (entries v.forms)) v.units l a.0 a.1 names.0, learned_in (justified v) (all_named (entries v.forms)) v.units r b.0 b.1 names.1)

-- what the rule says of a Cons that was seen
below_in : (v : View) → StandsIn v → (i : ℕ) (wide : Bool) (l r : ℕ) → Has v.forms i (Cons wide l r) → (l < i) × (r < i)
below_in v (z, agents, W, vs, j, s, at, live) i wide l r f = let h = ((s.knows j v at live).of_forms i (Cons wide l r) f).shows in (h.3, h.4)

pub possible_below : (v : View) → IsPossible v → (i : ℕ) (wide : Bool) (l r : ℕ) → Has v.forms i (Cons wide l r) → (l < i) × (r < i)
possible_below v p i wide l r f = ∥∥₁_elim p (Prim.hlevel props) (λ t. below_in v t i wide l r f)

long_in : (v : View) → StandsIn v → (i : ℕ) (wide : Bool) (l r : ℕ) (us : List ℕ) → Has v.forms i (Cons wide l r) → Has v.units i us → 13 ≤ length us
long_in v (z, agents, W, vs, j, s, at, live) i wide l r us f u = let k = s.knows j v at live in let a = k.of_units i us u in let h = (k.of_forms i (Cons wide l r) f).shows in
    let n : length_word z W i ≡ length us = (s.standing i a.0).length_is ∙ ap length a.1 in subst (λ (x : ℕ). 13 ≤ x) n h.7

-- it has 13 units or more
pub possible_cons : (v : View) → IsPossible v → (i : ℕ) (wide : Bool) (l r : ℕ) (us : List ℕ) → Has v.forms i (Cons wide l r) → Has v.units i us → 13 ≤ length us
possible_cons v p i wide l r us f u = ∥∥₁_elim p (Prim.hlevel props) (λ t. long_in v t i wide l r us f u)

both_in : (v : View) → StandsIn v → (i : ℕ) (wide : Bool) (l r : ℕ) (us ls rs : List ℕ) (m : ℕ) → Has v.forms i (Cons wide l r) → Has
    v.units i us → Has v.units l ls → Has v.units r rs → Has v.lengths l m → IsBoth us ls rs m (length us)
both_in v (z, agents, W, vs, j, s, at, live) i wide l r us ls rs m f u a b n = let k = s.knows j v at live in let h = (k.of_forms i (Cons wide l r) f).shows in
    let ui = (k.of_units i us u).1 in let ul = (k.of_units l ls a).1 in let born = (k.of_units l ls a).0 in let ur = (k.of_units r rs b).1 in
    let both : us ≡ ls ++ rs = sym ui ∙ (h.2 ∙ (λ d. ul d ++ ur d)) in
    let count : length ls ≡ m = sym (ap length ul) ∙ (sym (s.standing l born).length_is ∙ (k.of_lengths l m n).1) in
    let some : 1 ≤ length ls = subst (λ (xs : List ℕ). 1 ≤ length xs) ul h.5 in let more : 1 ≤ length rs = subst (λ (xs : List ℕ). 1 ≤ length xs) ur h.6 in
    let sum : length us ≡ length ls + length rs = ap length both ∙ length-append ls rs in record {
      both = both;
      left_count = count;
      right_count = omega arith;
      left_some = omega arith;
      right_some = omega arith;
    }

-- the units of its sides, joined
pub possible_both : (v : View) → IsPossible v → (i : ℕ) (wide : Bool) (l r : ℕ) (us ls rs : List ℕ) (m : ℕ) → Has v.forms i (Cons wide l r)
    → Has v.units i us → Has v.units l ls → Has v.units r rs → Has v.lengths l m → IsBoth us ls rs m (length us)
possible_both v p i wide l r us ls rs m f u a b n = ∥∥₁_elim p (Prim.hlevel props) (λ t. both_in v t i wide l r us ls rs m f u a b n)

-- the units that a view has
pub units_are : (v : View) (i : ℕ) (us : List ℕ) → Has v.units i us → units_at v i ≡ us
units_are v i us h = ap (λ (o : Option (List ℕ)). unwrap_or o []) h

pub units_there : (v : View) (i : ℕ) → HasKey v.units i → Has v.units i (units_at v i)
units_there v i h = let p = has_key v.units i h in p.1 ∙ ap Some (sym (units_are v i p.0 p.1))
