-- The test whether one map has what another has, and what it says of two forms.
use Rattle.std.proofs.Common.{◌≡◌, ℕ, Bool, true, false, ◌||◌, not, List, [], ◌∷◌, refl, sym, ap, ◌∙◌, subst, ne_eqb, Option, Some, None, Decides}
use Rattle.std.proofs.lemmas.Bool.{and_parts, and_from}
use mathlib.Core.Logic.{dite}
use native.Mathlib.Decide.{ℕ_discrete}
use Rattle.std.specs.List.{list_all, list_any}
use Rattle.std.specs.Ordering.{nat_cmp, eq_by_cmp}
use Rattle.std.specs.Cmp.{unsigned_tied, booleans_Decides, unsigned_Decides}
use Rattle.std.specs.FinMap.{FinMap, get, keys, contains_key-keys}
use Rattle.js_header.specs.declared.form.Form.{Form}
use Rattle.js_header.specs.declared.form.Form.TheVariants.{Unborn, Flat, Cons, Sliced, Thin}
use Rattle.heap_rule.specs.Maps.{Has}
use Rattle.heap_rule.specs.Forms.{IsCons, is_later}
use Rattle.heap_rule.proofs.MapLemmas.{key_of}
use Rattle.heap_table.specs.Taken.{fits_there, fits_all, same_number, is_cons, fits_form}

pub false_true : false ≡ true → ⊥
false_true e = cc

pub or_rest : (b c : Bool) → b ≡ false → (b || c) ≡ true → c ≡ true
or_rest false c e h = h
or_rest true c e h = absurd (cc)

module _ {X : Type 0} (fits : X → X → Bool) (m n : FinMap nat_cmp X) where
  -- each entry of the one is met by one of the other
  abbrev pub IsMet : Type 0
  IsMet = (q : ℕ) (x : X) → Has m q x → (y : X) × Has n q y × (fits x y ≡ true)

  there : (o p : Option X) → ((x : X) → o ≡ Some x → (y : X) × (p ≡ Some y) × (fits x y ≡ true)) → fits_there fits o p ≡ true
  there None p h = refl
  there (Some x) p h = let t = h x refl in ap (fits_there fits (Some x)) t.1 ∙ t.2

  all_there : IsMet → (ks : List ℕ) → list_all (λ k. fits_there fits (get m k) (get n k)) ks ≡ true
  all_there h [] = refl
  all_there h (k ∷ ks) = and_from _ _ (there (get m k) (get n k) (h k)) (all_there h ks)

  pub fits_true : IsMet → fits_all fits m n ≡ true
  fits_true h = all_there h (keys m)

  there_is : (p : Option X) (x : X) → fits_there fits (Some x) p ≡ true → (y : X) × (p ≡ Some y) × (fits x y ≡ true)
  there_is None x h = absurd (false_true h)
  there_is (Some y) x h = (y, refl, h)

  found : (q : ℕ) (ks : List ℕ) → list_any (eq_by_cmp nat_cmp q) ks ≡ true → list_all (λ k. fits_there fits (get m k) (get n k)) ks ≡ true → fits_there fits (get m q) (get n q) ≡ true
  found q [] e h = absurd (false_true e)
  found q (k ∷ ks) e h = let a = and_parts _ _ h in dite (ℕ_discrete q k)
      (λ is. subst (λ (r : ℕ). fits_there fits (get m r) (get n r) ≡ true) (sym is) a.0)
      (λ ne. found q ks (or_rest (eq_by_cmp nat_cmp q k) (list_any (eq_by_cmp nat_cmp q) ks) (unsigned_tied q k ∙ ne_eqb q k ne) e) a.1)

  pub fits_met : fits_all fits m n ≡ true → IsMet
  fits_met h q x e = there_is (get n q) x (subst (λ (o : Option X). fits_there fits o (get n q) ≡ true) e (found q (keys m) (sym (contains_key-keys m q) ∙ key_of m q x e) h))

  module _ (decides : (x y : X) → Decides (fits x y) (x ≡ y)) where
    pub fits_same : ((q : ℕ) (x : X) → Has m q x → Has n q x) → fits_all fits m n ≡ true
    fits_same h = fits_true (λ q x e. (x, h q x e, (decides x x).1 refl))

    pub same_met : fits_all fits m n ≡ true → (q : ℕ) (x : X) → Has m q x → Has n q x
    same_met h q x e = let t = fits_met h q x e in t.1 ∙ ap Some (sym ((decides x t.0).0 t.2))

pub same_number_decides : (m n : ℕ) → Decides (same_number m n) (m ≡ n)
same_number_decides m n = unsigned_Decides m n

pub cons_not : (g : Form) → is_cons g ≡ false → IsCons g → ⊥
cons_not (Cons wide left right) e c = false_true (sym e)
cons_not Unborn e c = c
cons_not (Flat wide start fixed) e c = c
cons_not (Sliced wide parent offset) e c = c
cons_not (Thin target) e c = c

not_true : (b : Bool) → not b ≡ true → b ≡ false
not_true false e = refl
not_true true e = absurd (false_true e)

pub fits_self : (f : Form) → (f ≡ Unborn → ⊥) → fits_form f f ≡ true
fits_self (Flat wide start true) b = and_from _ _ ((booleans_Decides wide wide).1 refl) (and_from _ _ ((unsigned_Decides start start).1 refl) refl)
fits_self (Flat wide start false) b = refl
fits_self Unborn b = absurd (b refl)
fits_self (Cons wide left right) b = refl
fits_self (Sliced wide parent offset) b = refl
fits_self (Thin target) b = (unsigned_Decides target target).1 refl

pub fits_flat : (wide : Bool) (start : ℕ) (g : Form) → fits_form (Flat wide start true) g ≡ true → g ≡ Flat wide start true
fits_flat wide start (Flat w s f) h = let a = and_parts _ _ h in let b = and_parts _ _ a.1 in
    λ i. Flat (sym ((booleans_Decides wide w).0 a.0) i) (sym ((unsigned_Decides start s).0 b.0) i) (b.1 i)
fits_flat wide start Unborn h = absurd (false_true h)
fits_flat wide start (Cons w s f) h = absurd (false_true h)
fits_flat wide start (Sliced w s f) h = absurd (false_true h)
fits_flat wide start (Thin t) h = absurd (false_true h)

pub fits_thin : (t : ℕ) (g : Form) → fits_form (Thin t) g ≡ true → g ≡ Thin t
fits_thin t (Thin u) h = ap Thin (sym ((unsigned_Decides t u).0 h))
fits_thin t Unborn h = absurd (false_true h)
fits_thin t (Flat w s f) h = absurd (false_true h)
fits_thin t (Cons w s f) h = absurd (false_true h)
fits_thin t (Sliced w s f) h = absurd (false_true h)

pub fits_settled : (f g : Form) → fits_form f g ≡ true → (IsCons f → ⊥) → IsCons g → ⊥
fits_settled (Flat wide start true) g h n c = subst IsCons (fits_flat wide start g h) c
fits_settled (Flat wide start false) g h n c = cons_not g (not_true (is_cons g) h) c
fits_settled (Cons wide left right) g h n c = n tt
fits_settled Unborn g h n c = absurd (false_true h)
fits_settled (Sliced wide parent offset) g h n c = cons_not g (not_true (is_cons g) h) c
fits_settled (Thin target) g h n c = subst IsCons (fits_thin target g h) c

pub not_self : (f : Form) → is_later f f ≡ false
not_self Unborn = refl
not_self (Flat wide start true) = refl
not_self (Flat wide start false) = refl
not_self (Cons wide left right) = refl
not_self (Sliced wide parent offset) = refl
not_self (Thin target) = refl

pub not_before : (g : Form) (wide : Bool) (left right : ℕ) → is_later g (Cons wide left right) ≡ false
not_before Unborn w l r = refl
not_before (Flat wide start true) w l r = refl
not_before (Flat wide start false) w l r = refl
not_before (Cons wide left right) w l r = refl
not_before (Sliced wide parent offset) w l r = refl
not_before (Thin target) w l r = refl

-- only a Cons is earlier than a Flat that is not fixed, and none than a Sliced
not_earlier : (g : Form) (wide : Bool) (start : ℕ) → is_cons g ≡ false → is_later g (Flat wide start false) ≡ false
not_earlier (Cons w s p) wide start e = absurd (false_true (sym e))
not_earlier Unborn wide start e = refl
not_earlier (Flat w s true) wide start e = refl
not_earlier (Flat w s false) wide start e = refl
not_earlier (Sliced w s p) wide start e = refl
not_earlier (Thin t) wide start e = refl

not_sliced : (g : Form) (wide : Bool) (parent offset : ℕ) → is_later g (Sliced wide parent offset) ≡ false
not_sliced (Cons w s p) wide parent offset = refl
not_sliced Unborn wide parent offset = refl
not_sliced (Flat w s true) wide parent offset = refl
not_sliced (Flat w s false) wide parent offset = refl
not_sliced (Sliced w s p) wide parent offset = refl
not_sliced (Thin t) wide parent offset = refl

pub fits_later : (f g : Form) → fits_form f g ≡ true → is_later g f ≡ false
fits_later (Flat wide start true) g h = ap (λ (x : Form). is_later x (Flat wide start true)) (fits_flat wide start g h) ∙ not_self (Flat wide start true)
fits_later (Flat wide start false) g h = not_earlier g wide start (not_true (is_cons g) h)
fits_later (Cons wide left right) g h = not_before g wide left right
fits_later Unborn g h = absurd (false_true h)
fits_later (Sliced wide parent offset) g h = not_sliced g wide parent offset
fits_later (Thin target) g h = ap (λ (x : Form). is_later x (Thin target)) (fits_thin target g h) ∙ not_self (Thin target)
