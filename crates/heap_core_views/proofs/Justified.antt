-- When the units of a string follow from a view, and which they are.
use Rattle.std.proofs.Common.{◌≡◌, ◌≢◌, ℕ, zero, suc, ◌+◌, ◌-◌, ◌<◌, ◌⊎◌, inl, inr, ⊎_elim, Bool, true, false, List, [], ◌∷◌, sym, refl, ap, ◌∙◌, subst, arith}
use Rattle.std.proofs.Common.{Option, Some, None, Result, Ok, Err, IsTrue, length, drop, get_or, ◌≤◌}
use Rattle.std.specs.Prelude.{◌&&◌, ◌||◌, is_some, IsSome, IfOk}
use Rattle.std.specs.List.{list_any}
use Rattle.std.proofs.lemmas.List.{drop_more}
use Rattle.std.proofs.Math.ListN.{drop_of_length-le}
use mathlib.Core.Logic.{dite}
use native.Mathlib.Decide.{ℕ_discrete}
use Rattle.std.specs.Ordering.{nat_cmp, eq_by_cmp}
use Rattle.std.specs.Cmp.{unsigned_tied}
use Rattle.std.specs.FinMap.{FinMap, get, keys, contains_key, contains_key-keys}
use Rattle.std.proofs.Common.{ne_eqb}
use Rattle.js_header.specs.declared.form.Form.{Form}
use Rattle.heap_rule.specs.declared.view.View.{View}
use Rattle.heap_core_views.specs.declared.load.Load.{Load}
use Rattle.heap_rule.specs.Maps.{Has, first_some, first_in}
use Rattle.heap_rule.specs.Learning.{by_thin, by_cons, by_flat, all_frozen, justified, tells, learn_one, learn_into}
use Rattle.heap_core_views.specs.Loading.{loaded_by}
use Rattle.heap_rule.proofs.MapLemmas.{key_of}
use Rattle.heap_rule.proofs.Learning.{first_found, either_way}

-- one more frozen word
pub frozen_next : (v : View) (c l : ℕ) → 0 < l → contains_key v.frozen c ≡ true → all_frozen v (c + 1) (l - 1) ≡ all_frozen v c l
frozen_next v c zero h e = absurd (omega arith)
frozen_next v c (suc n) h e = let a : c + 1 ≡ suc c = omega arith in let b : suc n - 1 ≡ n = omega arith in (λ i. all_frozen v (a i) (b i)) ∙ ap (λ (t : Bool). t && all_frozen v (suc c) n) (sym e)

some_of : {X : Type 0} (o : Option X) → IsSome o → (x : X) × (o ≡ Some x)
some_of (Some x) h = (x, refl)
some_of None h = absurd (cc)

is_of : {X : Type 0} (o : Option X) (x : X) → o ≡ Some x → IsSome o
is_of o x e = ap is_some e

left_true : (a b : Bool) → a ≡ true → (a || b) ≡ true
left_true a b e = ap (λ t. t || b) e

right_true : (a b : Bool) → b ≡ true → (a || b) ≡ true
right_true true b e = refl
right_true false b e = e

either_true : (a b : Bool) → (a || b) ≡ true → (a ≡ true) ⊎ (b ≡ true)
either_true true b e = inl refl
either_true false b e = inr e

first_one : {X : Type 0} (a b : Option X) → is_some (first_some a b) ≡ (is_some a || is_some b)
first_one (Some x) b = refl
first_one None b = refl

rest_of : (b c : Bool) → b ≡ false → (b || c) ≡ true → c ≡ true
rest_of false c e h = h
rest_of true c e h = absurd (cc)

-- a key that gives something makes the first that does
first_at : {X : Type 0} (f : ℕ → Option X) (j : ℕ) (ks : List ℕ) → list_any (eq_by_cmp nat_cmp j) ks ≡ true → IsSome (f j) → IsSome (first_in f ks)
first_at f j [] h s = absurd (cc)
first_at f j (k ∷ ks) h s = dite (ℕ_discrete j k)
    (λ is. first_one (f k) (first_in f ks) ∙ left_true (is_some (f k)) (is_some (first_in f ks)) (subst (λ (q : ℕ). IsSome (f q)) is s))
    (λ ne. first_one (f k) (first_in f ks) ∙ right_true (is_some (f k)) (is_some (first_in f ks))
    (first_at f j ks (rest_of (eq_by_cmp nat_cmp j k) (list_any (eq_by_cmp nat_cmp j) ks) (unsigned_tied j k ∙ ne_eqb j k ne) h) s))

-- only a form that was seen tells anything
pub told_form : (v : View) (i j : ℕ) (o : Option Form) → IsTrue (tells v i j o) → (f : Form) × (o ≡ Some f)
told_form v i j (Some f) h = (f, refl)
told_form v i j None h = let e : false ≡ true = h in absurd (cc)

module _ (v : View) (i : ℕ) where
  abbrev thins : Option (List ℕ)
  thins = first_in (λ j. by_thin v i j (get v.forms j)) (keys v.forms)

  abbrev conses : Option (List ℕ)
  conses = first_in (λ j. by_cons v i j (get v.forms j)) (keys v.forms)

  abbrev flat : Option (List ℕ)
  flat = by_flat v i (get v.forms i) (get v.lengths i)

  abbrev pub Told : Type 0
  Told = (j : ℕ) × IsTrue (tells v i j (get v.forms j))

  pub by_thins : (us : List ℕ) → thins ≡ Some us → justified v i ≡ Some us
  unfolding justified
  by_thins us e = ap (λ (o : Option (List ℕ)). first_some o (first_some conses flat)) e

  pub by_conses : (us : List ℕ) → thins ≡ None → conses ≡ Some us → justified v i ≡ Some us
  unfolding justified
  by_conses us e f = (λ k. first_some (e k) (first_some (f k) flat))

  pub by_itself : thins ≡ None → conses ≡ None → justified v i ≡ flat
  unfolding justified
  by_itself e f = (λ k. first_some (e k) (first_some (f k) flat))

  pub justified_told : IsSome (justified v i) → Told ⊎ IsSome flat
  unfolding justified
  justified_told h = let t = some_of (first_some thins (first_some conses flat)) h in let us : List ℕ = t.0 in ⊎_elim
      (λ (a : thins ≡ Some us). let p = first_found (λ j. by_thin v i j (get v.forms j)) (keys v.forms) us a in inl
      (p.0, left_true (is_some (by_thin v i p.0 (get v.forms p.0))) (is_some (by_cons v i p.0 (get v.forms p.0))) (is_of _ us p.1)))
      (λ (b : first_some conses flat ≡ Some us). ⊎_elim
      (λ (a : conses ≡ Some us). let p = first_found (λ j. by_cons v i j (get v.forms j)) (keys v.forms) us a in inl
      (p.0, right_true (is_some (by_thin v i p.0 (get v.forms p.0))) (is_some (by_cons v i p.0 (get v.forms p.0))) (is_of _ us p.1)))
      (λ (a : flat ≡ Some us). inr (is_of flat us a)) (either_way conses flat us b))
      (either_way thins (first_some conses flat) us t.1)

  listed : (j : ℕ) → IsTrue (tells v i j (get v.forms j)) → list_any (eq_by_cmp nat_cmp j) (keys v.forms) ≡ true
  listed j h = let p = told_form v i j (get v.forms j) h in sym (contains_key-keys v.forms j) ∙ key_of v.forms j p.0 p.1

  pub told_justified : Told ⊎ IsSome flat → IsSome (justified v i)
  unfolding justified
  told_justified h = let split : is_some (first_some thins (first_some conses flat)) ≡
      (is_some thins || (is_some conses || is_some flat)) = first_one thins (first_some conses flat) ∙ ap (λ b. is_some thins || b) (first_one conses flat) in
      split ∙ ⊎_elim
      (λ (t : Told). ⊎_elim
      (λ a. left_true (is_some thins) (is_some conses || is_some flat) (first_at (λ j. by_thin v i j (get v.forms j)) t.0 (keys v.forms) (listed t.0 t.1) a))
      (λ b. right_true (is_some thins) (is_some conses || is_some flat)
      (left_true (is_some conses) (is_some flat) (first_at (λ j. by_cons v i j (get v.forms j)) t.0 (keys v.forms) (listed t.0 t.1) b)))
      (either_true (is_some (by_thin v i t.0 (get v.forms t.0))) (is_some (by_cons v i t.0 (get v.forms t.0))) t.1))
      (λ f. right_true (is_some thins) (is_some conses || is_some flat) (right_true (is_some conses) (is_some flat) f)) h

-- where a load changes no form, none but the forms of the view tell anything
pub none_told : (v : View) (l : Load) (i : ℕ) → ((k : ℕ) (x : Form) → Has v.forms k x → IsTrue
    (tells (loaded_by v l) i k (get (loaded_by v l).forms k)) → ⊥) → ((k : ℕ) (x : Form) → Has (loaded_by v l).forms k x → Has v.forms k x)
    → Told (loaded_by v l) i → ⊥
none_told v l i none same t = let p = told_form (loaded_by v l) i t.0 (get (loaded_by v l).forms t.0) t.1 in none t.0 p.0 (same t.0 p.0 p.1) t.1

pub one_told : (v : View) (l : Load) (i at : ℕ) → ((k : ℕ) (x : Form) → Has v.forms k x → IsTrue
    (tells (loaded_by v l) i k (get (loaded_by v l).forms k)) → ⊥) → ((k : ℕ) (x : Form) → k ≢ at → Has (loaded_by v l).forms k x → Has v.forms k x)
    → Told (loaded_by v l) i → IsTrue (tells (loaded_by v l) i at (get (loaded_by v l).forms at))
one_told v l i at none same t = dite (ℕ_discrete t.0 at) (λ is. subst (λ (q : ℕ). IsTrue (tells (loaded_by v l) i q (get (loaded_by v l).forms q))) is t.1)
    (λ ne. let p = told_form (loaded_by v l) i t.0 (get (loaded_by v l).forms t.0) t.1 in absurd (none t.0 p.0 (same t.0 p.0 ne p.1) t.1))

pub if_ok_same : {X E : Type 0} (r : Result X E) (x y : X) → x ≡ y → IfOk r (λ o. o ≡ x) → IfOk r (λ o. o ≡ y)
if_ok_same (Ok z) x y e h = h ∙ e
if_ok_same (Err q) x y e h = tt

-- one more name
pub learn_next : (f : ℕ → Option (List ℕ)) (m m' all : FinMap nat_cmp (List ℕ)) (names : List ℕ) (k i d : ℕ) → k < length names → learn_into
    f m (drop k names) ≡ all → m' ≡ learn_one m i (f i) → i ≡ get_or names k d → learn_into f m' (drop (k + 1) names) ≡ all
learn_next f m m' all names k i d l e is named = (λ j. learn_into f ((is ∙ ap (λ (q : ℕ). learn_one m q (f q)) named) j) (drop (k + 1) names)) ∙ (ap (learn_into f m) (sym (drop_more names k d l)) ∙ e)

pub learn_end : (f : ℕ → Option (List ℕ)) (m all : FinMap nat_cmp (List ℕ)) (names : List ℕ) (k : ℕ) → length names ≤ k → learn_into f m (drop k names) ≡ all → m ≡ all
learn_end f m all names k l e = ap (learn_into f m) (sym (drop_of_length-le names l)) ∙ e
