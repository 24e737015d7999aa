-- Joining keeps the rule: of two maps laid over one another each key has what one of them has, and v then has what both agents had.
use Rattle.std.proofs.Common.{◌≡◌, ◌≢◌, ℕ, zero, suc, ◌+◌, ◌<◌, ◌⊎◌, inl, inr, ⊎_elim, Bool, true, false, cond, List, [], ◌∷◌, append_assoc, set, sym, refl, ap}
use Rattle.std.proofs.Common.{◌∙◌, subst, arith, ne_eqb, Option, Some, None, IsTrue}
use Rattle.std.specs.Prelude.{◌||◌, Contains, is_some}
use Rattle.std.specs.List.{list_any}
use Rattle.std.proofs.lemmas.List.Elements.{Contains-append_left, Contains-append_right, Contains-append_cases}
use Rattle.std.proofs.lemmas.List.Sums.{sum_by-cons}
use Rattle.std.proofs.Math.Nat.{max-le}
use mathlib.Core.Logic.{dite}
use native.Mathlib.Decide.{ℕ_discrete}
use mathlib.Core.Option.{some-injective, some-ne-none}
use lib.ListN.{get_elem?}
use Rattle.std.specs.Ordering.{nat_cmp, eq_by_cmp}
use Rattle.std.specs.Cmp.{unsigned_tied}
use Rattle.std.specs.FinMap.{FinMap, get, insert, keys, contains_key-keys}
use Rattle.js_header.specs.declared.form.Form.{Form}
use Rattle.heap_rule.specs.declared.view.View.{View}
use Rattle.heap_rule.specs.declared.size.HeapSize.{HeapSize}
use Rattle.heap_rule.specs.Layout.{content, length_word, slot, IsBorn}
use Rattle.heap_rule.specs.Contents.{units_of}
use Rattle.heap_rule.specs.Maps.{Has, HasKey, put_if_some, laid_at, laid_over, upper_one}
use Rattle.heap_rule.specs.Forms.{is_later, later_form}
use Rattle.heap_rule.specs.Paths.{Calls}
use Rattle.heap_rule.specs.Views.{history}
use Rattle.heap_rule.specs.Agents.{joined_view, spent}
use Rattle.heap_rule.specs.Sound.{At, EachLive, IsFree, IsKept, OwnsIds, OwnsWords, AreApart, KnowsForm, Knows, Recalls, IsLow, IsMember, IsSound, of_live, total}
use Rattle.heap_rule.proofs.MapLemmas.{has_insert, insert_same, insert_other, has_key, key_of}
use Rattle.heap_rule.proofs.ListLemmas.{at_set, set_else, set_there, total_set, of_live_true}
use Rattle.heap_rule.proofs.Agreement.{Agrees}
use Rattle.heap_rule.proofs.Carried.{standing_then, knows_then, slots_then, different_then, recalls_then}

module _ {X : Type 0} (f : Option X → X → X) (P : ℕ → X → Type 0) (one_of : (k : ℕ) (o : Option X) (x : X) → ((y : X) → o ≡ Some y → P k y) → P k x → P k (f o x)) where
  put_has : (m : FinMap nat_cmp X) (k : ℕ) (o : Option X) → ((q : ℕ) (x : X) → Has m q x → P q x) → ((x : X) → o ≡ Some x → P k x) → (q : ℕ) (x : X) → Has (put_if_some f m k o) q x → P q x
  put_has m k None h g q x e = h q x e
  put_has m k (Some y) h g q x e = ⊎_elim
      (λ (t : (q ≡ k) × (f (get m k) y ≡ x)). subst (λ (p : ℕ × X). P p.0 p.1) (λ i. (sym t.0 i, t.1 i)) (one_of k (get m k) y (λ z is. h k z is) (g y refl)))
      (λ (t : (q ≢ k) × Has m q x). h q x t.1) (has_insert m k q (f (get m k) y) x e)

  laid_has_at : (upper : FinMap nat_cmp X) → ((q : ℕ) (x : X) → Has upper q x →
      P q x) → (ks : List ℕ) (m : FinMap nat_cmp X) → ((q : ℕ) (x : X) → Has m q x → P q x) → (q : ℕ) (x : X) → Has (laid_at f m upper ks) q x → P q x
  laid_has_at upper g [] m h q x e = h q x e
  laid_has_at upper g (k ∷ ks) m h q x e = laid_has_at upper g ks (put_if_some f m k (get upper k)) (put_has m k (get upper k) h (λ y is. g k y is)) q x e

  -- what holds of each key of both maps holds of each key of the one laid over the other
  pub laid_has : (m upper : FinMap nat_cmp X) → ((q : ℕ) (x : X) → Has m q x → P q x) → ((q : ℕ) (x : X) → Has upper q x → P q x) → (q : ℕ) (x : X) → Has (laid_over f m upper) q x → P q x
  laid_has m upper h g q x e = laid_has_at upper g (keys upper) m h q x e

or_rest : (b c : Bool) → b ≡ false → (b || c) ≡ true → c ≡ true
or_rest false c e h = h
or_rest true c e h = absurd (cc)

module _ {X : Type 0} (f : Option X → X → X) where
  put_keeps : (m : FinMap nat_cmp X) (k : ℕ) (o : Option X) (q : ℕ) → HasKey m q → HasKey (put_if_some f m k o) q
  put_keeps m k None q h = h
  put_keeps m k (Some x) q h = let y : X = f (get m k) x in dite (ℕ_discrete q k)
      (λ e. subst (HasKey (insert m k y)) (sym e) (key_of (insert m k y) k y (insert_same m k y)))
      (λ ne. let p = has_key m q h in key_of (insert m k y) q p.0 (insert_other m k q y ne ∙ p.1))

  put_takes : (m : FinMap nat_cmp X) (k : ℕ) (o : Option X) → IsTrue (is_some o) → HasKey (put_if_some f m k o) k
  put_takes m k (Some x) h = let y : X = f (get m k) x in key_of (insert m k y) k y (insert_same m k y)
  put_takes m k None h = let e : false ≡ true = h in absurd (cc)

  keeps_at : (upper : FinMap nat_cmp X) (ks : List ℕ) (m : FinMap nat_cmp X) (q : ℕ) → HasKey m q → HasKey (laid_at f m upper ks) q
  keeps_at upper [] m q h = h
  keeps_at upper (k ∷ ks) m q h = keeps_at upper ks (put_if_some f m k (get upper k)) q (put_keeps m k (get upper k) q h)

  takes_at : (upper : FinMap nat_cmp X) (q : ℕ) → HasKey upper q → (ks : List ℕ) (m : FinMap nat_cmp X) → list_any (eq_by_cmp nat_cmp q) ks ≡ true → HasKey (laid_at f m upper ks) q
  takes_at upper q h [] m e = absurd (cc)
  takes_at upper q h (k ∷ ks) m e = dite (ℕ_discrete q k)
      (λ is. keeps_at upper ks (put_if_some f m k (get upper k)) q (subst (HasKey (put_if_some f m k (get upper k))) (sym is) (put_takes m k (get upper k) (subst (HasKey upper) is h))))
      (λ ne. takes_at upper q h ks (put_if_some f m k (get upper k)) (or_rest (eq_by_cmp nat_cmp q k) (list_any (eq_by_cmp nat_cmp q) ks) (unsigned_tied q k ∙ ne_eqb q k ne) e))

  pub laid_keeps : (m upper : FinMap nat_cmp X) (q : ℕ) → HasKey m q → HasKey (laid_over f m upper) q
  laid_keeps m upper q h = keeps_at upper (keys upper) m q h

  pub laid_takes : (m upper : FinMap nat_cmp X) (q : ℕ) → HasKey upper q → HasKey (laid_over f m upper) q
  laid_takes m upper q h = takes_at upper q h (keys upper) m (sym (contains_key-keys upper q) ∙ h)

upper_of : {X : Type 0} (P : ℕ → X → Type 0) (k : ℕ) (o : Option X) (x : X) → ((y : X) → o ≡ Some y → P k y) → P k x → P k (upper_one o x)
upper_of P k o x h p = p

one_of_two : (P : Form → Type 0) (b : Bool) (f g : Form) → P f → P g → P (cond b g f)
one_of_two P true f g p q = q
one_of_two P false f g p q = p

later_of : (P : ℕ → Form → Type 0) (k : ℕ) (o : Option Form) (g : Form) → ((f : Form) → o ≡ Some f → P k f) → P k g → P k (later_form o g)
later_of P k None g h p = p
later_of P k (Some f) g h p = one_of_two (P k) (is_later f g) f g (h f refl) p

pub key_laid : {X : Type 0} (m upper : FinMap nat_cmp X) (q : ℕ) → HasKey (laid_over upper_one m upper) q → HasKey m q ⊎ HasKey upper q
key_laid m upper q h = let p = has_key (laid_over upper_one m upper) q h in
    laid_has upper_one (λ r _. HasKey m r ⊎ HasKey upper r) (upper_of _) m upper (λ r x e. inl (key_of m r x e)) (λ r x e. inr (key_of upper r x e)) q p.0 p.1

-- the sum where a live view is spent
pub total_gone : (f : View → ℕ) (vs : List View) (j : ℕ) (v : View) → At vs j v → v.live ≡ true → total f (set vs j spent) + f v ≡ total f vs
total_gone f [] j v e l = absurd (some-ne-none v (sym e))
total_gone f (x ∷ xs) zero v e l = let b : of_live f x ≡ f v = ap (of_live f) (some-injective x v e) ∙ of_live_true f v l in
    let c : total f (spent ∷ xs) ≡ 0 + total f xs = sum_by-cons (of_live f) spent xs in let d : total f (x ∷ xs) ≡ of_live f x + total f xs = sum_by-cons (of_live f) x xs in omega arith
total_gone f (x ∷ xs) (suc j) v e l = let h : total f (set xs j spent) + f v ≡ total f xs = total_gone f xs j v e l in
    let c : total f (x ∷ set xs j spent) ≡ of_live f x + total f (set xs j spent) = sum_by-cons (of_live f) x (set xs j spent) in
    let d : total f (x ∷ xs) ≡ of_live f x + total f xs = sum_by-cons (of_live f) x xs in omega arith

module _ (z : HeapSize) (agents : ℕ) (W : List ℕ) (vs : List View) (s : IsSound z agents W vs) (j o : ℕ)
    (v b : View) (ne : j ≢ o) (at : At vs j v) (live : v.live ≡ true) (at_other : At vs o b) (live_other : b.live ≡ true) where
  abbrev w : View
  w = joined_view v b

  abbrev one : List View
  one = set vs j w

  abbrev vs' : List View
  vs' = set one o spent

  -- each live view afterwards: the joined one, or one of the others
  each : (P : ℕ → View → Type 0) → P j w → ((k : ℕ) (u : View) → k ≢ j → k ≢ o → At vs k u → u.live ≡ true → P k u) → EachLive vs' P
  each P mine others k u e l = ⊎_elim
      (λ (t : (k ≡ o) × (spent ≡ u)). let dead : false ≡ true = ap (λ (x : View). x.live) t.1 ∙ l in absurd (cc))
      (λ (t : (k ≢ o) × At one k u). ⊎_elim
      (λ (r : (k ≡ j) × (w ≡ u)). subst (λ (x : ℕ × View). P x.0 x.1) (λ i. (sym r.0 i, r.1 i)) mine)
      (λ (r : (k ≢ j) × At vs k u). others k u r.0 t.0 r.1 l)
      (at_set vs j k w u t.1))
      (at_set one o k spent u e)

  free_still : (c : ℕ) → IsKept W vs c → IsFree vs' c
  free_still c k = each (λ _ u. HasKey u.own_words c → ⊥) (λ h. ⊎_elim (k.free j v at live) (k.free o b at_other live_other) (key_laid v.own_words b.own_words c h)) (λ q u nj no e l. k.free q u e l)

  pub agrees_joined : Agrees z W vs W vs'
  agrees_joined = record { ids = omega arith; words = omega arith; forms = λ i b'. inl refl; lengths = λ i b'. refl; contents = λ c k. refl; slots = λ k h. inl refl; free = free_still }

  apart : (own : View → FinMap nat_cmp ℕ) → ((q : ℕ) → HasKey (own w) q → HasKey (own v) q ⊎ HasKey (own b) q) → EachLive vs (λ k u. EachLive vs (λ l x. k ≢ l → AreApart (own u) (own x)))
      → EachLive vs' (λ k u. EachLive vs' (λ l x. k ≢ l → AreApart (own u) (own x)))
  apart own back old = each (λ k u. EachLive vs' (λ l x. k ≢ l → AreApart (own u) (own x)))
      (each (λ l x. j ≢ l → AreApart (own w) (own x)) (λ n. absurd (n refl))
      (λ l x nj no e m _ q h g. ⊎_elim (λ t. old j v at live l x e m (λ e'. nj (sym e')) q t g) (λ t. old o b at_other live_other l x e m (λ e'. no (sym e')) q t g) (back q h)))
      (λ k u nj no e m. each (λ l x. k ≢ l → AreApart (own u) (own x))
      (λ _ q g h. ⊎_elim (λ t. old k u e m j v at live nj q g t) (λ t. old k u e m o b at_other live_other no q g t) (back q h))
      (λ l x _ _ e' m' n. old k u e m l x e' m' n))

  known : Knows z W vs' w
  known = let k : Knows z W vs' v = knows_then z W vs s.standing W vs' agrees_joined v (s.knows j v at live) in
      let n : Knows z W vs' b = knows_then z W vs s.standing W vs' agrees_joined b (s.knows o b at_other live_other) in record {
        of_met = λ i h. let p = has_key w.met i h in laid_has upper_one (λ q _. IsBorn z W q) (upper_of _) v.met b.met
            (λ q x e. k.of_met q (key_of v.met q x e)) (λ q x e. n.of_met q (key_of b.met q x e)) i p.0 p.1;
        of_units = laid_has upper_one (λ i us. IsBorn z W i × (units_of z W i ≡ us)) (upper_of _) v.units b.units k.of_units n.of_units;
        of_forms = laid_has later_form (KnowsForm z W vs') (later_of (KnowsForm z W vs')) v.forms b.forms k.of_forms n.of_forms;
        of_lengths = laid_has upper_one (λ i x. IsBorn z W i × (length_word z W i ≡ x)) (upper_of _) v.lengths b.lengths k.of_lengths n.of_lengths;
        of_frozen = laid_has upper_one (λ c x. IsKept W vs' c × (content z W c ≡ x)) (upper_of _) v.frozen b.frozen k.of_frozen n.of_frozen;
        of_slots = laid_has upper_one (λ l i. (l < z.slots) × (slot z W l ≡ i + 1)) (upper_of _) v.slots b.slots k.of_slots n.of_slots;
      }

  -- a slot that one of the two saw
  seen_slot : (l i : ℕ) → slot z W l ≡ i + 1 → HasKey w.slots l → Has w.slots l i
  seen_slot l i e h = let p = has_key w.slots l h in let q = (known.of_slots l p.0 p.1).1 in let same : p.0 ≡ i = omega arith in p.1 ∙ ap Some same

  recalled_joined : Recalls z W vs' w
  recalled_joined u i c = ⊎_elim
      (λ (h : Contains (history v) (u, i)). let r = s.recalls j v at live u i h in let t = (s.knows j v at live).of_slots r.0.0 i r.0.1 in
      ((r.0.0, seen_slot r.0.0 i t.1 (laid_keeps upper_one v.slots b.slots r.0.0 (key_of v.slots r.0.0 i r.0.1))), r.1))
      (λ (h : Contains b.mine (u, i)). let r = s.recalls o b at_other live_other u i (Contains-append_right b.seen b.mine (u, i) h) in
      let t = (s.knows o b at_other live_other).of_slots r.0.0 i r.0.1 in
      ((r.0.0, seen_slot r.0.0 i t.1 (laid_takes upper_one v.slots b.slots r.0.0 (key_of b.slots r.0.0 i r.0.1))), r.1))
      (Contains-append_cases (history v) b.mine (u, i) (subst (λ (l : Calls). Contains l (u, i)) (sym (append_assoc v.seen v.mine b.mine)) c))

  here : At vs' j w
  here = set_else one o j spent ne ∙ set_there vs j w v at

  sums : (f : View → ℕ) → f w ≡ f v + f b → total f vs' ≡ total f vs
  sums f e = let a = total_gone f one o b (set_else vs j o w (λ h. ne (sym h)) ∙ at_other) live_other in let c = total_set f vs j v w at live live in omega (arith, a, c, e)

  pub keeps_joined : IsSound z agents W vs'
  keeps_joined = let st = s.standing in let a = agrees_joined in let d = s.added in let m = s.members j v at live in let lv = s.lows j v at live in let lb = s.lows o b at_other live_other in record {
    lawful = s.lawful;
    counted = s.counted;
    own_ids = each (λ _ u. OwnsIds z W u.own_ids) record {
      each = laid_has upper_one _ (upper_of _) v.own_ids b.own_ids
          (s.own_ids j v at live).each (s.own_ids o b at_other live_other).each;
    } (λ k u _ _ e l. s.own_ids k u e l);
    own_words = each (λ _ u. OwnsWords z W u.own_words) record {
      each = laid_has upper_one _ (upper_of _) v.own_words b.own_words
          (s.own_words j v at live).each (s.own_words o b at_other live_other).each;
    } (λ k u _ _ e l. s.own_words k u e l);
    ids_apart = apart (λ u. u.own_ids) (key_laid v.own_ids b.own_ids) s.ids_apart;
    words_apart = apart (λ u. u.own_words) (key_laid v.own_words b.own_words) s.words_apart;
    standing = λ i h. standing_then z W vs st W vs' a i h;
    knows = each (λ _ u. Knows z W vs' u) known (λ k u _ _ e l. knows_then z W vs st W vs' a u (s.knows k u e l));
    slots = slots_then z W vs st W vs' a s.slots (λ q i l f e. absurd (omega arith));
    different = different_then z W vs st W vs' a s.slots s.different (λ q i l t x y f e g h. absurd (omega arith)) (λ q i l t x y f e g h. absurd (omega arith));
    recalls = each (λ _ u. Recalls z W vs' u) recalled_joined (λ k u _ _ e l. recalls_then z W vs st W vs' a u (s.knows k u e l) s.slots (s.recalls k u e l));
    entered = λ q i l e. let t = s.entered q i l e in dite (ℕ_discrete t.0 j)
        (λ is. let same : v ≡ t.1 = some-injective v t.1 (sym at ∙ (ap (get_elem? vs) (sym is) ∙ t.3)) in
        (j, w, t.2, here, live, Contains-append_left v.mine b.mine (t.2, i) (subst (λ (x : View). Contains x.mine (t.2, i)) (sym same) t.5)))
        (λ nj. dite (ℕ_discrete t.0 o)
        (λ is. let same : b ≡ t.1 = some-injective b t.1 (sym at_other ∙ (ap (get_elem? vs) (sym is) ∙ t.3)) in
        (j, w, t.2, here, live, Contains-append_right v.mine b.mine (t.2, i) (subst (λ (x : View). Contains x.mine (t.2, i)) (sym same) t.5)))
        (λ no. (t.0, t.1, t.2, set_else one o t.0 spent no ∙ (set_else vs j t.0 w nj ∙ t.3), t.4, t.5)));
    added = record {
      ids = d.ids ∙ sym (sums (λ u. u.used.ids) refl);
      words = d.words ∙ sym (sums (λ u. u.used.words) refl);
      shares = sums (λ u. u.share) refl ∙ d.shares;
    };
    lows = each (λ _ u. IsLow W u.low) (max-le lv.0 lb.0, max-le lv.1 lb.1) (λ k u _ _ e l. s.lows k u e l);
    members = each (λ _ u. IsMember z agents u) (let p = m.0 in omega arith, m.1, m.2) (λ k u _ _ e l. s.members k u e l);
  }
