-- A load of a form word, with what is learned from it, keeps the rule.
use Rattle.std.proofs.Common.{◌≡◌, ◌≢◌, ℕ, inl, ⊎_elim, Bool, true, false, cond, List, [], ◌++◌, take, drop, set, sym, refl, ap, ◌∙◌, subst, arith, Option, Some}
use Rattle.std.specs.Prelude.{◌&&◌, nat_lt}
use Rattle.std.proofs.lemmas.Bool.{lt-ltb}
use Rattle.std.specs.FinMap.{FinMap, insert}
use Rattle.std.specs.Ordering.{nat_cmp}
use Rattle.js_header.specs.Form.{form_of}
use Rattle.js_header.specs.declared.form.Form.{Form}
use Rattle.js_header.specs.declared.form.Form.TheVariants.{Unborn, Flat, Cons, Sliced, Thin}
use Rattle.heap_rule.specs.declared.view.View.{View}
use Rattle.heap_rule.specs.declared.size.HeapSize.{HeapSize}
use Rattle.heap_rule.specs.Layout.{form, length_word, IsBorn}
use Rattle.heap_rule.specs.Contents.{blank, joins, shape, shape_by, solid, units_by, units_of, units_in}
use Rattle.heap_rule.specs.Maps.{Has, HasKey}
use Rattle.heap_rule.specs.Forms.{IsSolidForm}
use Rattle.heap_rule.specs.Views.{MayUse}
use Rattle.heap_rule.specs.Sound.{At, IsStanding, StandsAs, Shows, KnowsForm, Knows, IsSound}
use Rattle.heap_rule.specs.Learning.{learned}
use Rattle.heap_rule.specs.Loads.{met_ids, with_form, added_loads, loaded_form}
use Rattle.heap_rule.proofs.MapLemmas.{has_insert, has_key, key_insert}
use Rattle.heap_rule.proofs.UnitLemmas.{units_step}
use Rattle.heap_rule.proofs.Agreement.{Agrees, low, solid_units_by}
use Rattle.heap_rule.proofs.Carried.{standing_then}
use Rattle.heap_rule.proofs.Steps.{unmoved, same_words, knew, recalled}
use Rattle.heap_rule.proofs.Learning.{knows_learned}

pub if_both : (l r : List ℕ) (f : ℕ → List ℕ) (a b : ℕ) (p q : Bool) → p ≡ true → q ≡ true → units_by f (cond (p && q) (joins a b) blank) ≡ f a ++ f b
if_both l r f a b true true e h = refl
if_both l r f a b false q e h = absurd (cc)
if_both l r f a b true false e h = absurd (cc)

-- what is solid and unchanged agrees with itself
itself : (z : HeapSize) (W : List ℕ) (vs : List View) → Agrees z W vs W vs
itself z W vs = record { ids = omega arith; words = omega arith; forms = λ i b. inl refl; lengths = λ i b. refl; contents = λ c k. refl; slots = λ k h. inl refl; free = λ c k. k.free }

module _ (z : HeapSize) (W : List ℕ) (vs : List View) (stand : (i : ℕ) → IsBorn z W i → IsStanding z W vs i) where
  step_at : (i : ℕ) (f : Form) → form_of (form z W i) ≡ Some f → units_of z W i ≡ units_by (units_of z W) (shape_by z W i (Some f))
  unfolding shape
  step_at i f e = units_step (shape z W) (low z W) i ∙ ap (λ (o : Option Form). units_by (units_in (shape z W)) (shape_by z W i o)) e

  pub solid_is : (i : ℕ) → IsBorn z W i → IsSolidForm (form_of (form z W i)) → solid z W i ≡ units_of z W i
  solid_is i b h = let s = stand i b in solid_units_by z W vs stand W vs (itself z W vs) i s.now (subst IsSolidForm s.decodes h) s.decodes

  -- the form that stands shows the units
  pub stands_shows : (i : ℕ) (f : Form) → form_of (form z W i) ≡ Some f → StandsAs z W vs i f → Shows z W vs i f
  stands_shows i Unborn e s = s
  stands_shows i (Flat wide start fixed) e s = (step_at i (Flat wide start fixed) e, s.0, s.1, s.2, s.3)
  stands_shows i (Cons wide left right) e s = (
    s.2,
    s.3,
    step_at i (Cons wide left right) e ∙ if_both [] [] (units_of z W) left right
        (nat_lt left i) (nat_lt right i) (lt-ltb left i s.0) (lt-ltb right i s.1),
    s.0,
    s.1,
    s.4,
    s.5,
    s.6,
    s.7,
  )
  stands_shows i (Sliced wide parent offset) e s = (
    s.1,
    s.2,
    step_at i (Sliced wide parent offset) e ∙ ap
        (λ (us : List ℕ). take (length_word z W i) (drop offset us)) (solid_is parent s.1 s.2),
    s.3,
    s.0,
    s.4,
    s.5,
  )
  stands_shows i (Thin target) e s = (s.0, s.2, s.1)

  -- the ids that a standing form names are born
  names_born : (i : ℕ) (f : Form) → StandsAs z W vs i f → (m : FinMap nat_cmp (Unit {0})) → ((q : ℕ) → HasKey m q → IsBorn z W q) → (q : ℕ) → HasKey (met_ids m f) q → IsBorn z W q
  names_born i Unborn s m h q k = absurd s
  names_born i (Flat wide start fixed) s m h q k = h q k
  names_born i (Cons wide left right) s m h q k = ⊎_elim (λ e. subst (IsBorn z W) (sym e) s.3)
      (λ k'. ⊎_elim (λ e. subst (IsBorn z W) (sym e) s.2) (h q) (key_insert m left q tt k')) (key_insert (insert m left tt) right q tt k)
  names_born i (Sliced wide parent offset) s m h q k = ⊎_elim (λ e. subst (IsBorn z W) (sym e) s.1) (h q) (key_insert m parent q tt k)
  names_born i (Thin target) s m h q k = ⊎_elim (λ e. subst (IsBorn z W) (sym e) s.0) (h q) (key_insert m target q tt k)

  knows_loaded : (v : View) → Knows z W vs v → (i : ℕ) → IsBorn z W i → (f : Form) → form_of (form z W i) ≡ Some f → StandsAs z W vs i f → Knows z W vs (with_form v i (Some f))
  knows_loaded v k i b f e s = record {
    of_met = names_born i f s v.met k.of_met;
    of_units = k.of_units;
    of_forms = λ q g h. ⊎_elim (λ (t : (q ≡ i) × (f ≡ g)). subst (λ (y : ℕ × Form). KnowsForm z W vs y.0 y.1)
        (λ d. (sym t.0 d, t.1 d)) record { born = b; now = f; decodes = e; later = inl refl; shows = stands_shows i f e s })
        (λ (t : (q ≢ i) × Has v.forms q g). k.of_forms q g t.1) (has_insert v.forms i q f g h);
    of_lengths = k.of_lengths;
    of_frozen = k.of_frozen;
    of_slots = k.of_slots;
  }

module _ (z : HeapSize) (agents : ℕ) (W : List ℕ) (vs : List View) (s : IsSound z agents W vs) (j : ℕ) (v : View) (at : At vs j v) (live : v.live ≡ true) where
  pub known_born : (i : ℕ) → MayUse v i → IsBorn z W i
  known_born i h = let k = s.knows j v at live in ⊎_elim (λ g. let p = has_key v.units i g in (k.of_units i p.0 p.1).0) (k.of_met i) h

  pub keeps_loaded_form : (i : ℕ) → MayUse v i → (names : List ℕ) → IsSound z agents W (set vs j (learned (loaded_form v i (form z W i)) names))
  keeps_loaded_form i known names = let b = known_born i known in let st = s.standing i b in let f : Form = st.now in
      let w : View = learned (record (with_form v i (Some f)) { form_loads = added_loads v.form_loads 1 }) names in
      let vs' : List View = set vs j w in
      let agrees : Agrees z W vs W vs' = same_words z agents W vs s j v at live w refl in
      let stand' : (q : ℕ) → IsBorn z W q → IsStanding z W vs' q = standing_then z W vs s.standing W vs' agrees in
      let now = stand' i b in
      let same : now.now ≡ f = (let d : Some now.now ≡ Some f = sym now.decodes ∙ st.decodes in cc) in
      let k = knows_loaded z W vs' stand' v (knew z agents W vs s j v at live W w agrees) i b f st.decodes (subst (StandsAs z W vs' i) same now.stands) in
      subst (λ (o : Option Form). IsSound z agents W (set vs j (learned (record (with_form v i o) { form_loads = added_loads v.form_loads 1 }) names))) (sym st.decodes)
      (unmoved z agents W vs s j v at live w live refl refl refl refl refl refl
      (knows_learned z W vs' stand' (record (with_form v i (Some f)) { form_loads = added_loads v.form_loads 1 }) k names)
      (recalled z agents W vs s j v at live W w agrees) (λ u q h. h) (s.lows j v at live))

  -- what is found decodes
  pub form_found : (i : ℕ) → MayUse v i → (f : Form) × (form_of (form z W i) ≡ Some f)
  form_found i known = let st = s.standing i (known_born i known) in (st.now, st.decodes)
