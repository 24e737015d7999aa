-- What an agent knew stays known over a step.
use Rattle.std.proofs.Common.{◌≡◌, ◌≢◌, ℕ, zero, suc, ◌+◌, ◌<◌, ◌⊎◌, inl, inr, ⊎_elim, Bool, true, false, cond, List, [], ◌∷◌, length, set, sym, refl, ap, ◌∙◌}
use Rattle.std.proofs.Common.{subst, arith, eqb, eq-eqb, Option, Some, None}
use Rattle.std.specs.Prelude.{unwrap_or}
use mathlib.Core.Logic.{dite}
use native.Mathlib.Decide.{ℕ_discrete}
use Rattle.std.specs.FinMap.{FinMap, get, insert, remove, contains_key, entries}
use Rattle.std.specs.Ordering.{nat_cmp}
use Rattle.js_header.specs.Form.{form_of, word_of}
use Rattle.js_header.specs.declared.form.Form.{Form}
use Rattle.js_header.specs.declared.form.Form.TheVariants.{Unborn, Flat, Cons, Sliced, Thin}
use Rattle.js_header.proofs.RoundTrip.{word_of-form_of}
use Rattle.heap_rule.specs.declared.view.View.{View}
use Rattle.heap_rule.specs.declared.size.HeapSize.{HeapSize}
use Rattle.js_units.specs.Lanes.{words_over}
use Rattle.heap_rule.specs.Layout.{form, length_word, content, slot, IsBorn}
use Rattle.heap_rule.specs.Contents.{units_of}
use Rattle.heap_rule.specs.Maps.{Has, HasKey, put_some, with_run_of}
use Rattle.heap_rule.specs.Forms.{IsCons, IsLater}
use Rattle.heap_rule.specs.Learning.{justified, learn_one, learn_into, learned_all, all_named}
use Rattle.heap_rule.specs.Loads.{met_ids, with_form, added_loads, loaded_form, loaded_length, loaded_word}
use Rattle.heap_rule.specs.Births.{born, freeze, units_for}
use Rattle.heap_rule.specs.HeaderMoves.{CanThin, MayFlatten, MayThin, flattened, seen_form, thinned}
use Rattle.heap_rule.specs.Views.{IsSeenSettled}
use Rattle.heap_rule.specs.Slots.{with_slot, loaded_slot, took_slot}
use Rattle.heap_rule.specs.Sound.{At, IsSound, StandsAs}
use Rattle.heap_rule.proofs.MapLemmas.{insert_same, insert_other, has_key, key_of}
use Rattle.heap_rule.proofs.ListLemmas.{set_there}
use Rattle.heap_rule.proofs.Seen.{slot_kept}
use Rattle.heap_table.specs.Known.{KeepsKnown}
use Rattle.heap_table.proofs.Fitting.{false_true, not_before}

module _ {X : Type 0} where
  -- an insertion takes no key away
  key_stays : (m : FinMap nat_cmp X) (k q : ℕ) (x : X) → HasKey m q → HasKey (insert m k x) q
  key_stays m k q x h = dite (ℕ_discrete q k)
      (λ e. key_of (insert m k x) q x (ap (get (insert m k x)) e ∙ insert_same m k x))
      (λ ne. let p = has_key m q h in key_of (insert m k x) q p.0 (insert_other m k q x ne ∙ p.1))

  -- what is put over a map from another one leaves a key that the other has not
  put_stays : (own m : FinMap nat_cmp X) (k q : ℕ) (x : X) (o : Option X) → get own k ≡ o → (HasKey own q → ⊥) → Has m q x → Has (put_some m k o) q x
  put_stays own m k q x None e none h = h
  put_stays own m k q x (Some y) e none h = insert_other m k q y (λ (s : q ≡ k). none (key_of own q y (ap (get own) s ∙ e))) ∙ h

  run_stays : (own m : FinMap nat_cmp X) (k n q : ℕ) (x : X) → (HasKey own q → ⊥) → Has m q x → Has (with_run_of own m k n) q x
  run_stays own m k zero q x none h = h
  run_stays own m k (suc n) q x none h = run_stays own (put_some m k (get own k)) (suc k) n q x none (put_stays own m k q x (get own k) refl none h)

-- a form that is seen takes no met id away
met_stays : (m : FinMap nat_cmp (Unit {0})) (f : Form) (q : ℕ) → HasKey m q → HasKey (met_ids m f) q
met_stays m Unborn q h = h
met_stays m (Flat wide start fixed) q h = h
met_stays m (Cons wide left right) q h = key_stays (insert m left tt) right q tt (key_stays m left q tt h)
met_stays m (Sliced wide parent offset) q h = key_stays m parent q tt h
met_stays m (Thin target) q h = key_stays m target q tt h

-- learning takes no pair away
key_learned : (f : ℕ → Option (List ℕ)) (m : FinMap nat_cmp (List ℕ)) (i : ℕ) (o : Option (List ℕ)) (q : ℕ) → HasKey m q → HasKey (learn_one m i o) q
key_learned f m i None q h = h
key_learned f m i (Some us) q h = key_stays m i q us h

keys_learned : (f : ℕ → Option (List ℕ)) (names : List ℕ) (m : FinMap nat_cmp (List ℕ)) (q : ℕ) → HasKey m q → HasKey (learn_into f m names) q
keys_learned f [] m q h = h
keys_learned f (i ∷ names) m q h = keys_learned f names (learn_one m i (f i)) q (key_learned f m i (f i) q h)

-- no form is followed by a Cons
pub no_cons_later : (f now : Form) → IsLater f now → IsCons now → ⊥
no_cons_later f (Cons wide left right) l c = false_true (sym (not_before f wide left right) ∙ l)
no_cons_later f Unborn l c = c
no_cons_later f (Flat wide start fixed) l c = c
no_cons_later f (Sliced wide parent offset) l c = c
no_cons_later f (Thin target) l c = c

still_settled : (f now : Form) → (f ≡ now) ⊎ IsLater f now → (IsCons f → ⊥) → IsCons now → ⊥
still_settled f now way n c = ⊎_elim (λ (e : f ≡ now). n (subst IsCons (sym e) c)) (λ (l : IsLater f now). no_cons_later f now l c) way

-- a fixed Flat and a Thin stay
fixed_stands : (wide : Bool) (start : ℕ) (now : Form) → (Flat wide start true ≡ now) ⊎ IsLater (Flat wide start true) now → now ≡ Flat wide start true
fixed_stands wide start now way = ⊎_elim (λ (e : Flat wide start true ≡ now). sym e) (λ (l : IsLater (Flat wide start true) now). absurd (false_true l)) way

thin_stands : (t : ℕ) (now : Form) → (Thin t ≡ now) ⊎ IsLater (Thin t) now → now ≡ Thin t
thin_stands t now way = ⊎_elim (λ (e : Thin t ≡ now). sym e) (λ (l : IsLater (Thin t) now). absurd (false_true l)) way

-- only a Thin comes after a form that may be thinned, and such a form is no fixed Flat and no Thin
later_thin : (old now : Form) → CanThin old → IsLater old now → (t : ℕ) × (now ≡ Thin t)
later_thin (Flat w a false) (Thin t) h g = (t, refl)
later_thin (Sliced w a o) (Thin t) h g = (t, refl)
later_thin (Flat w a false) Unborn h g = absurd (false_true g)
later_thin (Flat w a false) (Flat x b c) h g = absurd (false_true g)
later_thin (Flat w a false) (Cons x b c) h g = absurd (false_true g)
later_thin (Flat w a false) (Sliced x b c) h g = absurd (false_true g)
later_thin (Sliced w a o) Unborn h g = absurd (false_true g)
later_thin (Sliced w a o) (Flat x b c) h g = absurd (false_true g)
later_thin (Sliced w a o) (Cons x b c) h g = absurd (false_true g)
later_thin (Sliced w a o) (Sliced x b c) h g = absurd (false_true g)
later_thin Unborn now h g = absurd h
later_thin (Flat w a true) now h g = absurd h
later_thin (Cons w a b) now h g = absurd h
later_thin (Thin t) now h g = absurd h

can_fixed : (old : Form) → CanThin old → (wide : Bool) (start : ℕ) → old ≡ Flat wide start true → ⊥
can_fixed old can wide start e = subst CanThin e can

can_thin : (old : Form) → CanThin old → (t : ℕ) → old ≡ Thin t → ⊥
can_thin old can t e = subst CanThin e can

module _ (z : HeapSize) (agents : ℕ) (W : List ℕ) (vs : List View) (s : IsSound z agents W vs) (j : ℕ) (v : View) (at : At vs j v) (live : v.live ≡ true) where
  -- a step keeps the units of born ids
  abbrev KeepsUnits : List ℕ → Type 0
  KeepsUnits W' = (q : ℕ) → IsBorn z W q → units_of z W' q ≡ units_of z W q

  -- so two sound views, before and after it, agree on an id's units
  units_over : (W' : List ℕ) → KeepsUnits W' → (w : View) → w.live ≡ true → IsSound z agents W'
      (set vs j w) → ((q : ℕ) → HasKey v.units q → HasKey w.units q) → (i : ℕ) (us : List ℕ) → Has v.units i us → Has w.units i us
  units_over W' same w l kept keys i us h = let p = has_key w.units i (keys i (key_of v.units i us h)) in let a = (s.knows j v at live).of_units i us h in
      let b = ((kept.knows j w (set_there vs j w v at) l).of_units i p.0 p.1).1 in p.1 ∙ ap Some (sym b ∙ (same i a.0 ∙ a.1))

  units_stay : (w : View) → w.live ≡ true → IsSound z agents W (set vs j w) → ((q : ℕ) → HasKey v.units q → HasKey w.units q) → (i : ℕ) (us : List ℕ) → Has v.units i us → Has w.units i us
  units_stay = units_over W (λ q b. refl)

  with_learned : (m : FinMap nat_cmp (List ℕ)) (f : ℕ → Option (List ℕ)) (names : List ℕ) → m ≡ v.units → (q : ℕ) → HasKey v.units q → HasKey (learn_into f m names) q
  with_learned m f names e q h = keys_learned f names m q (subst (λ (y : FinMap nat_cmp (List ℕ)). HasKey y q) (sym e) h)

  -- what was known stays known where a load of the word x, which spells the form f, learns
  known_form_by : (i : ℕ) (o : Option Form) (f : Form) (n : ℕ) → o ≡ Some f → form_of (form z W i) ≡ Some f
      → IsSound z agents W (set vs j (learned_all (record (with_form v i o) { form_loads = n }))) → KeepsKnown v (learned_all (record (with_form v i o) { form_loads = n }))
  known_form_by i None f n spelt found kept = absurd (cc)
  known_form_by i (Some g) f n spelt found kept = let w : View = record (with_form v i (Some g)) { form_loads = n } in let is : g ≡ f = cc in
      let there : (q : ℕ) → q ≡ i → get (insert v.forms i g) q ≡ Some g = (λ q e. ap (get (insert v.forms i g)) e ∙ insert_same v.forms i g) in
      let way : (q : ℕ) (x : Form) → Has v.forms q x → q ≡ i → (x ≡ g) ⊎ IsLater x g = (λ q x h e. let k = (s.knows j v at live).of_forms q x h in
      let now : k.now ≡ g = (let d : Some k.now ≡ Some f = sym k.decodes ∙ (ap (λ (y : ℕ). form_of (form z W y)) e ∙ found) in cc) in subst
      (λ (y : Form). (x ≡ y) ⊎ IsLater x y) now k.later) in record {
        units = units_stay (learned_all w) live kept (with_learned v.units (justified w) (all_named (entries w.forms)) refl);
        lengths = λ q m h. h;
        flats = λ q wide start h. dite (ℕ_discrete q i)
            (λ (e : q ≡ i). there q e ∙ ap Some (fixed_stands wide start g (way q (Flat wide start true) h e)))
            (λ ne. insert_other v.forms i q g ne ∙ h);
        thins = λ q t h. dite (ℕ_discrete q i)
            (λ (e : q ≡ i). there q e ∙ ap Some (thin_stands t g (way q (Thin t) h e)))
            (λ ne. insert_other v.forms i q g ne ∙ h);
        settled = λ q h. dite (ℕ_discrete q i)
            (λ (e : q ≡ i). (g, there q e, still_settled h.0 g (way q h.0 h.1 e) h.2))
            (λ ne. (h.0, insert_other v.forms i q g ne ∙ h.1, h.2));
        frozen = λ c x h. h;
        known = λ q h. ⊎_elim (λ (t : HasKey v.units q). inl (with_learned v.units (justified w) (all_named (entries w.forms)) refl q t)) (λ (t : HasKey v.met q). inr (met_stays v.met g q t)) h;
        slots = λ k q h. h;
      }

  pub known_form : (i x : ℕ) (f : Form) → form_of x ≡ Some f → form_of (form z W i) ≡ Some f → IsSound z agents W
      (set vs j (learned_all (loaded_form v i x))) → KeepsKnown v (learned_all (loaded_form v i x))
  known_form i x f spelt found kept = known_form_by i (form_of x) f (added_loads v.form_loads 1) spelt found kept

  pub known_length : (i x : ℕ) → length_word z W i ≡ x → IsSound z agents W (set vs j (learned_all (loaded_length v i x))) → KeepsKnown v (learned_all (loaded_length v i x))
  known_length i x is kept = let w : View = loaded_length v i x in record {
    units = units_stay (learned_all w) live kept (with_learned v.units (justified w) (all_named (entries w.forms)) refl);
    lengths = λ q n h. dite (ℕ_discrete q i)
        (λ (e : q ≡ i). let n_is : n ≡ x = sym ((s.knows j v at live).of_lengths q n h).1 ∙ (ap (length_word z W) e ∙ is) in ap
        (get (insert v.lengths i x)) e ∙ (insert_same v.lengths i x ∙ ap Some (sym n_is)))
        (λ ne. insert_other v.lengths i q x ne ∙ h);
    flats = λ q wide start h. h;
    thins = λ q t h. h;
    settled = λ q h. h;
    frozen = λ c y h. h;
    known = λ q h. ⊎_elim (λ (t : HasKey v.units q). inl (with_learned v.units (justified w) (all_named (entries w.forms)) refl q t)) (λ (t : HasKey v.met q). inr t) h;
    slots = λ k q h. h;
  }

  known_word_by : (b : Bool) (c x : ℕ) → content z W c ≡ x → IsSound z agents W
      (set vs j (learned_all (cond b v (record v { frozen = insert v.frozen c x })))) → KeepsKnown v
      (learned_all (cond b v (record v { frozen = insert v.frozen c x })))
  known_word_by true c x is kept = record {
    units = units_stay (learned_all v) live kept (with_learned v.units (justified v) (all_named (entries v.forms)) refl);
    lengths = λ q n h. h;
    flats = λ q wide start h. h;
    thins = λ q t h. h;
    settled = λ q h. h;
    frozen = λ q y h. h;
    known = λ q h. ⊎_elim (λ (t : HasKey v.units q). inl (with_learned v.units (justified v) (all_named (entries v.forms)) refl q t)) (λ (t : HasKey v.met q). inr t) h;
    slots = λ k q h. h;
  }
  known_word_by false c x is kept = let w : View = record v { frozen = insert v.frozen c x } in record {
    units = units_stay (learned_all w) live kept (with_learned v.units (justified w) (all_named (entries w.forms)) refl);
    lengths = λ q n h. h;
    flats = λ q wide start h. h;
    thins = λ q t h. h;
    settled = λ q h. h;
    frozen = λ q y h. dite (ℕ_discrete q c)
        (λ (e : q ≡ c). let y_is : y ≡ x = sym ((s.knows j v at live).of_frozen q y h).1 ∙ (ap (content z W) e ∙ is) in ap
        (get (insert v.frozen c x)) e ∙ (insert_same v.frozen c x ∙ ap Some (sym y_is)))
        (λ ne. insert_other v.frozen c q x ne ∙ h);
    known = λ q h. ⊎_elim (λ (t : HasKey v.units q). inl (with_learned v.units (justified w) (all_named (entries w.forms)) refl q t)) (λ (t : HasKey v.met q). inr t) h;
    slots = λ k q h. h;
  }

  pub known_word : (c x : ℕ) → content z W c ≡ x → IsSound z agents W (set vs j (learned_all (loaded_word v c x))) → KeepsKnown v (learned_all (loaded_word v c x))
  known_word c x is kept = known_word_by (contains_key v.own_words c) c x is kept

  -- an id that is born was no known one
  known_born : (i n : ℕ) (f : Form) (w : View) → HasKey v.own_ids i → w.met ≡ v.met → w.slots ≡ v.slots → ((c x : ℕ) → Has v.frozen c x → Has w.frozen c x)
      → KeepsKnown v (record w { own_ids = remove v.own_ids i; units = insert v.units i (units_for v n f); forms = insert v.forms i f; lengths = insert v.lengths i n })
  known_born i n f w own met slots frozen = let p = has_key v.own_ids i own in let k = s.knows j v at live in
      let unborn : IsBorn z W i → ⊥ = (λ b. b.1 ((s.own_ids j v at live).each i p.0 p.1).1) in
      let other : (q : ℕ) → IsBorn z W q → q ≢ i = (λ q b e. unborn (subst (IsBorn z W) e b)) in record {
        units = λ q us h. insert_other v.units i q (units_for v n f) (other q (k.of_units q us h).0) ∙ h;
        lengths = λ q m h. insert_other v.lengths i q n (other q (k.of_lengths q m h).0) ∙ h;
        flats = λ q b t h. insert_other v.forms i q f (other q (k.of_forms q (Flat b t true) h).born) ∙ h;
        thins = λ q t h. insert_other v.forms i q f (other q (k.of_forms q (Thin t) h).born) ∙ h;
        settled = λ q h. (h.0, insert_other v.forms i q f (other q (k.of_forms q h.0 h.1).born) ∙ h.1, h.2);
        frozen = frozen;
        known = λ q h. ⊎_elim (λ (t : HasKey v.units q). inl (key_stays v.units i q (units_for v n f) t))
            (λ (t : HasKey v.met q). inr (subst (λ (m : FinMap nat_cmp (Unit {0})). HasKey m q) (sym met) t)) h;
        slots = λ c q h. subst (λ (m : FinMap nat_cmp ℕ). Has m c q) (sym slots) h;
      }

  -- words that become frozen were own ones, and no frozen ones
  frozen_stay : (start n c x : ℕ) → Has v.frozen c x → Has (with_run_of v.own_words v.frozen start n) c x
  frozen_stay start n c x h = run_stays v.own_words v.frozen start n c x (((s.knows j v at live).of_frozen c x h).0.free j v at live) h

  pub known_birth : (i : ℕ) (f : Form) → HasKey v.own_ids i → KeepsKnown v (born v i f)
  known_birth i (Flat wide start fixed) own =
      let n : ℕ = unwrap_or (get v.own_ids i) 0 in known_born i n (Flat wide start fixed) (freeze v start (words_over wide n)) own refl refl
      (frozen_stay start (words_over wide n))
  known_birth i (Cons wide left right) own = known_born i (unwrap_or (get v.own_ids i) 0) (Cons wide left right) v own refl refl (λ c x h. h)
  known_birth i (Sliced wide parent offset) own = known_born i (unwrap_or (get v.own_ids i) 0) (Sliced wide parent offset) v own refl refl (λ c x h. h)
  known_birth i (Thin target) own = known_born i (unwrap_or (get v.own_ids i) 0) (Thin target) v own refl refl (λ c x h. h)
  known_birth i Unborn own = known_born i (unwrap_or (get v.own_ids i) 0) Unborn v own refl refl (λ c x h. h)

  -- a step on a slot changes what the view has of slots and of met ids, and what it learns
  known_with : (W' : List ℕ) → KeepsUnits W' → (w : View) → w.live ≡ true → w.units ≡ v.units → w.lengths ≡ v.lengths → w.forms ≡ v.forms →
      w.frozen ≡ v.frozen → ((q : ℕ) → HasKey v.met q → HasKey w.met q)
      → ((k q : ℕ) → Has v.slots k q → Has w.slots k q) → IsSound z agents W' (set vs j (learned_all w)) → KeepsKnown v (learned_all w)
  known_with W' same w l units lengths forms frozen met slots kept = let keys = with_learned w.units (justified w) (all_named (entries w.forms)) units in record {
    units = units_over W' same (learned_all w) l kept keys;
    lengths = λ q n h. subst (λ (m : FinMap nat_cmp ℕ). Has m q n) (sym lengths) h;
    flats = λ q wide start h. subst (λ (m : FinMap nat_cmp Form). Has m q (Flat wide start true)) (sym forms) h;
    thins = λ q t h. subst (λ (m : FinMap nat_cmp Form). Has m q (Thin t)) (sym forms) h;
    settled = λ q h. (h.0, subst (λ (m : FinMap nat_cmp Form). Has m q h.0) (sym forms) h.1, h.2);
    frozen = λ c x h. subst (λ (m : FinMap nat_cmp ℕ). Has m c x) (sym frozen) h;
    known = λ q h. ⊎_elim (λ (t : HasKey v.units q). inl (keys q t)) (λ (t : HasKey v.met q). inr (met q t)) h;
    slots = slots;
  }

  pub known_slot : (k : ℕ) → k < z.slots → (entry : Option (List ℕ)) (x : ℕ) → slot z W k ≡ x → IsSound z agents W
      (set vs j (learned_all (loaded_slot v k entry x))) → KeepsKnown v (learned_all (loaded_slot v k entry x))
  known_slot k inside entry zero e kept = known_with W (λ q b. refl) (loaded_slot v k entry zero) live refl refl refl refl (λ q h. h) (λ l q h. h) kept
  known_slot k inside entry (suc i) e kept = known_with W (λ q b. refl) (loaded_slot v k entry (suc i)) live refl refl refl refl
      (λ q h. key_stays v.met i q tt h) (slot_kept z agents W vs s j v at live k inside (suc i) e) kept

  pub known_took : (W' : List ℕ) → KeepsUnits W' → (k i : ℕ) → k < z.slots → (x : ℕ) → slot z W k ≡ x → IsSound z agents W'
      (set vs j (learned_all (took_slot v k i x))) → KeepsKnown v (learned_all (took_slot v k i x))
  known_took W' same k i inside zero e kept = known_with W' same (took_slot v k i zero) live refl refl refl refl (λ q h. h)
      (λ l q h. insert_other v.slots k l i (λ (t : l ≡ k). let o : slot z W k ≡ q + 1 = ap (slot z W) (sym t) ∙ ((s.knows j v at live).of_slots l q h).1 in omega arith) ∙ h) kept
  known_took W' same k i inside (suc x) e kept = known_with W' same (with_slot v k (suc x)) live refl refl refl refl
      (λ q h. key_stays v.met x q tt h) (slot_kept z agents W vs s j v at live k inside (suc x) e) kept

  -- where a form was seen that may still change, another stands, which is no Cons if that one was none
  module _ (W' : List ℕ) (same : KeepsUnits W') (i : ℕ) (old : Form) (seen : Has v.forms i old) (moves : (wide : Bool) (start : ℕ) → old ≡
      Flat wide start true → ⊥) (thinner : (t : ℕ) → old ≡ Thin t → ⊥) where
    other_form : (g : Form) (q : ℕ) (f : Form) → (old ≡ f → ⊥) → Has v.forms q f → Has (insert v.forms i g) q f
    other_form g q f n h = dite (ℕ_discrete q i)
        (λ (e : q ≡ i). let alike : Some f ≡ Some old = sym h ∙ (ap (get v.forms) e ∙ seen) in let is : old ≡ f = cc in absurd (n is))
        (λ ne. insert_other v.forms i q g ne ∙ h)

    pub known_moved : (g : Form) → ((IsCons old → ⊥) → IsCons g → ⊥) → (w : View) → w.live ≡ true → w.units ≡ v.units → w.lengths ≡
        v.lengths → w.forms ≡ insert v.forms i g → w.met ≡ v.met → w.slots ≡ v.slots
        → ((c x : ℕ) → Has v.frozen c x → Has w.frozen c x) → IsSound z agents W' (set vs j (learned_all w)) → KeepsKnown v (learned_all w)
    known_moved g settles w l units lengths forms met slots frozen kept = let keys = with_learned w.units (justified w) (all_named (entries w.forms)) units in
        let stays : (q : ℕ) (f : Form) → (old ≡ f → ⊥) → Has v.forms q f → Has w.forms q f = (λ q f n h. subst (λ (m : FinMap nat_cmp Form). Has m q f) (sym forms) (other_form g q f n h)) in record {
          units = units_over W' same (learned_all w) l kept keys;
          lengths = λ q n h. subst (λ (m : FinMap nat_cmp ℕ). Has m q n) (sym lengths) h;
          flats = λ q wide start h. stays q (Flat wide start true) (moves wide start) h;
          thins = λ q t h. stays q (Thin t) (thinner t) h;
          settled = λ q h. dite (ℕ_discrete q i)
              (λ (e : q ≡ i). let alike : Some h.0 ≡ Some old = sym h.1 ∙ (ap (get v.forms) e ∙ seen) in let is : old ≡ h.0 = cc in
              (g, subst (λ (m : FinMap nat_cmp Form). Has m q g) (sym forms) (ap (get (insert v.forms i g)) e ∙ insert_same v.forms i g), settles (λ c. h.2 (subst IsCons is c))))
              (λ ne. (h.0, subst (λ (m : FinMap nat_cmp Form). Has m q h.0) (sym forms) (insert_other v.forms i q g ne ∙ h.1), h.2));
          frozen = frozen;
          known = λ q h. ⊎_elim (λ (t : HasKey v.units q). inl (keys q t)) (λ (t : HasKey v.met q). inr (subst (λ (m : FinMap nat_cmp (Unit {0})). HasKey m q) (sym met) t)) h;
          slots = λ k q h. subst (λ (m : FinMap nat_cmp ℕ). Has m k q) (sym slots) h;
        }

    -- what is found in place of that form is a later one
    found_later : form z W i ≢ word_of old → (now : Form) → form_of (form z W i) ≡ Some now → IsLater old now
    found_later ne now e = let k = (s.knows j v at live).of_forms i old seen in let d : Some k.now ≡ Some now = sym k.decodes ∙ e in let is : k.now ≡ now = cc in
        subst (IsLater old) is (⊎_elim (λ (p : old ≡ k.now). absurd (ne (sym (ap word_of p ∙ word_of-form_of (form z W i) k.now k.decodes)))) (λ (l : IsLater old k.now). l) k.later)

    -- so where a compare-exchange is lost, the form found is a later one that stands
    abbrev IsFound : View → Type 0
    IsFound w = KeepsKnown v w × ((now : Form) × Has w.forms i now × IsLater old now × (form_of (form z W i) ≡ Some now))

    pub known_lost : (o : Option Form) → o ≡ form_of (form z W i) → form z W i ≢ word_of old → IsSound z agents W' (set vs j (learned_all (seen_form v i o))) → IsFound (learned_all (seen_form v i o))
    known_lost None e ne kept = let k = (s.knows j v at live).of_forms i old seen in absurd (let d : None ≡ Some k.now = e ∙ k.decodes in cc)
    known_lost (Some g) e ne kept = let w : View = seen_form v i (Some g) in let l = found_later ne g (sym e) in
        (known_moved g (λ n c. no_cons_later old g l c) w live refl refl refl refl refl (λ c x h. h) kept, (g, insert_same v.forms i g, l, sym e))

  no_fixed : (old : Form) → IsCons old → (wide : Bool) (start : ℕ) → old ≡ Flat wide start true → ⊥
  no_fixed old cons wide start e = subst IsCons e cons

  no_thin : (old : Form) → IsCons old → (t : ℕ) → old ≡ Thin t → ⊥
  no_thin old cons t e = subst IsCons e cons

  -- flattening; b says whether the Cons was found
  known_flat : (W' : List ℕ) → KeepsUnits W' → (i : ℕ) (old : Form) → Has v.forms i old → IsCons old → (wide : Bool) (start n : ℕ) (b : Bool) → (b ≡ false → form z W i ≢ word_of old)
      → let w : View = cond b (record (freeze v start n) { forms = insert v.forms i (Flat wide start false) }) (seen_form v i (form_of (form z W i))) in
      IsSound z agents W' (set vs j (learned_all w)) → KeepsKnown v (learned_all w) × IsSeenSettled (learned_all w) i
  known_flat W' same i old seen cons wide start n true ne kept = let f : Form = Flat wide start false in (
    known_moved W' same i old seen (no_fixed old cons) (no_thin old cons) f (λ a c. c)
        (record (freeze v start n) { forms = insert v.forms i f }) live refl refl refl refl refl (frozen_stay start n) kept,
    (f, insert_same v.forms i f, λ c. c),
  )
  known_flat W' same i old seen cons wide start n false ne kept = let t = known_lost W' same i old seen (no_fixed old cons) (no_thin old cons) (form_of (form z W i)) refl (ne refl) kept in
      (t.0, (t.1.0, t.1.1, λ c. no_cons_later old t.1.0 t.1.2 c))

  pub known_flattened : (W' : List ℕ) → KeepsUnits W' → (i : ℕ) (old new : Form) → MayFlatten v i old new → (x : ℕ) → form z W i ≡ x →
      IsSound z agents W' (set vs j (learned_all (flattened v i old new x)))
      → KeepsKnown v (learned_all (flattened v i old new x)) × IsSeenSettled (learned_all (flattened v i old new x)) i
  known_flattened W' same i old (Flat wide start false) may x e kept = let n : ℕ = words_over wide (length (unwrap_or (get v.units i) [])) in
      let P : ℕ → Type 0 = λ y. let w : View = cond (eqb y (word_of old)) (record (freeze v start n) { forms = insert v.forms i (Flat wide start false) }) (seen_form v i (form_of y)) in
      IsSound z agents W' (set vs j (learned_all w)) → KeepsKnown v (learned_all w) × IsSeenSettled (learned_all w) i in
      subst P e (known_flat W' same i old may.0 may.1 wide start n (eqb (form z W i) (word_of old))
      (λ miss hit. let yes : eqb (form z W i) (word_of old) ≡ true = eq-eqb (form z W i) (word_of old) hit in cc)) kept
  known_flattened W' same i old (Flat wide start true) may x e kept = absurd may
  known_flattened W' same i old Unborn may x e kept = absurd may
  known_flattened W' same i old (Cons a b c) may x e kept = absurd may
  known_flattened W' same i old (Sliced a b c) may x e kept = absurd may
  known_flattened W' same i old (Thin a) may x e kept = absurd may

  -- another agent forwarded a string to the same one: two used slots have different units
  thin_found : (i t u : ℕ) → IsBorn z W i → form_of (form z W i) ≡ Some (Thin u) → (k : ℕ) → Has v.slots k t → units_of z W t ≡ units_of z W i → u ≡ t
  thin_found i t u names e k there units = let st = s.standing i names in let d : Some st.now ≡ Some (Thin u) = sym st.decodes ∙ e in let is : st.now ≡ Thin u = cc in
      let stands : StandsAs z W vs i (Thin u) = subst (StandsAs z W vs i) is st.stands in let mine = (s.knows j v at live).of_slots k t there in let other = stands.3 in
      let one : k ≡ other.0 = s.different k other.0 t u mine.0 other.1 mine.1 other.2 (units ∙ sym stands.2) in
      let number : t + 1 ≡ u + 1 = sym mine.1 ∙ (ap (λ (q : ℕ). slot z W q) one ∙ other.2) in omega arith

  -- thinning; b says whether the form was found
  known_thin : (W' : List ℕ) → KeepsUnits W' → (i t : ℕ) (old : Form) → MayThin v i old t → (b : Bool) → (b ≡ false → form z W i ≢ word_of old)
      → let w : View = seen_form v i (cond b (Some (Thin t)) (form_of (form z W i))) in IsSound z agents W' (set vs j (learned_all w)) →
      KeepsKnown v (learned_all w) × Has (learned_all w).forms i (Thin t)
  known_thin W' same i t old may true ne kept = (
    known_moved W' same i old may.0 (can_fixed old may.1) (can_thin old may.1) (Thin t) (λ a c. c) (seen_form v i (Some (Thin t))) live refl refl refl refl refl (λ c x h. h) kept,
    insert_same v.forms i (Thin t),
  )
  known_thin W' same i t old may false ne kept = let f = known_lost W' same i old may.0 (can_fixed old may.1) (can_thin old may.1) (form_of (form z W i)) refl (ne refl) kept in
      let know = s.knows j v at live in let k = may.2 in let u = may.3 in
      let units : units_of z W t ≡ units_of z W i = (know.of_units t u.0 u.2).1 ∙ sym (know.of_units i u.0 u.1).1 in
      let p = later_thin old f.1.0 may.1 f.1.2 in (f.0, f.1.1 ∙ ap Some (p.1 ∙ ap Thin (thin_found i t p.0 (know.of_forms i old may.0).born (f.1.3 ∙ ap Some p.1) k.0 k.1 units)))

  pub known_thinned : (W' : List ℕ) → KeepsUnits W' → (i t : ℕ) (old : Form) → MayThin v i old t → (x : ℕ) → form z W i ≡ x → IsSound z agents W' (set vs j (learned_all (thinned v i old t x)))
      → KeepsKnown v (learned_all (thinned v i old t x)) × Has (learned_all (thinned v i old t x)).forms i (Thin t)
  known_thinned W' same i t old may x e kept =
      let P : ℕ → Type 0 = λ y. let w : View = seen_form v i (cond (eqb y (word_of old)) (Some (Thin t)) (form_of y)) in IsSound z agents W'
      (set vs j (learned_all w)) → KeepsKnown v (learned_all w) × Has (learned_all w).forms i (Thin t) in
      subst P e (known_thin W' same i t old may (eqb (form z W i) (word_of old)) (λ miss hit. let yes : eqb (form z W i) (word_of old) ≡ true = eq-eqb (form z W i) (word_of old) hit in cc)) kept
