-- What a compare-exchange that is lost, or a load of a slot, leaves in the view keeps the rule.
use Rattle.std.proofs.Common.{◌≡◌, ◌≢◌, ℕ, zero, suc, ◌+◌, ◌<◌, inl, ⊎_elim, true, List, [], ◌∷◌, ◌++◌, append_assoc, set, sym, refl, ap, ◌∙◌, subst, arith, Option, Some, None}
use Rattle.std.specs.Prelude.{Contains, unwrap_or}
use Rattle.std.proofs.lemmas.List.Elements.{Contains-append_left}
use mathlib.Core.Logic.{dite}
use native.Mathlib.Decide.{ℕ_discrete}
use Rattle.std.specs.FinMap.{FinMap, get, insert}
use Rattle.std.specs.Ordering.{nat_cmp}
use Rattle.js_header.specs.Form.{form_of}
use Rattle.js_header.specs.declared.form.Form.{Form}
use Rattle.heap_rule.specs.declared.view.View.{View}
use Rattle.heap_rule.specs.declared.size.HeapSize.{HeapSize}
use Rattle.heap_rule.specs.Layout.{slot, form, IsBorn}
use Rattle.heap_rule.specs.Contents.{units_of}
use Rattle.heap_rule.specs.Maps.{Has}
use Rattle.heap_rule.specs.Paths.{Calls}
use Rattle.heap_rule.specs.Views.{history}
use Rattle.heap_rule.specs.Sound.{At, IsStanding, StandsAs, KnowsForm, Knows, IsSound}
use Rattle.heap_rule.specs.HeaderMoves.{seen_form}
use Rattle.heap_rule.specs.Slots.{with_slot, MayEnter, calls_entered, loaded_slot}
use Rattle.heap_rule.proofs.MapLemmas.{has_insert, insert_same, insert_other, key_insert}
use Rattle.heap_rule.proofs.Agreement.{Agrees}
use Rattle.heap_rule.proofs.Carried.{standing_then}
use Rattle.heap_rule.proofs.Steps.{unmoved, same_words, knew, recalled}
use Rattle.heap_rule.proofs.Loading.{stands_shows}
use Rattle.heap_rule.proofs.Slots.{last_or}

module _ (z : HeapSize) (agents : ℕ) (W : List ℕ) (vs : List View) (s : IsSound z agents W vs) (j : ℕ) (v : View) (at : At vs j v) (live : v.live ≡ true) where
  -- a flattening or a thinning that is lost
  pub keeps_seen_form : (i : ℕ) (old : Form) → Has v.forms i old → IsSound z agents W (set vs j (seen_form v i (form_of (form z W i))))
  keeps_seen_form i old has = let b : IsBorn z W i = ((s.knows j v at live).of_forms i old has).born in let st = s.standing i b in
      let f : Form = st.now in let w : View = seen_form v i (Some f) in let vs' : List View = set vs j w in
      let agrees : Agrees z W vs W vs' = same_words z agents W vs s j v at live w refl in
      let stand' : (q : ℕ) → IsBorn z W q → IsStanding z W vs' q = standing_then z W vs s.standing W vs' agrees in
      let now = stand' i b in
      let same : now.now ≡ f = (let d : Some now.now ≡ Some f = sym now.decodes ∙ st.decodes in cc) in
      let k = knew z agents W vs s j v at live W w agrees in
      subst (λ (o : Option Form). IsSound z agents W (set vs j (seen_form v i o))) (sym st.decodes)
      (unmoved z agents W vs s j v at live w live refl refl refl refl refl refl
      record {
        of_met = k.of_met;
        of_units = k.of_units;
        of_forms = λ q g h. ⊎_elim (λ (t : (q ≡ i) × (f ≡ g)). subst (λ (y : ℕ × Form). KnowsForm z W vs' y.0 y.1) (λ d. (sym t.0 d, t.1 d))
            record { born = b; now = f; decodes = st.decodes; later = inl refl; shows = stands_shows z W vs' stand' i f st.decodes (subst (StandsAs z W vs' i) same now.stands) })
            (λ (t : (q ≢ i) × Has v.forms q g). k.of_forms q g t.1) (has_insert v.forms i q f g h);
        of_lengths = k.of_lengths;
        of_frozen = k.of_frozen;
        of_slots = k.of_slots;
      } (recalled z agents W vs s j v at live W w agrees) (λ u q h. h) (s.lows j v at live))

  module _ (k : ℕ) (inside : k < z.slots) where
    slot_known : (x : ℕ) → slot z W k ≡ x → (vs' : List View) → Knows z W vs' v → Knows z W vs' (with_slot v k x)
    slot_known zero e vs' n = n
    slot_known (suc i) e vs' n = let here : slot z W k ≡ i + 1 = omega arith in record {
      of_met = λ q h. ⊎_elim (λ (t : q ≡ i). subst (IsBorn z W) (sym t) (s.slots k i inside here).born) (n.of_met q) (key_insert v.met i q tt h);
      of_units = n.of_units;
      of_forms = n.of_forms;
      of_lengths = n.of_lengths;
      of_frozen = n.of_frozen;
      of_slots = λ l q h. ⊎_elim (λ (t : (l ≡ k) × (i ≡ q)). let r = t.1 in
          let there : slot z W k ≡ q + 1 = omega arith in (subst (λ (y : ℕ). y < z.slots) (sym t.0) inside, ap (λ (y : ℕ). slot z W y) t.0 ∙ there))
          (λ (t : (l ≢ k) × Has v.slots l q). n.of_slots l q t.1) (has_insert v.slots k l i q h);
    }

    -- what the view has of slots is found there again
    pub slot_kept : (x : ℕ) → slot z W k ≡ x → (l q : ℕ) → Has v.slots l q → Has (with_slot v k x).slots l q
    slot_kept zero e l q h = h
    slot_kept (suc i) e l q h = dite (ℕ_discrete l k)
        (λ (t : l ≡ k). let o = ((s.knows j v at live).of_slots l q h).1 in let o' : slot z W k ≡ q + 1 = ap (λ (y : ℕ). slot z W y) (sym t) ∙ o in let r : i ≡ q = omega arith in
        ap (get (insert v.slots k i)) t ∙ (insert_same v.slots k i ∙ ap Some r))
        (λ ne. insert_other v.slots k l i ne ∙ h)

    -- what the history has after a call entered it
    entered_right : (entry : Option (List ℕ)) → MayEnter v k entry → (slots : FinMap nat_cmp ℕ) → ((l q : ℕ) → Has v.slots l q → Has slots l q)
        → (u : List ℕ) (q : ℕ) → Contains (v.seen ++ calls_entered v k entry) (u, q) → ((l : ℕ) × Has slots l q) × (u ≡ units_of z W q)
    entered_right None may slots kept u q c = let r = s.recalls j v at live u q c in ((r.0.0, kept r.0.0 q r.0.1), r.1)
    entered_right (Some us) (i, saw, units) slots kept u q c = let x : ℕ = unwrap_or (get v.slots k) 0 in let is : x ≡ i = ap (λ (o : Option ℕ). unwrap_or o 0) saw in ⊎_elim
        (λ (h : Contains (history v) (u, q)). let r = s.recalls j v at live u q h in ((r.0.0, kept r.0.0 q r.0.1), r.1))
        (λ (e : ◌≡◌ {A = List ℕ × ℕ} (us, x) (u, q)). let first : us ≡ u = ap (λ (y : List ℕ × ℕ). y.0) e in let second : i ≡ q = sym is ∙ ap (λ (y : List ℕ × ℕ). y.1) e in
        ((k, subst (Has slots k) second (kept k i saw)), sym first ∙ (sym ((s.knows j v at live).of_units i us units).1 ∙ ap (units_of z W) second)))
        (last_or (history v) (us, x) (u, q) (subst (λ (l : Calls). Contains l (u, q)) (sym (append_assoc v.seen v.mine ((us, x) ∷ []))) c))

    entered_still : (entry : Option (List ℕ)) (u : List ℕ) (q : ℕ) → Contains v.mine (u, q) → Contains (calls_entered v k entry) (u, q)
    entered_still None u q h = h
    entered_still (Some us) u q h = Contains-append_left v.mine ((us, unwrap_or (get v.slots k) 0) ∷ []) (u, q) h

    -- a claim of a slot that is lost
    slot_seen : (x : ℕ) → slot z W k ≡ x → (w : View) → w ≡ with_slot v k x → IsSound z agents W (set vs j w)
    slot_seen zero e w is = subst (λ (y : View). IsSound z agents W (set vs j y)) (sym is) (let agrees : Agrees z W vs W (set vs j v) = same_words z agents W vs s j v at live v refl in
        unmoved z agents W vs s j v at live v live refl refl refl refl refl refl (knew z agents W vs s j v at live W v agrees)
        (recalled z agents W vs s j v at live W v agrees) (λ u q h. h) (s.lows j v at live))
    slot_seen (suc i) e w is = subst (λ (y : View). IsSound z agents W (set vs j y)) (sym is) (let y : View = with_slot v k (suc i) in
        let agrees : Agrees z W vs W (set vs j y) = same_words z agents W vs s j v at live y refl in
        unmoved z agents W vs s j v at live y live refl refl refl refl refl refl (slot_known (suc i) e (set vs j y) (knew z agents W vs s j v at live W y agrees))
        (λ u q c. let r = s.recalls j v at live u q c in ((r.0.0, slot_kept (suc i) e r.0.0 q r.0.1), r.1)) (λ u q h. h) (s.lows j v at live))

    -- a load of a slot, with which a call may enter the history
    slot_loaded : (x : ℕ) → slot z W k ≡ x → (entry : Option (List ℕ)) → MayEnter v k entry → IsSound z agents W (set vs j (loaded_slot v k entry x))
    slot_loaded zero e entry may = let y : View = loaded_slot v k entry zero in let agrees : Agrees z W vs W (set vs j y) = same_words z agents W vs s j v at live y refl in
        unmoved z agents W vs s j v at live y live refl refl refl refl refl refl (slot_known zero e (set vs j y) (knew z agents W vs s j v at live W y agrees))
        (entered_right entry may v.slots (λ l q h. h)) (entered_still entry) (s.lows j v at live)
    slot_loaded (suc i) e entry may = let y : View = loaded_slot v k entry (suc i) in let agrees : Agrees z W vs W (set vs j y) = same_words z agents W vs s j v at live y refl in
        unmoved z agents W vs s j v at live y live refl refl refl refl refl refl (slot_known (suc i) e (set vs j y) (knew z agents W vs s j v at live W y agrees))
        (entered_right entry may (insert v.slots k i) (slot_kept (suc i) e)) (entered_still entry) (s.lows j v at live)

    pub keeps_loaded_slot : (entry : Option (List ℕ)) → MayEnter v k entry → IsSound z agents W (set vs j (loaded_slot v k entry (slot z W k)))
    keeps_loaded_slot entry may = slot_loaded (slot z W k) refl entry may

    pub keeps_with_slot : IsSound z agents W (set vs j (with_slot v k (slot z W k)))
    keeps_with_slot = slot_seen (slot z W k) refl (with_slot v k (slot z W k)) refl
