-- Two agents whose views stand in one sound state agree: the joined view has what both have, and the test of the views says so.
use Rattle.std.proofs.Common.{◌≡◌, ◌≢◌, ℕ, ◌+◌, ◌≤◌, inl, inr, ⊎_elim, Bool, true, false, cond, List, set, refl, sym, ap, ◌∙◌, subst, arith, Some, bytes_eq}
use Rattle.std.specs.Cmp.Lexicographic.{bytes_decides}
use Rattle.std.proofs.lemmas.Bool.{and_parts, and_from}
use Rattle.std.specs.Ordering.{nat_cmp}
use Rattle.std.specs.FinMap.{FinMap}
use Rattle.js_header.specs.Form.{form_of}
use Rattle.js_header.specs.declared.form.Form.{Form}
use Rattle.js_header.specs.declared.form.Form.TheVariants.{Flat, Thin}
use Rattle.heap_rule.specs.declared.view.View.{View}
use Rattle.heap_rule.specs.declared.size.HeapSize.{HeapSize}
use Rattle.heap_rule.specs.Layout.{content, form, length_word, slot, IsBorn}
use Rattle.heap_rule.specs.Contents.{units_of}
use Rattle.heap_rule.specs.Maps.{Has, HasKey, upper_one}
use Rattle.heap_rule.specs.Forms.{later_form}
use Rattle.heap_rule.specs.Agents.{joined_view, spent}
use Rattle.std.proofs.Math.Logic.{∥∥₁_elim}
use Rattle.std.proofs.Props.{props}
use Rattle.heap_rule.specs.Sound.{At, IsSound, IsPossible, StandsIn, Knows, KnowsForm, OwnsIds, OwnsWords}
use Rattle.heap_rule.proofs.MapLemmas.{has_key, key_of}
use Rattle.heap_rule.proofs.ListLemmas.{set_else, set_there}
use Rattle.heap_rule.proofs.Joining.{keeps_joined, laid_keeps, laid_takes}
use Rattle.heap_table.specs.Rule.{AreSeenAlike}
use Rattle.heap_table.specs.Known.{KeepsKnown, HasAllOf}
use Rattle.heap_table.specs.Taken.{same_number, fits_form, has_all, agree, taken}
use Rattle.heap_table.proofs.Fitting.{fits_same, same_met, same_number_decides, fits_true, fits_met, fits_flat, fits_thin, fits_settled, fits_later}
use Rattle.heap_table.proofs.Alike.{now_born}
use Rattle.heap_table.proofs.LaterForms.{IsSeen, lower_fits, upper_fits}

-- what the one view has of each key, the other has
record HasKeys (v w : View) : Type 0 where
  units : (q : ℕ) → HasKey v.units q → HasKey w.units q
  met : (q : ℕ) → HasKey v.met q → HasKey w.met q
  lengths : (q : ℕ) → HasKey v.lengths q → HasKey w.lengths q
  forms : (q : ℕ) → HasKey v.forms q → HasKey w.forms q
  frozen : (q : ℕ) → HasKey v.frozen q → HasKey w.frozen q
  slots : (q : ℕ) → HasKey v.slots q → HasKey w.slots q
  own_ids : (q : ℕ) → HasKey v.own_ids q → HasKey w.own_ids q
  own_words : (q : ℕ) → HasKey v.own_words q → HasKey w.own_words q

keys_stay : (v b : View) → HasKeys v (joined_view v b)
keys_stay v b = record {
  units = laid_keeps upper_one v.units b.units;
  met = laid_keeps upper_one v.met b.met;
  lengths = laid_keeps upper_one v.lengths b.lengths;
  forms = laid_keeps later_form v.forms b.forms;
  frozen = laid_keeps upper_one v.frozen b.frozen;
  slots = laid_keeps upper_one v.slots b.slots;
  own_ids = laid_keeps upper_one v.own_ids b.own_ids;
  own_words = laid_keeps upper_one v.own_words b.own_words;
}

keys_come : (v b : View) → HasKeys b (joined_view v b)
keys_come v b = record {
  units = laid_takes upper_one v.units b.units;
  met = laid_takes upper_one v.met b.met;
  lengths = laid_takes upper_one v.lengths b.lengths;
  forms = laid_takes later_form v.forms b.forms;
  frozen = laid_takes upper_one v.frozen b.frozen;
  slots = laid_takes upper_one v.slots b.slots;
  own_ids = laid_takes upper_one v.own_ids b.own_ids;
  own_words = laid_takes upper_one v.own_words b.own_words;
}

-- two maps that are right of the same words have one value at a key
one_value : {X : Type 0} (P : ℕ → X → Type 0) → ((q : ℕ) (x y : X) → P q x → P q y → x ≡ y) → (m n : FinMap nat_cmp X) → ((q : ℕ) (x : X) → Has m q x → P q x) → ((q : ℕ) (x : X) → Has n q x → P q x)
    → ((q : ℕ) → HasKey m q → HasKey n q) → (q : ℕ) (x : X) → Has m q x → Has n q x
one_value P one m n f g keys q x h = let p = has_key n q (keys q (key_of m q x h)) in p.1 ∙ ap Some (sym (one q x p.0 (f q x h) (g q p.0 p.1)))

module _ (z : HeapSize) (W : List ℕ) where
  -- a form that was seen is the one that stands, or an earlier one
  seen_form : (vs : List View) (q : ℕ) (x now : Form) → KnowsForm z W vs q x → form_of (form z W q) ≡ Some now → IsSeen now x
  seen_form vs q x now k e = let some_same : Some k.now ≡ Some now = sym k.decodes ∙ e in let same : k.now ≡ now = cc in subst (λ (g : Form). IsSeen g x) same k.later

  -- two views that are right of the same words
  module _ (vs vs' : List View) (u w : View) (ku : Knows z W vs u) (kw : Knows
      z W vs' w) (iu : OwnsIds z W u.own_ids) (iw : OwnsIds z W w.own_ids) (ou : OwnsWords z W u.own_words) (ow : OwnsWords z W w.own_words) (keys : HasKeys
      u w) where
    test_passes : ((q : ℕ) (x : Form) → Has u.forms q x → (y : Form) × Has w.forms q y × (fits_form x y ≡ true)) → has_all u w ≡ true
    test_passes forms =
        and_from _ _ (fits_same bytes_eq u.units w.units bytes_decides
        (one_value (λ i us. IsBorn z W i × (units_of z W i ≡ us)) (λ q x y p r. sym p.1 ∙ r.1) u.units w.units ku.of_units kw.of_units keys.units))
        (and_from _ _ (fits_same same_number u.lengths w.lengths same_number_decides
        (one_value (λ i n. IsBorn z W i × (length_word z W i ≡ n)) (λ q x y p r. sym p.1 ∙ r.1) u.lengths w.lengths ku.of_lengths kw.of_lengths keys.lengths))
        (and_from _ _ (fits_true fits_form u.forms w.forms forms)
        (and_from _ _ (fits_same same_number u.frozen w.frozen same_number_decides
        (one_value (λ c x. content z W c ≡ x) (λ q x y p r. sym p ∙ r) u.frozen w.frozen (λ q x h. (ku.of_frozen q x h).1)
        (λ q x h. (kw.of_frozen q x h).1) keys.frozen))
        (and_from _ _ (fits_same same_number u.slots w.slots same_number_decides
        (one_value (λ k i. slot z W k ≡ i + 1) (λ q x y p r. omega arith) u.slots w.slots (λ q x h. (ku.of_slots q x h).1)
        (λ q x h. (kw.of_slots q x h).1) keys.slots))
        (and_from _ _ (fits_same same_number u.own_ids w.own_ids same_number_decides
        (one_value (λ i n. length_word z W i ≡ n) (λ q x y p r. sym p ∙ r) u.own_ids w.own_ids (λ q x h. (iu.each q x h).2)
        (λ q x h. (iw.each q x h).2) keys.own_ids))
        (fits_same same_number u.own_words w.own_words same_number_decides
        (one_value (λ c x. content z W c ≡ x) (λ q x y p r. sym p ∙ r) u.own_words w.own_words (λ q x h. (ou.each q x h).1)
        (λ q x h. (ow.each q x h).1) keys.own_words)))))))

module _ (z : HeapSize) (agents : ℕ) (W : List ℕ) (vs : List View) (s : IsSound z agents W vs) (alike : AreSeenAlike vs) (j o : ℕ)
    (v b : View) (ne : j ≢ o) (at : At vs j v) (live : v.live ≡ true) (at_other : At vs o b) (live_other : b.live ≡ true) where
  abbrev w : View
  w = joined_view v b

  abbrev vs' : List View
  vs' = set (set vs j w) o spent

  kept : IsSound z agents W vs'
  kept = keeps_joined z agents W vs s j o v b ne at live at_other live_other

  here : At vs' j w
  here = set_else (set vs j w) o j spent ne ∙ set_there vs j w v at

  own_stays : has_all v w ≡ true
  own_stays = test_passes z W vs vs' v w (s.knows j v at live) (kept.knows j w here live) (s.own_ids j v at live)
      (kept.own_ids j w here live) (s.own_words j v at live) (kept.own_words j w here live) (keys_stay v b)
      (λ q x h. let k = (s.knows j v at live).of_forms q x h in lower_fits v.forms b.forms q k.now (now_born z agents W vs s q k.now k.born k.decodes) x h k.later
      (λ g c. seen_form z W vs q g k.now ((s.knows o b at_other live_other).of_forms q g c) k.decodes))

  other_comes : has_all b w ≡ true
  other_comes = test_passes z W vs vs' b w (s.knows o b at_other live_other) (kept.knows j w here live) (s.own_ids o b at_other live_other)
      (kept.own_ids j w here live) (s.own_words o b at_other live_other) (kept.own_words j w here live) (keys_come v b)
      (λ q x h. let k = (s.knows o b at_other live_other).of_forms q x h in upper_fits v.forms b.forms q k.now (now_born z agents W vs s q k.now k.born k.decodes) x h k.later
      (λ f c. (seen_form z W vs q f k.now ((s.knows j v at live).of_forms q f c) k.decodes, alike j v at live o b at_other live_other q f x c h)))

  pub both_agree : agree v b ≡ true
  both_agree = and_from _ _ own_stays other_comes

pub taken_is : (v b : View) → agree v b ≡ true → taken v b ≡ joined_view v b
taken_is v b e = ap (λ (t : Bool). record (joined_view v b) { share = cond t (v.share + b.share) 0 }) e

some_share : (t : Bool) (n : ℕ) → 1 ≤ cond t n 0 → t ≡ true
some_share true n h = refl
some_share false n h = absurd (omega arith)

-- whoever finds the taken view in a sound state finds that the two agree
agree_in : (v b : View) → StandsIn (taken v b) → agree v b ≡ true
agree_in v b p = some_share (agree v b) (v.share + b.share) (p.5.members p.4 (taken v b) p.6 p.7).0

possible_agree : (v b : View) → IsPossible (taken v b) → agree v b ≡ true
possible_agree v b p = ∥∥₁_elim p (Prim.hlevel props) (λ t. agree_in v b t)

-- what the test says
module _ (v w : View) (keys : HasKeys v w) (test : has_all v w ≡ true) where
  known_by : KeepsKnown v w
  known_by = let a = and_parts _ _ test in let b = and_parts _ _ a.1 in let c = and_parts _ _ b.1 in let d = and_parts _ _ c.1 in record {
    units = same_met bytes_eq v.units w.units bytes_decides a.0;
    lengths = same_met same_number v.lengths w.lengths same_number_decides b.0;
    flats = λ q wide start h. let t = fits_met fits_form v.forms w.forms c.0 q (Flat wide start true) h in t.1 ∙ ap Some (fits_flat wide start t.0 t.2);
    thins = λ q target h. let t = fits_met fits_form v.forms w.forms c.0 q (Thin target) h in t.1 ∙ ap Some (fits_thin target t.0 t.2);
    settled = λ q h. let t = fits_met fits_form v.forms w.forms c.0 q h.0 h.1 in (t.0, t.1, fits_settled h.0 t.0 t.2 h.2);
    frozen = same_met same_number v.frozen w.frozen same_number_decides d.0;
    known = λ q h. ⊎_elim (λ (t : HasKey v.units q). inl (keys.units q t)) (λ (t : HasKey v.met q). inr (keys.met q t)) h;
    slots = same_met same_number v.slots w.slots same_number_decides (and_parts _ _ d.1).0;
  }

  all_by : HasAllOf v w
  all_by = let a = and_parts _ _ test in let b = and_parts _ _ a.1 in let c = and_parts _ _ b.1 in let d = and_parts _ _ c.1 in let e = and_parts _ _ d.1 in let f = and_parts _ _ e.1 in record {
    own_ids = same_met same_number v.own_ids w.own_ids same_number_decides f.0;
    own_words = same_met same_number v.own_words w.own_words same_number_decides f.1;
    known = λ q h. ⊎_elim (λ (t : HasKey v.units q). inl (keys.units q t)) (λ (t : HasKey v.met q). inr (keys.met q t)) h;
    met = keys.met;
    frozen = same_met same_number v.frozen w.frozen same_number_decides d.0;
    slots = same_met same_number v.slots w.slots same_number_decides e.0;
    forms = λ q x h. let t = fits_met fits_form v.forms w.forms c.0 q x h in (t.0, t.1, fits_later x t.0 t.2);
  }

module _ (v b : View) (e : agree v b ≡ true) where
  known_joined : KeepsKnown v (joined_view v b) × KeepsKnown b (joined_view v b)
  known_joined = let t = and_parts _ _ e in (known_by v (joined_view v b) (keys_stay v b) t.0, known_by b (joined_view v b) (keys_come v b) t.1)

  all_joined : HasAllOf v (joined_view v b) × HasAllOf b (joined_view v b)
  all_joined = let t = and_parts _ _ e in (all_by v (joined_view v b) (keys_stay v b) t.0, all_by b (joined_view v b) (keys_come v b) t.1)

-- So a view that is found to be the taken one, and to stand in a sound state, is the joined one and has all that both have.
pub taken_over : (v b w : View) → w ≡ taken v b → IsPossible w → (w ≡ joined_view v b) × (KeepsKnown v w × KeepsKnown b w) × (HasAllOf v w × HasAllOf b w)
taken_over v b w is p = let e : agree v b ≡ true = possible_agree v b (subst IsPossible is p) in let same : joined_view v b ≡ w = sym (is ∙ taken_is v b e) in
    subst (λ (x : View). (x ≡ joined_view v b) × (KeepsKnown v x × KeepsKnown b x) × (HasAllOf v x × HasAllOf b x)) same (refl, known_joined v b e, all_joined v b e)
