-- A load leaves all but what it read and what is learned from it.
use Rattle.std.proofs.Common.{◌≡◌, ℕ, ◌⊎◌, inl, inr, Bool, true, false, cond, sym, refl, ap, ◌∙◌, subst, Option, Some, None}
use mathlib.Core.Logic.{dite}
use native.Mathlib.Decide.{ℕ_discrete}
use Rattle.std.specs.Ordering.{nat_cmp}
use Rattle.std.specs.FinMap.{FinMap, contains_key, get, insert}
use Rattle.js_header.specs.Form.{form_of}
use Rattle.js_header.specs.declared.form.Form.{Form}
use Rattle.heap_rule.specs.declared.view.View.{View}
use Rattle.heap_rule.specs.Maps.{HasKey}
use Rattle.heap_rule.specs.Loads.{with_form, loaded_form, loaded_length, loaded_word}
use Rattle.heap_rule.specs.Learning.{learned_all}
use Rattle.heap_rule.proofs.MapLemmas.{has_key, insert_other, insert_same, key_of}
use Rattle.heap_table.specs.Known.{KeepsKnown}
use Rattle.heap_read.specs.Reads.{OnlyLoads}

pub known_trans : (u v w : View) → KeepsKnown u v → KeepsKnown v w → KeepsKnown u w
known_trans u v w a b = record {
  units = λ i us h. b.units i us (a.units i us h);
  lengths = λ i n h. b.lengths i n (a.lengths i n h);
  flats = λ i wide start h. b.flats i wide start (a.flats i wide start h);
  thins = λ i t h. b.thins i t (a.thins i t h);
  settled = λ i h. b.settled i (a.settled i h);
  frozen = λ c x h. b.frozen c x (a.frozen c x h);
  known = λ i h. b.known i (a.known i h);
  slots = λ k i h. b.slots k i (a.slots k i h);
}

pub known_refl : (v : View) → KeepsKnown v v
known_refl v = record { units = λ i us h. h; lengths = λ i n h. h; flats = λ i wide start h. h; thins = λ i t h. h; settled = λ i h. h; frozen = λ c x h. h; known = λ i h. h; slots = λ k i h. h }

module _ {X : Type 0} where
  -- a key stays while another is put in
  pub key_more : (m : FinMap nat_cmp X) (k q : ℕ) (x : X) → HasKey m q → HasKey (insert m k x) q
  key_more m k q x h = dite (ℕ_discrete q k)
      (λ e. key_of (insert m k x) q x (ap (get (insert m k x)) e ∙ insert_same m k x))
      (λ ne. let p = has_key m q h in key_of (insert m k x) q p.0 (insert_other m k q x ne ∙ p.1))

pub reads_trans : (u v w : View) → OnlyLoads u v → OnlyLoads v w → OnlyLoads u w
reads_trans u v w a b = record {
  known = known_trans u v w a.known b.known;
  sizes = b.sizes ∙ a.sizes;
  agents = b.agents ∙ a.agents;
  live = b.live ∙ a.live;
  share = b.share ∙ a.share;
  used = b.used ∙ a.used;
  low = b.low ∙ a.low;
  own_ids = b.own_ids ∙ a.own_ids;
  own_words = b.own_words ∙ a.own_words;
  slots = b.slots ∙ a.slots;
  seen = b.seen ∙ a.seen;
  mine = b.mine ∙ a.mine;
  slot_loads = b.slot_loads ∙ a.slot_loads;
}

pub reads_refl : (v : View) → OnlyLoads v v
reads_refl v = record {
  known = known_refl v;
  sizes = refl;
  agents = refl;
  live = refl;
  share = refl;
  used = refl;
  low = refl;
  own_ids = refl;
  own_words = refl;
  slots = refl;
  seen = refl;
  mine = refl;
  slot_loads = refl;
}

pub reads_length : (v w : View) (i n : ℕ) → KeepsKnown v w → w ≡ learned_all (loaded_length v i n) → OnlyLoads v w
reads_length v w i n k e = subst (OnlyLoads v) (sym e)
    record {
      known = subst (KeepsKnown v) e k;
      sizes = refl;
      agents = refl;
      live = refl;
      share = refl;
      used = refl;
      low = refl;
      own_ids = refl;
      own_words = refl;
      slots = refl;
      seen = refl;
      mine = refl;
      slot_loads = refl;
    }

form_by : (v : View) (i n : ℕ) (o : Option Form) → KeepsKnown v (learned_all (record (with_form v i o) { form_loads = n })) → OnlyLoads v (learned_all (record (with_form v i o) { form_loads = n }))
form_by v i n None k = record {
  known = k;
  sizes = refl;
  agents = refl;
  live = refl;
  share = refl;
  used = refl;
  low = refl;
  own_ids = refl;
  own_words = refl;
  slots = refl;
  seen = refl;
  mine = refl;
  slot_loads = refl;
}
form_by v i n (Some f) k = record {
  known = k;
  sizes = refl;
  agents = refl;
  live = refl;
  share = refl;
  used = refl;
  low = refl;
  own_ids = refl;
  own_words = refl;
  slots = refl;
  seen = refl;
  mine = refl;
  slot_loads = refl;
}

pub reads_form : (v w : View) (i x : ℕ) → KeepsKnown v w → w ≡ learned_all (loaded_form v i x) → OnlyLoads v w
reads_form v w i x k e = subst (OnlyLoads v) (sym e) (form_by v i _ (form_of x) (subst (KeepsKnown v) e k))

word_by : (v : View) (c x : ℕ) (b : Bool) → KeepsKnown v (learned_all (cond b v (record v { frozen = insert v.frozen c x }))) → OnlyLoads v
    (learned_all (cond b v (record v { frozen = insert v.frozen c x })))
word_by v c x true k = record {
  known = k;
  sizes = refl;
  agents = refl;
  live = refl;
  share = refl;
  used = refl;
  low = refl;
  own_ids = refl;
  own_words = refl;
  slots = refl;
  seen = refl;
  mine = refl;
  slot_loads = refl;
}
word_by v c x false k = record {
  known = k;
  sizes = refl;
  agents = refl;
  live = refl;
  share = refl;
  used = refl;
  low = refl;
  own_ids = refl;
  own_words = refl;
  slots = refl;
  seen = refl;
  mine = refl;
  slot_loads = refl;
}

pub reads_word : (v w : View) (c x : ℕ) → KeepsKnown v w → w ≡ learned_all (loaded_word v c x) → OnlyLoads v w
reads_word v w c x k e = subst (OnlyLoads v) (sym e) (word_by v c x (contains_key v.own_words c) (subst (KeepsKnown v) e k))

-- the word that was loaded is one that the view has
has_by : (v : View) (c x : ℕ) (b : Bool) → contains_key v.own_words c ≡ b
    → HasKey (learned_all (cond b v (record v { frozen = insert v.frozen c x }))).own_words c ⊎ HasKey (learned_all (cond b v (record v { frozen = insert v.frozen c x }))).frozen c
has_by v c x true e = inl e
has_by v c x false e = inr (key_of (insert v.frozen c x) c x (insert_same v.frozen c x))

pub has_loaded : (v : View) (c x : ℕ) → HasKey (learned_all (loaded_word v c x)).own_words c ⊎ HasKey (learned_all (loaded_word v c x)).frozen c
has_loaded v c x = has_by v c x (contains_key v.own_words c) refl

pub key_kept : (v w : View) (i : ℕ) → KeepsKnown v w → HasKey v.units i → HasKey w.units i
key_kept v w i k h = let p = has_key v.units i h in key_of w.units i p.0 (k.units i p.0 p.1)
