-- What a call leaves, step by step.
use Rattle.std.proofs.Common.{◌≡◌, ℕ, zero, suc, ◌+◌, ◌<◌, ◌≤◌, Bool, List, sym, refl, ap, ◌∙◌, subst, arith}
use Rattle.js_units.specs.Lanes.{IsWordOf}
use mathlib.Core.Logic.{dite}
use native.Mathlib.Decide.{ℕ_discrete}
use Rattle.std.specs.FinMap.{FinMap, get, insert}
use Rattle.std.specs.Ordering.{nat_cmp}
use Rattle.heap_rule.specs.declared.view.View.{View}
use Rattle.heap_rule.specs.declared.size.Counter.TheVariants.{Ids, Words}
use Rattle.heap_rule.specs.declared.size.Counters.{Counters}
use Rattle.heap_rule.specs.Maps.{Has, HasKey, with_run}
use Rattle.heap_rule.specs.Claims.{loaded_counter, won_claim}
use Rattle.heap_rule.specs.Births.{stored_word, stored_length}
use Rattle.heap_rule.proofs.MapLemmas.{key_of, insert_same, insert_other}
use Rattle.heap_table.specs.Known.{KeepsKnown}
use Rattle.heap_read.specs.Reads.{Continues, OnlyLoads}
use Rattle.heap_read.specs.Written.{AreWords}
use Rattle.heap_read.proofs.Loaded.{key_more, known_trans}

pub continues_trans : (u v w : View) → Continues u v → Continues v w → Continues u w
continues_trans u v w a b = let a0 = a.ids_used in let b0 = b.ids_used in let a1 = a.words_used in let b1 = b.words_used in
    let a2 = a.ids_low in let b2 = b.ids_low in let a3 = a.words_low in let b3 = b.words_low in record {
      known = known_trans u v w a.known b.known;
      sizes = b.sizes ∙ a.sizes;
      agents = b.agents ∙ a.agents;
      live = b.live ∙ a.live;
      share = b.share ∙ a.share;
      ids_used = omega arith;
      words_used = omega arith;
      ids_low = omega arith;
      words_low = omega arith;
      slots = b.slots ∙ a.slots;
      seen = b.seen ∙ a.seen;
      mine = b.mine ∙ a.mine;
      slot_loads = b.slot_loads ∙ a.slot_loads;
    }

pub continues_reads : (v w : View) → OnlyLoads v w → Continues v w
continues_reads v w r = record {
  known = r.known;
  sizes = r.sizes;
  agents = r.agents;
  live = r.live;
  share = r.share;
  ids_used = subst (λ (n : Counters). v.used.ids ≤ n.ids) (sym r.used) (omega arith);
  words_used = subst (λ (n : Counters). v.used.words ≤ n.words) (sym r.used) (omega arith);
  ids_low = subst (λ (n : Counters). v.low.ids ≤ n.ids) (sym r.low) (omega arith);
  words_low = subst (λ (n : Counters). v.low.words ≤ n.words) (sym r.low) (omega arith);
  slots = r.slots;
  seen = r.seen;
  mine = r.mine;
  slot_loads = r.slot_loads;
}

-- one step that leaves what is known as it is
module _ (v : View) where
  pub known_words : (at want : ℕ) → KeepsKnown v (won_claim v Words at want)
  known_words at want = record {
    units = λ i us h. h;
    lengths = λ i n h. h;
    flats = λ i wide start h. h;
    thins = λ i t h. h;
    settled = λ i h. h;
    frozen = λ c x h. h;
    known = λ i h. h;
    slots = λ k i h. h;
  }

  pub known_ids : (at want : ℕ) → KeepsKnown v (won_claim v Ids at want)
  known_ids at want = record {
    units = λ i us h. h;
    lengths = λ i n h. h;
    flats = λ i wide start h. h;
    thins = λ i t h. h;
    settled = λ i h. h;
    frozen = λ c x h. h;
    known = λ i h. h;
    slots = λ k i h. h;
  }

  pub known_stored : (c x : ℕ) → KeepsKnown v (stored_word v c x)
  known_stored c x = record {
    units = λ i us h. h;
    lengths = λ i n h. h;
    flats = λ i wide start h. h;
    thins = λ i t h. h;
    settled = λ i h. h;
    frozen = λ c x h. h;
    known = λ i h. h;
    slots = λ k i h. h;
  }

  pub known_length : (i n : ℕ) → KeepsKnown v (stored_length v i n)
  known_length i n = record {
    units = λ i us h. h;
    lengths = λ i n h. h;
    flats = λ i wide start h. h;
    thins = λ i t h. h;
    settled = λ i h. h;
    frozen = λ c x h. h;
    known = λ i h. h;
    slots = λ k i h. h;
  }

  pub continues_words : (w : View) (at want : ℕ) → w ≡ won_claim v Words at want → v.low.words ≤ w.low.words → Continues v w
  continues_words w at want e l = let l' : v.low.words ≤ at + want = subst (λ (x : View). v.low.words ≤ x.low.words) e l in subst (Continues v) (sym e) record {
    known = known_words at want;
    sizes = refl;
    agents = refl;
    live = refl;
    share = refl;
    ids_used = omega arith;
    words_used = omega arith;
    ids_low = omega arith;
    words_low = l';
    slots = refl;
    seen = refl;
    mine = refl;
    slot_loads = refl;
  }

  pub continues_ids : (w : View) (at want : ℕ) → w ≡ won_claim v Ids at want → v.low.ids ≤ w.low.ids → Continues v w
  continues_ids w at want e l = let l' : v.low.ids ≤ at + want = subst (λ (x : View). v.low.ids ≤ x.low.ids) e l in subst (Continues v) (sym e) record {
    known = known_ids at want;
    sizes = refl;
    agents = refl;
    live = refl;
    share = refl;
    ids_used = omega arith;
    words_used = omega arith;
    ids_low = l';
    words_low = omega arith;
    slots = refl;
    seen = refl;
    mine = refl;
    slot_loads = refl;
  }

  pub continues_full_words : (w : View) (at : ℕ) → w ≡ loaded_counter v Words at → v.low.words ≤ w.low.words → Continues v w
  continues_full_words w at e l = let l' : v.low.words ≤ at = subst (λ (x : View). v.low.words ≤ x.low.words) e l in subst (Continues v) (sym e) record {
    known = record { units = λ i us h. h; lengths = λ i n h. h; flats = λ i wide start h. h; thins = λ i t h. h; settled = λ i h. h; frozen = λ c x h. h; known = λ i h. h; slots = λ k i h. h };
    sizes = refl;
    agents = refl;
    live = refl;
    share = refl;
    ids_used = omega arith;
    words_used = omega arith;
    ids_low = omega arith;
    words_low = l';
    slots = refl;
    seen = refl;
    mine = refl;
    slot_loads = refl;
  }

  pub continues_full_ids : (w : View) (at : ℕ) → w ≡ loaded_counter v Ids at → v.low.ids ≤ w.low.ids → Continues v w
  continues_full_ids w at e l = let l' : v.low.ids ≤ at = subst (λ (x : View). v.low.ids ≤ x.low.ids) e l in subst (Continues v) (sym e) record {
    known = record { units = λ i us h. h; lengths = λ i n h. h; flats = λ i wide start h. h; thins = λ i t h. h; settled = λ i h. h; frozen = λ c x h. h; known = λ i h. h; slots = λ k i h. h };
    sizes = refl;
    agents = refl;
    live = refl;
    share = refl;
    ids_used = omega arith;
    words_used = omega arith;
    ids_low = l';
    words_low = omega arith;
    slots = refl;
    seen = refl;
    mine = refl;
    slot_loads = refl;
  }

  pub continues_stored : (c x : ℕ) → Continues v (stored_word v c x)
  continues_stored c x = record {
    known = known_stored c x;
    sizes = refl;
    agents = refl;
    live = refl;
    share = refl;
    ids_used = omega arith;
    words_used = omega arith;
    ids_low = omega arith;
    words_low = omega arith;
    slots = refl;
    seen = refl;
    mine = refl;
    slot_loads = refl;
  }

  pub continues_length : (i n : ℕ) → Continues v (stored_length v i n)
  continues_length i n = record {
    known = known_length i n;
    sizes = refl;
    agents = refl;
    live = refl;
    share = refl;
    ids_used = omega arith;
    words_used = omega arith;
    ids_low = omega arith;
    words_low = omega arith;
    slots = refl;
    seen = refl;
    mine = refl;
    slot_loads = refl;
  }

module _ {X : Type 0} where
  pub run_kept : (m : FinMap nat_cmp X) (k n q : ℕ) (x : X) → HasKey m q → HasKey (with_run m k n x) q
  run_kept m k zero q x h = h
  run_kept m k (suc n) q x h = run_kept (insert m k x) (suc k) n q x (key_more m k q x h)

  -- what stands below a run
  pub run_below : (m : FinMap nat_cmp X) (k n q : ℕ) (x y : X) → q < k → Has m q y → Has (with_run m k n x) q y
  run_below m k zero q x y l h = h
  run_below m k (suc n) q x y l h = run_below (insert m k x) (suc k) n q x y (omega arith) (insert_other m k q x (λ e. omega arith) ∙ h)

  -- the keys of a run
  pub run_keys : (m : FinMap nat_cmp X) (k n q : ℕ) (x : X) → q < n → HasKey (with_run m k n x) (k + q)
  run_keys m k zero q x l = absurd (omega arith)
  run_keys m k (suc n) zero x l =
      let e : k ≡ k + 0 = omega arith in subst (HasKey (with_run (insert m k x) (suc k) n x)) e
      (run_kept (insert m k x) (suc k) n k x (key_of (insert m k x) k x (insert_same m k x)))
  run_keys m k (suc n) (suc q) x l = let e : suc k + q ≡ k + suc q = omega arith in subst (HasKey (with_run (insert m k x) (suc k) n x)) e (run_keys (insert m k x) (suc k) n q x (omega arith))

-- one more word holds its units
pub words_stored : (v : View) (wide : Bool) (start at word : ℕ) (us : List ℕ) → AreWords v wide start us at → IsWordOf wide us at word →
    AreWords (stored_word v (start + at) word) wide start us (suc at)
words_stored v wide start at word us h is = record {
  each = λ q l. dite (ℕ_discrete q at)
      (λ (e : q ≡ at). (
        word,
        ap (λ (n : ℕ). get (insert v.own_words (start + at) word) (start + n)) e ∙ insert_same v.own_words
            (start + at) word,
        subst (λ (n : ℕ). IsWordOf wide us n word) (sym e) is,
      ))
      (λ ne. let t = h.each q (omega arith) in (t.0, insert_other v.own_words (start + at) (start + q) word (λ e. ne (omega arith)) ∙ t.1, t.2));
}
