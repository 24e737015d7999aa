-- What a store's callers see of a view that goes on.
use Rattle.std.proofs.Common.{◌≡◌, ℕ, ◌<◌, ◌≤◌, true, false, List, [], ◌++◌, sym, refl, ap, ◌∙◌, subst, arith, append_assoc, Option, Some, None, IsTrue}
use Rattle.std.specs.Prelude.{Contains, unwrap_or, IsSome}
use Rattle.std.proofs.lemmas.List.{append-nil}
use Rattle.std.proofs.lemmas.List.Elements.{Contains-append_left}
use Rattle.std.specs.FinMap.{FinMap, get}
use Rattle.std.specs.Ordering.{nat_cmp}
use Rattle.atomic_table.specs.Seated.{TableId}
use Rattle.js_header.specs.declared.form.Form.{Form}
use Rattle.js_header.specs.declared.form.Form.TheVariants.{Unborn, Flat, Cons, Sliced, Thin}
use Rattle.js_store.specs.declared.faults.StoreFault.{StoreFault}
use Rattle.js_store.specs.Faults.{NeverSlots, StoreStep, Uses}
use Rattle.js_store.specs.State.{Grows}
use Rattle.js_store.proofs.Laws.{step_within}
use Rattle.heap_rule.specs.declared.size.Counters.{Counters}
use Rattle.heap_rule.specs.declared.size.HeapSize.{HeapSize}
use Rattle.heap_rule.specs.declared.view.View.{View}
use Rattle.heap_rule.specs.Forms.{IsCons}
use Rattle.heap_rule.specs.Maps.{Has, HasKey}
use Rattle.heap_rule.specs.Paths.{Calls}
use Rattle.heap_rule.specs.SlotTests.{shut}
use Rattle.heap_rule.specs.Sound.{IsPossible}
use Rattle.heap_rule.specs.Views.{IsSeenSettled, history}
use Rattle.heap_rule.proofs.MapLemmas.{has_key}
use Rattle.heap_rule.proofs.SlotTests.{shut_exactly}
use Rattle.heap_table.specs.Known.{KeepsKnown}
use Rattle.heap_read.specs.Reads.{Continues, OnlyLoads}
use Rattle.heap_intern.specs.Goes.{AddsCalls, LoadsAlone}
use Rattle.heap_intern.proofs.Visiting.{shut_kept}
use Rattle.heap_session.specs.Sessions.{state_by}
use Rattle.heap_session.specs.Settled.{is_settled}

-- the test of a settled string
test_of : (f : Form) → (IsCons f → ⊥) → IsTrue (is_settled (Some f))
test_of Unborn never = refl
test_of (Flat wide start fixed) never = refl
test_of (Cons wide left right) never = absurd (never tt)
test_of (Sliced wide parent offset) never = refl
test_of (Thin target) never = refl

settled_of : (o : Option Form) → IsTrue (is_settled o) → (f : Form) × (o ≡ Some f) × (IsCons f → ⊥)
settled_of None h = let e : false ≡ true = h in absurd (cc)
settled_of (Some Unborn) h = (Unborn, refl, λ x. x)
settled_of (Some (Flat wide start fixed)) h = (Flat wide start fixed, refl, λ x. x)
settled_of (Some (Cons wide left right)) h = let e : false ≡ true = h in absurd (cc)
settled_of (Some (Sliced wide parent offset)) h = (Sliced wide parent offset, refl, λ x. x)
settled_of (Some (Thin target)) h = (Thin target, refl, λ x. x)

pub settled_test : (v : View) (i : ℕ) → IsSeenSettled v i → IsTrue (is_settled (get v.forms i))
settled_test v i h = subst (λ (o : Option Form). IsTrue (is_settled o)) (sym h.1) (test_of h.0 h.2)

pub test_settled : (v : View) (i : ℕ) → IsTrue (is_settled (get v.forms i)) → IsSeenSettled v i
test_settled v i h = settled_of (get v.forms i) h

-- what is known of a number
pub text_is : (m : FinMap nat_cmp (List ℕ)) (n : ℕ) (us : List ℕ) → Has m n us → unwrap_or (get m n) [] ≡ us
text_is m n us h = ap (λ (o : Option (List ℕ)). unwrap_or o []) h

pub has_text : (m : FinMap nat_cmp (List ℕ)) (n : ℕ) → HasKey m n → Has m n (unwrap_or (get m n) [])
has_text m n h = let p = has_key m n h in p.1 ∙ ap Some (sym (text_is m n p.0 p.1))

module _ (v w : View) (k : KeepsKnown v w) where
  pub known_same : (n : ℕ) → IsSome (get v.units n) → get w.units n ≡ get v.units n
  known_same n h = let p = has_key v.units n h in k.units n p.0 p.1 ∙ sym p.1

  pub settled_same : (n : ℕ) → IsTrue (is_settled (get v.forms n)) → IsTrue (is_settled (get w.forms n))
  settled_same n h = settled_test w n (k.settled n (test_settled v n h))

  pub shut_same : IsPossible v → w.sizes ≡ v.sizes → (u : List ℕ) → IsTrue (shut v u v.sizes.slots) → IsTrue (shut w u w.sizes.slots)
  shut_same p z u h = (shut_exactly w u w.sizes.slots).1 (λ l m. shut_kept v w p k u l ((shut_exactly v u v.sizes.slots).0 h l (subst (λ (y : HeapSize). l < y.slots) z m)))

module _ (v w : View) (l : ℕ) (t : TableId) (p : IsPossible v) (k : KeepsKnown v w) (z : w.sizes ≡ v.sizes) (a : w.agents ≡ v.agents) (s : w.share ≡ v.share) (se : w.seen ≡ v.seen) where
  pub grows_by : v.used.ids ≤ w.used.ids → v.used.words ≤ w.used.words → v.low.ids ≤ w.low.ids →
      v.low.words ≤ w.low.words → ((u : List ℕ) (i : ℕ) → Contains (history v) (u, i) → Contains (history w) (u, i)) → Grows (state_by v l t) (state_by w l t)
  grows_by ui uw li lw h = record {
    known = known_same v w k;
    settled = settled_same v w k;
    shut = shut_same v w k p z;
    interned = h;
    used_ids = ui;
    used_words = uw;
    low_ids = li;
    low_words = lw;
    sizes = λ i. record { ids = (z i).ids; words = (z i).words; slots = (z i).slots };
    limit = refl;
    bounded = refl;
    sure = refl;
    frame = λ i. record { table = t; share = s i; agents = a i; seen = se i };
  }

-- a call that leaves the history
pub grows_continues : (v w : View) (l : ℕ) (t : TableId) → IsPossible v → Continues v w → Grows (state_by v l t) (state_by w l t)
grows_continues v w l t p c = grows_by v w l t p c.known c.sizes c.agents c.share c.seen c.ids_used c.words_used c.ids_low c.words_low
    (λ u i h. subst (λ (h : Calls). Contains h (u, i)) (λ j. sym c.seen j ++ sym c.mine j) h)

pub history_reads : (v w : View) → OnlyLoads v w → history w ≡ history v
history_reads v w r = λ i. r.seen i ++ r.mine i

pub history_continues : (v w : View) → Continues v w → history w ≡ history v
history_continues v w c = λ i. c.seen i ++ c.mine i

pub step_reads : (v w : View) (l : ℕ) (t : TableId) → IsPossible v → OnlyLoads v w → StoreStep (state_by v l t) (state_by w l t) None 0 0
step_reads v w l t p r = let ui = ap (λ (n : Counters). n.ids) r.used in let uw = ap (λ (n : Counters). n.words) r.used in
    let li = ap (λ (n : Counters). n.ids) r.low in let lw = ap (λ (n : Counters). n.words) r.low in record {
      grows = grows_by v w l t p r.known r.sizes r.agents r.share r.seen (omega arith) (omega arith) (omega arith) (omega arith)
          (λ u i h. subst (λ (h : Calls). Contains h (u, i)) (sym (history_reads v w r)) h);
      honest = tt;
      within_ids = omega arith;
      within_words = omega arith;
    }

-- a call on the string table
pub history_goes : (v w : View) (calls : Calls) → AddsCalls v w calls → history w ≡ history v ++ calls
history_goes v w calls g = (λ i. g.seen i ++ g.mine i) ∙ sym (append_assoc v.seen v.mine calls)

pub grows_goes : (v w : View) (calls : Calls) (l : ℕ) (t : TableId) → IsPossible v → AddsCalls v w calls → Grows (state_by v l t) (state_by w l t)
grows_goes v w calls l t p g = grows_by v w l t p g.known g.sizes g.agents g.share g.seen g.ids_used g.words_used g.ids_low g.words_low
    (λ u i h. subst (λ (h : Calls). Contains h (u, i)) (sym (history_goes v w calls g)) (Contains-append_left (history v) calls (u, i) h))

-- the same table, as it was before
pub step_at : (v w : View) (l : ℕ) (t u : TableId) (f : Option StoreFault) (i n : ℕ) → u ≡ t → StoreStep (state_by v l t) (state_by w l t) f i n → StoreStep (state_by v l t) (state_by w l u) f i n
step_at v w l t u f i n e h = subst (λ (x : TableId). StoreStep (state_by v l t) (state_by w l x) f i n) (sym e) h

-- a call that leaves the history, and doesn't find the string table full
pub uses_at : (v w : View) (l : ℕ) (t u : TableId) (f : Option StoreFault) (i n : ℕ) → u ≡ t → history w ≡ history v → NeverSlots f →
    StoreStep (state_by v l t) (state_by w l t) f i n → Uses (state_by v l t) (state_by w l u) f i n
uses_at v w l t u f i n e h never s = record { step = step_at v w l t u f i n e s; no_slots = never; history = h }

-- nothing was used, and more might have been
pub step_most : (v w : View) (l : ℕ) (t : TableId) (i n : ℕ) → IsPossible v → OnlyLoads v w → StoreStep (state_by v l t) (state_by w l t) None i n
step_most v w l t i n p r = step_within (step_reads v w l t p r) (omega arith) (omega arith)

-- loads of slots
pub step_looks : (v w : View) (l : ℕ) (t : TableId) → IsPossible v → LoadsAlone v w → StoreStep (state_by v l t) (state_by w l t) None 0 0
step_looks v w l t p k = let a = k.used in let b = k.words in record { grows = grows_goes v w [] l t p k.goes; honest = tt; within_ids = omega arith; within_words = omega arith }

pub history_looks : (v w : View) → LoadsAlone v w → history w ≡ history v
history_looks v w k = history_goes v w [] k.goes ∙ append-nil (history v)

-- a call is entered, and nothing used
pub found_step : (v w : View) (calls : Calls) (l : ℕ) (t : TableId) → IsPossible v → AddsCalls v w calls → w.used.ids ≡ v.used.ids →
    w.used.words ≡ v.used.words → StoreStep (state_by v l t) (state_by w l t) None 0 0
found_step v w calls l t p g e d = record { grows = grows_goes v w calls l t p g; honest = tt; within_ids = omega arith; within_words = omega arith }
