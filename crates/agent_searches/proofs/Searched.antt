-- What a search leaves of what an agent knows, and what it says of the strings.
use Rattle.std.proofs.Common.{◌≡◌, ◌↔◌, ℕ, ◌++◌, List, refl, sym, ◌∙◌, subst, arith, Option, Some, None}
use Rattle.std.specs.Prelude.{Contains, IsSome}
use Rattle.std.specs.Borrow.{GName}
use Rattle.std.specs.declared.cmp.Ordering.{Ordering}
use Rattle.std.specs.declared.cmp.Ordering.TheVariants.{Less, Equal, Greater}
use Rattle.std.specs.FinMap.{FinMap, get}
use Rattle.std.specs.Ordering.{nat_cmp}
use Rattle.js_store.specs.Faults.{Uses}
use Rattle.heap_rule.specs.declared.view.View.{View}
use Rattle.heap_rule.specs.Maps.{Has}
use Rattle.heap_rule.specs.Paths.{Calls}
use Rattle.heap_table.specs.Agents.{view_of}
use Rattle.heap_read.specs.Reads.{OnlyLoads}
use Rattle.heap_text.specs.Texts.{KeepsOwn}
use Rattle.heap_text.proofs.Owned.{own_reads}
use Rattle.heap_session.proofs.States.{settled_test, test_settled}
use Rattle.js_search.specs.Order.{Precedes, units_cmp}
use Rattle.js_search.proofs.Lexical.{is_greater, is_less, is_same}
use Rattle.heap_agents.specs.declared.held.Held.{Held}
use Rattle.heap_notes.specs.declared.seats.Seats.{Seats}
use Rattle.heap_agents.specs.Held.{IsHeld, LeavesSearched, view_by}
use Rattle.heap_notes.specs.Noted.{AreNoted}
use Rattle.heap_agents.specs.Searched.{KeepsStrings}
use Rattle.heap_agents.specs.Shared.{IsSameText, SharedText, heap_of, view_if}
use Rattle.heap_agents.proofs.Marks.{held_on, kept_marks, same_text, still, told}
use Rattle.agent_searches.specs.Looking.{state_at}
use Rattle.agent_searches.specs.Order.{IsOrder}

is_some : (o : Option (List ℕ)) (us : List ℕ) → o ≡ Some us → IsSome o
is_some o us e = subst (λ (p : Option (List ℕ)). IsSome p) (sym e) refl

-- by what a store's callers see
strings : (a b : SharedText) (m n : GName) (s t : Seats) → Uses (state_at a m s) (state_at b n t) None 0 0 → KeepsStrings (view_of a.reader.agent) (view_of b.reader.agent)
strings a b m n s t u = let p = u.step in let o = p.grows in let v : View = view_of a.reader.agent in let w : View = view_of b.reader.agent in
    let x = o.used_ids in let y = o.used_words in let c = p.within_ids in let d = p.within_words in record {
      units = λ i us k. o.known i (is_some (get v.units i) us k) ∙ k;
      settled = λ i k. test_settled w i (o.settled i (settled_test v i k));
      sizes = λ i. record { ids = (o.sizes i).ids; words = (o.sizes i).words; slots = (o.sizes i).slots };
      agents = λ i. (o.frame i).session.agents;
      share = λ i. (o.frame i).session.share;
      used_ids = omega arith;
      used_words = omega arith;
      low_ids = o.low_ids;
      low_words = o.low_words;
      seen = λ i. (o.frame i).session.seen;
      calls = u.history;
    }

-- what is its own stays so
owned : (a b : SharedText) (m n : GName) (s t : Seats) → Uses (state_at a m s) (state_at b n t) None 0 0 → KeepsOwn (view_of a.reader.agent) (view_of b.reader.agent)
owned a b m n s t u = let v : View = view_of a.reader.agent in let w : View = view_of b.reader.agent in
    let ids : w.own_ids ≡ v.own_ids = (λ i. (u.step.grows.frame i).own_ids) in let words : w.own_words ≡ v.own_words = (λ i. (u.step.grows.frame i).own_words) in record {
      ids = λ i k h. subst (λ (m : FinMap nat_cmp ℕ). Has m i k) (sym ids) h;
      words = λ c x h. subst (λ (m : FinMap nat_cmp ℕ). Has m c x) (sym words) h;
    }

-- what loads alone leave
by_loads : (v w : View) → OnlyLoads v w → KeepsStrings v w
by_loads v w o = let ids : w.low.ids ≡ v.low.ids = λ i. (o.low i).ids in let words : w.low.words ≡ v.low.words = λ i. (o.low i).words in record {
  units = o.known.units;
  settled = o.known.settled;
  sizes = o.sizes;
  agents = o.agents;
  share = o.share;
  used_ids = λ i. (o.used i).ids;
  used_words = λ i. (o.used i).words;
  low_ids = omega (arith, ids);
  low_words = omega (arith, words);
  seen = o.seen;
  calls = λ i. o.seen i ++ o.mine i;
}

pub loaded : (x : Held) (t u : SharedText) → x.text ≡ Some t → heap_of u ≡ heap_of t → u.limit ≡ t.limit → IsHeld x
    → OnlyLoads (view_of t.reader.agent) (view_of u.reader.agent) → LeavesSearched x (record x { text = Some u })
loaded x t u own heap limit held o = let kept = by_loads (view_of t.reader.agent) (view_of u.reader.agent) o in record {
  held = held_on x t u own heap limit held o.known (record { calls = λ v i h. subst (λ (m : Calls). Contains m (v, i)) (sym kept.calls) h }) o.agents
      (own_reads (view_of t.reader.agent) (view_of u.reader.agent) o);
  same = same_text x t u own heap limit;
  strings = told x t u own KeepsStrings kept;
  marks = kept_marks x (Some u);
  marked = (refl, refl);
}

order_of : (us vs : List ℕ) (o : Ordering) → (o ≡ Less) ↔ Precedes us vs → (o ≡ Equal) ↔ (us ≡ vs) → (o ≡ Greater) ↔ Precedes vs us → IsOrder us vs o
order_of us vs Less a b d = a.0 refl
order_of us vs Equal a b d = b.0 refl
order_of us vs Greater a b d = d.0 refl

-- the order of two strings means what it says
pub means : (x : Held) (t : SharedText) → x.text ≡ Some t → (a b : ℕ) (o : Ordering)
    → ((us vs : List ℕ) → Has (view_of t.reader.agent).units a us → Has (view_of t.reader.agent).units b vs → o ≡ units_cmp us vs)
    → (us vs : List ℕ) → Has (view_by x).units a us → Has (view_by x).units b vs → IsOrder us vs o
means x t own a b o f us vs h k =
    let e = f us vs (subst (λ (m : Option SharedText). Has (view_if m).units a us) own h) (subst (λ (m : Option SharedText). Has (view_if m).units b vs) own k) in
    order_of us vs o (is_less us vs o e) (is_same us vs o e) (is_greater us vs o e)

-- the strings of the text t of x were searched, and the text z is left
pub searched : (x : Held) (t z : SharedText) (m n : GName) (s : Seats) → x.text ≡ Some t → IsHeld x → Uses (state_at t m x.seats) (state_at z n s) None 0 0
    → AreNoted (view_of z.reader.agent) s → LeavesSearched x (record x { text = Some z })
searched x t z m n s own held u right =
    let left : s ≡ x.seats = (λ i. (u.step.grows.frame i).seats) in
    let kept : KeepsStrings (view_by x) (view_of z.reader.agent) = told x t z own KeepsStrings (strings t z m n x.seats s u) in
    let one : IsSameText x.text (Some z) = same_text x t z own (λ i. (u.step.grows.frame i).heap) (λ i. (u.step.grows.frame i).limit) in record {
      held = still x (Some z) held tt one kept.units (record { calls = λ v i h. subst (λ (m : Calls). Contains m (v, i)) (sym kept.calls) h }) kept.agents
          (subst (AreNoted (view_of z.reader.agent)) left right) (told x t z own KeepsOwn (owned t z m n x.seats s u));
      same = one;
      strings = kept;
      marks = kept_marks x (Some z);
      marked = (refl, refl);
    }
