-- The states of sessions that are split and joined.
use Rattle.std.proofs.Common.{◌≡◌, ℕ, ◌++◌, sym, refl, ap, ◌∙◌, append-nil, append_assoc}
use Rattle.std.proofs.lemmas.List.{append_cancel_left}
use Rattle.atomic_table.specs.Seated.{TableId}
use Rattle.js_store.specs.State.{StoreSizes}
use Rattle.heap_rule.specs.declared.size.HeapSize.{HeapSize}
use Rattle.heap_rule.specs.declared.view.View.{View}
use Rattle.heap_rule.specs.Agents.{joined_view, left_after_split, right_after_split}
use Rattle.heap_rule.specs.Claims.{loaded_counter}
use Rattle.heap_rule.specs.declared.size.Counter.TheVariants.{Ids, Words}
use Rattle.heap_rule.specs.Paths.{Calls}
use Rattle.heap_rule.specs.SlotTests.{differs, shut}
use Rattle.heap_rule.specs.Sound.{IsPossible}
use Rattle.heap_rule.specs.Views.{history}
use Rattle.heap_table.specs.declared.agent.Agent.{Agent}
use Rattle.heap_table.specs.declared.heap.Heap.{Heap}
use Rattle.heap_table.specs.Agents.{Belongs, size_of, view_of}
use Rattle.heap_table.specs.Known.{KeepsKnown}
use Rattle.heap_session.specs.Sessions.{state_by, table_of}
use Rattle.heap_session.specs.Shares.{IsSessionJoined, giver_after, right_by, sizes_of, total_by}
use Rattle.heap_session.proofs.States.{known_same, settled_same, shut_same}

pub state_left : (v : View) (give l : ℕ) (t : TableId) → state_by (left_after_split v give) l t ≡ giver_after (state_by v l t) give
unfolding shut differs
state_left v give l t = refl

pub state_right : (v : View) (give l : ℕ) (t : TableId) → state_by (right_after_split v give) l t ≡ right_by (state_by v l t) give
unfolding shut differs
state_right v give l t = λ i. record (right_by (state_by v l t) give) { history = append-nil (history v) i }

-- sizes that a store tells are those of the heap
abbrev pub sizes_in : HeapSize → StoreSizes
sizes_in z = record { ids = z.ids; words = z.words; slots = z.slots }

pub sizes_are : (y z : HeapSize) → sizes_in y ≡ sizes_in z → y ≡ z
sizes_are y z e = λ i. record { ids = (e i).ids; words = (e i).words; slots = (e i).slots }

module _ (v b : View) (l m : ℕ) (t u : TableId) (p : IsPossible v) (o : IsPossible b) (k : KeepsKnown v (joined_view v b)) (n : KeepsKnown b (joined_view v b)) (z : b.sizes ≡ v.sizes) where
  pub state_joined : IsSessionJoined (state_by v l t) (state_by b m u) (state_by (joined_view v b) l t)
  state_joined = record {
    known = known_same v (joined_view v b) k;
    known_of_other = known_same b (joined_view v b) n;
    settled = settled_same v (joined_view v b) k;
    settled_of_other = settled_same b (joined_view v b) n;
    shut = shut_same v (joined_view v b) k p refl;
    shut_of_other = shut_same b (joined_view v b) n o (sym z);
    history = λ calls e. ap (λ (c : Calls). v.seen ++ (v.mine ++ c)) (append_cancel_left b.seen b.mine calls e) ∙ sym (append_assoc v.seen v.mine calls);
    used_ids = refl;
    used_words = refl;
    low_ids = refl;
    low_words = refl;
    sizes = refl;
    limit = refl;
    frame = refl;
  }

-- the other's agent belongs to this session's heap
pub belongs_here : (a b : Agent) (h k : Heap) → Belongs a h → Belongs b k → table_of k ≡ table_of h → (view_of b).sizes ≡ (view_of a).sizes → Belongs b h
belongs_here a b h k p q t z = (q.0 ∙ t, z ∙ p.1, q.2, q.3, q.4, q.5)

-- an agent of one heap, told of by another value of the same heap
pub belongs_as : (a : Agent) (k h : Heap) → Belongs a k → table_of k ≡ table_of h → sizes_in (view_of a).sizes ≡ sizes_of h → Belongs a h
belongs_as a k h q t z = (q.0 ∙ t, sizes_are (view_of a).sizes (size_of h) z, q.2, q.3, q.4, q.5)

pub state_total : (v : View) (l : ℕ) (t : TableId) (a b : ℕ) → a ≡ v.used.ids → b ≡ v.used.words → state_by (loaded_counter (loaded_counter v Ids a) Words b) l t ≡ total_by (state_by v l t)
unfolding shut differs
state_total v l t a b e f = λ i. record (total_by (state_by v l t)) { low_ids = e i; low_words = f i }
