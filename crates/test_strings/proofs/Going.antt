-- What calls leave of a session, one after another, of the strings that a play made there, and of two sessions that were split from one.
use Rattle.std.proofs.Common.{◌≡◌, ℕ, ◌+◌, ◌⊎◌, ⊎_elim, Bool, true, false, List, [], ◌∷◌, ◌++◌, refl, sym, ap, ◌∙◌, subst, append_assoc, arith, Option}
use Rattle.std.proofs.lemmas.List.{append-nil}
use Rattle.std.specs.Prelude.{Contains, IsSome, length}
use Rattle.heap_rule.specs.Paths.{Calls, StartsWith}
use Rattle.heap_rule.specs.declared.view.View.{View}
use Rattle.heap_table.specs.declared.heap.Heap.{Heap}
use Rattle.js_store.specs.Faults.{StoreStep, Uses}
use Rattle.js_store.specs.declared.faults.StoreFault.{StoreFault}
use Rattle.js_store.specs.State.{IsKnown, State}
use Rattle.heap_session.specs.Sessions.{SessionFrame, state_by}
use Rattle.heap_session.specs.Shares.{IsSessionJoined, IsOf, MayJoinSession, giver_after, right_by, total_by}
use Rattle.test_strings.specs.Sessions.{GoesOn, HasGoneOn, IsPlayed, IsSplit}
use Rattle.test_strings.specs.Turns as there
use Rattle.atomic_table.specs.Seated.{TableId}

pub goes_refl : (a : State SessionFrame) → GoesOn a a
goes_refl a = record { known = λ n h. refl; frame = refl; sizes = refl; limit = refl; history = ([], sym (append-nil a.history)) }

pub goes_trans : (a b c : State SessionFrame) → GoesOn a b → GoesOn b c → GoesOn a c
goes_trans a b c g h = let r = g.history in let s = h.history in record {
  known = λ n k. h.known n (subst (λ (o : Option (List ℕ)). IsSome o) (sym (g.known n k)) k) ∙ g.known n k;
  frame = h.frame ∙ g.frame;
  sizes = h.sizes ∙ g.sizes;
  limit = h.limit ∙ g.limit;
  history = (r.0 ++ s.0, s.1 ∙ (ap (λ (l : Calls). l ++ s.0) r.1 ∙ append_assoc a.history r.0 s.0));
}

pub goes_uses : (a b : State SessionFrame) (f : Option StoreFault) (i w : ℕ) → Uses a b f i w → GoesOn a b
goes_uses a b f i w u = let g = u.step.grows in record { known = g.known; frame = g.frame; sizes = g.sizes; limit = g.limit; history = ([], u.history ∙ sym (append-nil a.history)) }

pub goes_interned : (a b : State SessionFrame) (f : Option StoreFault) (i w : ℕ) (us : List ℕ) (n : ℕ) → StoreStep a b f i w → b.history ≡ a.history ++ (us, n) ∷ [] → GoesOn a b
goes_interned a b f i w us n s e = record { known = s.grows.known; frame = s.grows.frame; sizes = s.grows.sizes; limit = s.grows.limit; history = ((us, n) ∷ [], e) }

pub goes_total : (a b : State SessionFrame) → b ≡ total_by a → GoesOn a b
goes_total a b e = subst (GoesOn a) (sym e) record { known = λ n h. refl; frame = refl; sizes = refl; limit = refl; history = ([], sym (append-nil a.history)) }

pub known_on : (a b : State SessionFrame) (i : ℕ) → GoesOn a b → IsKnown a i → IsKnown b i
known_on a b i g k = subst (λ (o : Option (List ℕ)). IsSome o) (sym (g.known i k)) k

pub gone_on : (a b : State SessionFrame) → GoesOn a b → HasGoneOn a b
unfolding HasGoneOn
gone_on a b g = g

pub goes_of : (a b : State SessionFrame) → HasGoneOn a b → GoesOn a b
unfolding HasGoneOn
goes_of a b g = g

-- a session that went on is still one of its heap
pub still_of : (a b : State SessionFrame) (h : Heap) → GoesOn a b → IsOf a h → IsOf b h
still_of a b h g e = (ap (λ (f : SessionFrame). f.table) g.frame ∙ e.0, g.sizes ∙ e.1)

-- strings that were made stay known, and all else that a play says of its session stays
pub played_on : (a b : State SessionFrame) (h : Heap) (n : ℕ) (w : Bool) (ids : List ℕ) → GoesOn a b → IsPlayed a h n w ids → IsPlayed b h n w ids
played_on a b h n w ids g p = record {
  known = λ i c. subst (λ (o : Option (List ℕ)). IsSome o) (sym (g.known i (p.known i c))) (p.known i c);
  of = still_of a b h g p.of;
  agents_are = ap (λ (f : SessionFrame). f.agents) g.frame ∙ p.agents_are;
  whole_is = λ e. ap (λ (f : SessionFrame). f.share) g.frame ∙ (p.whole_is e ∙ sym (ap (λ (f : SessionFrame). f.agents) g.frame));
  none_seen = λ e. ap (λ (f : SessionFrame). length f.seen) g.frame ∙ p.none_seen e;
}

-- one string more
pub played_more : (a : State SessionFrame) (h : Heap) (n : ℕ) (w : Bool)
    (ids more : List ℕ) (s : ℕ) → ((i : ℕ) → Contains more i → Contains ids i ⊎ (i ≡ s)) → IsKnown a s → IsPlayed a h n w ids → IsPlayed a h n w more
played_more a h n w ids more s some known p = record {
  known = λ i c. ⊎_elim (λ (d : Contains ids i). p.known i d) (λ (e : i ≡ s). subst (λ (j : ℕ). IsKnown a j) (sym e) known) (some i c);
  of = p.of;
  agents_are = p.agents_are;
  whole_is = p.whole_is;
  none_seen = p.none_seen;
}

starts : (h s : Calls) → length s ≡ 0 → StartsWith h s
starts h [] e = (h, refl)
starts h (x ∷ xs) e = absurd (omega arith)

-- v was split into l and r, and each went on
module _ (v l r a b : State SessionFrame) (give : ℕ) (left : l ≡ giver_after v give) (right : r ≡ right_by v give) (ga : GoesOn l a) (gb : GoesOn r b) where
  frame_of_left : a.frame ≡ (giver_after v give).frame
  frame_of_left = ga.frame ∙ ap (λ (x : State SessionFrame). x.frame) left

  frame_of_right : b.frame ≡ (right_by v give).frame
  frame_of_right = gb.frame ∙ ap (λ (x : State SessionFrame). x.frame) right

  pub may_join : length v.frame.seen ≡ 0 → MayJoinSession a b
  may_join none = let s = starts v.history v.frame.seen none in record {
    table = ap (λ (f : SessionFrame). f.table) frame_of_right ∙ sym (ap (λ (f : SessionFrame). f.table) frame_of_left);
    sizes = (gb.sizes ∙ ap (λ (x : State SessionFrame). x.sizes) right) ∙ sym (ga.sizes ∙ ap (λ (x : State SessionFrame). x.sizes) left);
    limit = (gb.limit ∙ ap (λ (x : State SessionFrame). x.limit) right) ∙ sym (ga.limit ∙ ap (λ (x : State SessionFrame). x.limit) left);
    first = (
      s.0,
      ap (λ (f : SessionFrame). f.seen) frame_of_right ∙ (s.1 ∙ ap (λ (c : Calls). c ++ s.0) (sym (ap (λ (f : SessionFrame). f.seen) frame_of_left))),
    );
    second = (
      ga.history.0,
      ga.history.1 ∙ ap (λ (c : Calls). c ++ ga.history.0) (ap (λ (x : State SessionFrame). x.history) left ∙ sym (ap (λ (f : SessionFrame). f.seen) frame_of_right)),
    );
  }

no_one : (i : ℕ) → Contains [] i → ⊥
no_one i h = absurd (omega (arith, h))

pub played_put : (a b : State SessionFrame) (h : Heap) (n : ℕ) (w : Bool) (ids more : List ℕ) (s : ℕ) → GoesOn a b → IsPlayed a h
    n w ids → ((i : ℕ) → Contains more i → Contains ids i ⊎ (i ≡ s)) → IsKnown b s → IsPlayed b h n w more
played_put a b h n w ids more s g p some known = played_more b h n w ids more s some known (played_on a b h n w ids g p)

-- the agent of a session, on a text
pub played_there : (v u : View) (l : ℕ) (t : TableId) (h : Heap) (n : ℕ) (w : Bool) (ids : List ℕ) → u ≡ v → IsPlayed (state_by v l t) h n w ids → there.IsPlayed u n ids
played_there v u l t h n w ids e p = subst (λ (x : View). there.IsPlayed x n ids) (sym e) record { known = p.known; agents_are = p.agents_are }

-- the strings are known to both of two sessions
pub played_left : (v l : State SessionFrame) (h : Heap) (n : ℕ) (w : Bool) (ids : List ℕ) → l ≡ giver_after v 1 → IsPlayed v h n w ids → IsPlayed l h n false ids
played_left v l h n w ids e p = subst (λ (s : State SessionFrame). IsPlayed s h n false ids)
    (sym e) record { known = p.known; of = p.of; agents_are = p.agents_are; whole_is = λ f. absurd (cc); none_seen = λ f. absurd (cc) }

pub played_right : (v r : State SessionFrame) (h : Heap) (n : ℕ) (w : Bool) (more none lent ids : List ℕ) → r ≡ right_by v 1 → none ≡ [] →
    lent ≡ ids → ((i : ℕ) → Contains more i → Contains none i ⊎ Contains lent i) → IsPlayed v h n w ids → IsPlayed r h n false more
played_right v r h n w more none lent ids e d f some p = subst (λ (s : State SessionFrame). IsPlayed s h n false more) (sym e) record {
  known = λ i c. ⊎_elim (λ (x : Contains none i). absurd (no_one i (subst (λ (l : List ℕ). Contains l i) d x)))
      (λ (x : Contains lent i). p.known i (subst (λ (l : List ℕ). Contains l i) f x)) (some i c);
  of = p.of;
  agents_are = p.agents_are;
  whole_is = λ g. absurd (cc);
  none_seen = λ g. absurd (cc);
}

-- two sessions that become one
pub played_joined : (a b c : State SessionFrame) (h k : Heap) (n m : ℕ) (w x : Bool) (ids lent others more : List ℕ) → MayJoinSession a b →
    IsSessionJoined a b c → a.frame.share + b.frame.share ≡ a.frame.agents → length a.frame.seen ≡ 0 → IsPlayed a h n w ids → IsPlayed b k m x others
    → lent ≡ others → ((i : ℕ) → Contains more i → Contains ids i ⊎ Contains lent i) → IsPlayed c h n true more
played_joined a b c h k n m w x ids lent others more may j all none p q e some = record {
  known = λ i d. ⊎_elim (λ (y : Contains ids i). subst (λ (o : Option (List ℕ)). IsSome o) (sym (j.known i (p.known i y))) (p.known i y))
      (λ (y : Contains lent i). let known = q.known i (subst (λ (l : List ℕ). Contains l i) e y) in subst (λ (o : Option (List ℕ)). IsSome o) (sym (j.known_of_other i known)) known) (some i d);
  of = (ap (λ (f : SessionFrame). f.table) j.frame ∙ p.of.0, j.sizes ∙ p.of.1);
  agents_are = ap (λ (f : SessionFrame). f.agents) j.frame ∙ p.agents_are;
  whole_is = λ g. ap (λ (f : SessionFrame). f.share) j.frame ∙ (all ∙ sym (ap (λ (f : SessionFrame). f.agents) j.frame));
  none_seen = λ g. ap (λ (f : SessionFrame). length f.seen) j.frame ∙ none;
}

pub none_again : (v l r a : State SessionFrame) → IsSplit v l r → GoesOn l a → length a.frame.seen ≡ 0
none_again v l r a s g = ap (λ (f : SessionFrame). length f.seen) (g.frame ∙ ap (λ (x : State SessionFrame). x.frame) s.left) ∙ s.none_seen

-- what the two have together is the whole share again
pub all_again : (v l r a b : State SessionFrame) → IsSplit v l r → GoesOn l a → GoesOn r b → a.frame.share + b.frame.share ≡ a.frame.agents
all_again v l r a b s g h = let p = ap (λ (f : SessionFrame). f.share) (g.frame ∙ ap (λ (x : State SessionFrame). x.frame) s.left) in
    let q = ap (λ (f : SessionFrame). f.share) (h.frame ∙ ap (λ (x : State SessionFrame). x.frame) s.right) in
    let m = ap (λ (f : SessionFrame). f.agents) (g.frame ∙ ap (λ (x : State SessionFrame). x.frame) s.left) in let w = s.whole in let t = s.two in omega arith
