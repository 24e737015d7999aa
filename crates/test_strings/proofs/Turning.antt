-- What calls leave of an agent, one after another, and of the strings that a play made.
use Rattle.std.proofs.Common.{◌≡◌, ℕ, ◌⊎◌, ⊎_elim, true, List, [], ◌∷◌, ◌++◌, refl, sym, ap, ◌∙◌, subst, append_assoc, arith, Option, Some, None, Result, Ok, Err, IfOk}
use Rattle.std.proofs.lemmas.List.{append-nil}
use Rattle.std.specs.Prelude.{Contains, IfSome}
use Rattle.heap_rule.specs.declared.view.View.{View}
use Rattle.heap_rule.specs.Maps.{Has, HasKey}
use Rattle.heap_rule.specs.Paths.{Calls}
use Rattle.heap_table.specs.Known.{KeepsKnown}
use Rattle.heap_rule.specs.Births.{part}
use Rattle.heap_rule.proofs.MapLemmas.{key_of}
use Rattle.heap_read.specs.declared.heap_ref.HeapRef.{Ghosts}
use Rattle.heap_read.specs.declared.reader.Reader.{Reader}
use Rattle.heap_read.specs.declared.string.JsStr.{JsStr}
use Rattle.heap_text.specs.declared.faults.TextFull.{TextFull}
use Rattle.heap_text.proofs.Settled.{ok_then}
use Rattle.heap_read.specs.Readers.{MovesView, view_in}
use Rattle.heap_read.specs.Reads.{Continues, OnlyLoads}
use Rattle.heap_read.proofs.Loaded.{key_kept, known_refl, known_trans}
use Rattle.heap_intern.specs.declared.table.faults.TableFull.{TableFull}
use Rattle.heap_intern.specs.Answers.{FindsString, IsInternAnswer, HeaderPlan}
use Rattle.heap_intern.specs.Goes.{AddsCalls}
use Rattle.heap_rule.specs.Agents.{MayJoin, left_after_split, right_after_split}
use Rattle.test_strings.specs.Turns.{HasGoneOn, IsPlayed, Turns}

no_one : (i : ℕ) → Contains [] i → ⊥
no_one i h = absurd (omega (arith, h))

pub turns_refl : (v : View) → Turns v v
turns_refl v = record { known = known_refl v; agents = refl; live = refl; share = refl; seen = refl; calls = []; mine = sym (append-nil v.mine) }

pub turns_trans : (u v w : View) → Turns u v → Turns v w → Turns u w
turns_trans u v w a b = record {
  known = known_trans u v w a.known b.known;
  agents = b.agents ∙ a.agents;
  live = b.live ∙ a.live;
  share = b.share ∙ a.share;
  seen = b.seen ∙ a.seen;
  calls = a.calls ++ b.calls;
  mine = b.mine ∙ (ap (λ (m : Calls). m ++ b.calls) a.mine ∙ append_assoc u.mine a.calls b.calls);
}

pub turns_continues : (v w : View) → Continues v w → Turns v w
turns_continues v w c = record { known = c.known; agents = c.agents; live = c.live; share = c.share; seen = c.seen; calls = []; mine = c.mine ∙ sym (append-nil v.mine) }

pub turns_reads : (v w : View) → OnlyLoads v w → Turns v w
turns_reads v w c = record { known = c.known; agents = c.agents; live = c.live; share = c.share; seen = c.seen; calls = []; mine = c.mine ∙ sym (append-nil v.mine) }

pub turns_goes : (v w : View) (calls : Calls) → AddsCalls v w calls → Turns v w
turns_goes v w calls g = record { known = g.known; agents = g.agents; live = g.live; share = g.share; seen = g.seen; calls = calls; mine = g.mine }

pub turns_interns : (v w : View) (us : List ℕ) (plan : HeaderPlan) (r : Result ℕ TableFull) → IsInternAnswer v w us plan r → Turns v w
turns_interns v w us plan (Ok i) h = turns_goes v w ((us, i) ∷ []) h.0
turns_interns v w us plan (Err f) h = turns_goes v w [] h.0

pub turns_finds : (v w : View) (us : List ℕ) (r : Option ℕ) → FindsString v w us r → Turns v w
turns_finds v w us (Some i) h = turns_goes v w ((us, i) ∷ []) h.0
turns_finds v w us None h = turns_goes v w [] h.0.goes

pub found_key : (v w : View) (us : List ℕ) (r : Option ℕ) → FindsString v w us r → IfSome r (λ i. HasKey w.units i)
found_key v w us (Some i) h = key_of w.units i us h.2.1
found_key v w us None h = tt

module _ {H : Type 0} {r : Ghosts H} where
  pub moves_refl : (a : Reader H r) → MovesView Turns a a
  moves_refl a = record { heap = refl; view = turns_refl (view_in a) }

  pub moves_trans : (a b c : Reader H r) → MovesView Turns a b → MovesView Turns b c → MovesView Turns a c
  moves_trans a b c g h = record { heap = h.heap ∙ g.heap; view = turns_trans (view_in a) (view_in b) (view_in c) g.view h.view }

  pub moves_continues : (a b : Reader H r) → b.heap ≡ a.heap → Continues (view_in a) (view_in b) → MovesView Turns a b
  moves_continues a b e c = record { heap = e; view = turns_continues (view_in a) (view_in b) c }

  pub moves_reads : (a b : Reader H r) → b.heap ≡ a.heap → OnlyLoads (view_in a) (view_in b) → MovesView Turns a b
  moves_reads a b e c = record { heap = e; view = turns_reads (view_in a) (view_in b) c }

-- strings that were made stay known
pub played_on : (v w : View) (n : ℕ) (ids : List ℕ) → Turns v w → IsPlayed v n ids → IsPlayed w n ids
played_on v w n ids t p = record { known = λ i h. key_kept v w i t.known (p.known i h); agents_are = t.agents ∙ p.agents_are }

-- one string more
pub played_more : (v : View) (n : ℕ) (ids more : List ℕ) (s : ℕ) → ((i : ℕ) → Contains more i → Contains ids i ⊎ (i ≡ s)) → HasKey v.units s → IsPlayed v n ids → IsPlayed v n more
played_more v n ids more s some known p = record {
  known = λ i h. ⊎_elim (λ (c : Contains ids i). p.known i c) (λ (e : i ≡ s). subst (λ (j : ℕ). HasKey v.units j) (sym e) known) (some i h);
  agents_are = p.agents_are;
}

pub played_put : (v w : View) (n : ℕ) (ids more : List ℕ) (s : ℕ) → Turns v w → IsPlayed v n ids → ((i : ℕ) → Contains more i → Contains ids i ⊎ (i ≡ s)) → HasKey w.units s → IsPlayed w n more
played_put v w n ids more s t p some known = played_more w n ids more s some known (played_on v w n ids t p)

module _ {H : Type 0} {r : Ghosts H} where
  pub gone_on : (a b : Reader H r) → MovesView Turns a b → HasGoneOn a b
  unfolding HasGoneOn
  gone_on a b g = g

  pub goes_of : (a b : Reader H r) → HasGoneOn a b → MovesView Turns a b
  unfolding HasGoneOn
  goes_of a b g = g

-- v was split into l and r, and each went on
module _ (v l r a b : View) (give : ℕ) (left : l ≡ left_after_split v give) (right : r ≡ right_after_split v give) (ta : Turns l a) (tb : Turns r b) where
  pub may_join : v.live ≡ true → MayJoin a b
  may_join live = let sa : a.seen ≡ v.seen = ta.seen ∙ ap (λ (x : View). x.seen) left in
      let ma : a.mine ≡ v.mine ++ ta.calls = ta.mine ∙ ap (λ (x : View). x.mine ++ ta.calls) left in
      let sb : b.seen ≡ v.seen ++ v.mine = tb.seen ∙ ap (λ (x : View). x.seen) right in (
        tb.live ∙ (ap (λ (x : View). x.live) right ∙ live),
        (v.mine, sb ∙ ap (λ (x : Calls). x ++ v.mine) (sym sa)),
        (ta.calls, ap (λ (x : Calls). x ++ a.mine) sa ∙ (ap (λ (x : Calls). v.seen ++ x) ma ∙ (sym (append_assoc v.seen v.mine ta.calls) ∙ ap (λ (x : Calls). x ++ ta.calls) (sym sb)))),
      )

-- the strings of both are known to the agent that they become
pub played_joined : (a b c : View) (n : ℕ) (ids lent others more : List ℕ) (k : ℕ) → KeepsKnown a c → KeepsKnown b c → c.agents ≡ a.agents → IsPlayed a n ids → IsPlayed b k others
    → lent ≡ others → ((i : ℕ) → Contains more i → Contains ids i ⊎ Contains lent i) → IsPlayed c n more
played_joined a b c n ids lent others more k ka kb same p q e some = record {
  known = λ i h. ⊎_elim (λ (d : Contains ids i). key_kept a c i ka (p.known i d)) (λ (d : Contains lent i). key_kept b c i kb (q.known i (subst (λ (l : List ℕ). Contains l i) e d))) (some i h);
  agents_are = same ∙ p.agents_are;
}

-- a split leaves the strings known to both
pub played_left : (v : View) (n : ℕ) (ids : List ℕ) → IsPlayed v n ids → IsPlayed (left_after_split v 1) n ids
played_left v n ids p = record { known = p.known; agents_are = p.agents_are }

pub played_right : (v : View) (n : ℕ) (ids : List ℕ) → IsPlayed v n ids → IsPlayed (right_after_split v 1) n ids
played_right v n ids p = record { known = p.known; agents_are = p.agents_are }

-- some of the strings
pub played_some : (v : View) (n : ℕ) (more none lent ids : List ℕ) → none ≡ [] → lent ≡ ids → ((i : ℕ) → Contains more i → Contains none i ⊎ Contains lent i) → IsPlayed v n ids → IsPlayed v n more
played_some v n more none lent ids e f some p = record {
  known = λ i h. ⊎_elim (λ (d : Contains none i). absurd (no_one i (subst (λ (l : List ℕ). Contains l i) e d)))
      (λ (d : Contains lent i). p.known i (subst (λ (l : List ℕ). Contains l i) f d)) (some i h);
  agents_are = p.agents_are;
}

-- a part of a known string is known
pub cut_known : (v w : View) (i from count : ℕ) (r : Result JsStr TextFull) (us : List ℕ) → Has v.units i us
    → IfOk r (λ t. (vs : List ℕ) → Has v.units i vs → Has w.units t.id (part from count vs)) → IfOk r (λ t. HasKey w.units t.id)
cut_known v w i from count r us h u = ok_then r (λ t. (vs : List ℕ) → Has v.units i vs → Has w.units t.id (part from count vs))
    (λ t. HasKey w.units t.id) (λ t k. key_of w.units t.id (part from count us) (k us h)) u

-- what a string is interned as is known
pub answer_known : (v w : View) (us : List ℕ) (plan : HeaderPlan) (r : Result ℕ TableFull) → IsInternAnswer v w us plan r → IfOk r (λ i. HasKey w.units i)
answer_known v w us plan (Ok i) h = key_of w.units i us h.3.1
answer_known v w us plan (Err f) h = tt
