-- What adopting a string from its slot, and telling a slot, leave, once the answer is marked.
use Rattle.std.proofs.Common.{◌≡◌, ℕ, List, Option, None, Some, refl, subst, sym}
use Rattle.heap_rule.specs.Maps.{Has}
use Rattle.heap_rule.specs.declared.view.View.{View}
use Rattle.heap_table.specs.Agents.{view_of}
use Rattle.heap_table.specs.Known.{KeepsKnown}
use Rattle.heap_intern.specs.Adopted.{AdoptsSlot, LoadsHere}
use Rattle.heap_agents.specs.declared.held.Held.{Held}
use Rattle.agent_keys.specs.Board.{AdoptedFrom}
use Rattle.heap_agents.specs.Held.{IsHeld, KeepsMarks, MarksOnlyKey, view_by}
use Rattle.heap_agents.specs.Interned.{HasEntered, KeepsCalls}
use Rattle.heap_agents.specs.Shared.{IsSameText, SharedText, heap_of, view_if}
use Rattle.agent_keys.proofs.Interned.{agents_adopted, calls_adopted, entered_adopted, known_adopted, own_adopted}
use Rattle.heap_agents.proofs.Marks.{held_on, kept_marks, same_text, told}

-- a call by which the text t became u
module _ (x : Held) (t u : SharedText) (own : x.text ≡ Some t) (heap : heap_of u ≡ heap_of t) (limit : u.limit ≡ t.limit) (held : IsHeld x) (k : ℕ) where
  abbrev pub v : View
  v = view_of t.reader.agent

  abbrev pub w : View
  w = view_of u.reader.agent

  pub held_adopted : (r : Option ℕ) → AdoptsSlot v w k r → IsHeld (record x { text = Some u })
  held_adopted r a = held_on x t u own heap limit held (known_adopted v w k r a) (calls_adopted v w k r a) (agents_adopted v w k r a) (own_adopted v w k r a)

  -- the string is marked
  pub adopted_marked : (i : ℕ) (y : Held) → y.text ≡ Some u → IsHeld y → KeepsMarks (record x { text = Some u }) y → MarksOnlyKey (record x { text = Some u }) y i → AdoptsSlot v w k (Some i)
      → ((j : ℕ) → Has v.slots k j → Some i ≡ Some j) → LoadsHere v w k 2 → AdoptedFrom x y k (Some i)
  adopted_marked i y is after keeps marked a again loads = let there : (P : Option SharedText → Type 0) → P (Some u) → P y.text = (λ P h. subst P (sym is) h) in record {
    held = after;
    same = there (λ (n : Option SharedText). IsSameText x.text n) (same_text x t u own heap limit);
    marks = record { known = keeps.known; interned = keeps.interned; number = keeps.number; giver = keeps.giver; reserve = keeps.reserve; blocks = keeps.blocks };
    marked = record { known = marked.known; interned = marked.interned; only = marked.only; only_interned = marked.only_interned };
    known = there (λ (n : Option SharedText). KeepsKnown (view_by x) (view_if n)) (told x t u own KeepsKnown (known_adopted v w k (Some i) a));
    calls = there (λ (n : Option SharedText). KeepsCalls (view_by x) (view_if n)) (told x t u own KeepsCalls (calls_adopted v w k (Some i) a));
    entered = there (λ (n : Option SharedText). (us : List ℕ) × HasEntered (view_if n) us i) (entered_adopted v w k (Some i) a);
    adopts = there (λ (n : Option SharedText). AdoptsSlot (view_by x) (view_if n) k (Some i)) (told x t u own (λ (a b : View). AdoptsSlot a b k (Some i)) a);
    again = told x t u own (λ (a b : View). (j : ℕ) → Has a.slots k j → Some i ≡ Some j) again;
    loads = there (λ (n : Option SharedText). LoadsHere (view_by x) (view_if n) k 2) (told x t u own (λ (a b : View). LoadsHere a b k 2) loads);
  }

  -- the slot was free
  pub adopted_none : AdoptsSlot v w k None → ((j : ℕ) → Has v.slots k j → None ≡ Some j) → LoadsHere v w k 1 → AdoptedFrom x (record x { text = Some u }) k None
  adopted_none a again loads = record {
    held = held_adopted None a;
    same = same_text x t u own heap limit;
    marks = kept_marks x (Some u);
    marked = (refl, refl);
    known = told x t u own KeepsKnown (known_adopted v w k None a);
    calls = told x t u own KeepsCalls (calls_adopted v w k None a);
    entered = tt;
    adopts = told x t u own (λ (a b : View). AdoptsSlot a b k None) a;
    again = told x t u own (λ (a b : View). (j : ℕ) → Has a.slots k j → None ≡ Some j) again;
    loads = told x t u own (λ (a b : View). LoadsHere a b k 1) loads;
  }
