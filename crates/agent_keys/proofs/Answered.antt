-- What looking for units leaves, once what was found is marked.
use Rattle.std.proofs.Common.{◌≡◌, ℕ, List, Option, None, Some, refl, subst, sym}
use Rattle.heap_rule.specs.declared.view.View.{View}
use Rattle.heap_table.specs.Known.{KeepsKnown}
use Rattle.heap_intern.specs.Answers.{FindsString}
use Rattle.heap_intern.specs.Given.{FindsGiven}
use Rattle.heap_agents.specs.declared.held.Held.{Held}
use Rattle.heap_notes.specs.declared.seats.Seats.{Seats}
use Rattle.heap_agents.specs.Held.{IsHeld, KeepsMarks, MarksOnlyKey, view_by}
use Rattle.heap_agents.specs.Interned.{HasEntered, KeepsCalls}
use Rattle.agent_keys.specs.Keys.{FoundUnits}
use Rattle.heap_notes.specs.Noted.{AreNoted}
use Rattle.heap_agents.specs.Shared.{IsSameText, IsThere, SharedText, view_if}
use Rattle.agent_keys.proofs.Interned.{agents_found, calls_found, entered_found, known_found, own_found}
use Rattle.heap_agents.proofs.Marks.{noted}

-- a call by which the text of x became m, and what x notes `seats`
module _ (x : Held) (m : Option SharedText) (seats : Seats) (held : IsHeld x) (there : IsThere m) (same : IsSameText x.text m) (right : AreNoted (view_if m) seats) (us : List ℕ) where
  abbrev v : View
  v = view_by x

  abbrev w : View
  w = view_if m

  abbrev left : Held
  left = record x { text = m; seats = seats }

  pub held_found : (r : Option ℕ) → FindsString (view_by x) (view_if m) us r → IsHeld (record x { text = m; seats = seats })
  held_found r i = noted x m held there same (known_found v w us r i).units (calls_found v w us r i) (agents_found v w us r i) seats right (own_found v w us r i)

  kept : KeepsMarks x left
  kept = record { known = λ i h. h; interned = λ i h. h; number = λ i. x.number; giver = λ i. x.giver; reserve = λ i. x.reserve; blocks = λ i. x.blocks }

  -- nothing is marked
  pub missing_units : FindsGiven (view_by x) (view_if m) us None → FoundUnits x (record x { text = m; seats = seats }) us None
  missing_units g = record {
    held = held_found None g.answer;
    same = same;
    marks = kept;
    marked = (refl, refl);
    known = known_found v w us None g.answer;
    calls = calls_found v w us None g.answer;
    entered = tt;
    finds = g.answer;
    again = g.again;
  }

  -- the answer i is marked, which leaves y
  module _ (y : Held) (is : y.text ≡ m) (i : ℕ) (own : IsHeld y) (keeps : KeepsMarks (record x { text = m; seats = seats }) y) (marked : MarksOnlyKey (record x { text = m; seats = seats }) y i) where
    at_end : (P : Option SharedText → Type 0) → P m → P y.text
    at_end P h = subst P (sym is) h

    marks : KeepsMarks x y
    marks = record { known = keeps.known; interned = keeps.interned; number = keeps.number; giver = keeps.giver; reserve = keeps.reserve; blocks = keeps.blocks }

    both : MarksOnlyKey x y i
    both = record { known = marked.known; interned = marked.interned; only = marked.only; only_interned = marked.only_interned }

    pub found_marked : FindsGiven (view_by x) (view_if m) us (Some i) → FoundUnits x y us (Some i)
    found_marked g = record {
      held = own;
      same = at_end (λ (n : Option SharedText). IsSameText x.text n) same;
      marks = marks;
      marked = both;
      known = at_end (λ (n : Option SharedText). KeepsKnown (view_by x) (view_if n)) (known_found v w us (Some i) g.answer);
      calls = at_end (λ (n : Option SharedText). KeepsCalls (view_by x) (view_if n)) (calls_found v w us (Some i) g.answer);
      entered = at_end (λ (n : Option SharedText). HasEntered (view_if n) us i) (entered_found v w us (Some i) g.answer);
      finds = at_end (λ (n : Option SharedText). FindsString (view_by x) (view_if n) us (Some i)) g.answer;
      again = g.again;
    }
