-- Helpers: no public contract reaches these definitions.
-- Interning that goes on from an opening for the units, as the crate's own functions see it.
use Rattle.std.specs.Prelude.{ℕ, List, Result, IfOk}
use Rattle.heap_table.specs.Known.{KeepsKnown}
use Rattle.heap_intern.specs.declared.table.faults.TableFull.{TableFull}
use Rattle.heap_intern.specs.declared.table.searching.Opening.{Opening}
use Rattle.heap_intern.specs.Answers.{HeaderPlan}
use Rattle.heap_intern.specs.Searching.{LoadsFrom}
use Rattle.heap_reserve.specs.Interning.{InternsAt}
use Rattle.heap_agents.specs.declared.held.Held.{Held}
use Rattle.heap_agents.specs.Held.{IsHeld, IsSame, StaysMarked, view_by}
use Rattle.heap_agents.specs.Interned.{HasEntered, KeepsCalls}
use Rattle.agent_keys.specs.Keys.{InternsRenewing, MarksAnswer}

pub record TakesKey (z y : Held) (us : List ℕ) (plan : HeaderPlan) (o : Opening) (r : Result ℕ TableFull)
    : Type 0 where
  pub held : IsHeld y
  pub same : IsSame z y
  pub marks : StaysMarked z y
  pub marked : MarksAnswer z y r
  pub known : KeepsKnown (view_by z) (view_by y)
  pub calls : KeepsCalls (view_by z) (view_by y)
  pub entered : IfOk r (λ i. HasEntered (view_by y) us i)
  pub interns : InternsAt (view_by z) (view_by y) z.reserve y.reserve us plan r
  pub loads : LoadsFrom (view_by z) (view_by y) us o

-- what is so of every call that interns units by a plan
pub record Interns (x y : Held) (us : List ℕ) (plan : HeaderPlan) (r : Result ℕ TableFull) : Type 0 where
  pub held : IsHeld y
  pub same : IsSame x y
  pub marks : StaysMarked x y
  pub marked : MarksAnswer x y r
  pub known : KeepsKnown (view_by x) (view_by y)
  pub calls : KeepsCalls (view_by x) (view_by y)
  pub entered : IfOk r (λ i. HasEntered (view_by y) us i)
  pub interns : InternsRenewing x y us plan r
