-- What interning a string, or units that are in none, leaves and answers, and what looking for units in the
-- string table does.
use Rattle.std.specs.Prelude.{◌≡◌, ◌⊎◌, ℕ, ◌+◌, ◌≤◌, List, Option, Some, None, Result, Ok, Err, IfOk, IfSome}
use Rattle.std.specs.Prelude.{IsOk}
use Rattle.js_header.specs.declared.form.Form.{Form}
use Rattle.js_header.specs.declared.form.Form.TheVariants.{Thin}
use Rattle.heap_rule.specs.Maps.{Has}
use Rattle.heap_table.specs.Known.{KeepsKnown}
use Rattle.heap_read.specs.Reads.{HoldsForms}
use Rattle.heap_intern.specs.declared.table.faults.TableFull.{TableFull}
use Rattle.heap_intern.specs.declared.table.searching.KeySearch.TheVariants.{Open}
use Rattle.heap_intern.specs.declared.table.searching.Opening.{Opening}
use Rattle.heap_intern.specs.Answers.{FindsString, HeaderPlan, IsForwarded, IsFound, IsPlanBy, StandsInSlot}
use Rattle.heap_intern.specs.Answers.{UsesNothing, copy_plan}
use Rattle.heap_intern.specs.Searching.{SearchesKey}
use Rattle.heap_intern.specs.SlotLoads.{loads_at}
use Rattle.heap_intern.specs.Taking.{IsKeyAnswer}
use Rattle.heap_reserve.specs.Interning.{InternsAt, InternsKept}
use Rattle.heap_agents.specs.declared.held.Held.{Held}
use Rattle.heap_agents.specs.Held.{IsHeld, IsSame, KeepsMarks, MarksNothing, MarksOnlyKey, StaysMarked, view_by}
use Rattle.heap_agents.specs.Interned.{HasEntered, IsEntered, KeepsCalls}
use Rattle.agent_makes.specs.Spending.{IsRenewalDue, Renews}

-- the answer gets both marks; a refusal marks nothing
abbrev pub MarksAnswer : Held → Held → Result ℕ TableFull → Type 0
MarksAnswer x y (Ok i) = MarksOnlyKey x y i
MarksAnswer x y (Err f) = MarksNothing x y

-- what was found gets both marks; else nothing is marked
abbrev pub MarksFound : Held → Held → Option ℕ → Type 0
MarksFound x y (Some i) = MarksOnlyKey x y i
MarksFound x y None = MarksNothing x y

-- the units us were looked for, and there is an opening for them; nothing was used, marked or taken
pub record FindsOpening (x u : Held) (us : List ℕ) (o : Opening) : Type 0 where
  pub held : IsHeld u
  pub same : IsSame x u
  pub marks : KeepsMarks x u
  pub marked : MarksNothing x u
  pub searched : SearchesKey (view_by x) (view_by u) us (Open o)

-- no string was made: the one of the units was in the table, or no slot is free; nothing was used or taken
abbrev pub MakesNoKey : Held → Held → List ℕ → Result ℕ TableFull → Type 0
MakesNoKey x y us r = (y.reserve ≡ x.reserve) × UsesNothing (view_by x) (view_by y)
    × IsKeyAnswer (view_by x) (view_by y) us r

-- there was an opening, which left u; then what is reserved was renewed, which left z; a string was made by
-- the plan
abbrev pub MakesKeyRenewing : Held → Held → List ℕ → HeaderPlan → Result ℕ TableFull → Type 0
MakesKeyRenewing x y us plan r = (u : Held) × (z : Held) × (o : Opening) × FindsOpening x u us o
    × Renews u z plan.words × InternsAt (view_by z) (view_by y) z.reserve y.reserve us plan r

-- The units us were interned, by what was reserved where that suffices for a header by the plan. Where it
-- doesn't, it was renewed, if there are blocks, but only once an opening was found. Where their string was
-- seen at its place in the table, it is answered, and nothing used or taken. No slot was loaded more than
-- twice.
pub record InternsRenewing (x y : Held) (us : List ℕ) (plan : HeaderPlan) (r : Result ℕ TableFull)
    : Type 0 where
  pub kept : (IsRenewalDue x plan.words → ⊥)
      → InternsKept (view_by x) (view_by y) x.reserve y.reserve us plan r
  pub renewed : IsRenewalDue x plan.words → MakesNoKey x y us r ⊎ MakesKeyRenewing x y us plan r
  pub again : (i : ℕ) → Has (view_by x).units i us → StandsInSlot (view_by x) us i
      → IsOk r × UsesNothing (view_by x) (view_by y) × (y.reserve ≡ x.reserve)
  pub few : (k : ℕ) → loads_at (view_by y) k ≤ loads_at (view_by x) k + 2

-- the units us were interned, with r as the answer; the header of a new string lies over a copy
pub record InternedUnits (x y : Held) (us : List ℕ) (r : Result ℕ TableFull) : Type 0 where
  pub held : IsHeld y
  pub same : IsSame x y
  pub marks : StaysMarked x y
  pub marked : MarksAnswer x y r
  pub known : KeepsKnown (view_by x) (view_by y)
  pub calls : KeepsCalls (view_by x) (view_by y)
  pub entered : IfOk r (λ i. HasEntered (view_by y) us i)
  pub interns : InternsRenewing x y us (copy_plan us) r
  pub forms : HoldsForms (view_by x) (view_by y)

-- for a string that forwards nothing is made, and nothing taken
abbrev pub TakesNone : Form → Held → Held → Type 0
TakesNone (Thin target) x y = UsesNothing (view_by x) (view_by y) × (y.reserve ≡ x.reserve)
TakesNone _ x y = Unit {0}

-- the plan is one by a form of string s that was loaded
abbrev pub PlansHeader : Held → Held → ℕ → List ℕ → HeaderPlan → Type 0
PlansHeader x y s us plan = (f : Form) × IsFound (view_by x) s f × IsPlanBy (view_by y) f us plan
    × TakesNone f x y

-- the units us of string s were interned, with r as the answer
abbrev pub InternsByPlan : Held → Held → ℕ → List ℕ → Result ℕ TableFull → Type 0
InternsByPlan x y s us r = (plan : HeaderPlan) × PlansHeader x y s us plan × InternsRenewing x y us plan r

-- The settled string s was interned, with r as the answer. It forwards to that, unless it is a fixed Flat.
pub record InternedString (x y : Held) (s : ℕ) (r : Result ℕ TableFull) : Type 0 where
  pub held : IsHeld y
  pub same : IsSame x y
  pub marks : StaysMarked x y
  pub marked : MarksAnswer x y r
  pub known : KeepsKnown (view_by x) (view_by y)
  pub calls : KeepsCalls (view_by x) (view_by y)
  pub entered : IfOk r (λ i. IsEntered (view_by x) (view_by y) s i)
  pub interns : (us : List ℕ) → Has (view_by x).units s us → InternsByPlan x y s us r
  pub forwards : IfOk r (λ i. IsForwarded (view_by y) s i)

-- The units us were looked for, with r as the answer, and nothing was used. Where their string was seen at
-- its place in the table, it is found.
pub record FoundUnits (x y : Held) (us : List ℕ) (r : Option ℕ) : Type 0 where
  pub held : IsHeld y
  pub same : IsSame x y
  pub marks : KeepsMarks x y
  pub marked : MarksFound x y r
  pub known : KeepsKnown (view_by x) (view_by y)
  pub calls : KeepsCalls (view_by x) (view_by y)
  pub entered : IfSome r (λ i. HasEntered (view_by y) us i)
  pub finds : FindsString (view_by x) (view_by y) us r
  pub again : (i : ℕ) → Has (view_by x).units i us → StandsInSlot (view_by x) us i → r ≡ Some i

-- the same of what lies behind a handle, where something does
abbrev pub InternsUnits : Option Held → Option Held → List ℕ → Result ℕ TableFull → Type 0
InternsUnits None _ us r = ⊥
InternsUnits (Some x) None us r = ⊥
InternsUnits (Some x) (Some y) us r = InternedUnits x y us r

abbrev pub FindsUnits : Option Held → Option Held → List ℕ → Option ℕ → Type 0
FindsUnits None _ us r = ⊥
FindsUnits (Some x) None us r = ⊥
FindsUnits (Some x) (Some y) us r = FoundUnits x y us r

abbrev pub HandleInterns : Option Held → Option Held → ℕ → List ℕ → Result ℕ TableFull → Type 0
HandleInterns None _ s us r = ⊥
HandleInterns (Some x) None s us r = ⊥
HandleInterns (Some x) (Some y) s us r = InternsByPlan x y s us r
