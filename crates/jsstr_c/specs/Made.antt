-- What joining, cutting and interning strings leave and answer.
use Rattle.std.specs.Prelude.{◌≡◌, ◌≢◌, ◌⊎◌, ℕ, List, Option, Result}
use Rattle.heap_rule.specs.Maps.{Has}
use Rattle.heap_table.specs.Known.{KeepsKnown}
use Rattle.heap_read.specs.declared.string.JsStr.{JsStr}
use Rattle.heap_text.specs.declared.faults.JoinFault.{JoinFault}
use Rattle.heap_text.specs.declared.faults.TextFull.{TextFull}
use Rattle.heap_intern.specs.declared.table.faults.TableFull.{TableFull}
use Rattle.heap_intern.specs.Answers.{IsForwarded}
use Rattle.heap_agents.specs.declared.held.Held.{Held}
use Rattle.heap_agents.specs.Interned.{KeepsCalls}
use Rattle.agent_keys.specs.Keys.{HandleInterns}
use Rattle.heap_agents.specs.Ready.{HandleSpends, HandleStaysMarked, IsBeside, handle_view}
use Rattle.agent_makes.specs.Spending.{HandleCuts, HandleJoins}
use Rattle.c_steps.specs.declared.answer.JsAnswer.{JsAnswer}
use Rattle.c_steps.specs.Checked.{MarksResult, MarksKey, MarksNone, RefusesSettling, SettlesString}
use Rattle.c_steps.specs.Reports.{DONE, join_answer, table_answer, text_answer}

-- Strings a and b were joined, with r as the answer. A new string takes what it needs from what was reserved,
-- where that suffices; where it doesn't, that is renewed first, if there are blocks.
pub record JoinsStrings (o p : Option Held) (a b : ℕ) (r : JsAnswer) : Type 0 where
  pub spends : HandleSpends o p
  pub marks : MarksResult o p r
  pub joined : (us vs : List ℕ) → Has (handle_view o).units a us → Has (handle_view o).units b vs
      → (t : Result JsStr JoinFault) × (r ≡ join_answer t)
      × HandleJoins o p (record { id = a }) (record { id = b }) us vs t

-- the settled string s was cut in the same way, with r as the answer
pub record CutsString (o p : Option Held) (s from to : ℕ) (r : JsAnswer) : Type 0 where
  pub spends : HandleSpends o p
  pub marks : MarksResult o p r
  pub cut : (us : List ℕ) → Has (handle_view o).units s us
      → (t : Result JsStr TextFull) × (r ≡ text_answer t) × HandleCuts o p (record { id = s }) from to us t

-- The settled string s was interned, with r as the answer. A header takes what it needs from what was
-- reserved, where that suffices; where it doesn't, that is renewed first, if there are blocks, once the units
-- of s were looked for and not found.
pub record InternsString (o p : Option Held) (s : ℕ) (r : JsAnswer) : Type 0 where
  pub same : IsBeside o p
  pub stays : HandleStaysMarked o p
  pub marked : r.status ≡ DONE → MarksKey o p r.id
  pub unmarked : r.status ≢ DONE → MarksNone o p
  pub known : KeepsKnown (handle_view o) (handle_view p)
  pub calls : KeepsCalls (handle_view o) (handle_view p)
  pub interned : (us : List ℕ) → Has (handle_view o).units s us
      → (t : Result ℕ TableFull) × (r ≡ table_answer t) × HandleInterns o p s us t
  pub forwards : r.status ≡ DONE → IsForwarded (handle_view p) s r.id

-- string s could not be settled, or it was and then cut, or interned
abbrev pub CutsSettled : Option Held → Option Held → ℕ → ℕ → ℕ → JsAnswer → Type 0
CutsSettled o p s from to r =
    RefusesSettling o p s r ⊎ ((m : Option Held) × SettlesString o m s × CutsString m p s from to r)

abbrev pub EntersSettled : Option Held → Option Held → ℕ → JsAnswer → Type 0
EntersSettled o p s r = RefusesSettling o p s r
    ⊎ ((m : Option Held) × SettlesString o m s × InternsString m p s r)
