-- What calls on units that C gives leave and answer: units are made into a string, interned or looked for,
-- and may be given as bytes that spell them.
use Rattle.std.specs.Prelude.{◌≡◌, ◌≢◌, ◌⊎◌, ℕ, List, Option, Result}
use Rattle.heap_rule.specs.Maps.{Has}
use Rattle.heap_rule.specs.Views.{IsSeenSettled}
use Rattle.heap_read.specs.declared.string.JsStr.{JsStr}
use Rattle.heap_text.specs.declared.faults.TextFull.{TextFull}
use Rattle.heap_intern.specs.declared.table.faults.TableFull.{TableFull}
use Rattle.heap_agents.specs.declared.held.Held.{Held}
use Rattle.agent_keys.specs.Keys.{FindsUnits, InternsUnits}
use Rattle.heap_agents.specs.Ready.{HandleSpends, HandleKnows, handle_view}
use Rattle.agent_makes.specs.Spending.{HandleMakes}
use Rattle.c_steps.specs.declared.answer.JsAnswer.{JsAnswer}
use Rattle.heap_build.specs.Spelled.{IsSpellingUpTo}
use Rattle.c_steps.specs.Reports.{BAD_ARGUMENT, DONE, NO_MEMORY, bad_argument, done, found_answer, no_memory}
use Rattle.c_steps.specs.Reports.{not_utf8, table_answer, text_answer}

-- The units us were made into a new string, with r as the answer. It takes what it needs from what was
-- reserved, where that suffices.
pub record MakesString (o p : Option Held) (us : List ℕ) (r : JsAnswer) : Type 0 where
  pub goes : HandleSpends o p
  pub memory : r.status ≢ NO_MEMORY
  pub whole : r.status ≡ DONE → r ≡ done r.id
  pub marked : r.status ≡ DONE → HandleKnows p r.id
  pub units : r.status ≡ DONE → Has (handle_view p).units r.id us
  pub settled : r.status ≡ DONE → IsSeenSettled (handle_view p) r.id
  pub made : (t : Result JsStr TextFull) × (r ≡ text_answer t) × HandleMakes o p us t

-- the units us were interned, with r as the answer
abbrev pub IsInterning : Option Held → Option Held → List ℕ → JsAnswer → Type 0
IsInterning o p us r = (t : Result ℕ TableFull) × (r ≡ table_answer t) × InternsUnits o p us t

-- the units us were looked for, with r as the answer
abbrev pub IsFinding : Option Held → Option Held → List ℕ → JsAnswer → Type 0
IsFinding o p us r = (t : Option ℕ) × (r ≡ found_answer t) × FindsUnits o p us t

-- What a call does with the units of a string of another heap, which it first copies; or memory runs out,
-- and nothing has changed.
abbrev pub OrNoMemory : (Option Held → Option Held → List ℕ → JsAnswer → Type 0) → Option Held → Option Held
    → List ℕ → JsAnswer → Type 0
OrNoMemory does o p us r = ((r ≡ no_memory) × (p ≡ o)) ⊎ does o p us r

-- what a call does with the units that bytes spell; or they spell none, the length of the longest front that
-- spells some is reported, and nothing has changed
abbrev pub OnSpelled : (List ℕ → List ℕ → Type 0) → (Option Held → Option Held → List ℕ → JsAnswer → Type 0)
    → Option Held → Option Held → List ℕ → JsAnswer → Type 0
OnSpelled Spells does o p bytes r = ((n : ℕ) × (r ≡ not_utf8 n) × IsSpellingUpTo Spells bytes n × (p ≡ o))
    ⊎ ((us : List ℕ) × Spells bytes us × does o p us r)

-- a call on units or bytes that are given does this, unless its condition fails, and then nothing has changed
pub record TestsGiven (call : Option Held → Option Held → List ℕ → JsAnswer → Type 0) (o p : Option Held)
    (given : List ℕ) (r : JsAnswer) : Type 0 where
  pub unchanged : r.status ≡ BAD_ARGUMENT → (r ≡ bad_argument) × (p ≡ o)
  pub does : r.status ≢ BAD_ARGUMENT → call o p given r
