-- What is done with units that C gives.
use Rattle.std.specs.Prelude.{ℕ, List, Option}
use Rattle.heap_agents.specs.declared.held.Held.{Held}
use Rattle.heap_agents.specs.Ready.{HandleSpends}
use Rattle.c_steps.specs.declared.answer.JsAnswer.{JsAnswer}
use Rattle.c_steps.specs.declared.given.Task.{Task}
use Rattle.c_steps.specs.declared.given.Task.TheVariants.{Make, Intern, Find}
use Rattle.c_steps.specs.Given.{IsFinding, IsInterning, MakesString}

-- what a task does with units
abbrev pub Does : Task → Option Held → Option Held → List ℕ → JsAnswer → Type 0
Does Make o p us r = MakesString o p us r
Does Intern o p us r = IsInterning o p us r
Does Find o p us r = IsFinding o p us r

-- what making leaves
abbrev pub Leaves : Task → Option Held → Option Held → Type 0
Leaves Make o p = HandleSpends o p
Leaves Intern o p = Unit {0}
Leaves Find o p = Unit {0}
