-- Claiming in advance: what it leaves and answers.
use Rattle.std.specs.Prelude.{◌≡◌, ℕ, Option, Result}
use Rattle.heap_reserve.specs.declared.faults.ReserveFault.{ReserveFault}
use Rattle.heap_agents.specs.declared.held.Held.{Held}
use Rattle.agent_makes.specs.Spending.{HandleClaims}
use Rattle.c_steps.specs.declared.answer.JsAnswer.{JsAnswer}
use Rattle.c_steps.specs.Reports.{reserve_answer}

-- so many ids and content words were to be claimed in advance, with r as the answer
abbrev pub IsReserving : Option Held → Option Held → ℕ → ℕ → JsAnswer → Type 0
IsReserving o p ids words r = (t : Result (Unit {0}) ReserveFault) × (r ≡ reserve_answer t)
    × HandleClaims o p ids words t
