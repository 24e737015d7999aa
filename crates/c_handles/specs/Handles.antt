-- A handle as the library writes it: with an agent, or with nothing, and then zero.
use Rattle.std.specs.Prelude.{◌≡◌, ℕ, ◌<◌, Option, None, Some}
use Rattle.heap_agents.specs.declared.held.Held.{Held}
use Rattle.heap_agents.specs.Held.{IsHeld}
use Rattle.c_handles.specs.declared.agent.JsAgent.{JsAgent}

-- `live` is 0 where the handle has nothing, and more where it has an agent
abbrev pub HasAs : ℕ → Option Held → Type 0
HasAs live None = live ≡ 0
HasAs live (Some x) = (0 < live) × IsHeld x

-- a handle is zero, or has an agent
abbrev pub IsHandle : JsAgent → Type 0
IsHandle h = HasAs h.live h.at.value
