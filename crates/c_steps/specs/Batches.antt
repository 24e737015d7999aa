-- Interning the units of many lists in one call: its condition, and what it leaves and answers.
use Rattle.std.specs.Prelude.{◌≡◌, ℕ, ◌<◌, ◌≤◌, ◌^◌, List, length, Option, None, Some}
use Rattle.heap_intern.specs.declared.table.faults.TableFull.{TableFull}
use Rattle.heap_agents.specs.declared.held.Held.{Held}
use Rattle.agent_keys.specs.Batch.{AreEnds, InternsInTurn, lists_from}
use Rattle.c_steps.specs.declared.answer.JsAnswer.{JsAnswer}
use Rattle.c_steps.specs.declared.answer.JsBatch.{JsBatch}
use Rattle.c_steps.specs.Reports.{DONE, table_report}

-- the ends are those of lists within n units, there is room for the ids, and how many they are fits an answer
abbrev pub AreLists : ℕ → List ℕ → ℕ → Type 0
AreLists n ends room = AreEnds 0 n ends × (length ends ≤ room) × (length ends < 2 ^ 32)

-- how many lists were interned, and what was full at the one behind them, if there is one
abbrev pub batch_answer : ℕ → Option TableFull → JsBatch
batch_answer n None = record { status = DONE; done = n; at = 0; want = 0; end = 0 }
batch_answer n (Some f) = let r : JsAnswer = table_report f in
    record { status = r.status; done = n; at = r.at; want = r.want; end = r.end }

-- a refusal, with no list interned
abbrev pub no_batch : ℕ → JsBatch
no_batch status = record { status = status; done = 0; at = 0; want = 0; end = 0 }

-- the lists of us up to these ends were interned in turn, with r as the answer; the ids `old` became `new`
abbrev pub InternsMany : Option Held → Option Held → List ℕ → List ℕ → List ℕ → List ℕ → JsBatch
    → Type 0
InternsMany o p us ends old new r = (n : ℕ) × (t : Option TableFull) × (r ≡ batch_answer n t)
    × InternsInTurn o p (lists_from 0 us ends) old new n t
