-- The machine as plain data: one heap's sizes, its number of agents, its words, and the view of each agent
-- that there ever was.
use Rattle.std.specs.Prelude.{ℕ, List}
use Rattle.heap_rule.specs.declared.view.View.{View}
use Rattle.heap_rule.specs.declared.size.HeapSize.{HeapSize}
use Rattle.heap_core.specs.declared.machine.Machine.{Machine}

-- the sizes, the number of agents at most, the words, and the views of all agents, those that were joined
-- among them
pub record Core : Type 0 where
  pub size : HeapSize
  pub agents : ℕ
  pub words : List ℕ
  pub views : List View

-- a machine of these parts
abbrev pub core : HeapSize → ℕ → List ℕ → List View → Core
core z agents W vs = record { size = z; agents = agents; words = W; views = vs }

-- what the parts of a machine are
abbrev pub core_of : Machine → Core
core_of m = core m.size m.agents m.words.items m.views.items
