-- What the words of a heap are in the end.
use Rattle.std.specs.Prelude.{ℕ, List}
use Rattle.heap_rule.specs.declared.size.HeapSize.{HeapSize}
use Rattle.heap_rule.specs.declared.view.View.{View}
use Rattle.heap_rule.specs.Sound.{At, IsSound}

-- The rule holds of these words with the views of all agents, one of which is this one: so what the agent
-- knows, owns and has seen is in the words.
pub record IsClosed (z : HeapSize) (v : View) (words : List ℕ) : Type 0 where
  pub agents : ℕ
  pub views : List View
  pub place : ℕ
  pub sound : IsSound z agents words views
  pub has : At views place v
