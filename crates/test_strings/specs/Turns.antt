-- Helpers: no public contract reaches these definitions.
-- What is left of an agent that made strings, interned and read them.
use Rattle.std.specs.Prelude.{◌≡◌, ℕ, ◌++◌, List, Contains}
use Rattle.heap_rule.specs.declared.view.View.{View}
use Rattle.heap_rule.specs.Maps.{HasKey}
use Rattle.heap_rule.specs.Paths.{Calls}
use Rattle.heap_table.specs.Known.{KeepsKnown}
use Rattle.heap_read.specs.declared.heap_ref.HeapRef.{Ghosts}
use Rattle.heap_read.specs.declared.reader.Reader.{Reader}
use Rattle.heap_read.specs.Readers.{MovesView}

-- what it knew it knows, its share stays, and its history has some calls more
pub record Turns (v w : View) : Type 0 where
  pub known : KeepsKnown v w
  pub agents : w.agents ≡ v.agents
  pub live : w.live ≡ v.live
  pub share : w.share ≡ v.share
  pub seen : w.seen ≡ v.seen
  pub calls : Calls
  pub mine : w.mine ≡ v.mine ++ calls

-- Strings of these numbers are known, on a heap of so many agents.
pub record IsPlayed (v : View) (agents : ℕ) (ids : List ℕ) : Type 0 where
  pub known : (i : ℕ) → Contains ids i → HasKey v.units i
  pub agents_are : v.agents ≡ agents

-- the same of a reader as one fact, which a search uses as it is
module _ {H : Type 0} {g : Ghosts H} where
  unfoldable pub HasGoneOn : Reader H g → Reader H g → Type 0
  HasGoneOn a b = MovesView Turns a b
