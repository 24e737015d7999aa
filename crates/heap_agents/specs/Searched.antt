-- What a search leaves of what an agent knows.
use Rattle.std.specs.Prelude.{◌≡◌, ℕ, ◌≤◌, List}
use Rattle.heap_rule.specs.declared.view.View.{View}
use Rattle.heap_rule.specs.Maps.{Has, HasKey}
use Rattle.heap_rule.specs.Views.{IsSeenSettled, history}

-- a string that may be searched, and searched for
abbrev pub IsSearchable : View → ℕ → Type 0
IsSearchable v s = HasKey v.units s × IsSeenSettled v s

-- Strings keep their units, and stay settled. The calls of the string table stay, and so do sizes,
-- shares, and what was used.
pub record KeepsStrings (v w : View) : Type 0 where
  pub units : (i : ℕ) (us : List ℕ) → Has v.units i us → Has w.units i us
  pub settled : (i : ℕ) → IsSeenSettled v i → IsSeenSettled w i
  pub sizes : w.sizes ≡ v.sizes
  pub agents : w.agents ≡ v.agents
  pub share : w.share ≡ v.share
  pub used_ids : w.used.ids ≡ v.used.ids
  pub used_words : w.used.words ≡ v.used.words
  pub low_ids : v.low.ids ≤ w.low.ids
  pub low_words : v.low.words ≤ w.low.words
  pub seen : w.seen ≡ v.seen
  pub calls : history w ≡ history v
