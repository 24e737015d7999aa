-- What a call on the string table leaves of what an agent knows and has: what is known stays known, what is
-- its own stays its own, counters and uses never fall, and the given calls go to the end of its history.
use Rattle.std.specs.Prelude.{◌≡◌, ℕ, ◌≤◌, [], ◌++◌}
use Rattle.heap_rule.specs.declared.view.View.{View}
use Rattle.heap_rule.specs.Maps.{Has}
use Rattle.heap_rule.specs.Paths.{Calls}
use Rattle.heap_table.specs.Known.{KeepsKnown}

pub record AddsCalls (v w : View) (calls : Calls) : Type 0 where
  pub known : KeepsKnown v w
  pub own_ids : (i n : ℕ) → Has v.own_ids i n → Has w.own_ids i n
  pub own_words : (c x : ℕ) → Has v.own_words c x → Has w.own_words c x
  pub sizes : w.sizes ≡ v.sizes
  pub agents : w.agents ≡ v.agents
  pub live : w.live ≡ v.live
  pub share : w.share ≡ v.share
  pub ids_used : v.used.ids ≤ w.used.ids
  pub words_used : v.used.words ≤ w.used.words
  pub ids_low : v.low.ids ≤ w.low.ids
  pub words_low : v.low.words ≤ w.low.words
  pub seen : w.seen ≡ v.seen
  pub mine : w.mine ≡ v.mine ++ calls

-- loads alone: nothing is used, and no call is entered
pub record LoadsAlone (v w : View) : Type 0 where
  pub goes : AddsCalls v w []
  pub used : w.used.ids ≡ v.used.ids
  pub words : w.used.words ≡ v.used.words
