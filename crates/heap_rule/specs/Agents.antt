-- The views of agents that begin, split and join.
use Rattle.std.specs.Prelude.{◌≡◌, ℕ, ◌+◌, ◌-◌, Bool, true, false, max, [], ◌++◌, unwrap_or, Option}
use Rattle.std.specs.FinMap.{empty}
use Rattle.heap_rule.specs.declared.view.View.{View}
use Rattle.heap_rule.specs.declared.size.HeapSize.{HeapSize}
use Rattle.heap_rule.specs.declared.size.Counters.{Counters}
use Rattle.heap_rule.specs.Maps.{laid_over, upper_one}
use Rattle.heap_rule.specs.Forms.{later_form}
use Rattle.heap_rule.specs.Paths.{StartsWith}
use Rattle.heap_rule.specs.Views.{history}
use Rattle.heap_rule.specs.Loads.{added_loads}

-- no id and no content word was claimed
abbrev pub nothing_used : Counters
nothing_used = record { ids = 0; words = 0 }

-- a view that knows nothing
abbrev pub fresh : HeapSize → ℕ → Bool → ℕ → View
fresh z agents live share = record {
  sizes = z;
  agents = agents;
  live = live;
  share = share;
  used = nothing_used;
  low = nothing_used;
  own_ids = empty;
  own_words = empty;
  units = empty;
  met = empty;
  forms = empty;
  lengths = empty;
  frozen = empty;
  slots = empty;
  seen = [];
  mine = [];
  form_loads = 0;
  slot_loads = empty;
  giving = 0;
}

-- the view of the first agent, which has the whole share, and that of one that was joined
abbrev pub first_view : HeapSize → ℕ → View
first_view z agents = fresh z agents true agents

-- the view of an agent that was joined: it knows nothing, has no share, and isn't live
abbrev pub spent : View
spent = fresh (record { ids = 0; words = 0; slots = 0 }) 0 false 0

-- splitting: the giver keeps the rest of its share; the new agent knows the same, has used nothing, and its
-- history is the giver's
abbrev pub left_after_split : View → ℕ → View
left_after_split v give = record v { share = v.share - give; giving = 0 }

-- the view of the agent that was split off
abbrev pub right_after_split : View → ℕ → View
right_after_split v give = record v {
  share = give;
  seen = history v;
  mine = [];
  used = nothing_used;
  own_ids = empty;
  own_words = empty;
  form_loads = 0;
  slot_loads = empty;
  giving = 0;
}

-- the share that a running split is about to give: a note of the agent's own, of which the rule says nothing
abbrev pub noted : View → ℕ → View
noted v give = record v { giving = give }

-- how often a slot was loaded by both agents
abbrev pub sum_of_loads : Option ℕ → ℕ → ℕ
sum_of_loads lower n = added_loads (unwrap_or lower 0) n

-- joining b into v: b was split off with calls that v knows by now, and among which are those that v was
-- split off with, so that no call is in the history twice
abbrev pub MayJoin : View → View → Type 0
MayJoin v b = (b.live ≡ true) × StartsWith b.seen v.seen × StartsWith (history v) b.seen

-- v has what both have; of two forms of an id the later one, and its own where neither is later
abbrev pub joined_view : View → View → View
joined_view v b = record {
  sizes = v.sizes;
  agents = v.agents;
  live = v.live;
  share = v.share + b.share;
  used = record { ids = v.used.ids + b.used.ids; words = v.used.words + b.used.words };
  low = record { ids = max v.low.ids b.low.ids; words = max v.low.words b.low.words };
  own_ids = laid_over upper_one v.own_ids b.own_ids;
  own_words = laid_over upper_one v.own_words b.own_words;
  units = laid_over upper_one v.units b.units;
  met = laid_over upper_one v.met b.met;
  forms = laid_over later_form v.forms b.forms;
  lengths = laid_over upper_one v.lengths b.lengths;
  frozen = laid_over upper_one v.frozen b.frozen;
  slots = laid_over upper_one v.slots b.slots;
  seen = v.seen;
  mine = v.mine ++ b.mine;
  form_loads = added_loads v.form_loads b.form_loads;
  slot_loads = laid_over sum_of_loads v.slot_loads b.slot_loads;
  giving = 0;
}
