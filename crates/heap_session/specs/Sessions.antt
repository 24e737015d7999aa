-- A session as a store of strings: what its agent knows and has, by the agent's view.
use Rattle.std.specs.Prelude.{ℕ, true, List}
use Rattle.std.specs.FinMap.{get}
use Rattle.atomic_table.specs.Seated.{TableId}
use Rattle.js_store.specs.Limits.{limit_units}
use Rattle.js_store.specs.State.{State}
use Rattle.heap_rule.specs.declared.view.View.{View}
use Rattle.heap_rule.specs.Paths.{Calls}
use Rattle.heap_rule.specs.SlotTests.{shut}
use Rattle.heap_rule.specs.Views.{history}
use Rattle.heap_table.specs.declared.heap.Heap.{Heap}
use Rattle.heap_table.specs.Agents.{view_of}
use Rattle.heap_session.specs.Noted.{hashes_in}
use Rattle.heap_session.specs.Settled.{is_settled}
use Rattle.heap_read.specs.declared.heap_ref.HeapRef.{Ghosts}
use Rattle.heap_session.specs.declared.session.Session.{Session}

-- what every call of a store keeps of a session: the table of its heap, its share, the heap's number of
-- agents, and the history at its split
pub record SessionFrame : Type 0 where
  pub table : TableId
  pub share : ℕ
  pub agents : ℕ
  pub seen : Calls

-- A list is shut where every slot is known to be used by a string that differs.
abbrev pub state_by : View → ℕ → TableId → State SessionFrame
state_by v limit table = record {
  known = λ n. get v.units n;
  settled = λ n. is_settled (get v.forms n);
  shut = λ u. shut v u v.sizes.slots;
  history = history v;
  used_ids = v.used.ids;
  used_words = v.used.words;
  low_ids = v.low.ids;
  low_words = v.low.words;
  sizes = record { ids = v.sizes.ids; words = v.sizes.words; slots = v.sizes.slots };
  limit = limit;
  bounded = true;
  sure = true;
  frame = record { table = table; share = v.share; agents = v.agents; seen = v.seen };
}

abbrev pub table_of : Heap → TableId
table_of h = h.table.shared.table_id

module _ {H : Type 0} {g : Ghosts H} where
  abbrev pub session_view : Session H g → View
  session_view s = view_of s.text.reader.agent

  abbrev pub state_in : Session H g → State SessionFrame
  state_in s = state_by (session_view s) (limit_units s.limit) (table_of (g.reached s.text.reader.heap))

  -- what the session has noted: at the place of each slot 0, or what its string hashes to
  abbrev pub noted_in : Session H g → List ℕ
  noted_in s = hashes_in s.noted
