-- Helpers: no public contract reaches these definitions.
-- The state of a text through which strings are searched: that of a session with its agent, but for memory,
-- which it always lacks, and with the reference to the text, its heap and its limit, what its agent noted,
-- and what is the agent's own, which stay.
use Rattle.std.specs.Prelude.{ℕ, false}
use Rattle.std.specs.Borrow.{GName, MutBor}
use Rattle.std.specs.FinMap.{FinMap}
use Rattle.std.specs.Ordering.{nat_cmp}
use Rattle.js_store.specs.declared.limit.Limit.TheVariants.{Bits64}
use Rattle.js_store.specs.Limits.{limit_units}
use Rattle.js_store.specs.State.{Sound, State}
use Rattle.heap_table.specs.Agents.{view_of}
use Rattle.heap_table.specs.declared.heap.Heap.{Heap}
use Rattle.heap_session.specs.Sessions.{SessionFrame, state_by, table_of}
use Rattle.heap_session.specs.Sound.{session_sound}
use Rattle.heap_agents.specs.Shared.{SharedText, heap_of}
use Rattle.heap_notes.specs.declared.seats.Seats.{Seats}

pub record LookFrame : Type 0 where
  pub session : SessionFrame
  pub text : GName
  pub heap : Heap
  pub limit : ℕ
  pub seats : Seats
  pub own_ids : FinMap nat_cmp ℕ
  pub own_words : FinMap nat_cmp ℕ

-- what a session with the agent of the text knows
abbrev pub looked_at : SharedText → State SessionFrame
looked_at t = state_by (view_of t.reader.agent) (limit_units Bits64) (table_of (heap_of t))

abbrev pub state_at : SharedText → GName → Seats → State LookFrame
state_at t name seats = record {
  known = (looked_at t).known;
  settled = (looked_at t).settled;
  shut = (looked_at t).shut;
  history = (looked_at t).history;
  used_ids = (looked_at t).used_ids;
  used_words = (looked_at t).used_words;
  low_ids = (looked_at t).low_ids;
  low_words = (looked_at t).low_words;
  sizes = (looked_at t).sizes;
  limit = (looked_at t).limit;
  bounded = (looked_at t).bounded;
  sure = false;
  frame = record {
    session = (looked_at t).frame;
    text = name;
    heap = heap_of t;
    limit = t.limit;
    seats = seats;
    own_ids = (view_of t.reader.agent).own_ids;
    own_words = (view_of t.reader.agent).own_words;
  };
}

abbrev pub looking_state : MutBor SharedText → Seats → State LookFrame
looking_state r seats = state_at r.now r.ghost_name seats

-- what the trait of stores asks of it
pub looking_sound : (t : SharedText) (name : GName) (seats : Seats) → Sound (state_at t name seats)
looking_sound t name seats =
    let v = view_of t.reader.agent in
    let p = session_sound v Bits64 (table_of (heap_of t)) t.reader.belongs.5 in record {
      one_number = p.one_number;
      one_list = p.one_list;
      agrees = p.agrees;
      shut_apart = p.shut_apart;
      numbers = p.numbers;
      lengths = p.lengths;
      units = p.units;
      low = p.low;
      high = p.high;
    }
