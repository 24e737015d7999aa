-- The gauge of a heap, and strings of the string table by their slots, as C has them.
use Rattle.std.specs.Prelude.{◌≡◌, ℕ, Option}
use Rattle.heap_agents.specs.declared.held.Held.{Held}
use Rattle.heap_agents.specs.declared.room.Room.{Room}
use Rattle.agent_keys.specs.Board.{AdoptsFrom}
use Rattle.heap_agents.specs.Room.{RoomOf}
use Rattle.c_steps.specs.declared.answer.JsAnswer.{JsAnswer}
use Rattle.c_steps.specs.declared.room.JsRoom.{JsRoom}
use Rattle.c_steps.specs.Reports.{DONE, found_answer}

-- what an answer says of a heap
abbrev pub room_answer : Room → JsRoom
room_answer r = record {
  status = DONE;
  ids = r.ids;
  words = r.words;
  all_ids = r.size.ids;
  all_words = r.size.words;
  slots = r.size.slots;
  seen_slots = r.seen_slots;
}

-- a refusal, with nothing reported
abbrev pub no_room : ℕ → JsRoom
no_room status = record {
  status = status;
  ids = 0;
  words = 0;
  all_ids = 0;
  all_words = 0;
  slots = 0;
  seen_slots = 0;
}

-- the heap was looked at, with r as the answer
abbrev pub IsGauging : Option Held → Option Held → JsRoom → Type 0
IsGauging o p r = (t : Room) × (r ≡ room_answer t) × RoomOf o p t

-- slot k was loaded to adopt its string, with r as the answer
abbrev pub IsAdopting : Option Held → Option Held → ℕ → JsAnswer → Type 0
IsAdopting o p k r = (t : Option ℕ) × (r ≡ found_answer t) × AdoptsFrom o p k t
